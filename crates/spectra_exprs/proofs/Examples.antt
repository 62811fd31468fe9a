-- A token of each class, as the lexer gives one.
use Rattle.std.proofs.Common.{◌≡◌, ℕ, ◌+◌, Bool, true, false, ◌&&◌, nat_le, List, [], ◌∷◌, length, Some, refl, sym, ap, subst, ◌∙◌, append-nil, arith, length-append}
use Rattle.std.specs.Prelude.{codes}
use Rattle.std.specs.Str.{chars, IsAscii}
use Rattle.std.specs.List.{list_all}
use Rattle.std.proofs.lemmas.Str.{chars-IsAscii}
use Rattle.std.proofs.lemmas.Str.Ascii.{IsAscii-nil, IsAscii-cons}
use Rattle.std.proofs.lemmas.Bool.Decides.{nat_tests}
use Rattle.unicode_ident.proofs.Computing.{unicode_ident}
use Rattle.spectra_lexer.specs.declared.opening.Opening.TheVariants as opens
use Rattle.spectra_lexer.specs.declared.characters.Run.TheVariants as runs
use Rattle.spectra_lexer.specs.declared.token.Kind.{Kind}
use Rattle.spectra_lexer.specs.declared.token.Kind.TheVariants as kinds
use Rattle.spectra_lexer.specs.Characters.{goes_on}
use Rattle.spectra_lexer.specs.Words.{is_sign, is_reserved}
use Rattle.spectra_lexer.specs.Pieces.{opening_of, IsPiece}
use Rattle.spectra_lexer.specs.Tokens.{kind_of_piece}
use Rattle.spectra_trees.specs.declared.class.Class.{Class}
use Rattle.spectra_trees.specs.declared.class.Class.TheVariants as classes
use Rattle.spectra_trees.specs.Classes.{class_of, same_class, place_of, sign_class, word_class}
use Rattle.spectra_trees.specs.Lexemes.{Lexeme}
use Rattle.spectra_exprs.specs.Spellings.{IsToken}
use Rattle.spectra_exprs.proofs.Opening.{Example}

abbrev pub token_of : Kind → List ℕ → Lexeme
token_of kind text = record { class = class_of kind text; text = text; at = record { line = 1; column = 1 }; number = 0 }

abbrev pub small : List ℕ → Bool
small [] = true
small (c ∷ cs) = nat_le (c + 1) 128 && small cs

both_true : (a b : Bool) → a && b ≡ true → (a ≡ true) × (b ≡ true)
both_true true b e = (refl, e)
both_true false b e = absurd (cc)

ascii : (w : List ℕ) → small w ≡ true → IsAscii w
ascii [] e = IsAscii-nil
ascii (c ∷ cs) e = let both = both_true (nat_le (c + 1) 128) (small cs) e in let here = both.0 in IsAscii-cons c cs (grind (arith, nat_tests)) (ascii cs both.1)

-- a text of ASCII is its characters
token_text : (kind : Kind) (w : List ℕ) → small w ≡ true → IsToken kind w → IsToken kind (chars w)
token_text kind w e t = subst (λ (cs : List ℕ). IsToken kind cs) (sym (chars-IsAscii w (ascii w e))) t

sign_token : (w : List ℕ) → opening_of w ≡ opens.Sign → is_sign w ≡ true → IsToken kinds.Sign w
sign_token w opening is =
    record {
      piece = subst (λ o. IsPiece o w w []) (sym opening) (record {
        begins = record { is = is; parts = sym (append-nil w) };
        longest = λ other more b. omega (arith, ap length b.parts, length-append other more);
      });
      sort = ap (λ o. kind_of_piece o w) opening;
    }

pub sign_of : (class : Class) (w : List ℕ) → small w ≡ true → opening_of w ≡ opens.Sign → is_sign w ≡ true → same_class (class_of kinds.Sign w) class ≡ true → Example class
sign_of class w e opening is same = record { token = token_of kinds.Sign w; is = same; spelled = record { kind = kinds.Sign; text = token_text kinds.Sign w e (sign_token w opening is); class = refl } }

word_token : (kind : Kind) (c : ℕ) (cs : List ℕ) → opening_of (c ∷ cs) ≡ opens.Name → list_all (goes_on runs.Name) cs ≡ true → kind_of_piece opens.Name (c ∷ cs) ≡ Some kind → IsToken kind (c ∷ cs)
word_token kind c cs opening goes sort =
    record {
      piece = subst (λ o. IsPiece o (c ∷ cs) (c ∷ cs) []) (sym opening) (record { first = c; behind = cs; front = cs; text_is = refl; piece_is = refl; goes = record { parts = sym (append-nil cs); goes = goes; ends = refl } });
      sort = ap (λ o. kind_of_piece o (c ∷ cs)) opening ∙ sort;
    }

pub word_of : (class : Class) (c : ℕ) (cs : List ℕ) → small (c ∷ cs) ≡ true → opening_of (c ∷ cs) ≡ opens.Name → list_all (goes_on runs.Name) cs ≡ true → kind_of_piece opens.Name (c ∷ cs) ≡ Some kinds.Word
    → same_class (class_of kinds.Word (c ∷ cs)) class ≡ true → Example class
word_of class c cs e opening goes sort same = record { token = token_of kinds.Word (c ∷ cs); is = same; spelled = record { kind = kinds.Word; text = token_text kinds.Word (c ∷ cs) e (word_token kinds.Word c cs opening goes sort); class = refl } }

-- the name a
pub a_Name : Example classes.Name
unfolding unicode_ident same_class class_of is_reserved place_of
a_Name = record { token = token_of kinds.Name (codes "a"); is = refl; spelled = record { kind = kinds.Name; text = token_text kinds.Name (codes "a") refl (word_token kinds.Name 97 [] refl refl refl); class = refl } }

-- the number 0
pub a_Number : Example classes.Number
unfolding unicode_ident same_class class_of place_of
a_Number = record {
  token = token_of kinds.Number (codes "0");
  is = refl;
  spelled = record {
    kind = kinds.Number;
    text = token_text kinds.Number (codes "0") refl (record {
      piece = record { first = 48; behind = []; front = []; text_is = refl; piece_is = refl; goes = record { parts = refl; goes = refl; ends = refl } };
      sort = refl;
    });
    class = refl;
  };
}

pub a_Equal : Example classes.Equal
unfolding unicode_ident is_sign same_class class_of sign_class place_of
a_Equal = sign_of classes.Equal (codes "=") refl refl refl refl

pub a_Plus : Example classes.Plus
unfolding unicode_ident is_sign same_class class_of sign_class place_of
a_Plus = sign_of classes.Plus (codes "+") refl refl refl refl

pub a_Minus : Example classes.Minus
unfolding unicode_ident is_sign same_class class_of sign_class place_of
a_Minus = sign_of classes.Minus (codes "-") refl refl refl refl

pub a_Star : Example classes.Star
unfolding unicode_ident is_sign same_class class_of sign_class place_of
a_Star = sign_of classes.Star (codes "*") refl refl refl refl

pub a_Not : Example classes.Not
unfolding unicode_ident is_sign same_class class_of sign_class place_of
a_Not = sign_of classes.Not (codes "!") refl refl refl refl

pub a_And : Example classes.And
unfolding unicode_ident is_sign same_class class_of sign_class place_of
a_And = sign_of classes.And (codes "&") refl refl refl refl

pub a_Bar : Example classes.Bar
unfolding unicode_ident is_sign same_class class_of sign_class place_of
a_Bar = sign_of classes.Bar (codes "|") refl refl refl refl

pub a_Question : Example classes.Question
unfolding unicode_ident is_sign same_class class_of sign_class place_of
a_Question = sign_of classes.Question (codes "?") refl refl refl refl

pub a_Colon : Example classes.Colon
unfolding unicode_ident is_sign same_class class_of sign_class place_of
a_Colon = sign_of classes.Colon (codes ":") refl refl refl refl

pub a_Semicolon : Example classes.Semicolon
unfolding unicode_ident is_sign same_class class_of sign_class place_of
a_Semicolon = sign_of classes.Semicolon (codes ";") refl refl refl refl

pub a_Comma : Example classes.Comma
unfolding unicode_ident is_sign same_class class_of sign_class place_of
a_Comma = sign_of classes.Comma (codes ",") refl refl refl refl

pub a_Open : Example classes.Open
unfolding unicode_ident is_sign same_class class_of sign_class place_of
a_Open = sign_of classes.Open (codes "(") refl refl refl refl

pub a_Close : Example classes.Close
unfolding unicode_ident is_sign same_class class_of sign_class place_of
a_Close = sign_of classes.Close (codes ")") refl refl refl refl

pub a_OpenBracket : Example classes.OpenBracket
unfolding unicode_ident is_sign same_class class_of sign_class place_of
a_OpenBracket = sign_of classes.OpenBracket (codes "[") refl refl refl refl

pub a_CloseBracket : Example classes.CloseBracket
unfolding unicode_ident is_sign same_class class_of sign_class place_of
a_CloseBracket = sign_of classes.CloseBracket (codes "]") refl refl refl refl

pub a_OpenBrace : Example classes.OpenBrace
unfolding unicode_ident is_sign same_class class_of sign_class place_of
a_OpenBrace = sign_of classes.OpenBrace (codes "{") refl refl refl refl

pub a_CloseBrace : Example classes.CloseBrace
unfolding unicode_ident is_sign same_class class_of sign_class place_of
a_CloseBrace = sign_of classes.CloseBrace (codes "}") refl refl refl refl

pub a_Then : Example classes.Then
unfolding unicode_ident is_sign same_class class_of sign_class place_of
a_Then = sign_of classes.Then (codes "|=>") refl refl refl refl

pub a_Becomes : Example classes.Becomes
unfolding unicode_ident is_sign same_class class_of sign_class place_of
a_Becomes = sign_of classes.Becomes (codes ":=") refl refl refl refl

pub a_UpTo : Example classes.UpTo
unfolding unicode_ident is_sign same_class class_of sign_class place_of
a_UpTo = sign_of classes.UpTo (codes "..") refl refl refl refl

pub a_Mod : Example classes.Mod
unfolding unicode_ident is_reserved same_class class_of word_class place_of
a_Mod = word_of classes.Mod 109 (codes "od") refl refl refl refl refl

pub a_Or : Example classes.Or
unfolding unicode_ident is_reserved same_class class_of word_class place_of
a_Or = word_of classes.Or 111 (codes "r") refl refl refl refl refl

pub a_True : Example classes.True
unfolding unicode_ident is_reserved same_class class_of word_class place_of
a_True = word_of classes.True 116 (codes "rue") refl refl refl refl refl

pub a_False : Example classes.False
unfolding unicode_ident is_reserved same_class class_of word_class place_of
a_False = word_of classes.False 102 (codes "alse") refl refl refl refl refl

pub a_Next : Example classes.Next
unfolding unicode_ident is_reserved same_class class_of word_class place_of
a_Next = word_of classes.Next 110 (codes "ext") refl refl refl refl refl

pub a_ForAll : Example classes.ForAll
unfolding unicode_ident is_reserved same_class class_of word_class place_of
a_ForAll = word_of classes.ForAll 102 (codes "orall") refl refl refl refl refl

pub a_Exists : Example classes.Exists
unfolding unicode_ident is_reserved same_class class_of word_class place_of
a_Exists = word_of classes.Exists 101 (codes "xists") refl refl refl refl refl

pub a_In : Example classes.In
unfolding unicode_ident is_reserved same_class class_of word_class place_of
a_In = word_of classes.In 105 (codes "n") refl refl refl refl refl

pub a_Boolean : Example classes.Boolean
unfolding unicode_ident is_reserved same_class class_of word_class place_of
a_Boolean = word_of classes.Boolean 98 (codes "oolean") refl refl refl refl refl

pub a_Int : Example classes.Int
unfolding unicode_ident is_reserved same_class class_of word_class place_of
a_Int = word_of classes.Int 73 (codes "nt") refl refl refl refl refl

pub a_TypeWord : Example classes.TypeWord
unfolding unicode_ident is_reserved same_class class_of word_class place_of
a_TypeWord = word_of classes.TypeWord 116 (codes "ype") refl refl refl refl refl

pub a_Var : Example classes.Var
unfolding unicode_ident is_reserved same_class class_of word_class place_of
a_Var = word_of classes.Var 118 (codes "ar") refl refl refl refl refl

pub a_Define : Example classes.Define
unfolding unicode_ident is_reserved same_class class_of word_class place_of
a_Define = word_of classes.Define 100 (codes "efine") refl refl refl refl refl

pub a_Predicate : Example classes.Predicate
unfolding unicode_ident is_reserved same_class class_of word_class place_of
a_Predicate = word_of classes.Predicate 112 (codes "redicate") refl refl refl refl refl

pub a_Pattern : Example classes.Pattern
unfolding unicode_ident is_reserved same_class class_of word_class place_of
a_Pattern = word_of classes.Pattern 112 (codes "attern") refl refl refl refl refl

pub a_Monitor : Example classes.Monitor
unfolding unicode_ident is_reserved same_class class_of word_class place_of
a_Monitor = word_of classes.Monitor 109 (codes "onitor") refl refl refl refl refl

pub a_Ini : Example classes.Ini
unfolding unicode_ident is_reserved same_class class_of word_class place_of
a_Ini = word_of classes.Ini 105 (codes "ni") refl refl refl refl refl

pub a_Alw : Example classes.Alw
unfolding unicode_ident is_reserved same_class class_of word_class place_of
a_Alw = word_of classes.Alw 97 (codes "lw") refl refl refl refl refl

pub a_AlwEv : Example classes.AlwEv
unfolding unicode_ident is_reserved same_class class_of word_class place_of
a_AlwEv = word_of classes.AlwEv 97 (codes "lwEv") refl refl refl refl refl

pub a_Trig : Example classes.Trig
unfolding unicode_ident is_reserved same_class class_of word_class place_of
a_Trig = word_of classes.Trig 116 (codes "rig") refl refl refl refl refl

pub a_Import : Example classes.Import
unfolding unicode_ident is_reserved same_class class_of word_class place_of
a_Import = word_of classes.Import 105 (codes "mport") refl refl refl refl refl

pub a_Head : Example classes.Head
unfolding unicode_ident is_reserved same_class class_of word_class place_of
a_Head = word_of classes.Head 115 (codes "pec") refl refl refl refl refl

-- two quotation marks
pub a_Text : Example classes.Text
unfolding unicode_ident same_class class_of place_of
a_Text = record {
  token = token_of kinds.Text (34 ∷ 34 ∷ []);
  is = refl;
  spelled = record {
    kind = kinds.Text;
    text = token_text kinds.Text (34 ∷ 34 ∷ []) refl (record {
      piece = record { front = 34 ∷ []; piece_is = refl; begins = record { first = 34; behind = 34 ∷ []; front = []; text_is = refl; piece_is = refl; goes = record { parts = refl; goes = refl; ends = refl } } };
      sort = refl;
    });
    class = refl;
  };
}

pub a_Finish : Example classes.Finish
unfolding same_class class_of place_of
a_Finish = record { token = token_of kinds.Finish []; is = refl; spelled = record { kind = kinds.Finish; text = refl; class = refl } }
