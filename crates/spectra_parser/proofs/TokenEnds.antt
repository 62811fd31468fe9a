-- The tokens of a text are a whole text: numbered from 0, and the last alone is its end.
use Rattle.std.proofs.Common.{◌≡◌, ℕ, ◌+◌, ◌&&◌, not, Bool, true, false, List, [], ◌∷◌, ◌++◌, refl}
use Rattle.std.specs.Prelude.{Option, Some, None, if◌then◌else◌}
use Rattle.spectra_lexer.specs.declared.spot.Spot.{Spot}
use Rattle.spectra_lexer.specs.declared.opening.Opening.{Opening}
use Rattle.spectra_lexer.specs.declared.opening.Opening.TheVariants as opens
use Rattle.spectra_lexer.specs.declared.token.Kind.{Kind}
use Rattle.spectra_lexer.specs.declared.token.Kind.TheVariants as kinds
use Rattle.spectra_lexer.specs.declared.token.Token.{Token}
use Rattle.spectra_lexer.specs.Words.{same_text, is_reserved}
use Rattle.spectra_lexer.specs.Pieces.{opening_of}
use Rattle.spectra_lexer.specs.Tokens.{past, token_to, kind_of_piece, token_if, Lexes, piece, finish, AreTokens}
use Rattle.spectra_trees.specs.declared.class.Class.{Class}
use Rattle.spectra_trees.specs.declared.class.Class.TheVariants as classes
use Rattle.spectra_trees.specs.Classes.{words, signs, class_in, word_class, sign_class, class_of, same_class, place_of}
use Rattle.spectra_trees.specs.Lexemes.{Lexeme, lexeme, lexemes_from, lexemes}
use Rattle.spectra_parser.specs.Wholes.{IsWholeFrom}

-- ---- no word and no sign ends a text

-- a class other than that of the end
abbrev IsNoEnd : Class → Type 0
IsNoEnd class = same_class class classes.Finish ≡ false

-- no row of a table ends a text
abbrev calm : List (List ℕ × Class) → Bool
calm [] = true
calm (row ∷ rows) = not (same_class row.1 classes.Finish) && calm rows

both_calm : (a b : Bool) → not a && b ≡ true → (a ≡ false) × (b ≡ true)
both_calm true b e = absurd (cc)
both_calm false b e = (refl, e)

either : (b : Bool) (c d : Class) → IsNoEnd c → IsNoEnd d → IsNoEnd (if b then c else d)
either true c d here other = here
either false c d here other = other

in_calm : (rows : List (List ℕ × Class)) (w : List ℕ) → calm rows ≡ true → IsNoEnd (class_in rows w)
unfolding same_class place_of
in_calm [] w e = refl
in_calm (row ∷ rows) w e =
    let both = both_calm (same_class row.1 classes.Finish) (calm rows) e in
    either (same_text w row.0) row.1 (class_in rows w) both.0 (in_calm rows w both.1)

word_goes_on : (w : List ℕ) → IsNoEnd (word_class w)
unfolding word_class same_class place_of
word_goes_on w = in_calm words w refl

sign_goes_on : (w : List ℕ) → IsNoEnd (sign_class w)
unfolding sign_class same_class place_of
sign_goes_on w = in_calm signs w refl

-- ---- no piece ends a text

abbrev GoesOn : Option Kind → Type 0
GoesOn None = Unit {0}
GoesOn (Some kind) = (w : List ℕ) → IsNoEnd (class_of kind w)

name_or_word : (b : Bool) → GoesOn (Some (if b then kinds.Word else kinds.Name))
unfolding class_of same_class place_of
name_or_word true = word_goes_on
name_or_word false = λ w. refl

piece_goes_on : (o : Opening) (p : List ℕ) → GoesOn (kind_of_piece o p)
unfolding class_of same_class place_of
piece_goes_on opens.Nothing p = tt
piece_goes_on opens.Blank p = tt
piece_goes_on opens.LineComment p = tt
piece_goes_on opens.BlockComment p = tt
piece_goes_on opens.Name p = name_or_word (is_reserved p)
piece_goes_on opens.Number p = λ w. refl
piece_goes_on opens.Quoted p = λ w. refl
piece_goes_on opens.Sign p = sign_goes_on

-- ---- the last token is the end

one_before : (k : ℕ) (t : Lexeme) (ts : List Lexeme) → t.number ≡ k → same_class t.class classes.Finish ≡ false → IsWholeFrom (k + 1) ts → IsWholeFrom k (t ∷ ts)
one_before k t [] number on whole = absurd whole
one_before k t (u ∷ ts) number on whole = (number, on, whole)

token_before : (text : List ℕ) (k : ℕ) (kind : Option Kind) (at next : Spot) (ts : List Token) → GoesOn kind → ((k : ℕ) → IsWholeFrom k (lexemes_from text k ts)) → IsWholeFrom k (lexemes_from text k (token_if kind at next ++ ts))
token_before text k None at next ts on whole = whole k
token_before text k (Some kind) at next ts on whole = let t : Lexeme = lexeme text k (token_to at kind next) in one_before k t (lexemes_from text (k + 1) ts) refl (on t.text) (whole (k + 1))

lexed_whole : (source : List ℕ) {at : Spot} {text : List ℕ} {tokens : List Token} → Lexes at text tokens → (k : ℕ) → IsWholeFrom k (lexemes_from source k tokens)
unfolding class_of same_class place_of
lexed_whole source {at = at} {text = text} (piece {tokens = ts} p r i l) =
    λ k. token_before source k (kind_of_piece (opening_of text) p) at (past p at) ts (piece_goes_on (opening_of text) p) (lexed_whole source l)
lexed_whole source finish = λ k. (refl, refl)

pub whole_tokens : (text : List ℕ) (tokens : List Token) → AreTokens text tokens → IsWholeFrom 0 (lexemes text tokens)
whole_tokens text tokens are = lexed_whole text are.lexed 0
