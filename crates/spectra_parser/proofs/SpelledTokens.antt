-- The names among the tokens of a text are spelled as names.
use Rattle.std.proofs.Common.{◌≡◌, ℕ, ◌+◌, not, Bool, true, false, List, [], ◌∷◌, refl, sym, ap, ◌∙◌}
use Rattle.std.specs.Prelude.{if◌then◌else◌}
use Rattle.std.specs.List.{list_all}
use Rattle.std.specs.Str.{encode_utf8_all, all_scalars}
use Rattle.std.proofs.lemmas.Bool.{and_parts, and_from, not-true, false≢true}
use Rattle.spec_model.specs.Names.{begins_name, is_spelled, IsName}
use Rattle.spectra_lexer.specs.declared.token.Kind.{Kind}
use Rattle.spectra_lexer.specs.declared.token.Kind.TheVariants as kinds
use Rattle.spectra_lexer.specs.declared.token.Token.{Token}
use Rattle.spectra_lexer.specs.Tokens.{AreTokens}
use Rattle.spectra_lexer.specs.Words.{same_text}
use Rattle.spectra_lexer.specs.Slices.{IsWord, Spells, AreSlices}
use Rattle.spectra_lexer.proofs.SliceLemmas.{tokens_are_slices}
use Rattle.spectra_trees.specs.declared.class.Class.{Class}
use Rattle.spectra_trees.specs.declared.class.Class.TheVariants as classes
use Rattle.spectra_trees.specs.Classes.{words, signs, class_in, word_class, sign_class, class_of, same_class, place_of}
use Rattle.spectra_trees.specs.Lexemes.{lexemes_from, lexemes}
use Rattle.spectra_parser.proofs.NamedTokens.{AreNamed}

-- ---- no word and no sign is a name

abbrev IsNoName : Class → Type 0
IsNoName class = same_class class classes.Name ≡ false

either : (b : Bool) (c d : Class) → IsNoName c → IsNoName d → IsNoName (if b then c else d)
either true c d here other = here
either false c d here other = other

abbrev differs : List ℕ × Class → Bool
differs row = not (same_class row.1 classes.Name)

in_table : (rows : List (List ℕ × Class)) (w : List ℕ) → list_all differs rows ≡ true → IsNoName (class_in rows w)
unfolding same_class place_of
in_table [] w e = refl
in_table (row ∷ rows) w e =
    let both = and_parts (differs row) (list_all differs rows) e in
    either (same_text w row.0) row.1 (class_in rows w) (not-true _ both.0) (in_table rows w both.1)

word_no_name : (w : List ℕ) → IsNoName (word_class w)
unfolding word_class same_class place_of
word_no_name w = in_table words w refl

sign_no_name : (w : List ℕ) → IsNoName (sign_class w)
unfolding sign_class same_class place_of
sign_no_name w = in_table signs w refl

-- ---- each token

spelled_word : (cs : List ℕ) → IsWord cs → is_spelled cs ≡ true
spelled_word cs word = ap is_spelled word.word_is ∙ and_from (begins_name word.first) _ word.begins word.goes

never : {P : Type 0} (b : Bool) → b ≡ false → b ≡ true → P
never b out is = absurd (false≢true (sym out ∙ is))

kind_named : (kind : Kind) (slice cs : List ℕ) → slice ≡ encode_utf8_all cs → all_scalars cs ≡ true → Spells kind cs → same_class (class_of kind slice) classes.Name ≡ true → IsName slice
unfolding class_of same_class place_of
kind_named kinds.Name slice cs bytes scalars spells is = record { characters = cs; scalars = scalars; bytes = bytes; spelled = spelled_word cs spells.0; unreserved = spells.1 }
kind_named kinds.Word slice cs bytes scalars spells is = never _ (word_no_name slice) is
kind_named kinds.Sign slice cs bytes scalars spells is = never _ (sign_no_name slice) is
kind_named kinds.Number slice cs bytes scalars spells is = absurd (false≢true is)
kind_named kinds.Text slice cs bytes scalars spells is = absurd (false≢true is)
kind_named kinds.Finish slice cs bytes scalars spells is = absurd (false≢true is)

slices_named : (text : List ℕ) (behind number : ℕ) (ts : List Token) → AreSlices text behind ts → AreNamed (lexemes_from text number ts)
slices_named text behind number [] slices = tt
slices_named text behind number (t ∷ ts) slices =
    let s = slices.0 in
    (kind_named t.kind _ s.characters s.bytes s.scalars s.spells, slices_named text t.to (number + 1) ts slices.1)

pub named_tokens : (text : List ℕ) (tokens : List Token) → AreTokens text tokens → AreNamed (lexemes text tokens)
named_tokens text tokens lexed = slices_named text 0 0 tokens (tokens_are_slices text tokens lexed)
