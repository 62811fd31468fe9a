-- A piece and the rest are the text, and no piece is empty.
use Rattle.std.proofs.Common.{◌≡◌, ℕ, ◌-◌, ◌<◌, ◌≤◌, List, [], ◌∷◌, ◌++◌, length, take, refl, sym, ap, ◌∙◌, append_assoc, arith, length-append}
use Rattle.std.specs.Prelude.{codes, Some}
use Rattle.std.specs.Str.{chars, IsUtf8, encode_utf8_all}
use Rattle.std.proofs.lemmas.Str.{encodes-chars, encodes-append}
use Rattle.std.proofs.Math.Seq.{take-append_seam}
use Rattle.spectra_lexer.specs.declared.characters.Run.{Run}
use Rattle.spectra_lexer.specs.declared.characters.Run.TheVariants as runs
use Rattle.spectra_lexer.specs.declared.opening.Opening.{Opening}
use Rattle.spectra_lexer.specs.declared.opening.Opening.TheVariants as opens
use Rattle.spectra_lexer.specs.declared.token.Kind.{Kind}
use Rattle.spectra_lexer.specs.Pieces.{IsFirstAndRun, IsBlockComment, IsQuoted, IsPiece}
use Rattle.spectra_lexer.specs.Tokens.{kind_of, kind_of_piece}
use Rattle.spectra_lexer.proofs.Signs.{some_sign}
use Rattle.spectra_lexer.proofs.Texts.{is_reserved-encoded}

-- a text is a piece that isn't empty, and the rest
record IsFront (text p r : List ℕ) : Type 0 where
  parts : text ≡ p ++ r
  some : 0 < length p

first_and_run : (run : Run) (text p r : List ℕ) → IsFirstAndRun run text p r → IsFront text p r
first_and_run run text p r i =
    record {
      parts = i.text_is ∙ (ap (λ (x : List ℕ). i.first ∷ x) i.goes.parts ∙ ap (λ (x : List ℕ). x ++ r) (sym i.piece_is));
      some = omega (arith, ap length i.piece_is);
    }

block : (text p r : List ℕ) → IsBlockComment text p r → IsFront text p r
block text p r i =
    record {
      parts = i.text_is ∙ (ap (λ (x : List ℕ). codes "/*" ++ x) (sym (append_assoc i.inside (codes "*/") r)) ∙ ap (λ (x : List ℕ). x ++ r) (sym i.piece_is));
      some = omega (arith, ap length i.piece_is);
    }

quoted : (text p r : List ℕ) → IsQuoted text p r → IsFront text p r
quoted text p r i =
    let begins = first_and_run runs.Quoted text i.front (34 ∷ r) i.begins in
    record {
      parts = begins.parts ∙ (sym (append_assoc i.front (34 ∷ []) r) ∙ ap (λ (x : List ℕ). x ++ r) (sym i.piece_is));
      some = omega (arith, ap length i.piece_is, length-append i.front (34 ∷ []));
    }

front_of : (o : Opening) (text p r : List ℕ) → IsPiece o text p r → IsFront text p r
front_of opens.Nothing text p r i = absurd i
front_of opens.Blank text p r i = first_and_run runs.Blank text p r i
front_of opens.LineComment text p r i = first_and_run runs.Line text p r i
front_of opens.BlockComment text p r i = block text p r i
front_of opens.Name text p r i = first_and_run runs.Name text p r i
front_of opens.Number text p r i = first_and_run runs.Number text p r i
front_of opens.Quoted text p r i = quoted text p r i
front_of opens.Sign text p r i = record { parts = i.begins.parts; some = some_sign p i.begins.is }

pub piece_parts : (o : Opening) (text p r : List ℕ) → IsPiece o text p r → text ≡ p ++ r
piece_parts o text p r i = (front_of o text p r i).parts

pub rest_is_shorter : (o : Opening) (text p r : List ℕ) → IsPiece o text p r → length r < length text
rest_is_shorter o text p r i =
    let f = front_of o text p r i in
    omega (arith, ap length f.parts, length-append p r, f.some)

-- the bytes of a front
pub front_bytes : (bs p after : List ℕ) → IsUtf8 bs → IsUtf8 after → chars bs ≡ p ++ chars after → bs ≡ encode_utf8_all p ++ after
front_bytes bs p after utf8 behind e =
    sym (encodes-chars bs utf8) ∙ (ap encode_utf8_all e ∙ (encodes-append p (chars after) ∙ ap (λ (x : List ℕ). encode_utf8_all p ++ x) (encodes-chars after behind)))

pub front_fits : (bs p after : List ℕ) → IsUtf8 bs → IsUtf8 after → chars bs ≡ p ++ chars after → length after ≤ length bs
front_fits bs p after utf8 behind e = omega (arith, ap length (front_bytes bs p after utf8 behind e), length-append (encode_utf8_all p) after)

pub front_is : (bs p after : List ℕ) → IsUtf8 bs → IsUtf8 after → chars bs ≡ p ++ chars after → take (length bs - length after) bs ≡ encode_utf8_all p
front_is bs p after utf8 behind e =
    let bytes = front_bytes bs p after utf8 behind e in
    let size : length bs - length after ≡ length (encode_utf8_all p) = omega (arith, ap length bytes, length-append (encode_utf8_all p) after) in
    ap (λ (n : ℕ). take n bs) size ∙ (ap (take (length (encode_utf8_all p))) bytes ∙ take-append_seam (encode_utf8_all p) after)

kind_of-encoded : (p : List ℕ) → kind_of (encode_utf8_all p) ≡ kind_of p
kind_of-encoded p = rw (is_reserved-encoded p) refl

pub kind_of_piece-encoded : (o : Opening) (p : List ℕ) → kind_of_piece o (encode_utf8_all p) ≡ kind_of_piece o p
kind_of_piece-encoded opens.Nothing p = refl
kind_of_piece-encoded opens.Blank p = refl
kind_of_piece-encoded opens.LineComment p = refl
kind_of_piece-encoded opens.BlockComment p = refl
kind_of_piece-encoded opens.Name p = ap (λ (k : Kind). Some k) (kind_of-encoded p)
kind_of_piece-encoded opens.Number p = refl
kind_of_piece-encoded opens.Quoted p = refl
kind_of_piece-encoded opens.Sign p = refl
