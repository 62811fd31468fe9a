-- Each token of a text is a slice of it, and the slices rise.
use Rattle.std.proofs.Common.{◌≡◌, ℕ, ◌+◌, ◌-◌, ◌≤◌, Bool, true, false, cond, List, [], ◌∷◌, ◌++◌, length, take, drop, refl, sym, ap, subst, ◌∙◌, append_assoc, arith, length-append}
use Rattle.std.specs.Prelude.{Option, Some, None, IfSome, if◌then◌else◌}
use Rattle.std.specs.List.{list_all}
use Rattle.std.specs.Char.{encode_utf8}
use Rattle.std.specs.Str.{chars, encode_utf8_all, all_scalars}
use Rattle.std.proofs.lemmas.Bool.{and_parts, and_from, eqb-true}
use Rattle.std.proofs.lemmas.Str.{encodes-append, encodes-chars, scalars-chars, length-encode}
use Rattle.std.proofs.Math.Seq.{drop-append_seam, take-append_seam}
use Rattle.spectra_lexer.specs.declared.characters.Run.TheVariants as runs
use Rattle.spectra_lexer.specs.declared.opening.Opening.{Opening}
use Rattle.spectra_lexer.specs.declared.opening.Opening.TheVariants as opens
use Rattle.spectra_lexer.specs.declared.spot.Spot.{Spot}
use Rattle.spectra_lexer.specs.declared.token.Kind.{Kind}
use Rattle.spectra_lexer.specs.declared.token.Kind.TheVariants as kinds
use Rattle.spectra_lexer.specs.declared.token.Token.{Token}
use Rattle.spectra_lexer.specs.Characters.{is_digit}
use Rattle.spectra_lexer.specs.Words.{is_reserved}
use Rattle.spectra_lexer.specs.Pieces.{opening_of, begins_with, IsFirstAndRun, IsPiece}
use Rattle.spectra_lexer.specs.Tokens.{behind, past, token_to, kind_of, kind_of_piece, token_if, Lexes, piece, finish, AreTokens}
use Rattle.spectra_lexer.specs.Slices.{IsWord, Spells, IsSlice, AreSlices}
use Rattle.spectra_lexer.proofs.Sorts.{opens_name, opens_number, opens_quoted}
use Rattle.spectra_lexer.proofs.Parts.{piece_parts}

scalars-append : (xs ys : List ℕ) → all_scalars xs ≡ true → all_scalars ys ≡ true → all_scalars (xs ++ ys) ≡ true
scalars-append [] ys h k = k
scalars-append (x ∷ xs) ys h k = let p = and_parts _ (all_scalars xs) h in and_from _ (all_scalars (xs ++ ys)) p.0 (scalars-append xs ys p.1 k)

scalars_front : (xs ys : List ℕ) → all_scalars (xs ++ ys) ≡ true → (all_scalars xs ≡ true) × (all_scalars ys ≡ true)
scalars_front [] ys h = (refl, h)
scalars_front (x ∷ xs) ys h = let p = and_parts _ (all_scalars (xs ++ ys)) h in let more = scalars_front xs ys p.1 in (and_from _ (all_scalars xs) p.0 more.0, more.1)

past-byte : (cs : List ℕ) (at : Spot) → (past cs at).byte ≡ at.byte + length (encode_utf8_all cs)
past-byte [] at = omega arith
past-byte (c ∷ cs) at = omega (arith, past-byte cs (behind c at), length-append (encode_utf8 c) (encode_utf8_all cs), length-encode c)

-- what the characters of each token are
word_spells : (reserved : Bool) (cs : List ℕ) → is_reserved cs ≡ reserved → IsWord cs → Spells (cond reserved kinds.Word kinds.Name) cs
word_spells true cs e w = (w, e)
word_spells false cs e w = (w, e)

module _ (text p r : List ℕ) where
  name_spells : opening_of text ≡ opens.Name → IsFirstAndRun runs.Name text p r → Spells (kind_of p) p
  name_spells e i =
      word_spells (is_reserved p) p refl
      (record { first = i.first; more = i.front; word_is = i.piece_is; begins = opens_name i.first i.behind (sym (ap opening_of i.text_is) ∙ e); goes = i.goes.goes })

  number_spells : opening_of text ≡ opens.Number → IsFirstAndRun runs.Number text p r → Spells kinds.Number p
  number_spells e i =
      let first = opens_number i.first i.behind (sym (ap opening_of i.text_is) ∙ e) in
      record {
        first = i.first;
        more = i.front;
        number_is = i.piece_is;
        digits = rw i.piece_is (and_from (is_digit i.first) (list_all is_digit i.front) first i.goes.goes);
      }

  quoted_spells : opening_of text ≡ opens.Quoted → IsPiece opens.Quoted text p r → Spells kinds.Text p
  quoted_spells e i =
      let b = i.begins in
      let mark : b.first ≡ 34 = opens_quoted b.first b.behind (sym (ap opening_of b.text_is) ∙ e) in
      record {
        inside = b.front;
        text_is = i.piece_is ∙ (ap (λ (x : List ℕ). x ++ 34 ∷ []) b.piece_is ∙ ap (λ (x : ℕ). x ∷ (b.front ++ 34 ∷ [])) mark);
        quoted = b.goes.goes;
      }

  piece_spells : (o : Opening) → opening_of text ≡ o → IsPiece o text p r → IfSome (kind_of_piece o p) (λ kind. Spells kind p)
  piece_spells opens.Nothing e i = tt
  piece_spells opens.Blank e i = tt
  piece_spells opens.LineComment e i = tt
  piece_spells opens.BlockComment e i = tt
  piece_spells opens.Name e i = name_spells e i
  piece_spells opens.Number e i = number_spells e i
  piece_spells opens.Quoted e i = quoted_spells e i
  piece_spells opens.Sign e i = i.begins.is

from_later : (text : List ℕ) (ts : List Token) (m n : ℕ) → m ≤ n → AreSlices text n ts → AreSlices text m ts
from_later text [] m n le h = tt
from_later text (t ∷ ts) m n le h =
    let s = h.0 in (
      record {
        rises = omega (arith, s.rises);
        forward = s.forward;
        within = s.within;
        characters = s.characters;
        scalars = s.scalars;
        bytes = s.bytes;
        spells = s.spells;
      },
      h.1,
    )

-- the slice of a piece
slice_is : (from to : ℕ) (text front w rest : List ℕ) → from ≡ length front → to ≡ length front + length w → text ≡ front ++ (w ++ rest) → take (to - from) (drop from text) ≡ w
slice_is from to text front w rest starts ends parts =
    let size : to - from ≡ length w = omega arith in
    let behind : drop from text ≡ w ++ rest = ap (λ (n : ℕ). drop n text) starts ∙ (ap (drop (length front)) parts ∙ drop-append_seam front (w ++ rest)) in
    ap (λ (n : ℕ). take n (drop from text)) size ∙ (ap (take (length w)) behind ∙ take-append_seam w rest)

module _ (front p rest : List ℕ) (at : Spot) (starts : at.byte ≡ length (encode_utf8_all front)) where
  whole : encode_utf8_all (front ++ (p ++ rest)) ≡ encode_utf8_all front ++ (encode_utf8_all p ++ encode_utf8_all rest)
  whole = encodes-append front (p ++ rest) ∙ ap (λ (x : List ℕ). encode_utf8_all front ++ x) (encodes-append p rest)

  a_slice : (kind : Kind) → all_scalars p ≡ true → Spells kind p → IsSlice (encode_utf8_all (front ++ (p ++ rest))) at.byte (token_to at kind (past p at))
  a_slice kind scalars spells =
      let ends : (past p at).byte ≡ length (encode_utf8_all front) + length (encode_utf8_all p) = past-byte p at ∙ ap (λ (n : ℕ). n + length (encode_utf8_all p)) starts in
      record {
        rises = omega arith;
        forward = omega (arith, past-byte p at);
        within = omega (arith, ends, ap length whole, length-append (encode_utf8_all front) (encode_utf8_all p ++ encode_utf8_all rest), length-append (encode_utf8_all p) (encode_utf8_all rest));
        characters = p;
        scalars = scalars;
        bytes = slice_is at.byte (past p at).byte (encode_utf8_all (front ++ (p ++ rest))) (encode_utf8_all front) (encode_utf8_all p) (encode_utf8_all rest) starts ends whole;
        spells = spells;
      }

  with_token : (kind : Option Kind) (ts : List Token) → all_scalars p ≡ true → IfSome kind (λ k. Spells k p) → AreSlices (encode_utf8_all (front ++ (p ++ rest))) (past p at).byte ts
      → AreSlices (encode_utf8_all (front ++ (p ++ rest))) at.byte (token_if kind at (past p at) ++ ts)
  with_token None ts scalars spells later = from_later (encode_utf8_all (front ++ (p ++ rest))) ts at.byte (past p at).byte (omega (arith, past-byte p at)) later
  with_token (Some kind) ts scalars spells later = (a_slice kind scalars spells, later)

pub slices : {at : Spot} {rest : List ℕ} {ts : List Token} (front : List ℕ) → at.byte ≡ length (encode_utf8_all front) → all_scalars rest ≡ true → Lexes at rest ts → AreSlices (encode_utf8_all (front ++ rest)) at.byte ts
slices {at = at} {rest = text} front e scalars (piece {tokens = ts} p r i d) =
    let parts : text ≡ p ++ r = piece_parts (opening_of text) text p r i in
    let both = scalars_front p r (subst (λ (x : List ℕ). all_scalars x ≡ true) parts scalars) in
    let ends : (past p at).byte ≡ length (encode_utf8_all (front ++ p)) =
    omega (arith, past-byte p at, e, ap length (encodes-append front p), length-append (encode_utf8_all front) (encode_utf8_all p)) in
    let later : AreSlices (encode_utf8_all (front ++ (p ++ r))) (past p at).byte ts =
    subst (λ (x : List ℕ). AreSlices (encode_utf8_all x) (past p at).byte ts) (append_assoc front p r) (slices (front ++ p) ends both.1 d) in
    let kind = kind_of_piece (opening_of text) p in
    subst (λ (x : List ℕ). AreSlices (encode_utf8_all (front ++ x)) at.byte (token_if kind at (past p at) ++ ts)) (sym parts)
    (with_token front p r at e kind ts both.0 (piece_spells text p r (opening_of text) refl i) later)
slices {at = at} front e scalars finish = (a_slice front [] [] at e kinds.Finish refl refl, tt)

-- behind a byte order mark, or at the front
abbrev spot_if : Bool → Spot
spot_if marked = record { byte = if marked then 3 else 0; line = 1; column = 1 }

abbrev rest_if : Bool → List ℕ → List ℕ
rest_if marked cs = if marked then drop 1 cs else cs

from_start : (marked : Bool) (cs : List ℕ) (ts : List Token) → begins_with 0xFEFF cs ≡ marked → all_scalars cs ≡ true → Lexes (spot_if marked) (rest_if marked cs) ts → AreSlices (encode_utf8_all cs) 0 ts
from_start false cs ts m scalars d = slices [] refl scalars d
from_start true [] ts m scalars d = absurd cc
from_start true (c ∷ cs) ts m scalars d =
    let mark : c ≡ 0xFEFF = eqb-true c 0xFEFF m in
    let size : 3 ≡ length (encode_utf8_all (c ∷ [])) = omega (arith, length-encode 0xFEFF, ap (λ (x : ℕ). length (encode_utf8_all (x ∷ []))) mark, length-append (encode_utf8 0xFEFF) []) in
    from_later (encode_utf8_all (c ∷ cs)) ts 0 3 (omega arith) (slices (c ∷ []) size (and_parts _ (all_scalars cs) scalars).1 d)

pub tokens_are_slices : (text : List ℕ) (ts : List Token) → AreTokens text ts → AreSlices text 0 ts
tokens_are_slices text ts are =
    let cs = chars text in
    subst (λ (x : List ℕ). AreSlices x 0 ts) (encodes-chars text are.utf8) (from_start (begins_with 0xFEFF cs) cs ts refl (scalars-chars text are.utf8) are.lexed)
