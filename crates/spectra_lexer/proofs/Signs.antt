-- What signs begin with, and which of them is the longest at the front of a text.
use Rattle.std.proofs.Common.{◌≡◌, ℕ, ◌<◌, ◌≤◌, ◌&&◌, ◌||◌, Bool, true, false, cond, not, leb, eqb, List, [], ◌∷◌, ◌++◌, length, take, drop, Option, Some, None, length-append, refl, sym, ap, subst, ◌∙◌, inl, inr, arith}
use Rattle.std.specs.List.{list_all, list_any, find, starts_with}
use Rattle.std.specs.Prelude.{option_map, MatchOption, IfSome, IfNone}
use Rattle.std.specs.Cmp.Lexicographic.{bytes_decides}
use Rattle.std.proofs.lemmas.Bool.{and_parts, and_from, cases_lt, or_cases, not-true, leb-true, both_ways, true≢false}
use Rattle.std.proofs.lemmas.Bool.Decides.{Decides-eqb}
use Rattle.std.proofs.lemmas.Slice.Eq.{starts_is}
use Rattle.std.proofs.Math.Seq.{take-append_seam}
use Rattle.spectra_lexer.specs.Words.{same_text, signs, is_sign, BeginsWithSign, BeginsWithLongest}

abbrev pub is_among : List (List ℕ) → List ℕ → Bool
is_among table s = list_any (λ t. same_text t s) table

-- what holds of each text of a table holds of each text among them
pub each_of : (P : List ℕ → Bool) (table : List (List ℕ)) (s : List ℕ) → list_all P table ≡ true → is_among table s ≡ true → P s ≡ true
each_of P [] s all among = absurd cc
each_of P (t ∷ ts) s all among =
    let both = and_parts (P t) (list_all P ts) all in
    elim (or_cases (same_text t s) (is_among ts s) among) [
      | inl same ↦ subst (λ (x : List ℕ). P x ≡ true) ((bytes_decides t s).0 same) both.0
      | inr later ↦ each_of P ts s both.1 later
    ]

pub each_sign : (P : List ℕ → Bool) (s : List ℕ) → list_all P signs ≡ true → is_sign s ≡ true → P s ≡ true
unfolding is_sign
each_sign P s all h = each_of P signs s all h

abbrev is_some_text : List ℕ → Bool
is_some_text [] = false
is_some_text (c ∷ cs) = true

no_sign : is_sign [] ≡ true → ⊥
no_sign h = true≢false (sym (each_sign is_some_text [] refl h))

pub some_sign : (s : List ℕ) → is_sign s ≡ true → 0 < length s
some_sign [] h = absurd (no_sign h)
some_sign (c ∷ s) h = omega arith

-- two fronts of the same length
pub same_front : (v w r s : List ℕ) → length v ≡ length w → v ++ r ≡ w ++ s → (v ≡ w) × (r ≡ s)
same_front [] [] r s n e = (refl, e)
same_front [] (d ∷ w) r s n e = absurd (omega arith)
same_front (c ∷ v) [] r s n e = absurd (omega arith)
same_front (c ∷ v) (d ∷ w) r s n e =
    let head : c ≡ d = cc in
    let tail : v ++ r ≡ w ++ s = cc in
    let more : length v ≡ length w = omega arith in
    let same = same_front v w r s more tail in
    (let both = same.0 in cc, same.1)

-- no text begins with two signs that are the longest
pub one_longest : (text v w r s : List ℕ) → BeginsWithLongest text v r → BeginsWithLongest text w s → (v ≡ w) × (r ≡ s)
one_longest text v w r s a b =
    let shorter : length v ≤ length w = b.longest v r a.begins in
    let longer : length w ≤ length v = a.longest w s b.begins in
    let same : length v ≡ length w = omega arith in
    same_front v w r s same (sym a.begins.parts ∙ b.begins.parts)

-- none stands before a longer one that goes on from it
abbrev falls : List (List ℕ) → Bool
falls [] = true
falls (t ∷ ts) = list_all (λ s. leb (length s) (length t) || not (starts_with eqb s t)) ts && falls ts

-- of two fronts of a text the longer one goes on from the other
longer_front : (t s text more : List ℕ) → starts_with eqb text t ≡ true → text ≡ s ++ more → length t ≤ length s → starts_with eqb s t ≡ true
longer_front [] s text more front e le = refl
longer_front (c ∷ t) [] text more front e le = absurd (omega arith)
longer_front (c ∷ t) (d ∷ s) [] more front e le = absurd cc
longer_front (c ∷ t) (d ∷ s) (b ∷ text) more front e le =
    let both = and_parts (eqb c b) (starts_with eqb text t) front in
    let head : b ≡ d = cc in
    let tail : text ≡ s ++ more = cc in
    and_from (eqb c d) (starts_with eqb s t) (subst (λ (x : ℕ). eqb c x ≡ true) head both.0) (longer_front t s text more both.1 tail (omega arith))

-- each sign that a text begins with is among these signs
record AreLeft (text : List ℕ) (ts : List (List ℕ)) : Type 0 where
  found : (s more : List ℕ) → BeginsWithSign text s more → is_among ts s ≡ true
  known : list_all is_sign ts ≡ true
  falling : falls ts ≡ true

all_left : (text : List ℕ) → AreLeft text signs
unfolding is_sign
all_left text = record { found = λ s more b. b.is; known = refl; falling = refl }

module _ (text t : List ℕ) (ts : List (List ℕ)) (left : AreLeft text (t ∷ ts)) where
  begins_is : (starts_with eqb text t ≡ true → text ≡ t ++ drop (length t) text) × ((rest : List ℕ) → text ≡ t ++ rest → starts_with eqb text t ≡ true)
  begins_is = starts_is Decides-eqb text t (starts_with eqb text t) refl

  fewer_left : starts_with eqb text t ≡ false → AreLeft text ts
  fewer_left apart =
      record {
        found = λ s more b.
            elim (or_cases (same_text t s) (is_among ts s) (left.found s more b)) [
              | inl same ↦ absurd (both_ways (starts_with eqb text t) apart (begins_is.1 more (b.parts ∙ ap (λ (x : List ℕ). x ++ more) (sym ((bytes_decides t s).0 same)))))
              | inr later ↦ later
            ];
        known = (and_parts (is_sign t) (list_all is_sign ts) left.known).1;
        falling = (and_parts (list_all (λ s. leb (length s) (length t) || not (starts_with eqb s t)) ts) (falls ts) left.falling).1;
      }

  no_longer : starts_with eqb text t ≡ true → (s more : List ℕ) → BeginsWithSign text s more → length s ≤ length t
  no_longer front s more b =
      elim (or_cases (same_text t s) (is_among ts s) (left.found s more b)) [
        | inl same ↦ let e : length t ≡ length s = ap length ((bytes_decides t s).0 same) in omega arith
        | inr later ↦
            let fall = (and_parts (list_all (λ s. leb (length s) (length t) || not (starts_with eqb s t)) ts) (falls ts) left.falling).0 in
            elim (or_cases (leb (length s) (length t)) (not (starts_with eqb s t)) (each_of (λ s. leb (length s) (length t) || not (starts_with eqb s t)) ts s fall later)) [
              | inl short ↦ leb-true (length s) (length t) short
              | inr apart ↦
                  elim (cases_lt (length t) (length s)) [
                    | inr le ↦ le
                    | inl lt ↦ absurd (both_ways (starts_with eqb s t) (not-true (starts_with eqb s t) apart) (longer_front t s text more front b.parts (omega arith)))
                  ]
            ]
      ]

  first_is_longest : starts_with eqb text t ≡ true → BeginsWithLongest text t (drop (length t) text)
  first_is_longest front =
      record {
        begins = record { is = (and_parts (is_sign t) (list_all is_sign ts) left.known).0; parts = begins_is.0 front };
        longest = λ other more b. no_longer front other more b;
      }

-- what the first of these that a text begins with says
abbrev Says : List ℕ → Option ℕ → Type 0
Says text size = MatchOption size ((sign rest : List ℕ) → BeginsWithSign text sign rest → ⊥) (λ n. (n ≤ length text) × BeginsWithLongest text (take n text) (drop n text))

front_said : (text t : List ℕ) → BeginsWithLongest text t (drop (length t) text) → Says text (Some (length t))
front_said text t l =
    let front : take (length t) text ≡ t = ap (take (length t)) l.begins.parts ∙ take-append_seam t (drop (length t) text) in (
      omega (arith, ap length l.begins.parts, length-append t (drop (length t) text)),
      subst (λ (x : List ℕ). BeginsWithLongest text x (drop (length t) text)) (sym front) l,
    )

left_said : (text : List ℕ) (ts : List (List ℕ)) → AreLeft text ts → Says text (option_map length (find (λ s. starts_with eqb text s) ts))
left_said text [] left = λ sign rest b. true≢false (sym (left.found sign rest b))
left_said text (t ∷ ts) left = which (starts_with eqb text t) refl (λ apart. left_said text ts (fewer_left text t ts left apart))
  where
    which : (b : Bool) → starts_with eqb text t ≡ b → (starts_with eqb text t ≡ false → Says text (option_map length (find (λ s. starts_with eqb text s) ts)))
        → Says text (option_map length (cond b (Some t) (find (λ s. starts_with eqb text s) ts)))
    which true front later = front_said text t (first_is_longest text t ts left front)
    which false apart later = later apart

pub sign_said : (text : List ℕ) (size : Option ℕ) → size ≡ option_map length (find (λ s. starts_with eqb text s) signs) → Says text size
sign_said text size e = subst (Says text) (sym e) (left_said text signs (all_left text))

pub size_within : (text : List ℕ) (size : Option ℕ) → Says text size → IfSome size (λ n. n ≤ length text)
size_within text None h = tt
size_within text (Some n) h = h.0

pub size_longest : (text : List ℕ) (size : Option ℕ) → Says text size → IfSome size (λ n. BeginsWithLongest text (take n text) (drop n text))
size_longest text None h = tt
size_longest text (Some n) h = h.1

pub size_none : (text : List ℕ) (size : Option ℕ) → Says text size → IfNone size ((sign rest : List ℕ) → BeginsWithSign text sign rest → ⊥)
size_none text None h = h
size_none text (Some n) h = tt
