-- Which value of a domain is written so.
use Rattle.std.proofs.Common.{◌≡◌, ℕ, ◌+◌, ◌<◌, ℤ, pos, negsuc, ◌≤ℤ◌, Bool, true, ◌||◌, ◌==◌, List, map, length, drop, get_or, ◌⊎◌, inl, inr, refl, sym, ap, ◌∙◌, arith}
use Rattle.std.proofs.lemmas.Bool.{or_cases, eqb-true, eq-eqb}
use Rattle.std.proofs.lemmas.Int.{ints}
use Rattle.std.proofs.lemmas.List.{drop_more}
use Rattle.std.proofs.lemmas.List.Folds.{list_any_at}
use Rattle.std.specs.List.{list_any}
use Rattle.std.specs.Fmt.{signed_decimal}
use lib.Signed.{mag}
use Rattle.spec_model.specs.declared.value.Value.{Value}
use Rattle.spec_model.specs.declared.value.Value.TheVariants as value
use Rattle.spec_model.specs.Values.{values_of, same_value, WholeNumbers, Enumeration}
use Rattle.spec_model.proofs.Domains.{none_in_range, no_number, in_range, named}
use Rattle.session_lines.specs.Shown.{text_of}
use Rattle.session_lines.specs.Reading.{IsWritten}

-- ---- whole numbers

pub mag_between : (z lo hi : ℤ) (n : ℕ) → lo ≤ℤ z → z ≤ℤ hi → mag lo < n → mag hi < n → mag z < n
mag_between (pos z) lo (pos hi) n low high lo_fits hi_fits = omega (arith, ints)
mag_between (pos z) lo (negsuc hi) n low high lo_fits hi_fits = absurd (omega (arith, ints))
mag_between (negsuc z) (pos lo) hi n low high lo_fits hi_fits = absurd (omega (arith, ints))
mag_between (negsuc z) (negsuc lo) hi n low high lo_fits hi_fits = omega (arith, ints)

-- the value that is written so is a whole number, and it is small where the bounds are
pub only_whole : (names : List (List ℕ)) (lo hi : ℤ) (text : List ℕ) (x : Value) (n : ℕ) → mag lo < n → mag hi < n → IsWritten names (WholeNumbers lo hi) text x
    → (z : ℤ) × (mag z < n) × (text ≡ signed_decimal z) × (list_any (same_value (value.Int z)) (values_of (WholeNumbers lo hi)) ≡ true)
only_whole names lo hi text (value.Int z) n lo_fits hi_fits is =
    let between = (in_range z lo hi).0 is.within in
    (z, mag_between z lo hi n between.0 between.1 lo_fits hi_fits, is.text_is, is.within)
only_whole names lo hi text (value.Bool b) n lo_fits hi_fits is =
    absurd (let never = none_in_range (value.Bool b) (no_number (value.Bool b) (inl (b, refl))) lo hi in let within = is.within in cc)
only_whole names lo hi text (value.Name m) n lo_fits hi_fits is =
    absurd (let never = none_in_range (value.Name m) (no_number (value.Name m) (inr (m, refl))) lo hi in let within = is.within in cc)

-- ---- names

pub same_name : (x : Value) (n : ℕ) → same_value x (value.Name n) ≡ true → x ≡ value.Name n
same_name (value.Name m) n same = ap (λ (k : ℕ). value.Name k) (eqb-true m n same)
same_name (value.Bool b) n same = cc
same_name (value.Int z) n same = cc

-- a name that stands in the list
pub named_at : (names : List (List ℕ)) (ns : List ℕ) (text : List ℕ) (i : ℕ) → i < length ns → text ≡ text_of names (value.Name (get_or ns i 0)) → IsWritten names (Enumeration ns) text (value.Name (get_or ns i 0))
named_at names ns text i here is = record {
  text_is = is;
  within = named (get_or ns i 0) ns ∙ list_any_at (λ m. get_or ns i 0 == m) ns i 0 here (eq-eqb (get_or ns i 0) (get_or ns i 0) refl);
}

-- where the first of the names is written otherwise, the value is among the others
pub named_later : (names : List (List ℕ)) (ns : List ℕ) (text : List ℕ) (i : ℕ) (x : Value) → i < length ns → (text ≡ text_of names (value.Name (get_or ns i 0)) → ⊥)
    → IsWritten names (Enumeration (drop i ns)) text x → IsWritten names (Enumeration (drop (i + 1) ns)) text x
named_later names ns text i x here other is = record { text_is = is.text_is; within = later (or_cases _ _ cut) }
  where
    rest : Bool
    rest = list_any (same_value x) (map (λ n. value.Name n) (drop (i + 1) ns))

    cut : (same_value x (value.Name (get_or ns i 0)) || list_any (same_value x) (map (λ n. value.Name n) (drop (i + 1) ns))) ≡ true
    cut = ap (λ (l : List ℕ). list_any (same_value x) (map (λ n. value.Name n) l)) (sym (drop_more ns i 0 here)) ∙ is.within

    later : (same_value x (value.Name (get_or ns i 0)) ≡ true) ⊎ (list_any (same_value x) (map (λ n. value.Name n) (drop (i + 1) ns)) ≡ true) → list_any (same_value x) (map (λ n. value.Name n) (drop (i + 1) ns)) ≡ true
    later (inl same) = absurd (other (is.text_is ∙ ap (text_of names) (same_name x (get_or ns i 0) same)))
    later (inr among) = among
