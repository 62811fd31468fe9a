-- No line reads as two assignments.
use Rattle.std.proofs.Common.{◌≡◌, ℕ, zero, suc, ◌<◌, ◌^◌, ℤ, true, false, List, [], ◌∷◌, map, length, ◌⊎◌, inl, inr, refl, sym, ap, ◌∙◌, arith}
use Rattle.std.proofs.lemmas.Bool.{or_cases, eqb-true}
use Rattle.std.proofs.lemmas.Fmt.{signed_decimal_injective}
use Rattle.std.specs.List.{list_any}
use Rattle.spec_model.specs.declared.value.Value.{Value}
use Rattle.spec_model.specs.declared.value.Value.TheVariants as value
use Rattle.spec_model.specs.Values.{Assignment, DomainData, TruthValues, WholeNumbers, Enumeration, values_of, same_value}
use Rattle.spec_model.specs.Syntax.{VariableData}
use Rattle.spec_model.proofs.Domains.{none_in_range, none_named, no_number, no_name, in_range}
use Rattle.session_lines.specs.Shown.{text_of}
use Rattle.session_lines.specs.Reading.{IsGiven, AreGiven}
use Rattle.session_lines.specs.Plain.{IsWritable, AreWritable, AreNames}
use Rattle.session_lines.proofs.Values.{mag_between}

-- ---- one value for a text

pub among : (names : List (List ℕ)) (ns : List ℕ) (m : ℕ) → IsWritable names (Enumeration ns) → list_any (same_value (value.Name m)) (map (λ n. value.Name n) ns) ≡ true → m < length names
among names [] m there within = cc
among names (n ∷ ns) m there within = one (among names ns m (λ k below. there (suc k) (omega arith))) (or_cases _ _ within)
  where
    one : (list_any (same_value (value.Name m)) (map (λ k. value.Name k) ns) ≡ true → m < length names)
        → (same_value (value.Name m) (value.Name n) ≡ true) ⊎ (list_any (same_value (value.Name m)) (map (λ k. value.Name k) ns) ≡ true) → m < length names
    one rest (inl same) = let is = eqb-true m n same in omega (arith, is, there zero (omega arith))
    one rest (inr later) = rest later

same_text : (names : List (List ℕ)) → AreNames names → (d : DomainData) → IsWritable names d → (x y : Value) → list_any (same_value x) (values_of d) ≡ true → list_any (same_value y) (values_of d) ≡ true
    → text_of names x ≡ text_of names y → x ≡ y
same_text names are TruthValues writable (value.Bool true) (value.Bool true) p q same = refl
same_text names are TruthValues writable (value.Bool false) (value.Bool false) p q same = refl
same_text names are TruthValues writable (value.Bool true) (value.Bool false) p q same = absurd (omega (arith, ap (λ (l : List ℕ). length l) same))
same_text names are TruthValues writable (value.Bool false) (value.Bool true) p q same = absurd (omega (arith, ap (λ (l : List ℕ). length l) same))
same_text names are TruthValues writable (value.Bool b) (value.Int z) p q same = cc
same_text names are TruthValues writable (value.Bool b) (value.Name n) p q same = cc
same_text names are TruthValues writable (value.Int z) y p q same = cc
same_text names are TruthValues writable (value.Name n) y p q same = cc
same_text names are (WholeNumbers lo hi) writable (value.Int y) (value.Int z) p q same =
    let a = (in_range y lo hi).0 p in
    let b = (in_range z lo hi).0 q in
    ap (λ (n : ℤ). value.Int n) (signed_decimal_injective y z (mag_between y lo hi (2 ^ 63) a.0 a.1 writable.0 writable.1) (mag_between z lo hi (2 ^ 63) b.0 b.1 writable.0 writable.1) same)
same_text names are (WholeNumbers lo hi) writable (value.Bool b) y p q same = absurd (let never = none_in_range (value.Bool b) (no_number (value.Bool b) (inl (b, refl))) lo hi in cc)
same_text names are (WholeNumbers lo hi) writable (value.Name n) y p q same = absurd (let never = none_in_range (value.Name n) (no_number (value.Name n) (inr (n, refl))) lo hi in cc)
same_text names are (WholeNumbers lo hi) writable (value.Int z) (value.Bool b) p q same = absurd (let never = none_in_range (value.Bool b) (no_number (value.Bool b) (inl (b, refl))) lo hi in cc)
same_text names are (WholeNumbers lo hi) writable (value.Int z) (value.Name n) p q same = absurd (let never = none_in_range (value.Name n) (no_number (value.Name n) (inr (n, refl))) lo hi in cc)
same_text names are (Enumeration ns) writable (value.Name m) (value.Name n) p q same =
    ap (λ (k : ℕ). value.Name k) (are.differ m n (among names ns m writable p) (among names ns n writable q) same)
same_text names are (Enumeration ns) writable (value.Bool b) y p q same = absurd (let never = none_named (value.Bool b) (no_name (value.Bool b) (inl (b, refl))) ns in cc)
same_text names are (Enumeration ns) writable (value.Int z) y p q same = absurd (let never = none_named (value.Int z) (no_name (value.Int z) (inr (z, refl))) ns in cc)
same_text names are (Enumeration ns) writable (value.Name n) (value.Bool b) p q same = absurd (let never = none_named (value.Bool b) (no_name (value.Bool b) (inl (b, refl))) ns in cc)
same_text names are (Enumeration ns) writable (value.Name n) (value.Int z) p q same = absurd (let never = none_named (value.Int z) (no_name (value.Int z) (inr (z, refl))) ns in cc)

given_once : (names ws : List (List ℕ)) (v : VariableData) (x y : Value) → AreNames names → IsWritable names v.domain → IsGiven names ws v x → IsGiven names ws v y → x ≡ y
given_once names ws v x y are writable a b =
    let first = a.once in
    let second = b.once in
    let one = a.written.text_is in
    let two = b.written.text_is in
    let texts : a.text ≡ b.text = cc in
    same_text names are v.domain writable x y a.written.within b.written.within (sym one ∙ texts ∙ two)

pub all_given_once : (names ws : List (List ℕ)) (vs : List VariableData) (xs ys : Assignment) → AreNames names → AreWritable names vs → AreGiven names ws vs xs → AreGiven names ws vs ys → xs ≡ ys
all_given_once names ws [] [] [] are writable a b = refl
all_given_once names ws [] [] (y ∷ ys) are writable a b = absurd b
all_given_once names ws [] (x ∷ xs) ys are writable a b = absurd a
all_given_once names ws (v ∷ vs) [] ys are writable a b = absurd a
all_given_once names ws (v ∷ vs) (x ∷ xs) [] are writable a b = absurd b
all_given_once names ws (v ∷ vs) (x ∷ xs) (y ∷ ys) are writable a b =
    let head = given_once names ws v x y are writable.0 a.0 b.0 in
    let tail = all_given_once names ws vs xs ys are writable.1 a.1 b.1 in
    cc
