-- The names and the values of a well-typed specification may stand on lines.
use Rattle.std.proofs.Common.{◌≡◌, ℕ, zero, suc, ◌<◌, ◌^◌, ℤ, pos, neg_ℤ, ◌-ℤ◌, ◌≤ℤ◌, int_le, int_lt, Bool, true, false, not, ◌&&◌, ◌||◌, ◌==◌, nat_lt, cond, is_some, if◌then◌else◌, List, [], ◌∷◌, length, map, filter, get_or, Some, None, All, ◌⊎◌, inl, inr, refl, sym, ap, subst, ◌∙◌, arith}
use Rattle.std.specs.List.{list_all, list_any}
use Rattle.std.specs.Char.{is_ascii_alphanumeric}
use Rattle.std.specs.Str.{bytes_eq}
use Rattle.std.proofs.lemmas.Bool.{and_parts, or_parts, or_from, or_cases, not-true, eqb-true, ltb-true, false≢true}
use Rattle.std.proofs.lemmas.Int.{ints}
use Rattle.std.proofs.lemmas.List.Elements.{All-head, All-tail}
use Rattle.std.proofs.lemmas.List.Folds.{list_any_at}
use Rattle.std.proofs.lemmas.Slice.Eq.{bytes_eq-Decides}
use lib.Signed.{mag}
use Rattle.spec_model.specs.Values.{DomainData, TruthValues, WholeNumbers, Enumeration, Assignment, is_assignment}
use Rattle.spec_model.specs.Syntax.{VariableData, Specification}
use Rattle.spec_model.specs.Typing.{Whole, whole}
use Rattle.spec_model.specs.WellMade.{all_differ, is_domain}
use Rattle.spec_model.specs.Names.{IsVariableName}
use Rattle.spec_model.specs.WellTyped.{WellTyped, is_domain_of}
use Rattle.spec_model.proofs.SpelledNames.{none_in_name, none_in_variable}
use Rattle.spec_model.proofs.SameNames.{differ-bytes}
use Rattle.session_lines.specs.Shown.{show}
use Rattle.session_lines.specs.Reading.{is_blank, words, Reads}
use Rattle.session_lines.specs.Room.{domains}
use Rattle.session_lines.specs.Plain.{IsPlain, ArePlain, IsWritable, AreWritable, AreNames}
use Rattle.session_lines.proofs.Values.{mag_between}
use Rattle.session_lines.proofs.ShownIsRead.{shown_reads}
use Rattle.session_lines.proofs.OneReading.{all_given_once}

-- ---- blanks and equals signs stand in no name, nor in a variable's

abbrev IsOutside : ℕ → Type 0
IsOutside c = (c < 128) × ((is_ascii_alphanumeric c || c == 95) ≡ false)

space_outside : IsOutside 32
space_outside = (omega arith, refl)

tab_outside : IsOutside 9
tab_outside = (omega arith, refl)

sign_outside : IsOutside 61
sign_outside = (omega arith, refl)

same_outside : (c d : ℕ) → (c == d) ≡ true → IsOutside d → IsOutside c
same_outside c d same out = subst IsOutside (sym (eqb-true c d same)) out

blank_outside : (c : ℕ) → is_blank c ≡ true → IsOutside c
blank_outside c blank = by (or_cases (c == 32) (c == 9) blank)
  where
    by : ((c == 32) ≡ true) ⊎ ((c == 9) ≡ true) → IsOutside c
    by (inl space) = same_outside c 32 space space_outside
    by (inr tab) = same_outside c 9 tab tab_outside

mark_outside : (c : ℕ) → (is_blank c || c == 61) ≡ true → IsOutside c
mark_outside c mark = by (or_cases (is_blank c) (c == 61) mark)
  where
    by : (is_blank c ≡ true) ⊎ ((c == 61) ≡ true) → IsOutside c
    by (inl blank) = blank_outside c blank
    by (inr sign) = same_outside c 61 sign sign_outside

-- ---- enum names

abbrev at : List (List ℕ) → ℕ → List ℕ
at names n = get_or names n []

never_again : (name : List ℕ) (names : List (List ℕ)) (n : ℕ) → not (list_any (bytes_eq name) names) ≡ true → n < length names → name ≡ at names n → ⊥
never_again name names n none below same =
    false≢true (sym (not-true _ none) ∙ list_any_at (bytes_eq name) names n [] below ((bytes_eq-Decides name (at names n)).1 same))

differ_at : (names : List (List ℕ)) → all_differ bytes_eq names ≡ true → (m n : ℕ) → m < length names → n < length names → at names m ≡ at names n → m ≡ n
differ_at [] differ m n first second same = absurd (omega arith)
differ_at (name ∷ names) differ zero zero first second same = refl
differ_at (name ∷ names) differ zero (suc n) first second same = absurd (never_again name names n (and_parts (not (list_any (bytes_eq name) names)) _ differ).0 (omega arith) same)
differ_at (name ∷ names) differ (suc m) zero first second same = absurd (never_again name names m (and_parts (not (list_any (bytes_eq name) names)) _ differ).0 (omega arith) (sym same))
differ_at (name ∷ names) differ (suc m) (suc n) first second same = ap suc (differ_at names (and_parts (not (list_any (bytes_eq name) names)) _ differ).1 m n (omega arith) (omega arith) same)

names_are : (s : Specification) → WellTyped s → AreNames s.names
names_are s typed =
    record {
      whole = λ n below. none_in_name is_blank blank_outside (at s.names n) (typed.spelled_names n [] below);
      differ = differ_at s.names (sym (differ-bytes s.names) ∙ typed.different_names);
    }

-- ---- variables

abbrev names_of : List VariableData → List (List ℕ)
names_of vs = map (λ v. v.name) vs

module _ (keep : VariableData → Bool) where
  none_kept : (name : List ℕ) (vs : List VariableData) → list_any (bytes_eq name) (names_of vs) ≡ false → list_any (bytes_eq name) (names_of (filter keep vs)) ≡ false
  none_kept name [] none = refl
  none_kept name (v ∷ vs) none =
      let parts = or_parts (bytes_eq name v.name) (list_any (bytes_eq name) (names_of vs)) none in
      by (keep v) parts.0 (none_kept name vs parts.1)
    where
      by : (b : Bool) → bytes_eq name v.name ≡ false → list_any (bytes_eq name) (names_of (filter keep vs)) ≡ false → list_any (bytes_eq name) (names_of (cond b (v ∷ filter keep vs) (filter keep vs))) ≡ false
      by true here later = or_from _ _ here later
      by false here later = later

  plain_kept : (vs : List VariableData) → all_differ bytes_eq (names_of vs) ≡ true → All (λ (v : VariableData). IsVariableName v.name) vs → ArePlain (names_of (filter keep vs))
  plain_kept [] differ spelled = tt
  plain_kept (v ∷ vs) differ spelled =
      let parts = and_parts (not (list_any (bytes_eq v.name) (names_of vs))) (all_differ bytes_eq (names_of vs)) differ in
      by (keep v) (not-true _ parts.0) (plain_kept vs parts.1 (All-tail (λ (v : VariableData). IsVariableName v.name) v vs spelled))
    where
      plain : IsPlain v.name
      plain = none_in_variable (λ c. is_blank c || c == 61) mark_outside refl refl v.name (All-head (λ (v : VariableData). IsVariableName v.name) v vs spelled)

      by : (b : Bool) → list_any (bytes_eq v.name) (names_of vs) ≡ false → ArePlain (names_of (filter keep vs)) → ArePlain (names_of (cond b (v ∷ filter keep vs) (filter keep vs)))
      by true none rest = (plain, none_kept v.name vs none, rest)
      by false none rest = rest

-- ---- values

if_some : {X : Type 0} (b : Bool) (x : X) → is_some (if b then Some x else None) ≡ true → b ≡ true
if_some true x some = refl
if_some false x some = some

small_number : (z : ℤ) → neg_ℤ (pos (10 ^ 12)) ≤ℤ z → z ≤ℤ pos (10 ^ 12) → mag z < 2 ^ 63
small_number z low high = mag_between z (neg_ℤ (pos (10 ^ 12))) (pos (10 ^ 12)) (2 ^ 63) low high (omega arith) (omega arith)

small_bounds : (lo hi : ℤ) → is_domain (WholeNumbers lo hi) ≡ true → (mag lo < 2 ^ 63) × (mag hi < 2 ^ 63)
small_bounds lo hi is =
    let parts = and_parts (int_le lo hi) (is_some (whole lo hi)) is in
    let inside = if_some (int_le (neg_ℤ (pos (10 ^ 12))) lo && int_le hi (pos (10 ^ 12)) && int_lt (hi -ℤ lo) (pos 4096)) (Whole lo hi) parts.1 in
    let ends = and_parts (int_le (neg_ℤ (pos (10 ^ 12))) lo && int_le hi (pos (10 ^ 12))) (int_lt (hi -ℤ lo) (pos 4096)) inside in
    let each = and_parts (int_le (neg_ℤ (pos (10 ^ 12))) lo) (int_le hi (pos (10 ^ 12))) ends.0 in
    let rises = parts.0 in
    let first = each.0 in
    let last = each.1 in
    (small_number lo (grind (arith, ints)) (grind (arith, ints)), small_number hi (grind (arith, ints)) (grind (arith, ints)))

each_below : (n : ℕ) (ks : List ℕ) → list_all (λ k. nat_lt k n) ks ≡ true → (k : ℕ) → k < length ks → get_or ks k 0 < n
each_below n [] all k below = absurd (omega arith)
each_below n (j ∷ ks) all zero below = ltb-true j n (and_parts (nat_lt j n) (list_all (λ k. nat_lt k n) ks) all).0
each_below n (j ∷ ks) all (suc k) below = each_below n ks (and_parts (nat_lt j n) (list_all (λ k. nat_lt k n) ks) all).1 k (omega arith)

writable : (names : List (List ℕ)) (d : DomainData) → is_domain_of (length names) d ≡ true → IsWritable names d
writable names TruthValues is = tt
writable names (WholeNumbers lo hi) is = small_bounds lo hi is
writable names (Enumeration ns) is = each_below (length names) ns (and_parts (is_domain (Enumeration ns)) (list_all (λ k. nat_lt k (length names)) ns) is).1

kept_writable : (names : List (List ℕ)) (keep : VariableData → Bool) (vs : List VariableData) → list_all (λ (v : VariableData). is_domain_of (length names) v.domain) vs ≡ true → AreWritable names (filter keep vs)
kept_writable names keep [] all = tt
kept_writable names keep (v ∷ vs) all =
    let parts = and_parts (is_domain_of (length names) v.domain) (list_all (λ (v : VariableData). is_domain_of (length names) v.domain) vs) all in
    by (keep v) parts.0 (kept_writable names keep vs parts.1)
  where
    by : (b : Bool) → is_domain_of (length names) v.domain ≡ true → AreWritable names (filter keep vs) → AreWritable names (cond b (v ∷ filter keep vs) (filter keep vs))
    by true is rest = (writable names v.domain is, rest)
    by false is rest = rest

-- ---- lines

module _ (s : Specification) (typed : WellTyped s) (keep : VariableData → Bool) where
  abbrev kept : List VariableData
  kept = filter keep s.variables

  are_writable : AreWritable s.names kept
  are_writable = kept_writable s.names keep s.variables typed.domains

  -- what is shown of some of its variables reads as it
  pub typed_shown : (xs : Assignment) → is_assignment (domains kept) xs ≡ true → Reads s.names kept (show s.names kept xs) xs
  typed_shown xs is =
      shown_reads s.names kept xs (names_are s typed) are_writable (plain_kept keep s.variables (sym (differ-bytes (names_of s.variables)) ∙ typed.different_variables) typed.spelled_variables) is

  -- and reads as nothing else
  pub typed_once : (line : List ℕ) (xs ys : Assignment) → Reads s.names kept line xs → Reads s.names kept line ys → xs ≡ ys
  typed_once line xs ys a b = all_given_once s.names (words line) kept xs ys (names_are s typed) are_writable a.given b.given
