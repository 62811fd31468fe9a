-- Counts of choices, cut off past a limit.
use Rattle.std.proofs.Common.{◌≡◌, ℕ, zero, suc, ◌+◌, ◌*◌, ◌-◌, ◌<◌, ◌≤◌, ℤ, pos, ◌+ℤ◌, Bool, true, false, nat_lt, if◌then◌else◌, List, [], ◌∷◌, ◌++◌, length, map, min, refl, sym, ◌∙◌, ap, subst, arith, append_assoc, drop, get_or, ◌⊎◌, inl, inr}
use Rattle.std.specs.Prelude.{int_le, nat_abs, ◌-ℤ◌}
use Rattle.std.specs.List.{list_all}
use Rattle.std.proofs.lemmas.Bool.{and_parts, false≢true}
use Rattle.std.proofs.lemmas.List.{length-map}
use Rattle.std.proofs.Math.Nat.{mul-le-mul_right}
use borrow.Author.Tests.{ltb-true}
use Rattle.spec_model.specs.declared.value.Value.{Value}
use Rattle.spec_model.specs.declared.value.Value.TheVariants as value
use Rattle.spec_model.specs.declared.value.Owner.{Owner}
use Rattle.spec_model.specs.Values.{DomainData, TruthValues, WholeNumbers, Enumeration, values_of, rising_from, assignments_of}
use Rattle.spec_model.specs.Syntax.{VariableData}
use Rattle.spec_model.specs.Moves.{domains_of}
use Rattle.spec_model.specs.Games.{HiddenData}
use Rattle.spec_model.specs.Steps.{below, hidden_values}
use Rattle.spec_model.specs.WellMade.{is_domain}
use Rattle.game_states.proofs.ChoicePlaces.{length-grid}
use Rattle.game_values.proofs.Lists.{length-below}

pub rising_step : (row w : List Value) (z : ℤ) (i n : ℕ) → i < n → row ++ rising_from z (n - i) ≡ w → (row ++ value.Int z ∷ []) ++ rising_from (z +ℤ pos 1) (n - (i + 1)) ≡ w
rising_step row w z i n h so_far = let e : n - i ≡ suc (n - (i + 1)) = omega arith in append_assoc row (value.Int z ∷ []) (rising_from (z +ℤ pos 1) (n - (i + 1))) ∙ (rw e at so_far)

pub length-rising : (z : ℤ) (n : ℕ) → length (rising_from z n) ≡ n
length-rising z zero = refl
length-rising z (suc n) = ap suc (length-rising (z +ℤ pos 1) n)

-- a domain that is well made has a value
pub domain_filled : (d : DomainData) → is_domain d ≡ true → 1 ≤ length (values_of d)
domain_filled TruthValues e = omega arith
domain_filled (WholeNumbers lo hi) e = at (int_le lo hi) (and_parts (int_le lo hi) _ e).0
  where
    at : (b : Bool) → b ≡ true → 1 ≤ length (if b then rising_from lo (nat_abs (hi -ℤ lo) + 1) else [])
    at true e = let long = length-rising lo (nat_abs (hi -ℤ lo) + 1) in omega (arith, long)
    at false e = absurd (false≢true e)
domain_filled (Enumeration ns) e = let some = ltb-true 0 (length ns) (and_parts (nat_lt 0 (length ns)) _ e).0 in omega (arith, some, length-map ns (λ n. value.Name n))

pub length-assignments : (d : DomainData) (ds : List DomainData) → length (assignments_of (d ∷ ds)) ≡ length (values_of d) * length (assignments_of ds)
length-assignments d ds = length-grid (λ v. map (λ vs. v ∷ vs) (assignments_of ds)) (length (assignments_of ds)) (λ v. length-map (assignments_of ds) (λ vs. v ∷ vs)) (values_of d)

positive_product : (a b : ℕ) → 1 ≤ a → 1 ≤ b → 1 ≤ a * b
positive_product a b h k = let m = mul-le-mul_right b h in omega (arith, m)

pub assignments_filled : (ds : List DomainData) → list_all is_domain ds ≡ true → 1 ≤ length (assignments_of ds)
assignments_filled [] e = omega arith
assignments_filled (d ∷ ds) e =
    let parts = and_parts (is_domain d) (list_all is_domain ds) e in
    subst (λ n. 1 ≤ n) (sym (length-assignments d ds)) (positive_product _ _ (domain_filled d parts.0) (assignments_filled ds parts.1))

pub owned_filled : (test : Owner → Bool) (vs : List VariableData) → list_all (λ v. is_domain v.domain) vs ≡ true → 1 ≤ length (assignments_of (domains_of test vs))
owned_filled test [] e = omega arith
owned_filled test (v ∷ vs) e =
    let parts = and_parts (is_domain v.domain) (list_all (λ v. is_domain v.domain) vs) e in
    at (test v.owner) (owned_filled test vs parts.1) (subst (λ n. 1 ≤ n) (sym (length-assignments v.domain (domains_of test vs))) (positive_product _ _ (domain_filled v.domain parts.0) (owned_filled test vs parts.1)))
  where
    at : (b : Bool) → 1 ≤ length (assignments_of (domains_of test vs)) → 1 ≤ length (assignments_of (v.domain ∷ domains_of test vs)) → 1 ≤ length (assignments_of (if b then v.domain ∷ domains_of test vs else domains_of test vs))
    at true without with_it = with_it
    at false without with_it = without

pub min_times : (a m : ℕ) → 1 ≤ m → min 1025 (min 1025 a * m) ≡ min 1025 (a * m)
min_times a m h = by_cases less_or_not
  where
    less_or_not : (a ≤ 1025) ⊎ (1025 ≤ a)
    less_or_not = grind arith

    by_cases : (a ≤ 1025) ⊎ (1025 ≤ a) → min 1025 (min 1025 a * m) ≡ min 1025 (a * m)
    by_cases (inl less) = let is : min 1025 a ≡ a = omega arith in ap (λ b. min 1025 (b * m)) is
    by_cases (inr more) =
        let is : min 1025 a ≡ 1025 = omega arith in
        let large = mul-le-mul_right m more in
        ap (λ b. min 1025 (b * m)) is ∙ omega (arith, large)

pub count_more : (total n m : ℕ) → 1 ≤ m → min 1025 (min 1025 (total * n) * m) ≡ min 1025 (total * (n * m))
count_more total n m h = let e : total * n * m ≡ total * (n * m) = grind arith in min_times (total * n) m h ∙ ap (min 1025) e

-- ---- along a list

module _ {V D : Type 0} (data_of : V → D) (made : D → Bool) where
  made_at : (xs : List V) (i : ℕ) (x : V) → i < length xs → x ≡ get_or xs i x → list_all made (map data_of (drop i xs)) ≡ true → (made (data_of x) ≡ true) × (list_all made (map data_of (drop (suc i) xs)) ≡ true)
  made_at [] i x h e all = absurd (omega arith)
  made_at (y ∷ xs) zero x h e all = let parts = and_parts (made (data_of y)) (list_all made (map data_of xs)) all in (ap (λ z. made (data_of z)) e ∙ parts.0, parts.1)
  made_at (y ∷ xs) (suc i) x h e all = made_at xs i x (omega arith) e all

  pub made_here : (xs : List V) (i : ℕ) (x : V) → i < length xs → x ≡ get_or xs i x → list_all made (map data_of (drop i xs)) ≡ true → (made (data_of x) ≡ true) × (list_all made (map data_of (drop (i + 1) xs)) ≡ true)
  made_here xs i x h e all = let next : i + 1 ≡ suc i = omega arith in rw next (made_at xs i x h e all)

module _ (test : Owner → Bool) where
  pub count_owned_more : (v : VariableData) (vs : List VariableData) (total : ℕ) → test v.owner ≡ true → list_all (λ v. is_domain v.domain) vs ≡ true →
      min 1025 (min 1025 (total * length (values_of v.domain)) * length (assignments_of (domains_of test vs))) ≡ min 1025 (total * length (assignments_of (domains_of test (v ∷ vs))))
  count_owned_more v vs total owned made =
      count_more total (length (values_of v.domain)) (length (assignments_of (domains_of test vs))) (owned_filled test vs made)
      ∙ ap (λ n. min 1025 (total * n)) (sym (length-assignments v.domain (domains_of test vs)) ∙ ap (λ b. length (assignments_of (if b then v.domain ∷ domains_of test vs else domains_of test vs))) (sym owned))

  pub count_owned_same : (v : VariableData) (vs : List VariableData) → test v.owner ≡ false → domains_of test (v ∷ vs) ≡ domains_of test vs
  count_owned_same v vs other = ap (λ b. if b then v.domain ∷ domains_of test vs else domains_of test vs) other

length-hidden : (h : HiddenData) (hs : List HiddenData) → length (hidden_values (h ∷ hs)) ≡ h.values * length (hidden_values hs)
length-hidden h hs =
    length-grid (λ v. map (λ vs. v ∷ vs) (hidden_values hs)) (length (hidden_values hs)) (λ v. length-map (hidden_values hs) (λ vs. v ∷ vs)) (below h.values)
    ∙ ap (λ n. n * length (hidden_values hs)) (length-below h.values)

pub hidden_filled : (hs : List HiddenData) → list_all (λ h. nat_lt 0 h.values) hs ≡ true → 1 ≤ length (hidden_values hs)
hidden_filled [] e = omega arith
hidden_filled (h ∷ hs) e =
    let parts = and_parts (nat_lt 0 h.values) (list_all (λ h. nat_lt 0 h.values) hs) e in
    let some = ltb-true 0 h.values parts.0 in
    subst (λ n. 1 ≤ n) (sym (length-hidden h hs)) (positive_product _ _ (omega arith) (hidden_filled hs parts.1))

pub count_hidden_more : (h : HiddenData) (hs : List HiddenData) (total : ℕ) → list_all (λ h. nat_lt 0 h.values) hs ≡ true →
    min 1025 (min 1025 (total * h.values) * length (hidden_values hs)) ≡ min 1025 (total * length (hidden_values (h ∷ hs)))
count_hidden_more h hs total made =
    count_more total h.values (length (hidden_values hs)) (hidden_filled hs made)
    ∙ ap (λ n. min 1025 (total * n)) (sym (length-hidden h hs))

pub length-whole : (lo hi : ℤ) → is_domain (WholeNumbers lo hi) ≡ true → length (values_of (WholeNumbers lo hi)) ≡ nat_abs (hi -ℤ lo) + 1
length-whole lo hi e = ap (λ b. length (if b then rising_from lo (nat_abs (hi -ℤ lo) + 1) else [])) (and_parts (int_le lo hi) _ e).0 ∙ length-rising lo (nat_abs (hi -ℤ lo) + 1)
