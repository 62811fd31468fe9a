-- There is an assignment of the outputs of each well-made game.
use Rattle.std.proofs.Common.{◌≡◌, ℕ, zero, suc, ◌+◌, ◌<◌, ℤ, pos, ◌+ℤ◌, ◌-ℤ◌, nat_abs, int_le, nat_lt, Bool, true, false, ◌&&◌, List, [], ◌∷◌, length, map, flat_map, cond, refl, ap, ◌∙◌, arith}
use Rattle.std.specs.List.{list_all}
use Rattle.std.proofs.lemmas.Bool.{and_parts, ltb-true}
use Rattle.std.proofs.lemmas.List.{length-append, length-map}
use Rattle.spec_model.specs.declared.value.Value.{Value}
use Rattle.spec_model.specs.declared.value.Owner.{Owner}
use Rattle.spec_model.specs.declared.value.Value.TheVariants as value
use Rattle.spec_model.specs.Values.{DomainData, TruthValues, WholeNumbers, Enumeration, values_of, rising_from, assignments_of}
use Rattle.spec_model.specs.Syntax.{VariableData}
use Rattle.spec_model.specs.Moves.{domains_of}
use Rattle.spec_model.specs.WellMade.{is_domain}

length-rising : (z : ℤ) (n : ℕ) → length (rising_from z n) ≡ n
length-rising z zero = refl
length-rising z (suc n) = ap suc (length-rising (z +ℤ pos 1) n)

some_value : (d : DomainData) → is_domain d ≡ true → 0 < length (values_of d)
some_value TruthValues made = omega arith
some_value (WholeNumbers lo hi) made = of_range (int_le lo hi) (and_parts (int_le lo hi) _ made).0
  where
    of_range : (b : Bool) → b ≡ true → 0 < length (cond b (rising_from lo (nat_abs (hi -ℤ lo) + 1)) [])
    of_range true is = let e = length-rising lo (nat_abs (hi -ℤ lo) + 1) in omega arith
    of_range false is = absurd (cc)
some_value (Enumeration names) made =
    let some = ltb-true 0 (length names) (and_parts (nat_lt 0 (length names)) _ made).0 in
    let e = length-map names (λ n. value.Name n) in omega arith

some_flat : {X Y : Type 0} (f : X → List Y) (xs : List X) → 0 < length xs → ((x : X) → 0 < length (f x)) → 0 < length (flat_map f xs)
some_flat f [] some each = absurd (omega arith)
some_flat f (x ∷ xs) some each = let e = length-append (f x) (flat_map f xs) in let one = each x in omega arith

some_assignment : (ds : List DomainData) → list_all is_domain ds ≡ true → 0 < length (assignments_of ds)
some_assignment [] made = omega arith
some_assignment (d ∷ ds) made =
    let parts = and_parts (is_domain d) (list_all is_domain ds) made in
    let rest = some_assignment ds parts.1 in
    some_flat (λ v. map (λ vs. v ∷ vs) (assignments_of ds)) (values_of d) (some_value d parts.0)
    (λ v. let e = length-map (assignments_of ds) (λ (vs : List Value). v ∷ vs) in omega arith)

domains_made : (test : Owner → Bool) (vs : List VariableData) → list_all (λ (v : VariableData). is_domain v.domain) vs ≡ true → list_all is_domain (domains_of test vs) ≡ true
domains_made test [] made = refl
domains_made test (v ∷ vs) made =
    let parts = and_parts (is_domain v.domain) (list_all (λ (v : VariableData). is_domain v.domain) vs) made in
    by_owner (test v.owner) parts.0 (domains_made test vs parts.1)
  where
    by_owner : (b : Bool) → is_domain v.domain ≡ true → list_all is_domain (domains_of test vs) ≡ true → list_all is_domain (cond b (v.domain ∷ domains_of test vs) (domains_of test vs)) ≡ true
    by_owner true here rest = cc
    by_owner false here rest = rest

-- for variables that have values there is an assignment
pub some_choice : (test : Owner → Bool) (vs : List VariableData) → list_all (λ (v : VariableData). is_domain v.domain) vs ≡ true → 0 < length (assignments_of (domains_of test vs))
some_choice test vs made = some_assignment (domains_of test vs) (domains_made test vs made)

-- what does not depend on the element is so of all, where there is one
pub all_alike : {X : Type 0} (test : X → Bool) (answer : Bool) (xs : List X) → 0 < length xs → ((x : X) → test x ≡ answer) → list_all test xs ≡ answer
all_alike test answer [] some each = absurd (omega arith)
all_alike test answer (x ∷ []) some each = let e = each x in alone answer e
  where
    alone : (b : Bool) → test x ≡ b → (test x && true) ≡ b
    alone true e = cc
    alone false e = cc
all_alike test answer (x ∷ w ∷ xs) some each =
    let rest = all_alike test answer (w ∷ xs) (omega arith) each in
    ap (λ b. b && list_all test (w ∷ xs)) (each x) ∙ (ap (λ b. answer && b) rest ∙ same answer)
  where
    same : (b : Bool) → (b && b) ≡ b
    same true = refl
    same false = refl
