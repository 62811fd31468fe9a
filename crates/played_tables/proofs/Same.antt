-- What is the same as itself, what is left of a list, and the first check that fails.
use Rattle.std.proofs.Common.{◌≡◌, ℕ, ◌==◌, Bool, true, false, not, cond, List, [], ◌∷◌, Some, None, filter, refl, ◌∙◌, ap}
use Rattle.std.proofs.lemmas.Bool.{and_from, eq-eqb}
use Rattle.spec_model.specs.Values.{Assignment}
use Rattle.spec_model.specs.Games.{State}
use Rattle.spec_model.proofs.AllStates.{Every}
use Rattle.spec_model.proofs.Listed.{same_value-refl}
use Rattle.strategy_tables.specs.Tables.{same_values, same_numbers, same_state}
use Rattle.strategy_tables.specs.Rules.{Check, first_flaw}

pub same_values-refl : (vs : Assignment) → same_values vs vs ≡ true
same_values-refl [] = refl
same_values-refl (v ∷ vs) = and_from _ _ (same_value-refl v) (same_values-refl vs)

same_numbers-refl : (ns : List ℕ) → same_numbers ns ns ≡ true
same_numbers-refl [] = refl
same_numbers-refl (n ∷ ns) = and_from _ _ (eq-eqb n n refl) (same_numbers-refl ns)

pub same_state-refl : (s : State) → same_state s s ≡ true
same_state-refl s = and_from _ _ (same_numbers-refl s.hidden) (and_from _ _ (same_values-refl s.position.input) (same_values-refl s.position.output))

-- what passes is what it was, and passes
pub every_filtered : {X : Type 0} (P : X → Type 0) (p : X → Bool) (xs : List X) → Every P xs → Every (λ x. P x × (p x ≡ true)) (filter p xs)
every_filtered P p [] all = tt
every_filtered P p (x ∷ xs) all = at (p x) refl (every_filtered P p xs all.1)
  where
    at : (b : Bool) → p x ≡ b → Every (λ x. P x × (p x ≡ true)) (filter p xs) → Every (λ x. P x × (p x ≡ true)) (cond b (x ∷ filter p xs) (filter p xs))
    at true is rest = ((all.0, is), rest)
    at false is rest = rest

abbrev pub check : (rule node : ℕ) → Bool → Check
check rule node holds = record { rule = rule; node = node; holds = holds }

-- one more check that holds
pub one_more : (rule node : ℕ) (holds : Bool) (checks : List Check) → holds ≡ true → first_flaw checks ≡ None → first_flaw (check rule node holds ∷ checks) ≡ None
one_more rule node holds checks is rest = ap (λ (b : Bool). cond (not b) (Some (check rule node holds)) (first_flaw checks)) is ∙ rest
