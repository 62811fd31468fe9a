-- The greatest set that equals its own value, as a function: the value is taken as often as there are states.
use Rattle.std.proofs.Common.{◌≡◌, ℕ, zero, suc, ◌<◌, ◌≤◌, ◌⊎◌, inl, inr, refl, sym, ◌∙◌, ap, subst, arith, IsTrue}
use Rattle.spec_model.specs.Games.{GameData}
use Rattle.spec_model.specs.Steps.{states_of}
use Rattle.spec_model.specs.Sets.{StateSet, all_states, IsPartOf, IsGreatest}
use Rattle.spec_model.specs.Counts.{count_in}
use Rattle.spec_model.proofs.SetLaws.{same_set}
use Rattle.spec_model.proofs.Fixpoints.{IsFalling, falling-first, falling-next, falling-last}

iterate : (StateSet → StateSet) → ℕ → StateSet → StateSet
iterate value zero z = z
iterate value (suc n) z = iterate value n (value z)

pub greatest_of : GameData → (StateSet → StateSet) → StateSet
greatest_of g value = iterate value (count_in (all_states g) (states_of g)) (all_states g)

-- a set that is its own value stays
iterate-settled : (value : StateSet → StateSet) (n : ℕ) (z : StateSet) → z ≡ value z → iterate value n z ≡ z
unfolding iterate
iterate-settled value zero z settled = refl
iterate-settled value (suc n) z settled = ap (iterate value n) (sym settled) ∙ iterate-settled value n z settled

module _ (g : GameData) (value : StateSet → StateSet) (grows : (t u : StateSet) → IsPartOf t u → IsPartOf (value t) (value u)) (inside : (t : StateSet) → IsPartOf (value t) (all_states g)) where
  abbrev size : StateSet → ℕ
  size z = count_in z (states_of g)

  settled : (z : StateSet) → IsFalling g value z → size z ≤ size (value z) → z ≡ value z
  settled z falling enough = sym (same_set g (value z) z falling.falls falling.proper enough)

  fewer_or_settled : (z : StateSet) → IsFalling g value z → (size (value z) < size z) ⊎ (z ≡ value z)
  fewer_or_settled z falling = by_cases or_not
    where
      or_not : (size (value z) < size z) ⊎ (size z ≤ size (value z))
      or_not = grind arith

      by_cases : (size (value z) < size z) ⊎ (size z ≤ size (value z)) → (size (value z) < size z) ⊎ (z ≡ value z)
      by_cases (inl fewer) = inl fewer
      by_cases (inr enough) = inr (settled z falling enough)

  iterate-greatest : (n : ℕ) (z : StateSet) → IsFalling g value z → size z ≤ n → IsGreatest value (iterate value n z)
  unfolding iterate
  iterate-greatest zero z falling few = falling-last g value grows inside z falling (settled z falling (omega arith))
  iterate-greatest (suc n) z falling few =
      elim (fewer_or_settled z falling) [
        | inl fewer ↦ iterate-greatest n (value z) (falling-next g value grows inside z falling) (omega arith)
        | inr done ↦ subst (IsGreatest value) (sym (ap (iterate value n) (sym done) ∙ iterate-settled value n z done)) (falling-last g value grows inside z falling done)
      ]

  pub greatest_of-greatest : IsGreatest value (greatest_of g value)
  unfolding greatest_of
  greatest_of-greatest = iterate-greatest _ (all_states g) (falling-first g value grows inside) (omega arith)

-- a value that gives no less has no smaller greatest set
pub greatest_grows : (value value' : StateSet → StateSet) (a b : StateSet) → IsGreatest value a → IsGreatest value' b → ((t : StateSet) → IsPartOf (value t) (value' t)) → IsPartOf a b
greatest_grows value value' a b of_a of_b more = of_b.above a (λ s e. more a s (subst (λ (t : StateSet). IsTrue (t s)) of_a.solves e))
