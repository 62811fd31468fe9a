-- The number of states of the game is within the size of the specification that it agrees with, and so K within its bound.
use Rattle.std.proofs.Common.{◌≡◌, ℕ, ◌≤◌, List, [], ◌∷◌, length, map, max, refl, sym, ◌∙◌, ap, arith}
use Rattle.std.proofs.Math.Nat.{mul-le-mul}
use Rattle.std.proofs.lemmas.List.{length-map}
use Rattle.spec_model.specs.Syntax.{Specification}
use Rattle.spec_model.specs.Rules.{Rules}
use Rattle.spec_model.specs.Moves.{is_guarantee, goals_of}
use Rattle.spec_model.specs.Games.{GameData, GoalData}
use Rattle.spec_model.specs.Sets.{StateSet, holding}
use Rattle.spec_model.specs.Verdicts.{most_rounds}
use Rattle.spec_model.specs.WellMade.{WellMade}
use Rattle.spec_model.specs.Agreement.{Agrees}
use Rattle.gr1_law.specs.Layers.{LayerSets, or_all_states, goal_sets, round_count}
use Rattle.gr1_law.specs.Specifications.{IsWonWith, SystemWinsWithRanks}
use Rattle.gr1_law.proofs.Settling.{ranks_few}
use Rattle.gr1_law.proofs.Carrying.{realizable}

pub sets_counted : (g : GameData) (sets : List StateSet) → length (or_all_states g sets) ≡ max 1 (length sets)
sets_counted g [] = refl
sets_counted g (a ∷ more) = omega arith

module _ (s : Specification) (g : GameData) (agrees : Agrees s g) where
  goals_counted : length (goal_sets g) ≡ max 1 (length (goals_of is_guarantee s))
  goals_counted =
      sets_counted g (map (λ (goal : GoalData). holding g goal.holds) g.goals)
      ∙ ap (max 1) (length-map g.goals (λ (goal : GoalData). holding g goal.holds)
      ∙ sym (ap (λ (r : Rules). length r.guarantees) (sym agrees.rules) ∙ length-map g.goals _))

  rounds_bounded : (z : StateSet) (l : LayerSets) (ranks : List ℕ) → IsWonWith g z l ranks → round_count ranks ≤ most_rounds s
  rounds_bounded z l ranks won =
      let few = ranks_few g z l ranks won.winning.layers won.greatest in
      let goals : length (goal_sets g) ≤ max 1 (length (goals_of is_guarantee s)) = omega (arith, goals_counted) in
      omega (arith, few, mul-le-mul goals agrees.few_states)

  pub system_wins : WellMade g → SystemWinsWithRanks s g
  system_wins made z l ranks won = record { realizable = realizable s g agrees made z l ranks won; bound = rounds_bounded z l ranks won }
