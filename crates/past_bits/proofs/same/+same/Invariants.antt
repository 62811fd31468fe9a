use Rattle.std.proofs.Common.{◌≡◌, drop}
use Rattle.spec_model.specs.Sizes.{same_formulas}
use Rattle.game_values.specs.Safety.{formulas_in}
use Rattle.past_bits.proofs.same.+same.Given as goal

-- what is left decides
abbrev pub invariant-are_same_trees-loop-k : goal.invariant-are_same_trees-loop-k
invariant-are_same_trees-loop-k l = same_formulas (formulas_in (drop l.k l.xs)) (formulas_in (drop l.k l.ys)) ≡ same_formulas (formulas_in l.xs) (formulas_in l.ys)
