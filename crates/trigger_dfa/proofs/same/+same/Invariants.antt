use Rattle.std.proofs.Common.{◌≡◌, drop, map}
use Rattle.spec_model.specs.Sizes.{same_formulas}
use Rattle.spec_model.specs.Syntax.{formulas}
use Rattle.spec_model.specs.Views.{formula}
use Rattle.trigger_dfa.proofs.same.+same.Given as goal

-- what is left decides
abbrev pub invariant-are_same_trees-loop-k : goal.invariant-are_same_trees-loop-k
invariant-are_same_trees-loop-k l = same_formulas (formulas (map formula (drop l.k l.xs))) (formulas (map formula (drop l.k l.ys))) ≡ same_formulas (formulas (map formula l.xs)) (formulas (map formula l.ys))
