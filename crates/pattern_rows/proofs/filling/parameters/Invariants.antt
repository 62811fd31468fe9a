use Rattle.std.proofs.Common.{◌≡◌, map}
use Rattle.spec_model.specs.Syntax.{Variable}
use Rattle.spec_model.specs.Views.{formula}
use Rattle.spec_model.specs.Steps.{below}
use Rattle.pattern_rows.proofs.filling.parameters.Given as goal

abbrev pub invariant-loop-k : goal.invariant-loop-k
invariant-loop-k l = map formula l.atoms.items ≡ map (λ k. Variable k) (below l.k)
