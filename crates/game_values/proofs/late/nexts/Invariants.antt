use Rattle.std.proofs.Common.{◌≡◌, take, map}
use Rattle.spec_model.specs.Views.{formula}
use Rattle.spec_model.specs.Moves.{has_next}
use Rattle.game_values.proofs.late.nexts.Given as goal

abbrev pub invariant-loop-line : goal.invariant-loop-line
invariant-loop-line l = l.flags.items ≡ map (λ l'. has_next (formula l'.1)) (take l.line-index l.lines)
