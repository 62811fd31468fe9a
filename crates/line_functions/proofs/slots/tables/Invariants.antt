use Rattle.std.proofs.Common.{◌≡◌, map}
use Rattle.spec_model.specs.GameViews.{game_data}
use Rattle.spec_model.specs.Steps.{below}
use Rattle.line_functions.specs.Names.{marks_of}
use Rattle.line_functions.proofs.slots.tables.Given as goal

abbrev pub invariant-loop-k : goal.invariant-loop-k
invariant-loop-k l = map (λ t. t.items) l.all.items ≡ map (marks_of (game_data l.game)) (below l.k)
