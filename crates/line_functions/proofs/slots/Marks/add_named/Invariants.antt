use Rattle.std.proofs.Common.{◌≡◌, ◌++◌, map, filter}
use Rattle.spec_model.specs.Views.{formula}
use Rattle.spec_model.specs.GameViews.{game_data}
use Rattle.spec_model.specs.Steps.{below}
use Rattle.line_functions.specs.Names.{is_named, slot_at}
use Rattle.line_functions.proofs.slots.Marks.add_named.Given as goal

-- the slots so far
abbrev pub invariant-loop-k : goal.invariant-loop-k
invariant-loop-k l = l.named.items ≡ l.fn.named.items ++ map (slot_at l.time) (filter (is_named (game_data l.game) (formula l.e) l.time) (below l.k))
