use Rattle.std.proofs.Common.{◌≡◌, ◌++◌, map, length}
use Rattle.std.specs.List.{range_with_len}
use Rattle.spec_model.specs.GameViews.{game_data}
use Rattle.bit_compile.specs.Compiled.{place_of}
use Rattle.spec_order.proofs.slots.declared_slots.Given as goal

-- the slots of the hidden tables and of the first variables
abbrev pub invariant-loop-k : goal.invariant-loop-k
invariant-loop-k l = l.slots.items ≡ range_with_len 0 (length (game_data l.game).hidden) ++ map (place_of (game_data l.game)) (range_with_len 0 l.k)
