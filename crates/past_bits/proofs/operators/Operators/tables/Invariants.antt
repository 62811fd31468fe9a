use Rattle.std.proofs.Common.{◌≡◌, map, take}
use Rattle.spec_model.specs.GameViews.{hidden_data}
use Rattle.past_bits.specs.Bits.{tree_of, table_of}
use Rattle.past_bits.proofs.operators.Operators.tables.Given as goal

-- the tables so far
abbrev pub invariant-loop-o : goal.invariant-loop-o
invariant-loop-o l = map hidden_data l.hidden.items ≡ map (table_of (map tree_of l.self)) (map tree_of (take l.o-index l.self))
