use Rattle.std.proofs.Common.{◌≡◌, map, take}
use Rattle.spec_model.specs.Views.{formula}
use Rattle.past_bits.specs.Entries.{with_entries}
use Rattle.past_bits.specs.Bits.{tree_of}
use Rattle.past_bits.proofs.operators.Operators.+entering.Given as goal

-- the copies so far
abbrev pub invariant-each-loop-e : goal.invariant-each-loop-e
invariant-each-loop-e l = map formula l.copies.items ≡ map (λ e. with_entries (map tree_of l.self) (formula e)) (take l.e-index l.es)
