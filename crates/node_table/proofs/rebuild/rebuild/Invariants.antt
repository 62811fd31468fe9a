use Rattle.std.proofs.Common.{◌≡◌, ◌+◌, take, vec_len}
use Rattle.std.specs.Prelude.{count_by}
use Rattle.node_table.specs.Index.{IsIndex, LiveBelow, used}
use Rattle.node_table.proofs.rebuild.rebuild.Given as goal

abbrev pub invariant-loop-n : goal.invariant-loop-n
invariant-loop-n l = record {
  index : IsIndex l.slots.items l.nodes (LiveBelow l.live l.n);
  counted : used l.slots.items + 2 ≡ count_by (λ b. b) (take l.n l.live);
  size : vec_len l.slots ≡ vec_len l.initial.slots;
}
