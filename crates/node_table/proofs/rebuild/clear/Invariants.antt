use Rattle.std.proofs.Common.{◌≡◌, ℕ, ◌<◌, get_or, vec_len}
use Rattle.node_table.proofs.rebuild.clear.Given as goal

abbrev pub invariant-loop-slot : goal.invariant-loop-slot
invariant-loop-slot l = record {
  empty : (k : ℕ) → k < l.slot → get_or l.slots.items k 0 ≡ 0;
  size : vec_len l.slots ≡ vec_len l.initial.slots;
}
