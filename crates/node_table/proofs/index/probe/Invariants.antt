use Rattle.std.proofs.Common.{◌≡◌, ◌+◌, ◌<◌, ℕ, length}
use Rattle.node_table.specs.Index.{slot_for, named_at, IsPassed}
use Rattle.node_table.proofs.index.probe.Given as goal

abbrev pub invariant-loop-steps : goal.invariant-loop-steps
invariant-loop-steps l = record {
  within : l.at < length l.slots;
  place : l.at ≡ slot_for l.slots l.node (l.steps + 1);
  passed : (d : ℕ) → d < l.steps + 1 → IsPassed l.nodes l.node (named_at l.slots l.node d);
}
