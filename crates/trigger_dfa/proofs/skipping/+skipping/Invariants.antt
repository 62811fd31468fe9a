use Rattle.std.proofs.Common.{◌≡◌, ◌≤◌}
use Rattle.spec_model.specs.declared.expr.Regex.{size-Regex}
use Rattle.spec_model.specs.Views.{regular}
use Rattle.spec_model.specs.TriggerStates.{written, is_skipped}
use Rattle.trigger_dfa.proofs.Skipped.{turn_from, one_from}
use Rattle.trigger_dfa.proofs.skipping.+skipping.Given as goal

-- what is left matches nothing where all does
abbrev pub invariant-can_be_skipped-repeats : goal.invariant-can_be_skipped-repeats
invariant-can_be_skipped-repeats l = record {
  same : is_skipped (written (regular l.part)) ≡ is_skipped (written (regular l.r));
  no_larger : size-Regex l.part ≤ size-Regex l.r;
}

abbrev pub invariant-can_all_be_skipped-loop-r : goal.invariant-can_all_be_skipped-loop-r
invariant-can_all_be_skipped-loop-r l = turn_from l.rs l.r-index ≡ turn_from l.rs 0

abbrev pub invariant-can_one_be_skipped-loop-r : goal.invariant-can_one_be_skipped-loop-r
invariant-can_one_be_skipped-loop-r l = one_from l.rs l.r-index ≡ one_from l.rs 0
