use Rattle.std.proofs.Common.{◌≤◌}
use Rattle.spec_model.specs.declared.expr.Regex.{size-Regex}
use Rattle.spec_model.specs.Views.{regular}
use Rattle.spec_model.specs.TriggerStates.{written}
use Rattle.trigger_dfa.specs.Sides.{size_of}
use Rattle.trigger_dfa.specs.Wraps.{Wraps}
use Rattle.trigger_dfa.proofs.unwrapping.unwrapped.Given as goal

-- what was taken off stands around what is left
abbrev pub invariant-repeats : goal.invariant-repeats
invariant-repeats l = record {
  wraps : Wraps l.starred l.optional (written (regular l.piece)) (written (regular l.r));
  smaller : size_of (regular l.piece) ≤ size_of (regular l.r);
}

abbrev pub decreases-repeats : goal.decreases-repeats
decreases-repeats l = size-Regex l.piece
