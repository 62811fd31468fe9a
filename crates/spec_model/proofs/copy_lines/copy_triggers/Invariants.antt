use Rattle.std.proofs.Common.{◌≡◌, map, take}
use Rattle.spec_model.specs.Views.{trigger_data}
use Rattle.spec_model.proofs.copy_lines.copy_triggers.Given as goal

abbrev pub invariant-loop-trigger : goal.invariant-loop-trigger
invariant-loop-trigger l = map trigger_data l.copies.items ≡ map trigger_data (take l.trigger-index l.triggers)
