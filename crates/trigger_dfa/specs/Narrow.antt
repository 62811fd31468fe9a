-- The limits of a trigger.
use Rattle.std.specs.Prelude.{◌≤◌, length}
use Rattle.spec_model.specs.Syntax.{TriggerData}
use Rattle.spec_model.specs.TriggerStates.{written, brackets, trigger_atoms, trigger_states}

-- at most 8 atoms, 64 positions on each side, and 256 states in both sides together
pub record IsNarrow (tr : TriggerData) : Type 0 where
  pub atoms : length (trigger_atoms tr) ≤ 8
  pub cause : length (brackets (written tr.cause)) ≤ 64
  pub effect : length (brackets (written tr.effect)) ≤ 64
  pub states : trigger_states tr ≤ 256
