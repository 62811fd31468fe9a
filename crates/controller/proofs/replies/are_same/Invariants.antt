use Rattle.std.proofs.Common.{◌≡◌, ℕ, ◌<◌, length, get_or}
use Rattle.spec_model.specs.declared.value.Value.{Value}
use Rattle.controller.proofs.replies.are_same.Given as goal

abbrev pub invariant-loop-i : goal.invariant-loop-i
invariant-loop-i l = (k : ℕ) → k < l.i → (d : Value) → get_or l.first k d ≡ get_or l.second k d
