use Rattle.std.proofs.Common.{◌≡◌, ℕ, ◌-◌, ◌<◌, ◌≤◌, false, length, get_or}
use Rattle.controller.specs.declared.replies.Reply.{Reply}
use Rattle.controller.specs.Replies.{IsRoomy}
use Rattle.controller.proofs.replies.Replies.make.Given as goal

-- each place so far has no reply, and room
abbrev pub invariant-loop-replies : goal.invariant-loop-replies
invariant-loop-replies l = record {
  within : length l.replies.items ≤ 128;
  empty : (k : ℕ) → k < length l.replies.items → (d : Reply) → ((get_or l.replies.items k d).filled ≡ false) × IsRoomy l.states l.inputs l.outputs (get_or l.replies.items k d);
}

abbrev pub decreases-loop-replies : goal.decreases-loop-replies
decreases-loop-replies l = 128 - length l.replies.items
