use Rattle.std.proofs.Common.{◌≡◌, vec_len}
use Rattle.spec_model.specs.Views.{regular}
use Rattle.spec_model.specs.Around.{around}
use Rattle.spec_model.proofs.copy_lines.repeated.Given as goal

-- with those that are left around it, it is all
abbrev pub invariant-repeats : goal.invariant-repeats
invariant-repeats l = around l.left.items (regular l.made) ≡ around l.fn.repeats.items (regular l.fn.piece)

abbrev pub decreases-repeats : goal.decreases-repeats
decreases-repeats l = vec_len l.left
