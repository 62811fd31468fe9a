use Rattle.std.proofs.Common.{◌≤◌, ◌-◌, length, map}
use Rattle.spectra_uses.proofs.UsersFound.{HasNoUser}
use Rattle.spectra_uses.proofs.users.no_users.Given as goal

abbrev pub invariant-loop-alloc : goal.invariant-loop-alloc
invariant-loop-alloc l = record { few : length l.users.items ≤ length l.uses; none : HasNoUser (map (λ us. us.items) l.users.items) }

abbrev pub decreases-loop-alloc : goal.decreases-loop-alloc
decreases-loop-alloc l = length l.uses - length l.users.items
