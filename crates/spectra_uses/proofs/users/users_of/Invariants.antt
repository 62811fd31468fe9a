use Rattle.std.proofs.Common.{map}
use Rattle.spectra_uses.specs.Users.{AreUsers}
use Rattle.spectra_uses.proofs.users.users_of.Given as goal

-- the users among those so far
abbrev pub invariant-loop-user : goal.invariant-loop-user
invariant-loop-user l = AreUsers (map (λ us. us.items) l.uses) (map (λ us. us.items) l.users.items) l.user
