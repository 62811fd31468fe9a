use Rattle.std.proofs.Common.{◌≡◌, length, map, subst, arith}
use Rattle.spectra_uses.specs.Users.{AddsUser, AreUsers}
use Rattle.spectra_uses.proofs.UsersFound.{users_on}
use Rattle.spectra_uses.proofs.users.users_of.Goals as goal

pub loop-user-preserved : goal.loop-user-preserved
loop-user-preserved c =
    let uses = map (λ us. us.items) c.args.uses.now in
    let old = map (λ us. us.items) c.loop-user.users.items in
    let new = map (λ us. us.items) c.add_to_each.new.users.items in
    let user = c.loop-user.user in
    users_on uses old new user c.loop-user.invariant (subst (AddsUser old new user) c.uses_at.ensures c.in_ok-add_to_each.ensures)

pub returns : goal.returns
returns c =
    let done : c.loop-user.user ≡ length c.args.uses.now = omega arith in
    subst (AreUsers (map (λ us. us.items) c.args.uses.now) (map (λ us. us.items) c.loop-user.users.items)) done c.loop-user.invariant
