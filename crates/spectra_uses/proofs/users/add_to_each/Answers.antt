use Rattle.std.proofs.Common.{map, get_or, arith}
use Rattle.spectra_uses.proofs.Reaching.{at_place}
use Rattle.spectra_uses.proofs.UsersFound.{adds_none, adds_on, adds_all}
use Rattle.spectra_uses.proofs.users.add_to_each.Goals as goal

pub loop-used-init : goal.loop-used-init
loop-used-init c = adds_none (map (λ us. us.items) c.args.users.now.items) c.args.user c.args.list.now

pub loop-used-preserved : goal.loop-used-preserved
loop-used-preserved c =
    let list = c.args.list.now in
    let k = c.loop-used.used-index in
    adds_on (map (λ us. us.items) c.args.users.now.items) (map (λ us. us.items) c.loop-used.users.items) (map (λ us. us.items) c.add_user.new.users.items) c.args.user list k (get_or list k 0)
    (at_place list k (omega arith)) c.loop-used.invariant c.in_ok-add_user.ensures

pub returns : goal.returns
returns c = adds_all (map (λ us. us.items) c.args.users.now.items) (map (λ us. us.items) c.loop-used.users.items) c.args.user c.args.list.now c.loop-used.used-index c.loop-used.invariant (omega arith)
