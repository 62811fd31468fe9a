use Rattle.std.proofs.Common.{ap, arith, vec_len, sum, refl}
use Rattle.std.proofs.lemmas.Bool.{false≢true}
use Rattle.std.proofs.lemmas.List.{take_all}
use Rattle.gr1_sys.specs.Held.{ranks_of}
use Rattle.gr1_sys.proofs.Lists.{next_within}
use Rattle.gr1_sys.proofs.solving.fits.Goals as goal

pub returns-in-None : goal.returns-in-None
returns-in-None g c =
    let within = next_within vec_len c.args.goals.now c.loop-layers.layers-index c.layers-item.result c.loop-layers-test.true in
    let past = c.in-None.ensures in
    let inv = c.loop-layers.invariant.sum in
    let item = ap vec_len c.layers-item.is in
    (λ e. absurd (false≢true e), λ bound. absurd (past (omega (arith, within, inv, item, c.len.ensures, bound))))

pub returns : goal.returns
returns g c =
    let whole = ap (λ gs. sum (ranks_of gs)) (take_all c.loop-layers.layers-index c.args.goals.now c.loop-layers-test.false) in
    let inv = c.loop-layers.invariant.sum in
    (λ e. omega (arith, whole, inv, c.loop-layers.invariant.fits), λ bound. refl)
