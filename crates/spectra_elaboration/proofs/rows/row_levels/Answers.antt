use Rattle.std.proofs.Common.{arith}
use Rattle.spectra_elaboration.proofs.Unwound.{rows_left, one_at_most}
use Rattle.spectra_elaboration.proofs.rows.row_levels.Goals as goal

pub loop-place-preserved : goal.loop-place-preserved
loop-place-preserved c =
    let ps = c.args.pieces.now in
    let k = c.loop-place.place in
    let all = c.loop-place.invariant.all in
    let few = c.loop-place.invariant.few in
    let step = rows_left ps k c.loop-place-test.true in
    let own = c.own_levels-levels.ensures in
    let one = one_at_most ps k in
    record { all = omega (arith, all, step, own); few = omega (arith, few, one, own) }
