use Rattle.std.proofs.Common.{◌≡◌, ◌+◌, ◌*◌, ◌≤◌, length, subst, arith}
use Rattle.column_planes.specs.Planes.{IsFullUpTo}
use Rattle.column_planes.proofs.FirstZero.{at_most, full_on, stops_there}
use Rattle.column_planes.proofs.zeros.first_open.Goals as goal

pub returns-then-full-lt8-clause-full : goal.returns-then-full-lt8-clause-full
returns-then-full-lt8-clause-full c =
    full_on c.args.a.now (8 * c.loop-k.k) c.full_of_eight-full.result (omega (arith, c.loop-k-test.true)) c.full_of_eight-full.ensures c.loop-k.invariant

pub returns-then-full-lt8-clause-stops : goal.returns-then-full-lt8-clause-stops
returns-then-full-lt8-clause-stops c = λ below.
    stops_there c.args.a.now (8 * c.loop-k.k) c.full_of_eight-full.result (omega (arith, c.loop-k-test.true)) c.full_of_eight-full.ensures c.loop-k.invariant
    (omega (arith, c.if-full-lt8.true)) (c.type_inv.a (8 * c.loop-k.k + c.full_of_eight-full.result)).fits

pub loop-k-preserved : goal.loop-k-preserved
loop-k-preserved c =
    let room : 8 * c.loop-k.k + 8 ≤ length c.args.a.now = omega (arith, c.loop-k-test.true) in
    let most = at_most c.args.a.now (8 * c.loop-k.k) c.full_of_eight-full.result room c.full_of_eight-full.ensures c.loop-k.invariant in
    let next : 8 * c.loop-k.k + c.full_of_eight-full.result ≡ 8 * (c.loop-k.k + 1) = omega (arith, most, c.if-full-lt8.false) in
    subst (IsFullUpTo c.args.a.now) next (full_on c.args.a.now (8 * c.loop-k.k) c.full_of_eight-full.result room c.full_of_eight-full.ensures c.loop-k.invariant)
