use Rattle.std.proofs.Common.{get_or, arith}
use Rattle.strategy_parts.proofs.Holdings.{stays_then, same_then}
use Rattle.strategy_parts.proofs.Reaching.{region_held, has_at, later_part, this_part}
use Rattle.counterstrategy.specs.Settled.{tops}
use Rattle.counterstrategy.proofs.Settling.{tops_count, got_same, tops_at}
use Rattle.counterstrategy.proofs.noting.least_layer.Goals as goal

pub has-requires : goal.has-requires
has-requires g c =
    let kept = g.G.Regions.kept in
    let e = get_or c.args.layers.now c.loop-a.a c.index-layers-a.result in
    record { a = region_held (kept c.args.g.now) (kept c.loop-a.g) (g.met.G.Regions.exact _) c.loop-a.invariant.stays c.loop-a.invariant.same (tops c.args.layers.now) c.loop-a.a (tops_count c.args.layers.now c.loop-a.a c.loop-a-test.true) e.z (tops_at c.args.layers.now c.loop-a.a c.loop-a-test.true e (got_same c.args.layers.now c.loop-a.a c.index-layers-a.result c.loop-a-test.true)) c.requires }

pub returns-then-has-clause-least : goal.returns-then-has-clause-least
returns-then-has-clause-least g c = λ sets s i are inside lists least below.
    let kept = g.G.Regions.kept in
    let inv = c.loop-a.invariant in
    let e = get_or c.args.layers.now c.loop-a.a c.index-layers-a.result in
    this_part sets s i c.loop-a.a least (inv.none sets s i are inside lists least below) c.has.result c.if-has.true
    (has_at (kept c.args.g.now) (kept c.loop-a.g) (g.met.G.Regions.exact _) inv.stays inv.same (tops c.args.layers.now) c.loop-a.a (tops_count c.args.layers.now c.loop-a.a c.loop-a-test.true) e.z (tops_at c.args.layers.now c.loop-a.a c.loop-a-test.true e (got_same c.args.layers.now c.loop-a.a c.index-layers-a.result c.loop-a-test.true)) sets s c.args.state.now c.has.result c.has.ensures.answer are inside lists)

pub loop-a-preserved : goal.loop-a-preserved
loop-a-preserved g c =
    let kept = g.G.Regions.kept in
    let inv = c.loop-a.invariant in
    let e = get_or c.args.layers.now c.loop-a.a c.index-layers-a.result in
    record {
      none = λ sets s i are inside lists least below.
          later_part sets s i c.loop-a.a least (inv.none sets s i are inside lists least below) c.has.result c.if-has.false
          (has_at (kept c.args.g.now) (kept c.loop-a.g) (g.met.G.Regions.exact _) inv.stays inv.same (tops c.args.layers.now) c.loop-a.a (tops_count c.args.layers.now c.loop-a.a c.loop-a-test.true) e.z (tops_at c.args.layers.now c.loop-a.a c.loop-a-test.true e (got_same c.args.layers.now c.loop-a.a c.index-layers-a.result c.loop-a-test.true)) sets s c.args.state.now c.has.result c.has.ensures.answer are inside lists);
      stays = stays_then (kept c.args.g.now) (kept c.loop-a.g) (kept c.has.new.self) inv.stays c.has.ensures.held;
      same = same_then (kept c.args.g.now) (kept c.loop-a.g) (kept c.has.new.self) inv.same c.has.ensures.keeps;
    }

pub returns-clause-least : goal.returns-clause-least
returns-clause-least g c = λ sets s i are inside lists least below. absurd (omega (arith, c.loop-a.invariant.none sets s i are inside lists least below, c.loop-a-test.false))
