use Rattle.std.proofs.Common.{arith}
use Rattle.strategy_parts.proofs.Holdings.{stays_then, same_then}
use Rattle.strategy_parts.proofs.Reaching.{region_held, has_at, later_part, this_part}
use Rattle.controller.proofs.choosing.least_index.Goals as goal

pub has-requires : goal.has-requires
has-requires g c =
    let kept = g.G.Regions.kept in
    record { a = region_held (kept c.args.g.now) (kept c.loop-i.g) (g.met.G.Regions.exact _) c.loop-i.invariant.stays c.loop-i.invariant.same c.args.regions.now c.loop-i.i (omega (arith, c.loop-i-test.true)) c.index-regions-i.result c.index-regions-i.is c.requires }

pub returns-then-has-clause-least : goal.returns-then-has-clause-least
returns-then-has-clause-least g c = λ sets s i are inside lists least below.
    let kept = g.G.Regions.kept in
    let inv = c.loop-i.invariant in
    this_part sets s i c.loop-i.i least (inv.none sets s i are inside lists least below) c.has.result c.if-has.true
    (has_at (kept c.args.g.now) (kept c.loop-i.g) (g.met.G.Regions.exact _) inv.stays inv.same c.args.regions.now c.loop-i.i (omega (arith, c.loop-i-test.true)) c.index-regions-i.result c.index-regions-i.is sets s c.args.state.now c.has.result c.has.ensures.answer are inside lists)

pub loop-i-preserved : goal.loop-i-preserved
loop-i-preserved g c =
    let kept = g.G.Regions.kept in
    let inv = c.loop-i.invariant in
    record {
      none = λ sets s i are inside lists least below.
          later_part sets s i c.loop-i.i least (inv.none sets s i are inside lists least below) c.has.result c.if-has.false
          (has_at (kept c.args.g.now) (kept c.loop-i.g) (g.met.G.Regions.exact _) inv.stays inv.same c.args.regions.now c.loop-i.i (omega (arith, c.loop-i-test.true)) c.index-regions-i.result c.index-regions-i.is sets s c.args.state.now c.has.result c.has.ensures.answer are inside lists);
      stays = stays_then (kept c.args.g.now) (kept c.loop-i.g) (kept c.has.new.self) inv.stays c.has.ensures.held;
      same = same_then (kept c.args.g.now) (kept c.loop-i.g) (kept c.has.new.self) inv.same c.has.ensures.keeps;
    }

pub returns-clause-least : goal.returns-clause-least
returns-clause-least g c = λ sets s i are inside lists least below. omega (arith, c.loop-i.invariant.none sets s i are inside lists least below, below, c.loop-i-test.false)
