use Rattle.std.proofs.Common.{get_or, arith}
use Rattle.strategy_parts.proofs.Holdings.{stays_then, same_then}
use Rattle.strategy_parts.proofs.Reaching.{region_held, has_at, later_part, this_part}
use Rattle.counterstrategy.specs.Settled.{holds_in}
use Rattle.counterstrategy.proofs.Settling.{holds_in_count, got_same, holds_in_at}
use Rattle.counterstrategy.proofs.noting.least_goal.Goals as goal

pub has-requires : goal.has-requires
has-requires g c =
    let kept = g.G.Regions.kept in
    let e = get_or c.args.goals.now c.loop-j.j c.index-goals-j.result in
    record { a = region_held (kept c.args.g.now) (kept c.loop-j.g) (g.met.G.Regions.exact _) c.loop-j.invariant.stays c.loop-j.invariant.same (holds_in c.args.goals.now) c.loop-j.j (holds_in_count c.args.goals.now c.loop-j.j c.loop-j-test.true) e.y (holds_in_at c.args.goals.now c.loop-j.j c.loop-j-test.true e (got_same c.args.goals.now c.loop-j.j c.index-goals-j.result c.loop-j-test.true)) c.requires }

pub returns-then-has-clause-least : goal.returns-then-has-clause-least
returns-then-has-clause-least g c = λ sets s i are inside lists least below.
    let kept = g.G.Regions.kept in
    let inv = c.loop-j.invariant in
    let e = get_or c.args.goals.now c.loop-j.j c.index-goals-j.result in
    this_part sets s i c.loop-j.j least (inv.none sets s i are inside lists least below) c.has.result c.if-has.true
    (has_at (kept c.args.g.now) (kept c.loop-j.g) (g.met.G.Regions.exact _) inv.stays inv.same (holds_in c.args.goals.now) c.loop-j.j (holds_in_count c.args.goals.now c.loop-j.j c.loop-j-test.true) e.y (holds_in_at c.args.goals.now c.loop-j.j c.loop-j-test.true e (got_same c.args.goals.now c.loop-j.j c.index-goals-j.result c.loop-j-test.true)) sets s c.args.state.now c.has.result c.has.ensures.answer are inside lists)

pub loop-j-preserved : goal.loop-j-preserved
loop-j-preserved g c =
    let kept = g.G.Regions.kept in
    let inv = c.loop-j.invariant in
    let e = get_or c.args.goals.now c.loop-j.j c.index-goals-j.result in
    record {
      none = λ sets s i are inside lists least below.
          later_part sets s i c.loop-j.j least (inv.none sets s i are inside lists least below) c.has.result c.if-has.false
          (has_at (kept c.args.g.now) (kept c.loop-j.g) (g.met.G.Regions.exact _) inv.stays inv.same (holds_in c.args.goals.now) c.loop-j.j (holds_in_count c.args.goals.now c.loop-j.j c.loop-j-test.true) e.y (holds_in_at c.args.goals.now c.loop-j.j c.loop-j-test.true e (got_same c.args.goals.now c.loop-j.j c.index-goals-j.result c.loop-j-test.true)) sets s c.args.state.now c.has.result c.has.ensures.answer are inside lists);
      stays = stays_then (kept c.args.g.now) (kept c.loop-j.g) (kept c.has.new.self) inv.stays c.has.ensures.held;
      same = same_then (kept c.args.g.now) (kept c.loop-j.g) (kept c.has.new.self) inv.same c.has.ensures.keeps;
    }

pub returns-clause-least : goal.returns-clause-least
returns-clause-least g c = λ sets s i are inside lists least below. absurd (omega (arith, c.loop-j.invariant.none sets s i are inside lists least below, c.loop-j-test.false))
