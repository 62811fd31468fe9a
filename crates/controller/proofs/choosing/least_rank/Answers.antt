use Rattle.std.proofs.Common.{◌∙◌, arith}
use Rattle.strategy_parts.proofs.Holdings.{stays_then, same_then}
use Rattle.controller.proofs.Reaching.{aim_held, aim_gives, found_at, not_before, is_reached}
use Rattle.controller.proofs.choosing.least_rank.Goals as goal

pub first_out-requires-clause-m : goal.first_out-requires-clause-m
first_out-requires-clause-m g c =
    let kept = g.G.Regions.kept in
    aim_held (kept c.args.g.now) (kept c.loop-r.g) (g.met.G.Regions.exact _) c.loop-r.invariant.stays c.loop-r.invariant.same c.args.aims.now c.loop-r.r c.loop-r-test.true c.index-aims-r.result c.requires.aims

pub first_out-requires-clause-kind : goal.first_out-requires-clause-kind
first_out-requires-clause-kind g c =
    let kept = g.G.Regions.kept in
    aim_gives (kept c.args.g.now) (kept c.loop-r.g) (g.met.G.Regions.exact _) c.loop-r.invariant.stays c.loop-r.invariant.same c.args.aims.now c.loop-r.r c.loop-r-test.true c.index-aims-r.result c.requires.aims

pub returns-then-first_out-clause-least : goal.returns-then-first_out-clause-least
returns-then-first_out-clause-least g c = λ when y x b r reply lead before reached below.
    let kept = g.G.Regions.kept in
    let inv = c.loop-r.invariant in
    is_reached (kept c.args.g.now).game when y b c.args.input.now r reply reached c.loop-r.r (inv.none when y x b r reply lead before reached below) c.first_out.new.out c.first_out.result c.if-first_out.true
    (found_at (kept c.args.g.now) (kept c.loop-r.g) (g.met.G.Regions.exact _) inv.stays inv.same c.args.aims.now c.loop-r.r c.loop-r-test.true c.index-aims-r.result when y x b c.args.state.now c.args.input.now c.first_out.new.out c.first_out.result c.first_out.ensures.first lead before)

pub loop-r-preserved : goal.loop-r-preserved
loop-r-preserved g c =
    let kept = g.G.Regions.kept in
    let inv = c.loop-r.invariant in
    record {
      none = λ when y x b r reply lead before reached below.
          not_before (kept c.args.g.now).game when y b c.args.input.now r reply reached c.loop-r.r (inv.none when y x b r reply lead before reached below) c.first_out.new.out c.first_out.result c.if-first_out.false
          (found_at (kept c.args.g.now) (kept c.loop-r.g) (g.met.G.Regions.exact _) inv.stays inv.same c.args.aims.now c.loop-r.r c.loop-r-test.true c.index-aims-r.result when y x b c.args.state.now c.args.input.now c.first_out.new.out c.first_out.result c.first_out.ensures.first lead before);
      room = c.first_out.auto.out ∙ inv.room;
      stays = stays_then (kept c.args.g.now) (kept c.loop-r.g) (kept c.first_out.new.self) inv.stays c.first_out.ensures.held;
      same = same_then (kept c.args.g.now) (kept c.loop-r.g) (kept c.first_out.new.self) inv.same c.first_out.ensures.keeps;
    }

pub returns-clause-least : goal.returns-clause-least
returns-clause-least g c = λ when y x b r reply lead before reached below. absurd (omega (arith, c.loop-r.invariant.none when y x b r reply lead before reached below, c.loop-r-test.false))
