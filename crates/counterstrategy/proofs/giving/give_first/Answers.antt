use Rattle.std.proofs.Common.{◌∙◌, ap, sym, arith}
use Rattle.regions.specs.Rules.{input_count}
use Rattle.strategy_parts.proofs.Holdings.{stays_then, same_then}
use Rattle.counterstrategy.proofs.Moving.{move_at}
use Rattle.counterstrategy.proofs.Forcing.{found_by, gives, move_held, not_before, is_forced}
use Rattle.counterstrategy.proofs.giving.give_first.Goals as goal

pub first_in-requires-clause-m : goal.first_in-requires-clause-m
first_in-requires-clause-m g c =
    let kept = g.G.Regions.kept in
    let some = c.requires.moves in
    move_held (kept c.args.g.now) (kept c.loop-n.g) (g.met.G.Regions.exact _) c.loop-n.invariant.stays c.loop-n.invariant.same c.index-moves-n.result some.0 (some.1 c.loop-n.n)
    (move_at (kept c.args.g.now) some.0 c.args.moves.now some.1 some.2 c.loop-n.n c.loop-n-test.true c.index-moves-n.result c.index-moves-n.is)

pub first_in-requires-clause-kind : goal.first_in-requires-clause-kind
first_in-requires-clause-kind g c =
    let kept = g.G.Regions.kept in
    let some = c.requires.moves in
    gives (kept c.args.g.now) (kept c.loop-n.g) (g.met.G.Regions.exact _) c.loop-n.invariant.stays c.loop-n.invariant.same c.index-moves-n.result some.0 (some.1 c.loop-n.n)
    (move_at (kept c.args.g.now) some.0 c.args.moves.now some.1 some.2 c.loop-n.n c.loop-n-test.true c.index-moves-n.result c.index-moves-n.is)

pub first_in-requires-clause-room : goal.first_in-requires-clause-room
first_in-requires-clause-room g c = c.loop-n.invariant.room ∙ (c.requires.room ∙ ap input_count (sym c.loop-n.invariant.same.game))

pub returns-then-first_in-clause-first : goal.returns-then-first_in-clause-first
returns-then-first_in-clause-first g c = λ when sets b r x lead before forced below.
    let kept = g.G.Regions.kept in
    let inv = c.loop-n.invariant in
    let first = kept c.args.g.now in
    let here = is_forced first.game when sets b r x forced c.loop-n.n (inv.none when sets b r x lead before forced below) c.first_in.new.input c.first_in.result c.if-first_in.true
    (found_by first (kept c.loop-n.g) (g.met.G.Regions.exact _) inv.stays inv.same c.index-moves-n.result when (sets c.loop-n.n) b c.args.state.now c.first_in.new.input c.first_in.result c.first_in.ensures.first
    (move_at first when c.args.moves.now sets lead c.loop-n.n c.loop-n-test.true c.index-moves-n.result c.index-moves-n.is) before) in
    (here.1, (let is = here.0 in omega (arith, is)))

pub loop-n-preserved : goal.loop-n-preserved
loop-n-preserved g c =
    let kept = g.G.Regions.kept in
    let inv = c.loop-n.invariant in
    let first = kept c.args.g.now in
    record {
      none = λ when sets b r x lead before forced below.
          not_before first.game when sets b r x forced c.loop-n.n (inv.none when sets b r x lead before forced below) c.first_in.new.input c.first_in.result c.if-first_in.false
          (found_by first (kept c.loop-n.g) (g.met.G.Regions.exact _) inv.stays inv.same c.index-moves-n.result when (sets c.loop-n.n) b c.args.state.now c.first_in.new.input c.first_in.result c.first_in.ensures.first
          (move_at first when c.args.moves.now sets lead c.loop-n.n c.loop-n-test.true c.index-moves-n.result c.index-moves-n.is) before);
      room = c.first_in.auto.input ∙ inv.room;
      stays = stays_then first (kept c.loop-n.g) (kept c.first_in.new.self) inv.stays c.first_in.ensures.held;
      same = same_then first (kept c.loop-n.g) (kept c.first_in.new.self) inv.same c.first_in.ensures.keeps;
    }

pub returns-clause-first : goal.returns-clause-first
returns-clause-first g c = λ when sets b r x lead before forced below. absurd (omega (arith, c.loop-n.invariant.none when sets b r x lead before forced below, c.loop-n-test.false))
