use Rattle.std.proofs.Common.{suc, arith}
use Rattle.strategy_parts.proofs.Holdings.{nothing_done, same_game}
use Rattle.counterstrategy.proofs.Moving.{moves_stay}
use Rattle.counterstrategy.proofs.Forcing.{found_by, gives, not_before, is_forced}
use Rattle.counterstrategy.proofs.Turned.{in_others}
use Rattle.counterstrategy.proofs.giving.give_in_hold.Goals as goal

pub first_in-requires-clause-kind : goal.first_in-requires-clause-kind
first_in-requires-clause-kind g c =
    let k = g.G.Regions.kept c.args.g.now in
    let some = c.requires.moves in
    gives k k (g.met.G.Regions.exact _) (nothing_done k) (same_game k) c.args.none.now some.0 (some.1 0) some.2

pub give_first-requires-clause-moves : goal.give_first-requires-clause-moves
give_first-requires-clause-moves g c =
    let kept = g.G.Regions.kept in
    let some = c.requires.moves in
    (some.0, (λ r. some.1 (suc r)), moves_stay (kept c.args.g.now) (kept c.first_in.new.self) some.0 c.args.moves.now (λ r. some.1 (suc r)) c.first_in.ensures.held some.3)

pub returns-then-first_in-clause-first : goal.returns-then-first_in-clause-first
returns-then-first_in-clause-first g c = λ when sets b r x held lead before forced few.
    let k = g.G.Regions.kept c.args.g.now in
    let here = is_forced k.game when sets b r x forced 0 (omega arith) c.first_in.new.input c.first_in.result c.if-first_in.true
    (found_by k k (g.met.G.Regions.exact _) (nothing_done k) (same_game k) c.args.none.now when (sets 0) b c.args.state.now c.first_in.new.input c.first_in.result c.first_in.ensures.first held before) in
    (here.1, here.0)

pub returns-else-first_in-clause-first : goal.returns-else-first_in-clause-first
returns-else-first_in-clause-first g c = λ when sets b r x held lead before forced few.
    let kept = g.G.Regions.kept in
    let k = kept c.args.g.now in
    let some = not_before k.game when sets b r x forced 0 (omega arith) c.first_in.new.input c.first_in.result c.if-first_in.false
    (found_by k k (g.met.G.Regions.exact _) (nothing_done k) (same_game k) c.args.none.now when (sets 0) b c.args.state.now c.first_in.new.input c.first_in.result c.first_in.ensures.first held before) in
    in_others k (kept c.first_in.new.self) c.first_in.ensures.held c.first_in.ensures.keeps c.args.moves.now c.args.state.now c.give_first.new.input c.give_first.result c.give_first.ensures.first when sets b r x lead before forced (omega (arith, some)) few
