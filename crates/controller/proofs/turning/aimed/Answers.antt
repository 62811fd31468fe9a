use Rattle.strategy_parts.proofs.Holdings.{nothing_done, same_game}
use Rattle.strategy_parts.proofs.Reaching.{region_held}
use Rattle.controller.proofs.Reaching.{has_goal}
use Rattle.controller.proofs.Chosen.{aim_kept, aim_first, aim_next}
use Rattle.controller.proofs.turning.aimed.Goals as goal

pub has-requires : goal.has-requires
has-requires g c =
    let k = g.G.Regions.kept c.args.g.now in
    record { a = region_held k k (g.met.G.Regions.exact _) (nothing_done k) (same_game k) c.args.holds.now c.args.goal c.requires.goal c.index-holds-goal.result c.index-holds-goal.is c.requires.holds }

pub returns-then-not-has-clause-aim : goal.returns-then-not-has-clause-aim
returns-then-not-has-clause-aim g c = λ s m are counted inside lists is.
    let k = g.G.Regions.kept c.args.g.now in
    aim_kept k.game s m c.args.goal is c.has.result (has_goal k (g.met.G.Regions.exact _) c.args.holds.now c.args.goal c.requires.goal c.index-holds-goal.result c.index-holds-goal.is s m is c.args.state.now c.has.result c.has.ensures.answer are inside lists) c.if-not-has.true

pub returns-then-goal-holds-clause-aim : goal.returns-then-goal-holds-clause-aim
returns-then-goal-holds-clause-aim g c = λ s m are counted inside lists is.
    let k = g.G.Regions.kept c.args.g.now in
    aim_first k.game s m c.args.goal is c.has.result (has_goal k (g.met.G.Regions.exact _) c.args.holds.now c.args.goal c.requires.goal c.index-holds-goal.result c.index-holds-goal.is s m is c.args.state.now c.has.result c.has.ensures.answer are inside lists) c.if-not-has.false _ counted c.if-goal-holds.true

pub returns-else-goal-holds-clause-aim : goal.returns-else-goal-holds-clause-aim
returns-else-goal-holds-clause-aim g c = λ s m are counted inside lists is.
    let k = g.G.Regions.kept c.args.g.now in
    aim_next k.game s m c.args.goal is c.has.result (has_goal k (g.met.G.Regions.exact _) c.args.holds.now c.args.goal c.requires.goal c.index-holds-goal.result c.index-holds-goal.is s m is c.args.state.now c.has.result c.has.ensures.answer are inside lists) c.if-not-has.false _ counted c.if-goal-holds.false
