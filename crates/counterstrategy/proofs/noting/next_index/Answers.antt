use Rattle.std.proofs.Common.{length}
use Rattle.gr1_law.specs.Layers.{assumption_set}
use Rattle.strategy_parts.proofs.Holdings.{nothing_done, same_game}
use Rattle.strategy_parts.proofs.Reaching.{region_held, has_at}
use Rattle.counterstrategy.proofs.Settling.{aim_kept, aim_first, aim_next}
use Rattle.counterstrategy.proofs.noting.next_index.Goals as goal

pub has-requires : goal.has-requires
has-requires g c =
    let k = g.G.Regions.kept c.args.g.now in
    record { a = region_held k k (g.met.G.Regions.exact _) (nothing_done k) (same_game k) c.args.asms.now c.args.before c.requires.before c.index-asms-before.result c.index-asms-before.is c.requires.asms }

pub returns-then-not-has-clause-index : goal.returns-then-not-has-clause-index
returns-then-not-has-clause-index g c = λ s are counted inside lists.
    let k = g.G.Regions.kept c.args.g.now in
    aim_kept k.game s c.args.before c.has.result
    (has_at k k (g.met.G.Regions.exact _) (nothing_done k) (same_game k) c.args.asms.now c.args.before c.requires.before c.index-asms-before.result c.index-asms-before.is (assumption_set k.game) s c.args.state.now c.has.result c.has.ensures.answer are inside lists)
    c.if-not-has.true

pub returns-then-before-asms-clause-index : goal.returns-then-before-asms-clause-index
returns-then-before-asms-clause-index g c = λ s are counted inside lists.
    let k = g.G.Regions.kept c.args.g.now in
    aim_first k.game s c.args.before c.has.result
    (has_at k k (g.met.G.Regions.exact _) (nothing_done k) (same_game k) c.args.asms.now c.args.before c.requires.before c.index-asms-before.result c.index-asms-before.is (assumption_set k.game) s c.args.state.now c.has.result c.has.ensures.answer are inside lists)
    c.if-not-has.false (length c.args.asms.now) counted c.if-before-asms.true

pub returns-else-before-asms-clause-index : goal.returns-else-before-asms-clause-index
returns-else-before-asms-clause-index g c = λ s are counted inside lists.
    let k = g.G.Regions.kept c.args.g.now in
    aim_next k.game s c.args.before c.has.result
    (has_at k k (g.met.G.Regions.exact _) (nothing_done k) (same_game k) c.args.asms.now c.args.before c.requires.before c.index-asms-before.result c.index-asms-before.is (assumption_set k.game) s c.args.state.now c.has.result c.has.ensures.answer are inside lists)
    c.if-not-has.false (length c.args.asms.now) counted c.if-before-asms.false
