use Rattle.std.proofs.Common.{rules, ◌<◌, suc, length, get_or, List, sym, subst, arith}
use Rattle.strategy_parts.specs.Owned.{RegionsAre}
use Rattle.strategy_parts.proofs.Holdings.{regions_stay}
use Rattle.counterstrategy.specs.Settled.{holds_in}
use Rattle.counterstrategy.proofs.Replying.{low_is, layer_found, first_asm, holds_there, goal_is}
use Rattle.counterstrategy.proofs.noting.aim.Goals as goal

pub offset_bounds-layers-low : goal.offset_bounds-layers-low
offset_bounds-layers-low g c =
    let q = c.requires in
    let low = low_is (g.G.Regions.kept c.args.g.now) c.args.layers.now q.0 c.args.place.now q.1 q.2 q.3 q.4 q.5 c.if-place.false c.values-state.result.now c.values-state.ensures c.least_layer-low.result c.least_layer-low.ensures.least in
    let inner = q.5.reply.layer_in in
    omega (arith, low, inner)

pub bounds-layers-low : goal.bounds-layers-low
bounds-layers-low g c =
    let q = c.requires in
    let low = low_is (g.G.Regions.kept c.args.g.now) c.args.layers.now q.0 c.args.place.now q.1 q.2 q.3 q.4 q.5 c.if-place.false c.values-state.result.now c.values-state.ensures c.least_layer-low.result c.least_layer-low.ensures.least in
    let inner = q.5.reply.layer_in in
    omega (arith, low, inner)

pub least_goal-goal-requires : goal.least_goal-goal-requires
least_goal-goal-requires g c =
    let q = c.requires in
    let low = low_is (g.G.Regions.kept c.args.g.now) c.args.layers.now q.0 c.args.place.now q.1 q.2 q.3 q.4 q.5 c.if-place.false c.values-state.result.now c.values-state.ensures c.least_layer-low.result c.least_layer-low.ensures.least in
    let kept = g.G.Regions.kept in
    let sets = q.1.y (suc q.5.reply.low) in
    let there = layer_found c.args.layers.now c.least_layer-low.result q.5.reply.low low q.5.reply.layer_in c.index-layers-low.result in (
      sets,
      subst (λ (es : List _). RegionsAre (kept c.least_layer-low.new.g) (holds_in es) sets) (sym c.deref.ensures.value)
          (regions_stay (kept c.args.g.now) (kept c.least_layer-low.new.g) (holds_in (get_or c.args.layers.now c.least_layer-low.result c.index-layers-low.result).goals.items) sets c.least_layer-low.ensures.held
          (holds_there (kept c.args.g.now) c.args.layers.now q.0 c.args.place.now q.1 q.2 q.3 q.4 q.5 _ there).0),
    )

pub overflow_add-result : goal.overflow_add-result
overflow_add-result g c =
    let q = c.requires in
    let low = low_is (g.G.Regions.kept c.args.g.now) c.args.layers.now q.0 c.args.place.now q.1 q.2 q.3 q.4 q.5 c.if-place.false c.values-state.result.now c.values-state.ensures c.least_layer-low.result c.least_layer-low.ensures.least in
    let inner = q.5.reply.layer_in in
    let below : c.least_layer-low.result < length c.args.layers.now = omega (arith, low, inner) in
    search (rules, below)

pub returns-else-place-clause-aim : goal.returns-else-place-clause-aim
returns-else-place-clause-aim g c = λ kit e m s next serves.
    let kept = g.G.Regions.kept in
    let k = kept c.args.g.now in
    let low = low_is k c.args.layers.now kit c.args.place.now e m s next serves c.if-place.false c.values-state.result.now c.values-state.ensures c.least_layer-low.result c.least_layer-low.ensures.least in
    let there = layer_found c.args.layers.now c.least_layer-low.result serves.reply.low low serves.reply.layer_in c.index-layers-low.result in (
      (let is = serves.reply.layer in omega (arith, low, is)),
      goal_is k (kept c.least_layer-low.new.g) c.least_layer-low.ensures.held c.least_layer-low.ensures.keeps c.args.layers.now kit c.args.place.now e m s next serves c.if-place.false c.values-state.result.now c.values-state.ensures
          (get_or c.args.layers.now c.least_layer-low.result c.index-layers-low.result) there c.deref.result.now c.deref.ensures.value c.least_goal-goal.result c.least_goal-goal.ensures.least,
      first_asm k c.args.layers.now kit c.args.place.now e m s next serves c.if-place.false,
    )
