use Rattle.std.proofs.Common.{◌∙◌, ◌<◌, suc, List, Vec, length, sym, ap, subst}
use Rattle.std.specs.declared.alloc.Global.{Global}
use Rattle.spec_model.specs.Steps.{reached}
use Rattle.gr1_law.specs.Layers.{assumption_sets}
use Rattle.gr1_sys.specs.Held.{HaveParts}
use Rattle.controller.specs.Aims.{LayersAre}
use Rattle.controller.proofs.Settled.{layers_at, have_at, index_kept, index_least}
use Rattle.controller.proofs.settling.new_index.Goals as goal

pub returns-then-waits-clause-index : goal.returns-then-waits-clause-index
returns-then-waits-clause-index g c = λ l b m x y next settles.
    index_kept (g.G.Regions.kept c.args.g.now) c.args.goals.now c.args.place.now c.args.goal c.args.rank c.args.waits l b m x y next settles c.if-waits.true

pub bounds-goals-goal : goal.bounds-goals-goal
bounds-goals-goal g c = c.requires.6.goal_in

pub first_part-requires-clause-rank : goal.first_part-requires-clause-rank
first_part-requires-clause-rank g c = subst (λ (ls : List _). c.args.rank < length ls) (sym (c.deref.ensures.value ∙ ap (λ (v : Vec _ Global). v.items) c.index-goals-goal.is)) (c.requires.6.rank_in c.index-goals-goal.result)

pub first_part-requires-clause-layers : goal.first_part-requires-clause-layers
first_part-requires-clause-layers g c =
    let k = g.G.Regions.kept c.args.g.now in
    let some = c.requires in
    (λ r. some.0.x c.args.goal (suc r), subst (λ ls. LayersAre k ls (λ r. some.0.x c.args.goal (suc r))) (sym (c.deref.ensures.value ∙ ap (λ (v : Vec _ Global). v.items) c.index-goals-goal.is)) (layers_at k c.args.goals.now (λ j r. some.0.x j (suc r)) some.6.layers c.args.goal some.6.goal_in c.index-goals-goal.result))

pub returns-else-waits-clause-index : goal.returns-else-waits-clause-index
returns-else-waits-clause-index g c = λ l b m x y next settles.
    let k = g.G.Regions.kept c.args.g.now in
    let n = length (assumption_sets k.game) in
    c.first_part.ensures.first (λ r. l.x c.args.goal (suc r)) n (reached k.game b x y) next.index
    (subst (λ ls. LayersAre k ls (λ r. l.x c.args.goal (suc r))) (sym (c.deref.ensures.value ∙ ap (λ (v : Vec _ Global). v.items) c.index-goals-goal.is)) (layers_at k c.args.goals.now (λ j r. l.x j (suc r)) settles.layers c.args.goal settles.goal_in c.index-goals-goal.result))
    (subst (λ ls. HaveParts n ls) (sym (c.deref.ensures.value ∙ ap (λ (v : Vec _ Global). v.items) c.index-goals-goal.is)) (have_at n c.args.goals.now settles.parts c.args.goal settles.goal_in c.index-goals-goal.result))
    settles.turn.state (settles.here.position.listed ∙ sym c.values.ensures)
    (index_least k c.args.goals.now c.args.place.now c.args.goal c.args.rank c.args.waits l b m x y next settles c.if-waits.false)
    settles.turn.index_in
