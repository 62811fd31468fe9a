use Rattle.std.proofs.Common.{List, IfErr, subst, sym, arith}
use Rattle.std.proofs.lemmas.Result.{err_from_is_err_and}
use Rattle.regions.specs.declared.types.When.TheVariants.{First, Later}
use Rattle.gr1_sys.specs.Held.{HasEach, all_regions}
use Rattle.strategy_parts.specs.Owned.{MakesAll}
use Rattle.controller.specs.Owned.{aims_items, all_aims_items}
use Rattle.controller.specs.Made.{AreTargets, TellsHalt, AreLike, leadings, regions_for, first_layers}
use Rattle.strategy_parts.proofs.Telling.{each_stays, makes_both, still_all, made_and_spent}
use Rattle.controller.proofs.Makings.{first_each, targets_stay, leadings_stay, made_moves, told_after, told_still}
use Rattle.controller.proofs.equipping.moves_of.Goals as goal

pub aims_into-requires-clause-layers : goal.aims_into-requires-clause-layers
aims_into-requires-clause-layers g c =
    let k = g.G.Regions.kept c.args.g.now in
    subst (λ (ls : List _). HasEach k (regions_for First ls)) (sym c.layers_of_first.ensures)
    (first_each k c.args.layers.now c.requires.layers)

pub later_aims-requires-clause-free : goal.later_aims-requires-clause-free
later_aims-requires-clause-free g c = c.in_ok-first.ensures.made.jam

pub later_aims-requires-clause-layers : goal.later_aims-requires-clause-layers
later_aims-requires-clause-layers g c =
    let kept = g.G.Regions.kept in
    let made = c.in_ok-first.ensures.made in
    each_stays (kept c.args.g.now) (kept c.aims_into.new.g) (g.met.G.Regions.exact _) (λ w. omega (arith, made.held w)) (all_regions c.args.layers.now) c.requires.layers

pub returns-in-Ok-clause-made : goal.returns-in-Ok-clause-made
returns-in-Ok-clause-made g c =
    let kept = g.G.Regions.kept in
    let first = kept c.args.g.now in
    let k = kept c.aims_into.new.g in
    let new = kept c.later_aims.new.g in
    let layers = c.args.layers.now in
    let made = c.in_ok-first.ensures.made in
    let stays = leadings_stay first k (g.met.G.Regions.exact _) (λ w. omega (arith, made.held w)) Later (all_regions layers) c.requires.layers in
    makes_both first k new (aims_items c.in_ok-first.first.items) (all_aims_items c.in-Ok.goals.items) (leadings first First (regions_for First (first_layers layers))) (leadings first Later (all_regions layers))
    (subst (λ (ls : List _). MakesAll first k (aims_items c.in_ok-first.first.items) (leadings first First (regions_for First ls))) c.layers_of_first.ensures made)
    (subst (MakesAll k new (all_aims_items c.in-Ok.goals.items)) stays c.in-Ok.ensures.made)

pub returns-in-Ok-clause-first : goal.returns-in-Ok-clause-first
returns-in-Ok-clause-first g c = subst (AreLike First c.in_ok-first.first.items) c.layers_of_first.ensures c.in_ok-first.ensures.alike

pub spend_aims-requires : goal.spend_aims-requires
spend_aims-requires g c =
    let kept = g.G.Regions.kept in
    still_all (kept c.args.g.now) (kept c.aims_into.new.g) (kept c.later_aims.new.g) (aims_items c.in_ok-first.first.items) _ (g.met.G.Regions.exact _) c.in_ok-first.ensures.made c.in-Err.ensures.halted

pub returns-in-Err-clause-halted : goal.returns-in-Err-clause-halted
returns-in-Err-clause-halted g c =
    let kept = g.G.Regions.kept in
    made_and_spent (kept c.args.g.now) (kept c.aims_into.new.g) (kept c.later_aims.new.g) (kept c.spend_aims.new.g) (aims_items c.in_ok-first.first.items) _ (g.met.G.Regions.exact _) c.in_ok-first.ensures.made c.in-Err.ensures.halted c.spend_aims.ensures.spends

pub returns-in-Err-clause-told : goal.returns-in-Err-clause-told
returns-in-Err-clause-told g c = λ l all later.
    let kept = g.G.Regions.kept in
    let first = kept c.args.g.now in
    let k = kept c.aims_into.new.g in
    let new = kept c.later_aims.new.g in
    let layers = c.args.layers.now in
    let made = c.in_ok-first.ensures.made in
    let own = subst (λ (ls : List _). MakesAll first k (aims_items c.in_ok-first.first.items) (leadings first First (regions_for First ls))) c.layers_of_first.ensures made in
    told_still first new (kept c.spend_aims.new.g) l c.in-Err.halt c.spend_aims.ensures.spends.jam
    (told_after first k new l (aims_items c.in_ok-first.first.items) (leadings first First (regions_for First (first_layers layers))) c.in-Err.halt own c.aims_into.ensures.keeps
    (made_moves first l First (regions_for First (first_layers layers)) all)
    (c.in-Err.ensures.told l (targets_stay first k (g.met.G.Regions.exact _) (λ w. omega (arith, made.held w)) l Later (all_regions layers) c.requires.layers later)))

pub returns-in_err-first-clause-told : goal.returns-in_err-first-clause-told
returns-in_err-first-clause-told g c = λ l all later.
    let kept = g.G.Regions.kept in
    let k = kept c.args.g.now in
    let p = err_from_is_err_and c.from_residual.result c.from_residual.ensures.1 in
    let of = subst (λ (ls : List _). AreTargets l First k (regions_for First ls)) (sym c.layers_of_first.ensures) all in
    subst (λ r. IfErr r (TellsHalt k (kept c.aims_into.new.g) l)) (sym p.1) (subst (TellsHalt k (kept c.aims_into.new.g) l) (sym p.2) (c.in_err-first.ensures.told l of))
