use Rattle.std.proofs.Common.{◌++◌, map, IfErr, subst, sym, arith}
use Rattle.std.proofs.lemmas.Result.{err_from_is_err_and}
use Rattle.regions.specs.Kept.{States}
use Rattle.regions.specs.declared.types.When.TheVariants.{First, Later}
use Rattle.gr1_law.specs.Layers.{goal_sets}
use Rattle.gr1_sys.specs.Held.{all_regions}
use Rattle.strategy_parts.specs.Owned.{MakesAll, region_items}
use Rattle.controller.specs.Owned.{aims_items, all_aims_items}
use Rattle.controller.specs.Made.{tale_of, TellsHalt, move_meanings, regions_for, first_layers}
use Rattle.strategy_parts.proofs.Telling.{each_stays, makes_both, still_all, made_and_spent, counted_regions}
use Rattle.controller.proofs.Makings.{first_each, targets_stay, some_goal, told_after, told_still, moves_stay_told, all_goals_made, goals_in}
use Rattle.controller.proofs.equipping.equip.Goals as goal

pub moves_of-requires-clause-free : goal.moves_of-requires-clause-free
moves_of-requires-clause-free g c = c.in_ok-holds.ensures.made.jam

pub moves_of-requires-clause-some : goal.moves_of-requires-clause-some
moves_of-requires-clause-some g c = omega (arith, c.requires.count, some_goal (g.G.Regions.kept c.args.g.now).game)

pub moves_of-requires-clause-layers : goal.moves_of-requires-clause-layers
moves_of-requires-clause-layers g c =
    let kept = g.G.Regions.kept in
    let made = c.in_ok-holds.ensures.made in
    each_stays (kept c.args.g.now) (kept c.recurring_regions.new.g) (g.met.G.Regions.exact _) (λ w. omega (arith, made.held w)) (all_regions c.args.layers.now) c.requires.layers

pub returns-in-Ok-clause-made : goal.returns-in-Ok-clause-made
returns-in-Ok-clause-made g c =
    let kept = g.G.Regions.kept in
    let first = kept c.args.g.now in
    let k = kept c.recurring_regions.new.g in
    let new = kept c.moves_of.new.g in
    let layers = c.args.layers.now in
    let made = c.in_ok-holds.ensures.made in
    let stays = moves_stay_told first k (g.met.G.Regions.exact _) (λ w. omega (arith, made.held w)) layers c.requires.layers in
    makes_both first k new (region_items c.in_ok-holds.holds.items) (aims_items c.in-Ok.first.items ++ all_aims_items c.in-Ok.goals.items) (map States (goal_sets first.game)) (move_meanings first layers) made
    (subst (MakesAll k new (aims_items c.in-Ok.first.items ++ all_aims_items c.in-Ok.goals.items)) stays c.in-Ok.ensures.made)

pub returns-in-Ok-clause-counted : goal.returns-in-Ok-clause-counted
returns-in-Ok-clause-counted g c = counted_regions _ c.in_ok-holds.holds.items (goal_sets (g.G.Regions.kept c.args.g.now).game) c.in_ok-holds.ensures.made.counted

pub spend_regions-requires : goal.spend_regions-requires
spend_regions-requires g c =
    let kept = g.G.Regions.kept in
    still_all (kept c.args.g.now) (kept c.recurring_regions.new.g) (kept c.moves_of.new.g) (region_items c.in_ok-holds.holds.items) _ (g.met.G.Regions.exact _) c.in_ok-holds.ensures.made c.in-Err.ensures.halted

pub returns-in-Err-clause-halted : goal.returns-in-Err-clause-halted
returns-in-Err-clause-halted g c =
    let kept = g.G.Regions.kept in
    made_and_spent (kept c.args.g.now) (kept c.recurring_regions.new.g) (kept c.moves_of.new.g) (kept c.spend_regions.new.g) (region_items c.in_ok-holds.holds.items) _ (g.met.G.Regions.exact _) c.in_ok-holds.ensures.made c.in-Err.ensures.halted c.spend_regions.ensures.spends

pub returns-in-Err-clause-told : goal.returns-in-Err-clause-told
returns-in-Err-clause-told g c = λ l all later.
    let kept = g.G.Regions.kept in
    let first = kept c.args.g.now in
    let k = kept c.recurring_regions.new.g in
    let new = kept c.moves_of.new.g in
    let layers = c.args.layers.now in
    let made = c.in_ok-holds.ensures.made in
    told_still first new (kept c.spend_regions.new.g) l c.in-Err.halt c.spend_regions.ensures.spends.jam
    (told_after first k new l (region_items c.in_ok-holds.holds.items) (map States (goal_sets first.game)) c.in-Err.halt made c.recurring_regions.ensures.keeps
    (all_goals_made first.game l)
    (c.in-Err.ensures.told l
    (targets_stay first k (g.met.G.Regions.exact _) (λ w. omega (arith, made.held w)) l First (regions_for First (first_layers layers)) (first_each first layers c.requires.layers) all)
    (targets_stay first k (g.met.G.Regions.exact _) (λ w. omega (arith, made.held w)) l Later (all_regions layers) c.requires.layers later)))

pub returns-in_err-holds-clause-told : goal.returns-in_err-holds-clause-told
returns-in_err-holds-clause-told g c = λ l all later.
    let kept = g.G.Regions.kept in
    let k = kept c.args.g.now in
    let p = err_from_is_err_and c.from_residual.result c.from_residual.ensures.1 in
    subst (λ r. IfErr r (TellsHalt k (kept c.recurring_regions.new.g) l)) (sym p.1) (subst (TellsHalt k (kept c.recurring_regions.new.g) l) (sym p.2) (c.in_err-holds.ensures.told (tale_of k.game l) (goals_in k.game)))
