use Rattle.std.proofs.Common.{◌++◌, Vec, map, sym, subst, arith}
use Rattle.std.specs.declared.alloc.Global.{Global}
use Rattle.regions.specs.Kept.{States}
use Rattle.gr1_law.specs.Layers.{goal_sets, assumption_sets}
use Rattle.gr1_env.specs.Held.{all_regions}
use Rattle.strategy_parts.specs.Owned.{MakesAll, region_items}
use Rattle.strategy_parts.specs.Told.{TellsHalt}
use Rattle.strategy_parts.proofs.Telling.{each_stays, each_append, made_sets, told_after, told_still}
use Rattle.strategy_parts.specs.Told.{IsMade}
use Rattle.counterstrategy.specs.Owned.{moves_in, kit_items}
use Rattle.counterstrategy.specs.Made.{tale_of}
use Rattle.counterstrategy.proofs.Begun.{its_tale, its_goals, its_asms}
use Rattle.counterstrategy.proofs.Erring.{err_told}
use Rattle.counterstrategy.proofs.Filling.{meanings_stay, tale_stays, kit_made, kit_held, some_together, held_and_spent}
use Rattle.counterstrategy.proofs.equipping.equip.Goals as goal

pub returns-in_err-goals-clause-told : goal.returns-in_err-goals-clause-told
returns-in_err-goals-clause-told g c =
    let kept = g.G.Regions.kept in
    let k = kept c.args.g.now in
    let tale = tale_of k c.args.layers.now in
    err_told c.from_residual.result (TellsHalt k (kept c.goal_regions.new.g) tale) _ c.from_residual.ensures.1 (c.in_err-goals.ensures.told tale (its_goals k c.args.layers.now) (its_asms k c.args.layers.now))

pub fill-requires-clause-regions : goal.fill-requires-clause-regions
fill-requires-clause-regions g c =
    let kept = g.G.Regions.kept in
    let made = c.in_ok-goals.ensures.made in
    each_stays (kept c.args.g.now) (kept c.goal_regions.new.g) (g.met.G.Regions.exact _) (λ w. omega (arith, made.held w)) (all_regions c.args.layers.now) c.requires.regions

pub spend_kit-requires : goal.spend_kit-requires
spend_kit-requires g c =
    let kept = g.G.Regions.kept in
    let k = kept c.args.g.now in
    let k1 = kept c.goal_regions.new.g in
    let new = kept c.fill.new.g in
    let kit = c.fill.new.kit in
    let ls = c.args.layers.now in
    let made = c.in_ok-goals.ensures.made in
    let own : MakesAll k k1 (region_items kit.goals.items ++ region_items kit.asms.items) (map States (goal_sets k.game) ++ map States (assumption_sets k.game)) =
    subst (λ (v : Vec _ Global). MakesAll k k1 (region_items v.items ++ region_items kit.asms.items) (map States (goal_sets k.game) ++ map States (assumption_sets k.game))) (sym c.fill.ensures.others.0)
    (subst (λ (v : Vec _ Global). MakesAll k k1 (region_items c.in_ok-goals.goals.items ++ region_items v.items) (map States (goal_sets k.game) ++ map States (assumption_sets k.game))) (sym c.fill.ensures.others.1) made) in
    some_together k new (kit_items kit) (g.met.G.Regions.exact _) (kit_held k k1 new ls kit own c.in-Err.ensures.halted)

pub returns-in-Ok-clause-made : goal.returns-in-Ok-clause-made
returns-in-Ok-clause-made g c =
    let kept = g.G.Regions.kept in
    let k = kept c.args.g.now in
    let k1 = kept c.goal_regions.new.g in
    let new = kept c.fill.new.g in
    let kit = c.fill.new.kit in
    let ls = c.args.layers.now in
    let made = c.in_ok-goals.ensures.made in
    let own : MakesAll k k1 (region_items kit.goals.items ++ region_items kit.asms.items) (map States (goal_sets k.game) ++ map States (assumption_sets k.game)) =
    subst (λ (v : Vec _ Global). MakesAll k k1 (region_items v.items ++ region_items kit.asms.items) (map States (goal_sets k.game) ++ map States (assumption_sets k.game))) (sym c.fill.ensures.others.0)
    (subst (λ (v : Vec _ Global). MakesAll k k1 (region_items c.in_ok-goals.goals.items ++ region_items v.items) (map States (goal_sets k.game) ++ map States (assumption_sets k.game))) (sym c.fill.ensures.others.1) made) in
    kit_made k k1 new ls kit own (subst (MakesAll k1 new (moves_in kit)) (meanings_stay k k1 (g.met.G.Regions.exact _) (λ w. omega (arith, made.held w)) ls c.requires.regions) c.in-Ok.ensures.made)

pub returns-in-Err-clause-halted : goal.returns-in-Err-clause-halted
returns-in-Err-clause-halted g c =
    let kept = g.G.Regions.kept in
    let k = kept c.args.g.now in
    let k1 = kept c.goal_regions.new.g in
    let new = kept c.fill.new.g in
    let kit = c.fill.new.kit in
    let ls = c.args.layers.now in
    let made = c.in_ok-goals.ensures.made in
    let own : MakesAll k k1 (region_items kit.goals.items ++ region_items kit.asms.items) (map States (goal_sets k.game) ++ map States (assumption_sets k.game)) =
    subst (λ (v : Vec _ Global). MakesAll k k1 (region_items v.items ++ region_items kit.asms.items) (map States (goal_sets k.game) ++ map States (assumption_sets k.game))) (sym c.fill.ensures.others.0)
    (subst (λ (v : Vec _ Global). MakesAll k k1 (region_items c.in_ok-goals.goals.items ++ region_items v.items) (map States (goal_sets k.game) ++ map States (assumption_sets k.game))) (sym c.fill.ensures.others.1) made) in
    let some = kit_held k k1 new ls kit own c.in-Err.ensures.halted in
    held_and_spent k new (kept c.spend_kit.new.g) (kit_items kit) some.0 (g.met.G.Regions.exact _) some.1 c.spend_kit.ensures.spends

pub returns-in-Err-clause-told : goal.returns-in-Err-clause-told
returns-in-Err-clause-told g c =
    let kept = g.G.Regions.kept in
    let k = kept c.args.g.now in
    let k1 = kept c.goal_regions.new.g in
    let new = kept c.fill.new.g in
    let kit = c.fill.new.kit in
    let ls = c.args.layers.now in
    let made = c.in_ok-goals.ensures.made in
    let own : MakesAll k k1 (region_items kit.goals.items ++ region_items kit.asms.items) (map States (goal_sets k.game) ++ map States (assumption_sets k.game)) =
    subst (λ (v : Vec _ Global). MakesAll k k1 (region_items v.items ++ region_items kit.asms.items) (map States (goal_sets k.game) ++ map States (assumption_sets k.game))) (sym c.fill.ensures.others.0)
    (subst (λ (v : Vec _ Global). MakesAll k k1 (region_items c.in_ok-goals.goals.items ++ region_items v.items) (map States (goal_sets k.game) ++ map States (assumption_sets k.game))) (sym c.fill.ensures.others.1) made) in
    let tale = tale_of k ls in
    told_still k new (kept c.spend_kit.new.g) tale c.in-Err.halt c.spend_kit.ensures.spends.jam
    (told_after k k1 new tale (region_items kit.goals.items ++ region_items kit.asms.items) (map States (goal_sets k.game) ++ map States (assumption_sets k.game)) c.in-Err.halt own
    (each_append (IsMade tale) (map States (goal_sets k.game)) (map States (assumption_sets k.game)) (made_sets tale (goal_sets k.game) (its_goals k ls)) (made_sets tale (assumption_sets k.game) (its_asms k ls)))
    (c.in-Err.ensures.told tale (tale_stays k k1 (g.met.G.Regions.exact _) (λ w. omega (arith, made.held w)) ls c.requires.regions tale (its_tale k ls))))
