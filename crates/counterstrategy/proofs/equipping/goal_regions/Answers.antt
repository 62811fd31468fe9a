use Rattle.std.proofs.Common.{map, subst, sym}
use Rattle.regions.specs.Kept.{States}
use Rattle.gr1_law.specs.Layers.{goal_sets, assumption_sets}
use Rattle.strategy_parts.specs.Owned.{Every, MakesAll, region_items}
use Rattle.strategy_parts.specs.Told.{IsIn, TellsHalt}
use Rattle.strategy_parts.proofs.Telling.{makes_both, still_all, made_and_spent, made_sets, told_after, told_still}
use Rattle.counterstrategy.proofs.Erring.{err_told}
use Rattle.counterstrategy.proofs.equipping.goal_regions.Goals as goal

pub returns-in_err-goals-clause-told : goal.returns-in_err-goals-clause-told
returns-in_err-goals-clause-told g c = λ tale goals asms.
    let kept = g.G.Regions.kept in
    err_told c.from_residual.result (TellsHalt (kept c.args.g.now) (kept c.recurring_regions.new.g) tale) _ c.from_residual.ensures.1 (c.in_err-goals.ensures.told tale goals)

pub spend_regions-requires : goal.spend_regions-requires
spend_regions-requires g c =
    let kept = g.G.Regions.kept in
    still_all (kept c.args.g.now) (kept c.recurring_regions.new.g) (kept c.recurring_regions-2.new.g) (region_items c.in_ok-goals.goals.items) _ (g.met.G.Regions.exact _) c.in_ok-goals.ensures.made c.in-Err.ensures.halted

pub returns-in-Ok-clause-made : goal.returns-in-Ok-clause-made
returns-in-Ok-clause-made g c =
    let kept = g.G.Regions.kept in
    let k = kept c.args.g.now in
    let k1 = kept c.recurring_regions.new.g in
    let new = kept c.recurring_regions-2.new.g in
    makes_both k k1 new (region_items c.in_ok-goals.goals.items) (region_items c.in-Ok.asms.items) (map States (goal_sets k.game)) (map States (assumption_sets k.game)) c.in_ok-goals.ensures.made
    (subst (λ h. MakesAll k1 new (region_items c.in-Ok.asms.items) (map States (assumption_sets h))) c.recurring_regions.ensures.keeps.game c.in-Ok.ensures.made)

pub returns-in-Err-clause-halted : goal.returns-in-Err-clause-halted
returns-in-Err-clause-halted g c =
    let kept = g.G.Regions.kept in
    made_and_spent (kept c.args.g.now) (kept c.recurring_regions.new.g) (kept c.recurring_regions-2.new.g) (kept c.spend_regions.new.g) (region_items c.in_ok-goals.goals.items) _ (g.met.G.Regions.exact _) c.in_ok-goals.ensures.made c.in-Err.ensures.halted c.spend_regions.ensures.spends

pub returns-in-Err-clause-told : goal.returns-in-Err-clause-told
returns-in-Err-clause-told g c = λ tale goals asms.
    let kept = g.G.Regions.kept in
    let k = kept c.args.g.now in
    let k1 = kept c.recurring_regions.new.g in
    let new = kept c.recurring_regions-2.new.g in
    told_still k new (kept c.spend_regions.new.g) tale c.in-Err.halt c.spend_regions.ensures.spends.jam
    (told_after k k1 new tale (region_items c.in_ok-goals.goals.items) (map States (goal_sets k.game)) c.in-Err.halt c.in_ok-goals.ensures.made (made_sets tale (goal_sets k.game) goals)
    (c.in-Err.ensures.told tale (subst (λ h. Every (λ s. IsIn s tale.sets) (assumption_sets h)) (sym c.recurring_regions.ensures.keeps.game) asms)))
