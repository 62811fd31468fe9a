use Rattle.std.proofs.Common.{◌∙◌, List, length, ap, subst, sym, arith, map}
use Rattle.gr1_sys.specs.Held.{HasEach, MakesRegions, part_at, layer_sets, layer_regions}
use Rattle.gr1_sys.proofs.Lists.{each_stays, region_stays, set_kept}
use Rattle.gr1_sys.proofs.Parted.{rank_made, made_above, halted_above, given_counted, given_stays}
use Rattle.spec_model.specs.Sets.{either, pre_sys}
use Rattle.regions.proofs.Holding.{set_is}
use Rattle.gr1_sys.specs.Solution.{layer_of}
use Rattle.gr1_sys.specs.Moment.{IsGoal, base_of, based}
use Rattle.gr1_sys.specs.Told.{AreLapses, TellsHalt}
use Rattle.gr1_sys.proofs.Told.{handed_on, past_one}
use Rattle.gr1_sys.proofs.ranks.layer_above.Goals as goal

pub layer_on-requires-clause-lapses : goal.layer_on-requires-clause-lapses
layer_on-requires-clause-lapses g c =
    let kept = g.G.Regions.kept in
    let made = c.in_ok-base.ensures.made in
    subst (HasEach (kept c.base_above.new.g)) (sym c.deref.ensures.value) (each_stays (kept c.args.g.now) (kept c.base_above.new.g) c.args.given.now.lapses.items (λ w. omega (arith, made.held w)) c.requires.given.lapses)

pub layer_on-requires-clause-none : goal.layer_on-requires-clause-none
layer_on-requires-clause-none g c =
    let kept = g.G.Regions.kept in
    let k = kept c.args.g.now in
    let k1 = kept c.base_above.new.g in
    let made = c.in_ok-base.ensures.made in (
      region_stays k k1 c.args.given.now.none (λ w. omega (arith, made.held w)) c.requires.given.none,
      set_kept k k1 c.args.given.now.none (g.met.G.Regions.exact _) (λ w. omega (arith, made.held w)) c.requires.given.none ∙ c.requires.given.empty,
    )

pub returns-in-Ok-clause-made : goal.returns-in-Ok-clause-made
returns-in-Ok-clause-made g c = λ z j r reach_is low_is.
    let kept = g.G.Regions.kept in
    let k = kept c.args.g.now in
    let k1 = kept c.base_above.new.g in
    let k2 = kept c.layer_on.new.g in
    let sets = rank_made k k1 c.in_ok-base.base c.args.reach.now c.args.below.now c.args.given.now z j r (g.met.G.Regions.exact _) c.base_above.ensures.keeps c.requires.given c.in_ok-base.ensures.made reach_is low_is in
    let made = subst (λ (ls : List _). MakesRegions k1 k2 (layer_regions c.in-Ok.layer) (layer_sets (part_at k1 c.in_ok-base.base ls) (length ls))) c.deref.ensures.value c.in-Ok.ensures.made in
    made_above k k1 k2 (kept c.spend.new.self) c.in_ok-base.base _ (layer_regions c.in-Ok.layer) _ (g.met.G.Regions.exact _) c.in_ok-base.ensures.made
    (subst (MakesRegions k1 k2 (layer_regions c.in-Ok.layer)) sets made) c.spend.ensures.spends

pub returns-in-Ok-clause-parts : goal.returns-in-Ok-clause-parts
returns-in-Ok-clause-parts g c = c.in-Ok.ensures.parts ∙ (ap (λ (ls : List _). length ls) c.deref.ensures.value ∙ given_counted (g.G.Regions.kept c.args.g.now) c.args.given.now c.requires.given)

pub returns-in-Err-clause-halted : goal.returns-in-Err-clause-halted
returns-in-Err-clause-halted g c =
    let kept = g.G.Regions.kept in
    halted_above (kept c.args.g.now) (kept c.base_above.new.g) (kept c.layer_on.new.g) (kept c.spend-in-Err.new.self) c.in_ok-base.base _ (g.met.G.Regions.exact _) c.in_ok-base.ensures.made c.in-Err.ensures.halted c.spend-in-Err.ensures.spends

pub returns-in-Ok-clause-some : goal.returns-in-Ok-clause-some
returns-in-Ok-clause-some g c =
    let kept = g.G.Regions.kept in (
      layer_sets (part_at (kept c.base_above.new.g) c.in_ok-base.base c.deref.result.now) (length c.deref.result.now),
      made_above (kept c.args.g.now) (kept c.base_above.new.g) (kept c.layer_on.new.g) (kept c.spend.new.self) c.in_ok-base.base _ (layer_regions c.in-Ok.layer) _ (g.met.G.Regions.exact _) c.in_ok-base.ensures.made c.in-Ok.ensures.made c.spend.ensures.spends,
    )

pub returns-in_err-base-clause-told : goal.returns-in_err-base-clause-told
returns-in_err-base-clause-told g c = λ z j r goal_in reach_is low_is.
    let kept = g.G.Regions.kept in
    handed_on c.from_residual.result c.in_err-base.field-0.0 (TellsHalt (kept c.args.g.now) (kept c.base_above.new.g) z) c.from_residual.ensures.1 (c.in_err-base.ensures.told z j r goal_in reach_is low_is)

pub returns-in-Err-clause-told : goal.returns-in-Err-clause-told
returns-in-Err-clause-told g c = λ z j r goal_in reach_is low_is.
    let kept = g.G.Regions.kept in
    let k = kept c.args.g.now in
    let k1 = kept c.base_above.new.g in
    let made = c.in_ok-base.ensures.made in
    let set = either (pre_sys k.game (k.set c.args.below.now)) (k.set c.args.reach.now) in
    let base_is = ap (λ t. either (pre_sys k.game t) (k.set c.args.reach.now)) low_is ∙ ap (either (pre_sys k.game (layer_of k.game z j r))) reach_is in
    let base_now = set_is k1 c.in_ok-base.base set (g.met.G.Regions.exact _) (λ w. omega (arith, made.held w)) ∙ (base_is ∙ ap (λ h. base_of h z j r) (sym c.base_above.ensures.keeps.game)) in
    let given = given_stays k k1 c.args.given.now (g.met.G.Regions.exact _) c.base_above.ensures.keeps (λ w. omega (arith, made.held w)) c.requires.given in
    let lapses = subst (λ (rs : List _). AreLapses k1.game (map k1.set rs)) (sym c.deref.ensures.value) given.lapse_sets in
    past_one k k1 (kept c.layer_on.new.g) (kept c.spend-in-Err.new.self) z c.in_ok-base.base set c.in-Err.halt c.base_above.ensures.keeps.game made (based j r goal_in base_is) c.spend-in-Err.ensures.spends.jam
    (c.in-Err.ensures.told z j r (subst (λ h. IsGoal h j) (sym c.base_above.ensures.keeps.game) goal_in) base_now lapses)
