use Rattle.std.proofs.Common.{◌∙◌, ◌++◌, ◌∷◌, [], List, ap, subst, sym, arith}
use Rattle.std.proofs.lemmas.Bool.{false≢true}
use Rattle.regions.specs.Kept.{HasRegion}
use Rattle.gr1_sys.specs.Held.{HasTogether, SpendsAll, rank_sets, layer_regions, goal_regions, last_region}
use Rattle.gr1_sys.proofs.Lists.{held_each, together_each, together_as, together_stays, takes_all, region_stays}
use Rattle.gr1_sys.proofs.Climbed.{last_region_held, compared, next_spent}
use Rattle.gr1_sys.proofs.Told.{still_told}
use Rattle.gr1_sys.proofs.climbing.grow.Goals as goal

pub layer_above-requires-clause-below : goal.layer_above-requires-clause-below
layer_above-requires-clause-below g c =
    let k = g.G.Regions.kept c.args.g.now in
    let last_is = c.last_layer.ensures ∙ ap (last_region c.args.given.now.none) (c.deref.ensures.value ∙ c.reserve.ensures.items) in
    subst (HasRegion k) (sym last_is) (last_region_held k c.args.given.now.none c.args.layers.items c.requires.given.none (together_each k (goal_regions c.args.layers.items) c.requires.layers))

pub same-requires-clause-a : goal.same-requires-clause-a
same-requires-clause-a g c =
    let kept = g.G.Regions.kept in
    let k = kept c.args.g.now in
    let some = c.in-Ok.ensures.some in
    let asked_is = c.last_layer-in-Ok.ensures ∙ ap (last_region c.args.given.now.none) (c.deref-in-Ok.ensures.value ∙ c.reserve.ensures.items) in
    let here = last_region_held k c.args.given.now.none c.args.layers.items c.requires.given.none (together_each k (goal_regions c.args.layers.items) c.requires.layers) in
    subst (HasRegion (kept c.layer_above.new.g)) (sym asked_is) (region_stays k (kept c.layer_above.new.g) _ (λ w. omega (arith, some.1.held w)) here)

pub same-requires-clause-b : goal.same-requires-clause-b
same-requires-clause-b g c =
    let some = c.in-Ok.ensures.some in
    (held_each (g.G.Regions.kept c.layer_above.new.g) (layer_regions c.in-Ok.next) some.0 some.1.counted (λ w. omega (arith, some.1.held w))).0

pub spend_layer-requires : goal.spend_layer-requires
spend_layer-requires g c =
    let some = c.in-Ok.ensures.some in
    together_as (g.G.Regions.kept c.layer_above.new.g) (layer_regions c.in-Ok.next) some.0 (g.met.G.Regions.exact _) some.1.counted (λ w. omega (arith, some.1.held w))

pub spend_layers-requires-in-Err : goal.spend_layers-requires-in-Err
spend_layers-requires-in-Err g c =
    let kept = g.G.Regions.kept in
    subst (λ (ls : List _). HasTogether (kept c.layer_above.new.g) (goal_regions ls)) (sym c.reserve.ensures.items)
    (together_stays (kept c.args.g.now) (kept c.layer_above.new.g) (goal_regions c.args.layers.items) (g.met.G.Regions.exact _) (λ w. omega (arith, c.in-Err.ensures.halted w)) c.requires.layers)

pub returns-then-same-clause-grown : goal.returns-then-same-clause-grown
returns-then-same-clause-grown g c = λ z j n reach_is last_is.
    let kept = g.G.Regions.kept in
    let k = kept c.args.g.now in
    let k1 = kept c.layer_above.new.g in
    let last = last_region c.args.given.now.none c.args.layers.items in
    let here = last_region_held k c.args.given.now.none c.args.layers.items c.requires.given.none (together_each k (goal_regions c.args.layers.items) c.requires.layers) in
    let below_is = c.last_layer.ensures ∙ ap (last_region c.args.given.now.none) (c.deref.ensures.value ∙ c.reserve.ensures.items) in
    let asked_is = c.last_layer-in-Ok.ensures ∙ ap (last_region c.args.given.now.none) (c.deref-in-Ok.ensures.value ∙ c.reserve.ensures.items) in
    let made = c.in-Ok.ensures.made z j n reach_is (ap k.set below_is ∙ last_is) in
    let are = compared k.game k k1 c.in-Ok.next last z j n (g.met.G.Regions.exact _) here last_is made in
    let equal = ap k1.set (sym asked_is) ∙ c.same.ensures.0 c.if-same.true in
    let gone = next_spent k k1 (kept c.spend_layer.new.g) (layer_regions c.in-Ok.next) (rank_sets k.game z j n) (g.met.G.Regions.exact _) made c.spend_layer.ensures.spends in
    (c.reserve.ensures.items, (gone.0, (gone.1, sym are.0 ∙ (equal ∙ are.1))))

pub returns-else-same-clause-grown : goal.returns-else-same-clause-grown
returns-else-same-clause-grown g c = λ z j n reach_is last_is.
    let kept = g.G.Regions.kept in
    let k = kept c.args.g.now in
    let k1 = kept c.layer_above.new.g in
    let last = last_region c.args.given.now.none c.args.layers.items in
    let here = last_region_held k c.args.given.now.none c.args.layers.items c.requires.given.none (together_each k (goal_regions c.args.layers.items) c.requires.layers) in
    let below_is = c.last_layer.ensures ∙ ap (last_region c.args.given.now.none) (c.deref.ensures.value ∙ c.reserve.ensures.items) in
    let asked_is = c.last_layer-in-Ok.ensures ∙ ap (last_region c.args.given.now.none) (c.deref-in-Ok.ensures.value ∙ c.reserve.ensures.items) in
    let made = c.in-Ok.ensures.made z j n reach_is (ap k.set below_is ∙ last_is) in
    let are = compared k.game k k1 c.in-Ok.next last z j n (g.met.G.Regions.exact _) here last_is made in (
      c.in-Ok.next,
      (
        c.push_reserved.ensures.items ∙ ap (λ (ls : List _). ls ++ c.in-Ok.next ∷ []) c.reserve.ensures.items,
        (
          made,
          (
            c.in-Ok.ensures.parts,
            λ e. false≢true (sym c.if-same.false ∙ c.same.ensures.1 (ap k1.set asked_is ∙ (are.0 ∙ (e ∙ sym are.1)))),
          ),
        ),
      ),
    )

pub returns-in-Err-clause-halted : goal.returns-in-Err-clause-halted
returns-in-Err-clause-halted g c =
    let kept = g.G.Regions.kept in
    takes_all (kept c.args.g.now) (kept c.layer_above.new.g) (kept c.spend_layers-in-Err.new.g) (goal_regions c.args.layers.items) (g.met.G.Regions.exact _) c.requires.layers c.in-Err.ensures.halted
    (subst (λ (ls : List _). SpendsAll (kept c.layer_above.new.g) (kept c.spend_layers-in-Err.new.g) (goal_regions ls)) c.reserve.ensures.items c.spend_layers-in-Err.ensures.spends)

pub returns-in-Err-clause-told : goal.returns-in-Err-clause-told
returns-in-Err-clause-told g c = λ z j n goal_in reach_is last_is.
    let kept = g.G.Regions.kept in
    let k = kept c.args.g.now in
    let below_is = c.last_layer.ensures ∙ ap (last_region c.args.given.now.none) (c.deref.ensures.value ∙ c.reserve.ensures.items) in
    still_told k (kept c.layer_above.new.g) (kept c.spend_layers-in-Err.new.g) z c.in-Err.halt c.spend_layers-in-Err.ensures.spends.jam (c.in-Err.ensures.told z j n goal_in reach_is (ap k.set below_is ∙ last_is))
