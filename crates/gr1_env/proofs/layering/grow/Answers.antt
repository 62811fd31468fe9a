use Rattle.std.proofs.Common.{◌∙◌, ◌++◌, ◌∷◌, [], List, map, ap, subst, sym, arith}
use Rattle.std.proofs.lemmas.Bool.{false≢true}
use Rattle.regions.specs.Kept.{HasRegion}
use Rattle.gr1_sys.specs.Held.{HasTogether, SpendsAll}
use Rattle.gr1_sys.proofs.Lists.{together_each, together_stays, takes_all, region_stays, set_kept}
use Rattle.gr1_sys.proofs.Climbed.{next_spent}
use Rattle.gr1_env.specs.Held.{HasLayer, layer_regions, all_regions, last_z}
use Rattle.gr1_env.proofs.Growing.{last_z_held, layer_held, z_is}
use Rattle.gr1_env.proofs.Told.{layer_still}
use Rattle.gr1_env.proofs.layering.grow.Goals as goal

pub layer_above-requires-clause-lower : goal.layer_above-requires-clause-lower
layer_above-requires-clause-lower g c =
    let k = g.G.Regions.kept c.args.g.now in
    let last_is = c.last_layer.ensures ∙ ap (last_z c.args.given.now.none) (c.deref.ensures.value ∙ c.reserve.ensures.items) in
    subst (HasRegion k) (sym last_is) (last_z_held k c.args.given.now.none c.args.layers.items c.requires.given.none (together_each k (all_regions c.args.layers.items) c.requires.layers))

pub same-requires-clause-a : goal.same-requires-clause-a
same-requires-clause-a g c =
    let kept = g.G.Regions.kept in
    let k = kept c.args.g.now in
    let asked_is = c.last_layer-in-Ok.ensures ∙ ap (last_z c.args.given.now.none) (c.deref-in-Ok.ensures.value ∙ c.reserve.ensures.items) in
    let here = last_z_held k c.args.given.now.none c.args.layers.items c.requires.given.none (together_each k (all_regions c.args.layers.items) c.requires.layers) in
    subst (HasRegion (kept c.layer_above.new.g)) (sym asked_is) (region_stays k (kept c.layer_above.new.g) _ (λ w. omega (arith, c.in-Ok.ensures.made.made.held w)) here)

pub same-requires-clause-b : goal.same-requires-clause-b
same-requires-clause-b g c =
    let k1 = g.G.Regions.kept c.layer_above.new.g in
    (together_each k1 (layer_regions c.in-Ok.next) (layer_held _ _ k1 _ _ _ c.in-Ok.next (g.met.G.Regions.exact _) c.in-Ok.ensures.made)).0

pub spend_layer-requires : goal.spend_layer-requires
spend_layer-requires g c =
    layer_held _ _ (g.G.Regions.kept c.layer_above.new.g) _ _ _ c.in-Ok.next (g.met.G.Regions.exact _) c.in-Ok.ensures.made

pub spend_layers-requires-in-Err : goal.spend_layers-requires-in-Err
spend_layers-requires-in-Err g c =
    let kept = g.G.Regions.kept in
    subst (λ (ls : List _). HasTogether (kept c.layer_above.new.g) (all_regions ls)) (sym c.reserve.ensures.items)
    (together_stays (kept c.args.g.now) (kept c.layer_above.new.g) (all_regions c.args.layers.items) (g.met.G.Regions.exact _) (λ w. omega (arith, c.in-Err.ensures.halted w)) c.requires.layers)

pub returns-then-same-clause-grown : goal.returns-then-same-clause-grown
returns-then-same-clause-grown g c =
    let kept = g.G.Regions.kept in
    let k = kept c.args.g.now in
    let k1 = kept c.layer_above.new.g in
    let last = last_z c.args.given.now.none c.args.layers.items in
    let misses = map k.set c.args.given.now.misses.items in
    let asms = map k.set c.args.given.now.asms.items in
    let here = last_z_held k c.args.given.now.none c.args.layers.items c.requires.given.none (together_each k (all_regions c.args.layers.items) c.requires.layers) in
    let below_is = c.last_layer.ensures ∙ ap (last_z c.args.given.now.none) (c.deref.ensures.value ∙ c.reserve.ensures.items) in
    let asked_is = c.last_layer-in-Ok.ensures ∙ ap (last_z c.args.given.now.none) (c.deref-in-Ok.ensures.value ∙ c.reserve.ensures.items) in
    let has = subst (λ t. HasLayer k.game k k1 (k.set t) misses asms c.in-Ok.next) below_is c.in-Ok.ensures.made in
    let last_kept = set_kept k k1 last (g.met.G.Regions.exact _) (λ w. omega (arith, has.made.held w)) here in
    let next_is = z_is k.game k k1 (k.set last) misses asms c.in-Ok.next (g.met.G.Regions.exact _) has in
    let equal = ap k1.set (sym asked_is) ∙ c.same.ensures.0 c.if-same.true in
    let gone = next_spent k k1 (kept c.spend_layer.new.g) (layer_regions c.in-Ok.next) _ (g.met.G.Regions.exact _) has.made c.spend_layer.ensures.spends in
    (c.reserve.ensures.items, (gone.0, (gone.1, sym last_kept ∙ (equal ∙ next_is))))

pub returns-else-same-clause-grown : goal.returns-else-same-clause-grown
returns-else-same-clause-grown g c =
    let kept = g.G.Regions.kept in
    let k = kept c.args.g.now in
    let k1 = kept c.layer_above.new.g in
    let last = last_z c.args.given.now.none c.args.layers.items in
    let misses = map k.set c.args.given.now.misses.items in
    let asms = map k.set c.args.given.now.asms.items in
    let here = last_z_held k c.args.given.now.none c.args.layers.items c.requires.given.none (together_each k (all_regions c.args.layers.items) c.requires.layers) in
    let below_is = c.last_layer.ensures ∙ ap (last_z c.args.given.now.none) (c.deref.ensures.value ∙ c.reserve.ensures.items) in
    let asked_is = c.last_layer-in-Ok.ensures ∙ ap (last_z c.args.given.now.none) (c.deref-in-Ok.ensures.value ∙ c.reserve.ensures.items) in
    let has = subst (λ t. HasLayer k.game k k1 (k.set t) misses asms c.in-Ok.next) below_is c.in-Ok.ensures.made in
    let last_kept = set_kept k k1 last (g.met.G.Regions.exact _) (λ w. omega (arith, has.made.held w)) here in
    let next_is = z_is k.game k k1 (k.set last) misses asms c.in-Ok.next (g.met.G.Regions.exact _) has in (
      c.in-Ok.next,
      (
        c.push_reserved.ensures.items ∙ ap (λ (ls : List _). ls ++ c.in-Ok.next ∷ []) c.reserve.ensures.items,
        (has, λ e. false≢true (sym c.if-same.false ∙ c.same.ensures.1 (ap k1.set asked_is ∙ (last_kept ∙ (e ∙ sym next_is))))),
      ),
    )

pub returns-in-Err-clause-halted : goal.returns-in-Err-clause-halted
returns-in-Err-clause-halted g c =
    let kept = g.G.Regions.kept in
    takes_all (kept c.args.g.now) (kept c.layer_above.new.g) (kept c.spend_layers-in-Err.new.g) (all_regions c.args.layers.items) (g.met.G.Regions.exact _) c.requires.layers c.in-Err.ensures.halted
    (subst (λ (ls : List _). SpendsAll (kept c.layer_above.new.g) (kept c.spend_layers-in-Err.new.g) (all_regions ls)) c.reserve.ensures.items c.spend_layers-in-Err.ensures.spends)

pub returns-in-Err-clause-told : goal.returns-in-Err-clause-told
returns-in-Err-clause-told g c = λ game a same last_is are.
    let kept = g.G.Regions.kept in
    let k = kept c.args.g.now in
    let below_is = c.last_layer.ensures ∙ ap (last_z c.args.given.now.none) (c.deref.ensures.value ∙ c.reserve.ensures.items) in
    layer_still game k (kept c.layer_above.new.g) (kept c.spend_layers-in-Err.new.g) a c.in-Err.halt c.spend_layers-in-Err.ensures.spends.jam (c.in-Err.ensures.told game a same (ap k.set below_is ∙ last_is) are)
