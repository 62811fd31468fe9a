use Rattle.std.proofs.Common.{◌∙◌, ◌+◌, ◌++◌, ◌∷◌, [], List, map, take, ap, subst, sym, refl, arith}
use Rattle.std.proofs.lemmas.List.{map-append, take_all}
use Rattle.regions.specs.Kept.{Meaning, HasRegion, Outputs}
use Rattle.gr1_sys.specs.Held.{HasEach}
use Rattle.strategy_parts.specs.Owned.{MakesAll}
use Rattle.controller.specs.Owned.{aim_items, aims_items}
use Rattle.strategy_parts.specs.Told.{IsIn}
use Rattle.controller.specs.Made.{AreTargets, AreLike, leadings, parts_for, regions_for}
use Rattle.strategy_parts.proofs.Holdings.{same_then}
use Rattle.controller.proofs.Owning.{aims_items-push}
use Rattle.strategy_parts.proofs.Telling.{take_next, has_every, has_each, each_stays, nothing_made, makes_next, still_all, made_and_spent}
use Rattle.controller.proofs.Makings.{every_layer, every_layers_take, targets_stay, leadings_stay, made_moves, told_after, told_still, regions_for-push, like_push, as_many}
use Rattle.controller.proofs.making.aims_into.Goals as goal

pub loop-layer-init : goal.loop-layer-init
loop-layer-init g c =
    let first = g.G.Regions.kept c.args.g.now in
    record {
      made = subst (λ (list : List _). MakesAll first first (aims_items list) []) (sym c.in-Ok.ensures.items) (nothing_made first c.requires.free);
      alike = subst (λ (list : List _). AreLike c.args.when list []) (sym c.in-Ok.ensures.items) tt;
      counted = c.in-Ok.ensures.len;
      room = omega (arith, c.in-Ok.ensures.capacity);
      same = record { game = refl; bound = refl };
    }

pub aim_into-requires-clause-free : goal.aim_into-requires-clause-free
aim_into-requires-clause-free g c = c.loop-layer.invariant.made.jam

pub aim_into-requires-clause-regions : goal.aim_into-requires-clause-regions
aim_into-requires-clause-regions g c =
    let kept = g.G.Regions.kept in
    let first = kept c.args.g.now in
    let made = c.loop-layer.invariant.made in
    let item = c.layer-item.result in
    let each = has_each first (item.y ∷ parts_for c.args.when item) (every_layer (HasRegion first) c.args.when c.args.layers.now c.loop-layer.layer-index item (has_every first (regions_for c.args.when c.args.layers.now) c.requires.layers) c.loop-layer-test.true c.layer-item.is) in
    subst (λ (ps : List _). HasEach (kept c.loop-layer.g) (item.y ∷ ps)) (sym c.parts_for.ensures)
    (each_stays first (kept c.loop-layer.g) (g.met.G.Regions.exact _) (λ w. omega (arith, made.held w)) (item.y ∷ parts_for c.args.when item) each)

pub loop-layer-preserved : goal.loop-layer-preserved
loop-layer-preserved g c =
    let kept = g.G.Regions.kept in
    let first = kept c.args.g.now in
    let k = kept c.loop-layer.g in
    let new = kept c.aim_into.new.g in
    let inv = c.loop-layer.invariant in
    let made = inv.made in
    let item = c.layer-item.result in
    let aim = c.in-Ok-aim_into.aim in
    let when = c.args.when in
    let layers = c.args.layers.now in
    let i = c.loop-layer.layer-index in
    let rs = item.y ∷ parts_for when item in
    let each = has_each first rs (every_layer (HasRegion first) when layers i item (has_every first (regions_for when layers) c.requires.layers) c.loop-layer-test.true c.layer-item.is) in
    let stays = leadings_stay first k (g.met.G.Regions.exact _) (λ w. omega (arith, made.held w)) when rs each in
    let own : MakesAll k new (aim_items aim) (leadings k when rs) = subst (λ (ps : List _). MakesAll k new (aim_items aim) (leadings k when (item.y ∷ ps))) c.parts_for.ensures c.in-Ok-aim_into.ensures.made in
    let part : MakesAll k new (aim_items aim) (leadings first when rs) = subst (MakesAll k new (aim_items aim)) stays own in
    let many = as_many k k new aim when item.y (parts_for when item) own in
    let taken = take_next layers i item c.loop-layer-test.true c.layer-item.is in
    let f : _ → Meaning = λ r. Outputs when (first.set r) in
    record {
      made = makes_next first k new (aims_items c.loop-layer.aims.items) (aim_items aim) _ (leadings first when (regions_for when (take i layers))) (leadings first when rs) _
          (ap aims_items c.push_reserved.ensures.items ∙ aims_items-push c.loop-layer.aims.items aim)
          (ap (λ ls. leadings first when (regions_for when ls)) taken ∙ (ap (map f) (regions_for-push when (take i layers) item) ∙ map-append f (regions_for when (take i layers)) rs)) made part;
      alike = subst (λ (list : List _). AreLike when list (take (i + 1) layers)) (sym c.push_reserved.ensures.items) (subst (AreLike when (c.loop-layer.aims.items ++ aim ∷ [])) (sym taken) (like_push when c.loop-layer.aims.items (take i layers) aim item inv.alike many));
      counted = c.push_reserved.ensures.len ∙ ap (λ n. n + 1) inv.counted;
      room = omega (arith, inv.room, c.push_reserved.ensures.capacity);
      same = same_then first k new inv.same c.aim_into.ensures.keeps;
    }

pub spend_aims-requires : goal.spend_aims-requires
spend_aims-requires g c =
    let kept = g.G.Regions.kept in
    still_all (kept c.args.g.now) (kept c.loop-layer.g) (kept c.aim_into.new.g) (aims_items c.loop-layer.aims.items) _ (g.met.G.Regions.exact _) c.loop-layer.invariant.made c.in-Err.ensures.halted

pub returns-in-Err-clause-halted : goal.returns-in-Err-clause-halted
returns-in-Err-clause-halted g c =
    let kept = g.G.Regions.kept in
    made_and_spent (kept c.args.g.now) (kept c.loop-layer.g) (kept c.aim_into.new.g) (kept c.spend_aims.new.g) (aims_items c.loop-layer.aims.items) _ (g.met.G.Regions.exact _) c.loop-layer.invariant.made c.in-Err.ensures.halted c.spend_aims.ensures.spends

pub returns-in-Err-clause-told : goal.returns-in-Err-clause-told
returns-in-Err-clause-told g c = λ l all.
    let kept = g.G.Regions.kept in
    let first = kept c.args.g.now in
    let k = kept c.loop-layer.g in
    let new = kept c.aim_into.new.g in
    let made = c.loop-layer.invariant.made in
    let item = c.layer-item.result in
    let when = c.args.when in
    let layers = c.args.layers.now in
    let i = c.loop-layer.layer-index in
    let rs = item.y ∷ parts_for when item in
    let each = has_each first rs (every_layer (HasRegion first) when layers i item (has_every first (regions_for when layers) c.requires.layers) c.loop-layer-test.true c.layer-item.is) in
    let of = targets_stay first k (g.met.G.Regions.exact _) (λ w. omega (arith, made.held w)) l when rs each (every_layer (λ r. IsIn (first.set r) (l when)) when layers i item all c.loop-layer-test.true c.layer-item.is) in
    told_still first new (kept c.spend_aims.new.g) l c.in-Err.halt c.spend_aims.ensures.spends.jam
    (told_after first k new l (aims_items c.loop-layer.aims.items) (leadings first when (regions_for when (take i layers))) c.in-Err.halt made c.loop-layer.invariant.same
    (made_moves first l when (regions_for when (take i layers)) (every_layers_take (λ r. IsIn (first.set r) (l when)) when i layers all))
    (c.in-Err.ensures.told l (subst (λ (ps : List _). AreTargets l when k (item.y ∷ ps)) (sym c.parts_for.ensures) of)))

pub returns-clause-made : goal.returns-clause-made
returns-clause-made g c =
    let first = g.G.Regions.kept c.args.g.now in
    let layers = c.args.layers.now in
    subst (λ (ls : List _). MakesAll first (g.G.Regions.kept c.loop-layer.g) (aims_items c.loop-layer.aims.items) (leadings first c.args.when (regions_for c.args.when ls))) (take_all c.loop-layer.layer-index layers (omega (arith, c.loop-layer-test.false))) c.loop-layer.invariant.made

pub returns-clause-alike : goal.returns-clause-alike
returns-clause-alike g c = subst (AreLike c.args.when c.loop-layer.aims.items) (take_all c.loop-layer.layer-index c.args.layers.now (omega (arith, c.loop-layer-test.false))) c.loop-layer.invariant.alike
