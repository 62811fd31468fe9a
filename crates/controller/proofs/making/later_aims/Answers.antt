use Rattle.std.proofs.Common.{◌∙◌, ◌+◌, ◌++◌, ◌∷◌, [], List, map, take, ap, subst, sym, refl, arith}
use Rattle.std.proofs.lemmas.List.{map-append, take_all}
use Rattle.regions.specs.Kept.{Meaning, HasRegion, Outputs}
use Rattle.regions.specs.declared.types.When.TheVariants.{Later}
use Rattle.gr1_sys.specs.Held.{HasEach, goal_regions, all_regions}
use Rattle.strategy_parts.specs.Owned.{MakesAll}
use Rattle.controller.specs.Owned.{aims_items, all_aims_items}
use Rattle.strategy_parts.specs.Told.{IsIn}
use Rattle.controller.specs.Made.{AreTargets, AreLike, AreAllLike, leadings, regions_for}
use Rattle.strategy_parts.proofs.Holdings.{same_then}
use Rattle.controller.proofs.Owning.{all_aims_items-push}
use Rattle.strategy_parts.proofs.Telling.{take_next, has_every, has_each, each_stays, nothing_made, makes_next, still_all, made_and_spent}
use Rattle.controller.proofs.Makings.{every_goal, every_goals_take, targets_stay, leadings_stay, made_moves, told_after, told_still, all_regions-push, later_regions, all_like_push}
use Rattle.controller.proofs.making.later_aims.Goals as goal

pub loop-goal-init : goal.loop-goal-init
loop-goal-init g c =
    let first = g.G.Regions.kept c.args.g.now in
    record {
      made = subst (λ (list : List _). MakesAll first first (all_aims_items list) []) (sym c.in-Ok.ensures.items) (nothing_made first c.requires.free);
      alike = subst (λ (list : List _). AreAllLike list []) (sym c.in-Ok.ensures.items) tt;
      counted = c.in-Ok.ensures.len;
      room = omega (arith, c.in-Ok.ensures.capacity);
      same = record { game = refl; bound = refl };
    }

pub aims_into-requires-clause-free : goal.aims_into-requires-clause-free
aims_into-requires-clause-free g c = c.loop-goal.invariant.made.jam

pub aims_into-requires-clause-layers : goal.aims_into-requires-clause-layers
aims_into-requires-clause-layers g c =
    let kept = g.G.Regions.kept in
    let first = kept c.args.g.now in
    let made = c.loop-goal.invariant.made in
    let item = c.goal-item.result in
    let rs = goal_regions item.items in
    let each = has_each first rs (every_goal (HasRegion first) c.args.layers.now c.loop-goal.goal-index item (has_every first (all_regions c.args.layers.now) c.requires.layers) c.loop-goal-test.true c.goal-item.is) in
    subst (HasEach (kept c.loop-goal.g)) (sym (later_regions item.items) ∙ ap (regions_for Later) (sym c.deref.ensures.value))
    (each_stays first (kept c.loop-goal.g) (g.met.G.Regions.exact _) (λ w. omega (arith, made.held w)) rs each)

pub loop-goal-preserved : goal.loop-goal-preserved
loop-goal-preserved g c =
    let kept = g.G.Regions.kept in
    let first = kept c.args.g.now in
    let k = kept c.loop-goal.g in
    let new = kept c.aims_into.new.g in
    let inv = c.loop-goal.invariant in
    let made = inv.made in
    let item = c.goal-item.result in
    let aims = c.in-Ok-aims_into.aims in
    let layers = c.args.layers.now in
    let i = c.loop-goal.goal-index in
    let rs = goal_regions item.items in
    let each = has_each first rs (every_goal (HasRegion first) layers i item (has_every first (all_regions layers) c.requires.layers) c.loop-goal-test.true c.goal-item.is) in
    let stays = leadings_stay first k (g.met.G.Regions.exact _) (λ w. omega (arith, made.held w)) Later rs each in
    let are = ap (regions_for Later) c.deref.ensures.value ∙ later_regions item.items in
    let own : MakesAll k new (aims_items aims.items) (leadings k Later rs) = subst (λ (qs : List _). MakesAll k new (aims_items aims.items) (leadings k Later qs)) are c.in-Ok-aims_into.ensures.made in
    let part : MakesAll k new (aims_items aims.items) (leadings first Later rs) = subst (MakesAll k new (aims_items aims.items)) stays own in
    let taken = take_next layers i item c.loop-goal-test.true c.goal-item.is in
    let f : _ → Meaning = λ r. Outputs Later (first.set r) in
    record {
      made = makes_next first k new (all_aims_items c.loop-goal.goals.items) (aims_items aims.items) _ (leadings first Later (all_regions (take i layers))) (leadings first Later rs) _
          (ap all_aims_items c.push_reserved.ensures.items ∙ all_aims_items-push c.loop-goal.goals.items aims)
          (ap (λ ls. leadings first Later (all_regions ls)) taken ∙ (ap (map f) (all_regions-push (take i layers) item) ∙ map-append f (all_regions (take i layers)) rs)) made part;
      alike = subst (λ (list : List _). AreAllLike list (take (i + 1) layers)) (sym c.push_reserved.ensures.items) (subst (AreAllLike (c.loop-goal.goals.items ++ aims ∷ [])) (sym taken) (all_like_push c.loop-goal.goals.items (take i layers) aims item inv.alike (subst (AreLike Later aims.items) c.deref.ensures.value c.in-Ok-aims_into.ensures.alike)));
      counted = c.push_reserved.ensures.len ∙ ap (λ n. n + 1) inv.counted;
      room = omega (arith, inv.room, c.push_reserved.ensures.capacity);
      same = same_then first k new inv.same c.aims_into.ensures.keeps;
    }

pub spend_all_aims-requires : goal.spend_all_aims-requires
spend_all_aims-requires g c =
    let kept = g.G.Regions.kept in
    still_all (kept c.args.g.now) (kept c.loop-goal.g) (kept c.aims_into.new.g) (all_aims_items c.loop-goal.goals.items) _ (g.met.G.Regions.exact _) c.loop-goal.invariant.made c.in-Err.ensures.halted

pub returns-in-Err-clause-halted : goal.returns-in-Err-clause-halted
returns-in-Err-clause-halted g c =
    let kept = g.G.Regions.kept in
    made_and_spent (kept c.args.g.now) (kept c.loop-goal.g) (kept c.aims_into.new.g) (kept c.spend_all_aims.new.g) (all_aims_items c.loop-goal.goals.items) _ (g.met.G.Regions.exact _) c.loop-goal.invariant.made c.in-Err.ensures.halted c.spend_all_aims.ensures.spends

pub returns-in-Err-clause-told : goal.returns-in-Err-clause-told
returns-in-Err-clause-told g c = λ l all.
    let kept = g.G.Regions.kept in
    let first = kept c.args.g.now in
    let k = kept c.loop-goal.g in
    let new = kept c.aims_into.new.g in
    let made = c.loop-goal.invariant.made in
    let item = c.goal-item.result in
    let layers = c.args.layers.now in
    let i = c.loop-goal.goal-index in
    let rs = goal_regions item.items in
    let each = has_each first rs (every_goal (HasRegion first) layers i item (has_every first (all_regions layers) c.requires.layers) c.loop-goal-test.true c.goal-item.is) in
    let of = targets_stay first k (g.met.G.Regions.exact _) (λ w. omega (arith, made.held w)) l Later rs each (every_goal (λ r. IsIn (first.set r) (l Later)) layers i item all c.loop-goal-test.true c.goal-item.is) in
    told_still first new (kept c.spend_all_aims.new.g) l c.in-Err.halt c.spend_all_aims.ensures.spends.jam
    (told_after first k new l (all_aims_items c.loop-goal.goals.items) (leadings first Later (all_regions (take i layers))) c.in-Err.halt made c.loop-goal.invariant.same
    (made_moves first l Later (all_regions (take i layers)) (every_goals_take (λ r. IsIn (first.set r) (l Later)) i layers all))
    (c.in-Err.ensures.told l (subst (AreTargets l Later k) (sym (later_regions item.items) ∙ ap (regions_for Later) (sym c.deref.ensures.value)) of)))

pub returns-clause-made : goal.returns-clause-made
returns-clause-made g c =
    let first = g.G.Regions.kept c.args.g.now in
    let layers = c.args.layers.now in
    subst (λ (ls : List _). MakesAll first (g.G.Regions.kept c.loop-goal.g) (all_aims_items c.loop-goal.goals.items) (leadings first Later (all_regions ls))) (take_all c.loop-goal.goal-index layers (omega (arith, c.loop-goal-test.false))) c.loop-goal.invariant.made

pub returns-clause-alike : goal.returns-clause-alike
returns-clause-alike g c = subst (AreAllLike c.loop-goal.goals.items) (take_all c.loop-goal.goal-index c.args.layers.now (omega (arith, c.loop-goal-test.false))) c.loop-goal.invariant.alike
