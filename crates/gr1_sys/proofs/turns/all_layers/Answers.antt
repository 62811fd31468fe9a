use Rattle.std.proofs.Common.{◌≡◌, ◌∙◌, ◌+◌, List, length, ap, subst, sym, refl, arith}
use Rattle.spec_model.specs.Sets.{pre_sys}
use Rattle.gr1_sys.specs.Held.{HasClimbed, HaveClimbed, rank_sets, sets_of, all_regions}
use Rattle.gr1_sys.proofs.Holdings.{same_then}
use Rattle.gr1_sys.proofs.Lists.{region_stays, length_map, set_kept, together_as, made_and_spent_all}
use Rattle.gr1_sys.proofs.Parted.{given_stays}
use Rattle.gr1_sys.proofs.Turned.{none_climbed, more_climbed, goal_is}
use Rattle.gr1_sys.proofs.Told.{past_many}
use Rattle.gr1_sys.proofs.Naming.{layers_named}
use Rattle.gr1_sys.specs.Moment.{IsGoal}
use Rattle.gr1_sys.proofs.turns.all_layers.Goals as goal

pub loop-goal-init : goal.loop-goal-init
loop-goal-init g c =
    record {
      climbed = λ z is. none_climbed (g.G.Regions.kept c.args.g.now) z c.in-Ok.goals.items c.in-Ok.ensures.items c.requires.free;
      counted = c.in-Ok.ensures.len;
      room = omega (arith, c.in-Ok.ensures.capacity, c.deref-goal-items.ensures.len, c.len.ensures);
      same = record { game = refl; bound = refl };
    }

pub layers_of-requires-clause-free : goal.layers_of-requires-clause-free
layers_of-requires-clause-free g c = let z = c.requires.is_ready in (c.loop-goal.invariant.climbed z.0 z.1).made.jam

pub layers_of-requires-clause-goal : goal.layers_of-requires-clause-goal
layers_of-requires-clause-goal g c =
    let kept = g.G.Regions.kept in
    let z = c.requires.is_ready in
    let made = (c.loop-goal.invariant.climbed z.0 z.1).made in
    let is = goal_is (kept c.args.g.now) (kept c.loop-goal.g) c.args.given.now c.deref-goal-items.result.now c.goal-item.result c.loop-goal.goal-index (g.met.G.Regions.exact _) c.loop-goal.invariant.same (λ w. omega (arith, made.held w)) c.requires.given c.deref-goal-items.ensures.value c.loop-goal-test.true c.goal-item.is in
    region_stays (kept c.args.g.now) (kept c.loop-goal.g) c.goal-item.result (λ w. omega (arith, made.held w)) is.0

pub layers_of-requires-clause-ready : goal.layers_of-requires-clause-ready
layers_of-requires-clause-ready g c =
    let kept = g.G.Regions.kept in
    let z = c.requires.is_ready in
    let made = (c.loop-goal.invariant.climbed z.0 z.1).made in
    region_stays (kept c.args.g.now) (kept c.loop-goal.g) c.args.ready.now (λ w. omega (arith, made.held w)) c.requires.ready

pub layers_of-requires-clause-is_goal : goal.layers_of-requires-clause-is_goal
layers_of-requires-clause-is_goal g c =
    let kept = g.G.Regions.kept in
    let z = c.requires.is_ready in
    let made = (c.loop-goal.invariant.climbed z.0 z.1).made in
    let is = goal_is (kept c.args.g.now) (kept c.loop-goal.g) c.args.given.now c.deref-goal-items.result.now c.goal-item.result c.loop-goal.goal-index (g.met.G.Regions.exact _) c.loop-goal.invariant.same (λ w. omega (arith, made.held w)) c.requires.given c.deref-goal-items.ensures.value c.loop-goal-test.true c.goal-item.is in
    (c.loop-goal.goal-index, is.1)

pub layers_of-requires-clause-is_ready : goal.layers_of-requires-clause-is_ready
layers_of-requires-clause-is_ready g c =
    let kept = g.G.Regions.kept in
    let z = c.requires.is_ready in
    let made = (c.loop-goal.invariant.climbed z.0 z.1).made in
    (z.0, set_kept (kept c.args.g.now) (kept c.loop-goal.g) c.args.ready.now (g.met.G.Regions.exact _) (λ w. omega (arith, made.held w)) c.requires.ready ∙ (z.1 ∙ ap (λ h. pre_sys h z.0) (sym c.loop-goal.invariant.same.game)))

pub layers_of-requires-clause-given : goal.layers_of-requires-clause-given
layers_of-requires-clause-given g c =
    let kept = g.G.Regions.kept in
    let z = c.requires.is_ready in
    let made = (c.loop-goal.invariant.climbed z.0 z.1).made in
    given_stays (kept c.args.g.now) (kept c.loop-goal.g) c.args.given.now (g.met.G.Regions.exact _) c.loop-goal.invariant.same (λ w. omega (arith, made.held w)) c.requires.given

pub spend_goals-requires : goal.spend_goals-requires
spend_goals-requires g c =
    let z = c.requires.is_ready in
    let made = (c.loop-goal.invariant.climbed z.0 z.1).made in
    together_as (g.G.Regions.kept c.layers_of.new.g) (all_regions c.loop-goal.goals.items) _ (g.met.G.Regions.exact _) made.counted (λ w. omega (arith, made.held w, c.in-Err.ensures.halted w))

pub returns-in-Err-clause-halted : goal.returns-in-Err-clause-halted
returns-in-Err-clause-halted g c =
    let kept = g.G.Regions.kept in
    let z = c.requires.is_ready in
    made_and_spent_all (kept c.args.g.now) (kept c.loop-goal.g) (kept c.layers_of.new.g) (kept c.spend_goals.new.g) (all_regions c.loop-goal.goals.items) _ (g.met.G.Regions.exact _) (c.loop-goal.invariant.climbed z.0 z.1).made c.in-Err.ensures.halted c.spend_goals.ensures.spends

pub loop-goal-preserved : goal.loop-goal-preserved
loop-goal-preserved g c =
    let kept = g.G.Regions.kept in
    let first = kept c.args.g.now in
    let k = kept c.loop-goal.g in
    let new = kept c.layers_of.new.g in
    let inv = c.loop-goal.invariant in
    record {
      climbed = λ z ready_is.
          let climbed = inv.climbed z ready_is in
          let is = goal_is first k c.args.given.now c.deref-goal-items.result.now c.goal-item.result c.loop-goal.goal-index (g.met.G.Regions.exact _) inv.same (λ w. omega (arith, climbed.made.held w)) c.requires.given c.deref-goal-items.ensures.value c.loop-goal-test.true c.goal-item.is in
          let ready_now = set_kept first k c.args.ready.now (g.met.G.Regions.exact _) (λ w. omega (arith, climbed.made.held w)) c.requires.ready ∙ (ready_is ∙ ap (λ h. pre_sys h z) (sym inv.same.game)) in
          let last = subst (λ h. HasClimbed h k new z c.loop-goal.goal-index c.in-Ok-layers_of.layers.items) inv.same.game (c.in-Ok-layers_of.ensures.climbed z c.loop-goal.goal-index is.1 ready_now) in
          let place : c.loop-goal.goal-index ≡ length c.loop-goal.goals.items = omega (arith, inv.counted) in
          subst (λ (vs : List _). HaveClimbed first.game first new z vs) (sym c.push_reserved.ensures.items)
          (more_climbed first.game first k new z c.loop-goal.goals.items c.in-Ok-layers_of.layers climbed (subst (λ j. HasClimbed first.game k new z j c.in-Ok-layers_of.layers.items) place last));
      counted = c.push_reserved.ensures.len ∙ ap (λ n. n + 1) inv.counted;
      room = omega (arith, inv.room, c.push_reserved.ensures.capacity);
      same = same_then first k new inv.same c.layers_of.ensures.keeps;
    }

pub returns-clause-climbed : goal.returns-clause-climbed
returns-clause-climbed g c = λ z ready_is.
    (c.loop-goal.invariant.climbed z ready_is, omega (arith, c.loop-goal.invariant.counted, c.loop-goal-test.false, c.loop-goal.auto, c.deref-goal-items.ensures.value))

pub returns-in-Err-clause-told : goal.returns-in-Err-clause-told
returns-in-Err-clause-told g c = λ z ready_is.
    let kept = g.G.Regions.kept in
    let first = kept c.args.g.now in
    let k = kept c.loop-goal.g in
    let inv = c.loop-goal.invariant in
    let climbed = inv.climbed z ready_is in
    let goals = c.loop-goal.goals.items in
    let is = goal_is first k c.args.given.now c.deref-goal-items.result.now c.goal-item.result c.loop-goal.goal-index (g.met.G.Regions.exact _) inv.same (λ w. omega (arith, climbed.made.held w)) c.requires.given c.deref-goal-items.ensures.value c.loop-goal-test.true c.goal-item.is in
    let ready_now = set_kept first k c.args.ready.now (g.met.G.Regions.exact _) (λ w. omega (arith, climbed.made.held w)) c.requires.ready ∙ (ready_is ∙ ap (λ h. pre_sys h z) (sym inv.same.game)) in
    let given = c.requires.given in
    let counted = sym (length_map first.set c.args.given.now.goals.items) ∙ ap (λ (ss : List _). length ss) given.goal_sets in
    let listed = ap (λ (rs : List _). length rs) c.deref-goal-items.ensures.value in
    let goal_in : IsGoal first.game c.loop-goal.goal-index = omega (arith, c.loop-goal-test.true, counted, listed) in
    past_many first k (kept c.layers_of.new.g) (kept c.spend_goals.new.g) z (all_regions goals) (sets_of (rank_sets first.game z) goals) c.in-Err.halt inv.same.game climbed.made (layers_named first.game z goals (omega (arith, inv.counted, goal_in))) c.spend_goals.ensures.spends.jam
    (c.in-Err.ensures.told z c.loop-goal.goal-index (subst (λ h. IsGoal h c.loop-goal.goal-index) (sym inv.same.game) goal_in) is.1 ready_now)
