use Rattle.std.proofs.Common.{◌≡◌, ◌≤◌, ◌+◌, List, suc, length, [], ◌∙◌, ap, subst, sym, refl, arith}
use Rattle.spec_model.specs.Sets.{StateSet, pre_sys}
use Rattle.regions.specs.Kept.{All, MakesRegion}
use Rattle.gr1_law.specs.Layers.{goal_sets}
use Rattle.gr1_sys.specs.Solution.{meet}
use Rattle.gr1_sys.specs.Moment.{IsGoal, common}
use Rattle.gr1_sys.specs.Told.{TellsHalt}
use Rattle.gr1_sys.specs.Counted.{last_layer, HaveRanks}
use Rattle.gr1_sys.proofs.Holdings.{on_err, same_then, dropped}
use Rattle.gr1_sys.proofs.Lists.{region_stays, set_kept, length_map}
use Rattle.gr1_sys.proofs.Parted.{given_stays}
use Rattle.gr1_sys.proofs.Turned.{goal_is}
use Rattle.gr1_sys.proofs.Told.{handed_on, told, past_one}
use Rattle.gr1_sys.proofs.Counted.{no_ranks, meets_on, met_named}
use Rattle.gr1_sys.proofs.counting.all_goals.Goals as goal

pub loop-goal-init : goal.loop-goal-init
loop-goal-init g c =
    record {
      made = λ z is. c.in_ok-met.ensures.made;
      ranks = λ z is. no_ranks (g.G.Regions.kept c.args.g.now).game z;
      same = c.all.ensures.keeps;
    }

pub returns-in_err-met-clause-told : goal.returns-in_err-met-clause-told
returns-in_err-met-clause-told g c = λ z is.
    let kept = g.G.Regions.kept in
    let k = kept c.args.g.now in
    handed_on c.from_residual.result c.in_err-met.field-0.0 (TellsHalt k (kept c.all.new.self) z) c.from_residual.ensures.1
    (told k (kept c.all.new.self) z All [] c.in_err-met.field-0.0 c.in_err-met.ensures.halted.jam tt tt)

pub with_goal-requires-clause-free : goal.with_goal-requires-clause-free
with_goal-requires-clause-free g c = let z = c.requires.is_ready in (c.loop-goal.invariant.made z.0 z.1).jam

pub with_goal-requires-clause-met : goal.with_goal-requires-clause-met
with_goal-requires-clause-met g c = let z = c.requires.is_ready in let made = c.loop-goal.invariant.made z.0 z.1 in λ w. omega (arith, made.held (λ i m. w i))

pub with_goal-requires-clause-goal : goal.with_goal-requires-clause-goal
with_goal-requires-clause-goal g c =
    let kept = g.G.Regions.kept in
    let z = c.requires.is_ready in
    let made = c.loop-goal.invariant.made z.0 z.1 in
    let is = goal_is (kept c.args.g.now) (kept c.loop-goal.g) c.args.given.now c.deref-goal-items.result.now c.goal-item.result c.loop-goal.goal-index (g.met.G.Regions.exact _) c.loop-goal.invariant.same (λ w. omega (arith, made.held w)) c.requires.given c.deref-goal-items.ensures.value c.loop-goal-test.true c.goal-item.is in
    region_stays (kept c.args.g.now) (kept c.loop-goal.g) c.goal-item.result (λ w. omega (arith, made.held w)) is.0

pub with_goal-requires-clause-ready : goal.with_goal-requires-clause-ready
with_goal-requires-clause-ready g c =
    let kept = g.G.Regions.kept in
    let z = c.requires.is_ready in
    let made = c.loop-goal.invariant.made z.0 z.1 in
    region_stays (kept c.args.g.now) (kept c.loop-goal.g) c.args.ready.now (λ w. omega (arith, made.held w)) c.requires.ready

pub with_goal-requires-clause-are : goal.with_goal-requires-clause-are
with_goal-requires-clause-are g c =
    let kept = g.G.Regions.kept in
    let z = c.requires.is_ready in
    let made = c.loop-goal.invariant.made z.0 z.1 in
    let is = goal_is (kept c.args.g.now) (kept c.loop-goal.g) c.args.given.now c.deref-goal-items.result.now c.goal-item.result c.loop-goal.goal-index (g.met.G.Regions.exact _) c.loop-goal.invariant.same (λ w. omega (arith, made.held w)) c.requires.given c.deref-goal-items.ensures.value c.loop-goal-test.true c.goal-item.is in
    (z.0, (c.loop-goal.goal-index, record { goal_is = is.1; ready_is = set_kept (kept c.args.g.now) (kept c.loop-goal.g) c.args.ready.now (g.met.G.Regions.exact _) (λ w. omega (arith, made.held w)) c.requires.ready ∙ (z.1 ∙ ap (λ h. pre_sys h z.0) (sym c.loop-goal.invariant.same.game)) }))

pub with_goal-requires-clause-given : goal.with_goal-requires-clause-given
with_goal-requires-clause-given g c =
    let kept = g.G.Regions.kept in
    let z = c.requires.is_ready in
    let made = c.loop-goal.invariant.made z.0 z.1 in
    given_stays (kept c.args.g.now) (kept c.loop-goal.g) c.args.given.now (g.met.G.Regions.exact _) c.loop-goal.invariant.same (λ w. omega (arith, made.held w)) c.requires.given

pub returns-in_err-next-clause-halted : goal.returns-in_err-next-clause-halted
returns-in_err-next-clause-halted g c =
    let kept = g.G.Regions.kept in
    let z = c.requires.is_ready in
    on_err _ (dropped (kept c.args.g.now) (kept c.loop-goal.g) (kept c.with_goal.new.g) c.loop-goal.met _ (g.met.G.Regions.exact _) (c.loop-goal.invariant.made z.0 z.1) c.in_err-next.ensures.halted)

pub returns-in_err-next-clause-told : goal.returns-in_err-next-clause-told
returns-in_err-next-clause-told g c = λ z ready_is.
    let kept = g.G.Regions.kept in
    let first = kept c.args.g.now in
    let k = kept c.loop-goal.g in
    let new = kept c.with_goal.new.g in
    let inv = c.loop-goal.invariant in
    let i = c.loop-goal.goal-index in
    let made = inv.made z ready_is in
    let is = goal_is first k c.args.given.now c.deref-goal-items.result.now c.goal-item.result i (g.met.G.Regions.exact _) inv.same (λ w. omega (arith, made.held w)) c.requires.given c.deref-goal-items.ensures.value c.loop-goal-test.true c.goal-item.is in
    let ready_now = set_kept first k c.args.ready.now (g.met.G.Regions.exact _) (λ w. omega (arith, made.held w)) c.requires.ready ∙ (ready_is ∙ ap (λ h. pre_sys h z) (sym inv.same.game)) in
    let counted = sym (length_map first.set c.args.given.now.goals.items) ∙ ap (λ (ss : List _). length ss) c.requires.given.goal_sets in
    let listed = ap (λ (rs : List _). length rs) c.deref-goal-items.ensures.value in
    let goal_in : IsGoal first.game i = omega (arith, c.loop-goal-test.true, counted, listed) in
    let few : i ≤ length (goal_sets first.game) = omega (arith, goal_in) in
    handed_on c.from_residual-in_err-next.result c.in_err-next.field-0.0 (TellsHalt first new z) c.from_residual-in_err-next.ensures.1
    (past_one first k new new z c.loop-goal.met (meet first.game (last_layer first.game z) i) c.in_err-next.field-0.0 inv.same.game made (common i few refl) refl
    (c.in_err-next.ensures.told z i (subst (λ h. IsGoal h i) (sym inv.same.game) goal_in) (record { goal_is = is.1; ready_is = ready_now }) (met_named first k c.loop-goal.met z i (g.met.G.Regions.exact _) inv.same.game few made)))

pub loop-goal-preserved : goal.loop-goal-preserved
loop-goal-preserved g c =
    let kept = g.G.Regions.kept in
    let first = kept c.args.g.now in
    let k = kept c.loop-goal.g in
    let new = kept c.with_goal.new.g in
    let inv = c.loop-goal.invariant in
    let i = c.loop-goal.goal-index in
    let next : suc i ≡ i + 1 = omega arith in
    let on : (z : StateSet) → first.set c.args.ready.now ≡ pre_sys first.game z → MakesRegion first new c.in_ok-next.next (meet first.game (last_layer first.game z) (suc i)) × HaveRanks first.game z (suc i) c.in_ok-next.more = λ z ready_is.
    let made = inv.made z ready_is in
    let is = goal_is first k c.args.given.now c.deref-goal-items.result.now c.goal-item.result i (g.met.G.Regions.exact _) inv.same (λ w. omega (arith, made.held w)) c.requires.given c.deref-goal-items.ensures.value c.loop-goal-test.true c.goal-item.is in
    let ready_now = set_kept first k c.args.ready.now (g.met.G.Regions.exact _) (λ w. omega (arith, made.held w)) c.requires.ready ∙ (ready_is ∙ ap (λ h. pre_sys h z) (sym inv.same.game)) in
    meets_on first k new c.loop-goal.met c.in_ok-next.next z i c.loop-goal.k c.in_ok-next.more (g.met.G.Regions.exact _) (g.met.G.Regions.exact _) inv.same.game made (inv.ranks z ready_is) (c.in_ok-next.ensures.met z i (record { goal_is = is.1; ready_is = ready_now })) in
    record {
      made = λ z ready_is. subst (λ n. MakesRegion first new c.in_ok-next.next (meet first.game (last_layer first.game z) n)) next (on z ready_is).0;
      ranks = λ z ready_is. subst (λ n. HaveRanks first.game z n c.in_ok-next.more) next (on z ready_is).1;
      same = same_then first k new inv.same c.with_goal.ensures.keeps;
    }

pub returns-clause-made : goal.returns-clause-made
returns-clause-made g c = λ z ready_is.
    let kept = g.G.Regions.kept in
    let first = kept c.args.g.now in
    let inv = c.loop-goal.invariant in
    let counted = sym (length_map first.set c.args.given.now.goals.items) ∙ ap (λ (ss : List _). length ss) c.requires.given.goal_sets in
    let listed = ap (λ (rs : List _). length rs) c.deref-goal-items.ensures.value in
    let all : c.loop-goal.goal-index ≡ length (goal_sets first.game) = omega (arith, c.loop-goal-test.false, c.loop-goal.auto, counted, listed) in
    record {
      made = subst (λ n. MakesRegion first (kept c.loop-goal.g) c.loop-goal.met (meet first.game (last_layer first.game z) n)) all (inv.made z ready_is);
      ranks = subst (λ n. HaveRanks first.game z n c.loop-goal.k) all (inv.ranks z ready_is);
    }
