use Rattle.std.proofs.Common.{◌≡◌, ◌∙◌, ◌+◌, [], List, length, map, ap, subst, sym, refl, arith}
use Rattle.spec_model.specs.Sets.{either}
use Rattle.gr1_sys.specs.Held.{MakesRegions}
use Rattle.gr1_env.specs.Solution.{at}
use Rattle.gr1_env.specs.Held.{goal_regions, holds_sets, AllOf, IsWholeHold}
use Rattle.gr1_sys.proofs.Holdings.{same_then}
use Rattle.gr1_sys.proofs.Lists.{region_stays, set_kept, sets_stay, together_as, made_and_spent_all, length_map}
use Rattle.gr1_sys.proofs.Parted.{nothing_made}
use Rattle.gr1_env.proofs.Givings.{given_stays}
use Rattle.gr1_env.proofs.Joining.{hold_at, more_holds, more_whole, miss_is}
use Rattle.spec_model.specs.Sets.{rest}
use Rattle.gr1_law.specs.Layers.{goal_set}
use Rattle.gr1_sys.specs.Moment.{IsGoal}
use Rattle.gr1_env.specs.Told.{moment_at}
use Rattle.gr1_env.proofs.Exact.{misses_counted, miss_at}
use Rattle.gr1_env.proofs.Told.{at_layer, hold_past}
use Rattle.gr1_env.proofs.Naming.{value_other, goals_named}
use Rattle.gr1_env.proofs.layering.holds_above.Goals as goal

pub loop-miss-init : goal.loop-miss-init
loop-miss-init g c =
    let first = g.G.Regions.kept c.args.g.now in
    let misses = map first.set c.args.given.now.misses.items in
    let asms = map first.set c.args.given.now.asms.items in
    let forced = first.set c.args.forced.now in
    record {
      made = subst (λ (vs : List _). MakesRegions first first (goal_regions vs) (holds_sets first.game forced misses asms vs)) (sym c.in-Ok.ensures.items) (nothing_made first [] refl c.requires.free);
      whole = subst (λ (vs : List _). AllOf (λ j e. IsWholeHold first.game (either (at misses j) forced) asms e) vs) (sym c.in-Ok.ensures.items) tt;
      counted = c.in-Ok.ensures.len;
      room = omega (arith, c.in-Ok.ensures.capacity, c.deref-miss-items.ensures.len, c.len.ensures);
      same = record { game = refl; bound = refl };
    }

pub hold_above-requires-clause-free : goal.hold_above-requires-clause-free
hold_above-requires-clause-free g c = c.loop-miss.invariant.made.jam

pub hold_above-requires-clause-miss : goal.hold_above-requires-clause-miss
hold_above-requires-clause-miss g c =
    let kept = g.G.Regions.kept in
    let first = kept c.args.g.now in
    let is = miss_is first c.args.given.now.misses.items c.deref-miss-items.result.now c.miss-item.result c.loop-miss.miss-index c.requires.given.misses c.deref-miss-items.ensures.value c.loop-miss-test.true c.miss-item.is in
    region_stays first (kept c.loop-miss.g) c.miss-item.result (λ w. omega (arith, c.loop-miss.invariant.made.held w)) is.0

pub hold_above-requires-clause-forced : goal.hold_above-requires-clause-forced
hold_above-requires-clause-forced g c =
    let kept = g.G.Regions.kept in
    region_stays (kept c.args.g.now) (kept c.loop-miss.g) c.args.forced.now (λ w. omega (arith, c.loop-miss.invariant.made.held w)) c.requires.forced

pub hold_above-requires-clause-given : goal.hold_above-requires-clause-given
hold_above-requires-clause-given g c =
    let kept = g.G.Regions.kept in
    given_stays (kept c.args.g.now) (kept c.loop-miss.g) c.args.given.now (g.met.G.Regions.exact _) (λ w. omega (arith, c.loop-miss.invariant.made.held w)) c.requires.given

pub spend_holds-requires : goal.spend_holds-requires
spend_holds-requires g c =
    let made = c.loop-miss.invariant.made in
    together_as (g.G.Regions.kept c.hold_above.new.g) (goal_regions c.loop-miss.goals.items) _ (g.met.G.Regions.exact _) made.counted (λ w. omega (arith, made.held w, c.in-Err.ensures.halted w))

pub returns-in-Err-clause-halted : goal.returns-in-Err-clause-halted
returns-in-Err-clause-halted g c =
    let kept = g.G.Regions.kept in
    made_and_spent_all (kept c.args.g.now) (kept c.loop-miss.g) (kept c.hold_above.new.g) (kept c.spend_holds.new.g) (goal_regions c.loop-miss.goals.items) _ (g.met.G.Regions.exact _) c.loop-miss.invariant.made c.in-Err.ensures.halted c.spend_holds.ensures.spends

pub loop-miss-preserved : goal.loop-miss-preserved
loop-miss-preserved g c =
    let kept = g.G.Regions.kept in
    let first = kept c.args.g.now in
    let k = kept c.loop-miss.g in
    let new = kept c.hold_above.new.g in
    let inv = c.loop-miss.invariant in
    let misses = map first.set c.args.given.now.misses.items in
    let asms = map first.set c.args.given.now.asms.items in
    let forced = first.set c.args.forced.now in
    let goals = c.loop-miss.goals.items in
    let item = c.miss-item.result in
    let is = miss_is first c.args.given.now.misses.items c.deref-miss-items.result.now item c.loop-miss.miss-index c.requires.given.misses c.deref-miss-items.ensures.value c.loop-miss-test.true c.miss-item.is in
    let place : c.loop-miss.miss-index ≡ length goals = omega (arith, inv.counted) in
    let item_is = set_kept first k item (g.met.G.Regions.exact _) (λ w. omega (arith, inv.made.held w)) is.0 ∙ (is.1 ∙ ap (at misses) place) in
    let forced_is = set_kept first k c.args.forced.now (g.met.G.Regions.exact _) (λ w. omega (arith, inv.made.held w)) c.requires.forced in
    let base_is = ap (λ t. either t (k.set c.args.forced.now)) item_is ∙ ap (either (at misses (length goals))) forced_is in
    let asms_are = sets_stay first k c.args.given.now.asms.items (g.met.G.Regions.exact _) (λ w. omega (arith, inv.made.held w)) c.requires.given.asms in
    let last = hold_at first.game k new _ (either (at misses (length goals)) forced) _ asms c.in-Ok-hold_above.e inv.same.game base_is asms_are c.in-Ok-hold_above.ensures.made in
    record {
      made = subst (λ (vs : List _). MakesRegions first new (goal_regions vs) (holds_sets first.game forced misses asms vs)) (sym c.push_reserved.ensures.items) (more_holds first.game first k new forced misses asms goals c.in-Ok-hold_above.e inv.made last);
      whole = subst (λ (vs : List _). AllOf (λ j e. IsWholeHold first.game (either (at misses j) forced) asms e) vs) (sym c.push_reserved.ensures.items) (more_whole first.game first k new forced misses asms goals c.in-Ok-hold_above.e inv.whole last);
      counted = c.push_reserved.ensures.len ∙ ap (λ n. n + 1) inv.counted;
      room = omega (arith, inv.room, c.push_reserved.ensures.capacity);
      same = same_then first k new inv.same c.hold_above.ensures.keeps;
    }

pub returns-clause-made : goal.returns-clause-made
returns-clause-made g c =
    let first = g.G.Regions.kept c.args.g.now in
    record {
      made = c.loop-miss.invariant.made;
      whole = record {
        counted = omega (arith, c.loop-miss.invariant.counted, c.loop-miss-test.false, c.loop-miss.auto, c.deref-miss-items.ensures.value, c.deref-miss-items.ensures.len, length_map first.set c.args.given.now.misses.items);
        whole = c.loop-miss.invariant.whole;
      };
    }

pub returns-in-Err-clause-told : goal.returns-in-Err-clause-told
returns-in-Err-clause-told g c = λ game a same forced_is are.
    let kept = g.G.Regions.kept in
    let first = kept c.args.g.now in
    let k = kept c.loop-miss.g in
    let inv = c.loop-miss.invariant in
    let misses = map first.set c.args.given.now.misses.items in
    let asms = map first.set c.args.given.now.asms.items in
    let f = first.set c.args.forced.now in
    let goals = c.loop-miss.goals.items in
    let j = c.loop-miss.miss-index in
    let item = c.miss-item.result in
    let is = miss_is first c.args.given.now.misses.items c.deref-miss-items.result.now item j c.requires.given.misses c.deref-miss-items.ensures.value c.loop-miss-test.true c.miss-item.is in
    let listed = ap (λ (rs : List _). length rs) c.deref-miss-items.ensures.value in
    let mapped = length_map first.set c.args.given.now.misses.items in
    let wanted_few = ap (λ (ss : List _). length ss) are.misses_are in
    let goal_in : IsGoal game j = omega (arith, c.loop-miss-test.true, listed, mapped, wanted_few, misses_counted game) in
    let item_is : k.set item ≡ rest game (goal_set game j) =
    set_kept first k item (g.met.G.Regions.exact _) (λ w. omega (arith, inv.made.held w)) is.0 ∙ (is.1 ∙ (ap (λ ss. at ss j) are.misses_are ∙ miss_at game j goal_in)) in
    let forced_now = set_kept first k c.args.forced.now (g.met.G.Regions.exact _) (λ w. omega (arith, inv.made.held w)) c.requires.forced in
    let asms_now = sets_stay first k c.args.given.now.asms.items (g.met.G.Regions.exact _) (λ w. omega (arith, inv.made.held w)) c.requires.given.asms in
    at_layer game first k (kept c.spend_holds.new.g) (kept c.spend_holds.new.g) a j c.in-Err.halt goal_in
    (hold_past game first k (kept c.hold_above.new.g) (kept c.spend_holds.new.g) a j (goal_regions goals) (holds_sets first.game f misses asms goals) c.in-Err.halt inv.made
    (λ y. goals_named game (moment_at game a j y).value first.game a f misses asms goals same forced_is are (omega (arith, inv.counted, goal_in))
    (λ i before. value_other game a j y a i (λ _ same'. absurd (omega (arith, inv.counted, before, same')))) inv.whole) c.spend_holds.ensures.spends.jam
    (c.in-Err.ensures.told game a j (inv.same.game ∙ same) goal_in item_is (forced_now ∙ forced_is) (asms_now ∙ are.asms_are)))
