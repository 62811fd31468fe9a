use Rattle.std.proofs.Common.{◌∙◌, ◌+◌, ◌<◌, ◌++◌, [], ◌∷◌, List, map, ap, subst, sym, refl, arith}
use Rattle.spec_model.specs.Steps.{below}
use Rattle.regions.specs.Kept.{MakesRegion}
use Rattle.gr1_sys.specs.Held.{MakesRegions, part_at}
use Rattle.gr1_sys.proofs.Holdings.{same_then}
use Rattle.gr1_sys.proofs.Lists.{one_of, set_at_is, region_stays, set_kept, part_stays, together_as, makes_more, made_and_spent_all}
use Rattle.gr1_sys.proofs.Parted.{nothing_made, map_below-more}
use Rattle.gr1_sys.proofs.Told.{past_many}
use Rattle.gr1_sys.proofs.Naming.{lapse_at, lapse_count, part_still, parts_named}
use Rattle.gr1_sys.proofs.ranks.solutions.Goals as goal

pub loop-lapse-init : goal.loop-lapse-init
loop-lapse-init g c =
    record {
      made = nothing_made (g.G.Regions.kept c.args.g.now) c.in-Ok.xs.items c.in-Ok.ensures.items c.requires.free;
      counted = c.in-Ok.ensures.len;
      room = omega (arith, c.in-Ok.ensures.capacity);
      same = record { game = refl; bound = refl };
    }

pub greatest_part-requires-clause-free : goal.greatest_part-requires-clause-free
greatest_part-requires-clause-free g c = c.loop-lapse.invariant.made.jam

pub greatest_part-requires-clause-base : goal.greatest_part-requires-clause-base
greatest_part-requires-clause-base g c = region_stays (g.G.Regions.kept c.args.g.now) (g.G.Regions.kept c.loop-lapse.g) c.args.base.now (λ w. omega (arith, c.loop-lapse.invariant.made.held w)) c.requires.base

pub greatest_part-requires-clause-lapse : goal.greatest_part-requires-clause-lapse
greatest_part-requires-clause-lapse g c =
    let kept = g.G.Regions.kept in
    region_stays (kept c.args.g.now) (kept c.loop-lapse.g) c.lapse-item.result (λ w. omega (arith, c.loop-lapse.invariant.made.held w)) (one_of (kept c.args.g.now) c.args.lapses.now c.loop-lapse.lapse-index c.lapse-item.result c.requires.lapses c.loop-lapse-test.true c.lapse-item.is)

pub greatest_part-requires-clause-none : goal.greatest_part-requires-clause-none
greatest_part-requires-clause-none g c =
    let kept = g.G.Regions.kept in
    let first = kept c.args.g.now in
    let k = kept c.loop-lapse.g in (
      region_stays first k c.args.none.now (λ w. omega (arith, c.loop-lapse.invariant.made.held w)) c.requires.none.0,
      set_kept first k c.args.none.now (g.met.G.Regions.exact _) (λ w. omega (arith, c.loop-lapse.invariant.made.held w)) c.requires.none.0 ∙ c.requires.none.1,
    )

pub spend_all-requires : goal.spend_all-requires
spend_all-requires g c =
    let made = c.loop-lapse.invariant.made in
    together_as (g.G.Regions.kept c.greatest_part.new.g) c.loop-lapse.xs.items _ (g.met.G.Regions.exact _) made.counted (λ w. omega (arith, made.held w, c.in-Err.ensures.halted w))

pub returns-in-Err-clause-halted : goal.returns-in-Err-clause-halted
returns-in-Err-clause-halted g c =
    let kept = g.G.Regions.kept in
    made_and_spent_all (kept c.args.g.now) (kept c.loop-lapse.g) (kept c.greatest_part.new.g) (kept c.spend_all.new.g) c.loop-lapse.xs.items _ (g.met.G.Regions.exact _) c.loop-lapse.invariant.made c.in-Err.ensures.halted c.spend_all.ensures.spends

pub loop-lapse-preserved : goal.loop-lapse-preserved
loop-lapse-preserved g c =
    let kept = g.G.Regions.kept in
    let first = kept c.args.g.now in
    let k = kept c.loop-lapse.g in
    let new = kept c.greatest_part.new.g in
    let inv = c.loop-lapse.invariant in
    let f = part_at first c.args.base.now c.args.lapses.now in
    let is = part_stays first k c.args.base.now c.lapse-item.result c.args.lapses.now c.loop-lapse.lapse-index (g.met.G.Regions.exact _) (sym inv.same.game) (λ w. omega (arith, inv.made.held w)) c.requires.base c.requires.lapses c.loop-lapse-test.true c.lapse-item.is in
    let part : MakesRegion k new c.in-Ok-greatest_part.x (f c.loop-lapse.lapse-index) = subst (MakesRegion k new c.in-Ok-greatest_part.x) is c.in-Ok-greatest_part.ensures.made in
    let more = makes_more first k new c.loop-lapse.xs.items (map f (below c.loop-lapse.lapse-index)) c.in-Ok-greatest_part.x (f c.loop-lapse.lapse-index) inv.made part in
    record {
      made = subst (λ (rs : List _). MakesRegions first new rs (map f (below (c.loop-lapse.lapse-index + 1)))) (sym c.push_reserved.ensures.items)
          (subst (MakesRegions first new (c.loop-lapse.xs.items ++ c.in-Ok-greatest_part.x ∷ [])) (sym (map_below-more f c.loop-lapse.lapse-index)) more);
      counted = c.push_reserved.ensures.len ∙ ap (λ n. n + 1) inv.counted;
      room = omega (arith, inv.room, c.push_reserved.ensures.capacity);
      same = same_then first k new inv.same c.greatest_part.ensures.keeps;
    }

pub returns-in-Err-clause-told : goal.returns-in-Err-clause-told
returns-in-Err-clause-told g c = λ z j r goal_in base_is are.
    let kept = g.G.Regions.kept in
    let first = kept c.args.g.now in
    let k = kept c.loop-lapse.g in
    let inv = c.loop-lapse.invariant in
    let i = c.loop-lapse.lapse-index in
    let here = one_of first c.args.lapses.now i c.lapse-item.result c.requires.lapses c.loop-lapse-test.true c.lapse-item.is in
    let lapse_is = sym (set_at_is first c.args.lapses.now i c.lapse-item.result c.loop-lapse-test.true c.lapse-item.is) ∙ lapse_at first c.args.lapses.now i are c.loop-lapse-test.true in
    let now = part_still first k z j r i c.args.base.now c.lapse-item.result (g.met.G.Regions.exact _) inv.same.game (λ w. omega (arith, inv.made.held w)) c.requires.base here
    (record { goal_in = goal_in; index_in = subst (λ n. i < n) (lapse_count first c.args.lapses.now are) c.loop-lapse-test.true; base_is = base_is; away_is = lapse_is }) in
    past_many first k (kept c.greatest_part.new.g) (kept c.spend_all.new.g) z c.loop-lapse.xs.items _ c.in-Err.halt inv.same.game inv.made (parts_named first z j r c.args.base.now c.args.lapses.now i goal_in base_is are (omega (arith, c.loop-lapse-test.true))) c.spend_all.ensures.spends.jam
    (c.in-Err.ensures.told z j r i now)
