use Rattle.std.proofs.Common.{◌≡◌, ◌∙◌, ◌+◌, [], List, length, map, ap, subst, sym, refl, arith}
use Rattle.gr1_sys.specs.Held.{MakesRegions}
use Rattle.gr1_env.specs.Solution.{at}
use Rattle.gr1_env.specs.Held.{list_regions, list_sets, AreLeast}
use Rattle.gr1_sys.proofs.Holdings.{same_then}
use Rattle.gr1_sys.proofs.Lists.{one_of, set_at_is, region_stays, set_kept, together_as, made_and_spent_all, length_map}
use Rattle.gr1_sys.proofs.Parted.{nothing_made}
use Rattle.gr1_env.proofs.Holding.{delays_at, more_made, more_least}
use Rattle.gr1_env.specs.Told.{AreOfDelay}
use Rattle.gr1_env.proofs.Told.{past_many}
use Rattle.gr1_env.proofs.Naming.{of_one, lists_named}
use Rattle.gr1_env.proofs.holds.all_delays.Goals as goal

pub loop-asm-init : goal.loop-asm-init
loop-asm-init g c =
    let first = g.G.Regions.kept c.args.g.now in
    record {
      made = subst (λ (vs : List _). MakesRegions first first (list_regions vs) (list_sets first.game (first.set c.args.cover.now) (map first.set c.args.asms.now) vs)) (sym c.in-Ok.ensures.items) (nothing_made first [] refl c.requires.free);
      least = subst (λ (vs : List _). AreLeast first.game (first.set c.args.cover.now) (map first.set c.args.asms.now) vs) (sym c.in-Ok.ensures.items) tt;
      counted = c.in-Ok.ensures.len;
      room = omega (arith, c.in-Ok.ensures.capacity);
      same = record { game = refl; bound = refl };
    }

pub delays-requires-clause-free : goal.delays-requires-clause-free
delays-requires-clause-free g c = c.loop-asm.invariant.made.jam

pub delays-requires-clause-cover : goal.delays-requires-clause-cover
delays-requires-clause-cover g c =
    let kept = g.G.Regions.kept in
    region_stays (kept c.args.g.now) (kept c.loop-asm.g) c.args.cover.now (λ w. omega (arith, c.loop-asm.invariant.made.held w)) c.requires.cover

pub delays-requires-clause-asm : goal.delays-requires-clause-asm
delays-requires-clause-asm g c =
    let kept = g.G.Regions.kept in
    region_stays (kept c.args.g.now) (kept c.loop-asm.g) c.asm-item.result (λ w. omega (arith, c.loop-asm.invariant.made.held w)) (one_of (kept c.args.g.now) c.args.asms.now c.loop-asm.asm-index c.asm-item.result c.requires.asms c.loop-asm-test.true c.asm-item.is)

pub delays-requires-clause-none : goal.delays-requires-clause-none
delays-requires-clause-none g c =
    let kept = g.G.Regions.kept in
    region_stays (kept c.args.g.now) (kept c.loop-asm.g) c.args.none.now (λ w. omega (arith, c.loop-asm.invariant.made.held w)) c.requires.none

pub delays-requires-clause-empty : goal.delays-requires-clause-empty
delays-requires-clause-empty g c =
    let kept = g.G.Regions.kept in
    set_kept (kept c.args.g.now) (kept c.loop-asm.g) c.args.none.now (g.met.G.Regions.exact _) (λ w. omega (arith, c.loop-asm.invariant.made.held w)) c.requires.none ∙ c.requires.empty

pub spend_lists-requires : goal.spend_lists-requires
spend_lists-requires g c =
    let made = c.loop-asm.invariant.made in
    together_as (g.G.Regions.kept c.delays.new.g) (list_regions c.loop-asm.xs.items) _ (g.met.G.Regions.exact _) made.counted (λ w. omega (arith, made.held w, c.in-Err.ensures.halted w))

pub returns-in-Err-clause-halted : goal.returns-in-Err-clause-halted
returns-in-Err-clause-halted g c =
    let kept = g.G.Regions.kept in
    made_and_spent_all (kept c.args.g.now) (kept c.loop-asm.g) (kept c.delays.new.g) (kept c.spend_lists.new.g) (list_regions c.loop-asm.xs.items) _ (g.met.G.Regions.exact _) c.loop-asm.invariant.made c.in-Err.ensures.halted c.spend_lists.ensures.spends

pub loop-asm-preserved : goal.loop-asm-preserved
loop-asm-preserved g c =
    let kept = g.G.Regions.kept in
    let first = kept c.args.g.now in
    let k = kept c.loop-asm.g in
    let new = kept c.delays.new.g in
    let inv = c.loop-asm.invariant in
    let cover = first.set c.args.cover.now in
    let asms = map first.set c.args.asms.now in
    let xs = c.loop-asm.xs.items in
    let item = c.asm-item.result in
    let here = one_of first c.args.asms.now c.loop-asm.asm-index item c.requires.asms c.loop-asm-test.true c.asm-item.is in
    let cover_is = set_kept first k c.args.cover.now (g.met.G.Regions.exact _) (λ w. omega (arith, inv.made.held w)) c.requires.cover in
    let asm_is = set_kept first k item (g.met.G.Regions.exact _) (λ w. omega (arith, inv.made.held w)) here ∙ sym (set_at_is first c.args.asms.now c.loop-asm.asm-index item c.loop-asm-test.true c.asm-item.is) in
    let place : c.loop-asm.asm-index ≡ length xs = omega (arith, inv.counted) in
    let last = delays_at first.game k new (k.set c.args.cover.now) (k.set item) cover (at asms (length xs)) c.in-Ok-delays.rs.items inv.same.game cover_is (asm_is ∙ ap (at asms) place) c.in-Ok-delays.ensures.made in
    record {
      made = subst (λ (vs : List _). MakesRegions first new (list_regions vs) (list_sets first.game cover asms vs)) (sym c.push_reserved.ensures.items) (more_made first.game first k new cover asms xs c.in-Ok-delays.rs inv.made last);
      least = subst (λ (vs : List _). AreLeast first.game cover asms vs) (sym c.push_reserved.ensures.items) (more_least first.game first k new cover asms xs c.in-Ok-delays.rs inv.least last);
      counted = c.push_reserved.ensures.len ∙ ap (λ n. n + 1) inv.counted;
      room = omega (arith, inv.room, c.push_reserved.ensures.capacity);
      same = same_then first k new inv.same c.delays.ensures.keeps;
    }

pub returns-clause-made : goal.returns-clause-made
returns-clause-made g c =
    let first = g.G.Regions.kept c.args.g.now in
    record {
      made = c.loop-asm.invariant.made;
      counted = omega (arith, c.loop-asm.invariant.counted, c.loop-asm-test.false, c.loop-asm.auto, length_map first.set c.args.asms.now);
      least = c.loop-asm.invariant.least;
    }

pub returns-in-Err-clause-told : goal.returns-in-Err-clause-told
returns-in-Err-clause-told g c = λ game m a j same goal_in cover_of_hold asms_are.
    let kept = g.G.Regions.kept in
    let first = kept c.args.g.now in
    let k = kept c.loop-asm.g in
    let inv = c.loop-asm.invariant in
    let cover = first.set c.args.cover.now in
    let asms = map first.set c.args.asms.now in
    let i = c.loop-asm.asm-index in
    let item = c.asm-item.result in
    let here = one_of first c.args.asms.now i item c.requires.asms c.loop-asm-test.true c.asm-item.is in
    let cover_is = set_kept first k c.args.cover.now (g.met.G.Regions.exact _) (λ w. omega (arith, inv.made.held w)) c.requires.cover in
    let asm_is = set_kept first k item (g.met.G.Regions.exact _) (λ w. omega (arith, inv.made.held w)) here ∙ sym (set_at_is first c.args.asms.now i item c.loop-asm-test.true c.asm-item.is) in
    let counted = length_map first.set c.args.asms.now in
    let are = of_one game m a j i cover asms goal_in cover_of_hold asms_are (omega (arith, counted, c.loop-asm-test.true)) in
    let now : AreOfDelay game m a j i (k.set c.args.cover.now) (k.set item) = record { goal_in = goal_in; index_in = are.index_in; cover_is = cover_is ∙ cover_of_hold; asm_is = asm_is ∙ are.asm_is } in
    past_many game m first k (kept c.delays.new.g) (kept c.spend_lists.new.g) (list_regions c.loop-asm.xs.items) _ c.in-Err.halt inv.made
    (lists_named game m first.game a j cover asms c.loop-asm.xs.items same goal_in cover_of_hold asms_are (omega (arith, inv.counted, counted, c.loop-asm-test.true))) c.spend_lists.ensures.spends.jam
    (c.in-Err.ensures.told game m a j i (inv.same.game ∙ same) now)
