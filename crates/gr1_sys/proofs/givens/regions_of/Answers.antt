use Rattle.std.proofs.Common.{◌≡◌, ℕ, ◌∙◌, ◌+◌, ◌++◌, ◌∷◌, [], List, map, get_or, length, ap, subst, sym, refl, arith}
use Rattle.spec_model.specs.Steps.{below}
use Rattle.spec_model.specs.Sets.{no_states}
use Rattle.regions.specs.Kept.{MakesRegion}
use Rattle.gr1_sys.specs.Held.{MakesRegions}
use Rattle.gr1_sys.specs.Givens.{wanted}
use Rattle.gr1_sys.proofs.Holdings.{same_then}
use Rattle.gr1_sys.proofs.Lists.{together_as, makes_more, made_and_spent_all}
use Rattle.gr1_sys.proofs.Parted.{nothing_made, map_below-more}
use Rattle.gr1_sys.proofs.Givings.{listed}
use Rattle.gr1_sys.proofs.Told.{past_many}
use Rattle.gr1_sys.proofs.Naming.{some_wanted}
use Rattle.gr1_sys.proofs.givens.regions_of.Goals as goal

pub loop-i-init : goal.loop-i-init
loop-i-init g c =
    record {
      made = nothing_made (g.G.Regions.kept c.args.g.now) c.in-Ok.rs.items c.in-Ok.ensures.items c.requires.free;
      counted = c.in-Ok.ensures.len;
      room = omega (arith, c.in-Ok.ensures.capacity, c.count-n.ensures);
      same = record { game = refl; bound = refl };
    }

pub loop-i-preserved : goal.loop-i-preserved
loop-i-preserved g c =
    let kept = g.G.Regions.kept in
    let first = kept c.args.g.now in
    let k = kept c.loop-i.g in
    let new = kept c.region_of.new.g in
    let inv = c.loop-i.invariant in
    let f = λ (i : ℕ). get_or (wanted first.game c.args.kind) i no_states in
    let part : MakesRegion k new c.in-Ok-region_of.r (f c.loop-i.i) = subst (λ h. MakesRegion k new c.in-Ok-region_of.r (get_or (wanted h c.args.kind) c.loop-i.i no_states)) inv.same.game c.in-Ok-region_of.ensures.made in
    let more = makes_more first k new c.loop-i.rs.items (map f (below c.loop-i.i)) c.in-Ok-region_of.r (f c.loop-i.i) inv.made part in
    record {
      made = subst (λ (rs : List _). MakesRegions first new rs (map f (below (c.loop-i.i + 1)))) (sym c.push_reserved.ensures.items)
          (subst (MakesRegions first new (c.loop-i.rs.items ++ c.in-Ok-region_of.r ∷ [])) (sym (map_below-more f c.loop-i.i)) more);
      counted = c.push_reserved.ensures.len ∙ ap (λ n. n + 1) inv.counted;
      room = omega (arith, inv.room, c.push_reserved.ensures.capacity);
      same = same_then first k new inv.same c.region_of.ensures.keeps;
    }

pub region_of-requires-clause-free : goal.region_of-requires-clause-free
region_of-requires-clause-free g c = c.loop-i.invariant.made.jam

pub region_of-requires-clause-there : goal.region_of-requires-clause-there
region_of-requires-clause-there g c = let counted = c.count-n.ensures ∙ ap (λ h. length (wanted h c.args.kind)) (sym c.loop-i.invariant.same.game) in omega (arith, counted, c.loop-i-test.true)

pub spend_all-requires : goal.spend_all-requires
spend_all-requires g c =
    let made = c.loop-i.invariant.made in
    together_as (g.G.Regions.kept c.region_of.new.g) c.loop-i.rs.items _ (g.met.G.Regions.exact _) made.counted (λ w. omega (arith, made.held w, c.in-Err.ensures.halted w))

pub returns-in-Err-clause-halted : goal.returns-in-Err-clause-halted
returns-in-Err-clause-halted g c =
    let kept = g.G.Regions.kept in
    made_and_spent_all (kept c.args.g.now) (kept c.loop-i.g) (kept c.region_of.new.g) (kept c.spend_all.new.g) c.loop-i.rs.items _ (g.met.G.Regions.exact _) c.loop-i.invariant.made c.in-Err.ensures.halted c.spend_all.ensures.spends

pub returns-clause-made : goal.returns-clause-made
returns-clause-made g c =
    let kept = g.G.Regions.kept in
    let first = kept c.args.g.now in
    let last : c.loop-i.i ≡ length (wanted first.game c.args.kind) = omega (arith, c.count-n.ensures, c.loop-i-test.false, c.loop-i.auto) in
    subst (MakesRegions first (kept c.loop-i.g) c.loop-i.rs.items) (listed (wanted first.game c.args.kind) c.loop-i.i last) c.loop-i.invariant.made

pub returns-in-Err-clause-told : goal.returns-in-Err-clause-told
returns-in-Err-clause-told g c = λ z.
    let kept = g.G.Regions.kept in
    let first = kept c.args.g.now in
    let inv = c.loop-i.invariant in
    past_many first (kept c.loop-i.g) (kept c.region_of.new.g) (kept c.spend_all.new.g) z c.loop-i.rs.items _ c.in-Err.halt inv.same.game inv.made (some_wanted first.game z c.args.kind c.loop-i.i) c.spend_all.ensures.spends.jam (c.in-Err.ensures.told z)
