use Rattle.std.proofs.Common.{◌≡◌, ◌∙◌, ◌+◌, ◌<◌, ◌∷◌, [], List, map, take, length, get_or, ap, subst, sym, refl, arith}
use Rattle.std.proofs.lemmas.List.{map-append, take_all, take_more}
use Rattle.spec_model.specs.Games.{GameData}
use Rattle.spec_model.specs.Sets.{no_states}
use Rattle.regions.specs.Kept.{Region, States, MakesRegion}
use Rattle.strategy_parts.specs.Told.{IsIn}
use Rattle.strategy_parts.specs.Wanted.{sets_wanted}
use Rattle.strategy_parts.specs.Owned.{MakesAll, region_items}
use Rattle.strategy_parts.proofs.Holdings.{same_then}
use Rattle.strategy_parts.proofs.Telling.{nothing_made, makes_one, makes_next, still_all, made_and_spent, made_sets, every_take, told_after, told_still}
use Rattle.strategy_parts.proofs.making.recurring_regions.Goals as goal

pub loop-i-init : goal.loop-i-init
loop-i-init g c =
    let first = g.G.Regions.kept c.args.g.now in
    record {
      made = subst (λ (list : List _). MakesAll first first (region_items list) []) (sym c.in-Ok.ensures.items) (nothing_made first c.requires.free);
      counted = c.in-Ok.ensures.len;
      room = omega (arith, c.in-Ok.ensures.capacity);
      same = record { game = refl; bound = refl };
    }

pub region_of-requires-clause-free : goal.region_of-requires-clause-free
region_of-requires-clause-free g c = c.loop-i.invariant.made.jam

pub region_of-requires-clause-there : goal.region_of-requires-clause-there
region_of-requires-clause-there g c =
    let same : length (sets_wanted (g.G.Regions.kept c.loop-i.g).game c.args.kind) ≡ length (sets_wanted (g.G.Regions.kept c.args.g.now).game c.args.kind) = ap (λ (h : GameData). length (sets_wanted h c.args.kind)) c.loop-i.invariant.same.game in
    omega (arith, c.count-n.ensures, c.loop-i-test.true, same)

pub loop-i-preserved : goal.loop-i-preserved
loop-i-preserved g c =
    let kept = g.G.Regions.kept in
    let first = kept c.args.g.now in
    let k = kept c.loop-i.g in
    let new = kept c.region_of.new.g in
    let inv = c.loop-i.invariant in
    let r = c.in-Ok-region_of.r in
    let sets = sets_wanted first.game c.args.kind in
    let one : MakesRegion k new r (get_or (sets_wanted first.game c.args.kind) c.loop-i.i no_states) = subst (λ (h : GameData). MakesRegion k new r (get_or (sets_wanted h c.args.kind) c.loop-i.i no_states)) inv.same.game c.in-Ok-region_of.ensures.made in
    let below : c.loop-i.i < length sets = omega (arith, c.count-n.ensures, c.loop-i-test.true) in
    record {
      made = makes_next first k new (region_items c.loop-i.rs.items) (Region r ∷ []) _ (map States (take c.loop-i.i sets)) (States (get_or (sets_wanted first.game c.args.kind) c.loop-i.i no_states) ∷ []) _
          (ap region_items c.push_reserved.ensures.items ∙ map-append Region c.loop-i.rs.items (r ∷ []))
          (ap (map States) (take_more sets c.loop-i.i no_states below) ∙ map-append States (take c.loop-i.i sets) (get_or sets c.loop-i.i no_states ∷ []))
          inv.made (makes_one k new (Region r) (States (get_or (sets_wanted first.game c.args.kind) c.loop-i.i no_states)) one);
      counted = c.push_reserved.ensures.len ∙ ap (λ n. n + 1) inv.counted;
      room = omega (arith, inv.room, c.push_reserved.ensures.capacity);
      same = same_then first k new inv.same c.region_of.ensures.keeps;
    }

pub spend_regions-requires : goal.spend_regions-requires
spend_regions-requires g c =
    let kept = g.G.Regions.kept in
    still_all (kept c.args.g.now) (kept c.loop-i.g) (kept c.region_of.new.g) (region_items c.loop-i.rs.items) _ (g.met.G.Regions.exact _) c.loop-i.invariant.made c.in-Err.ensures.halted

pub returns-in-Err-clause-halted : goal.returns-in-Err-clause-halted
returns-in-Err-clause-halted g c =
    let kept = g.G.Regions.kept in
    made_and_spent (kept c.args.g.now) (kept c.loop-i.g) (kept c.region_of.new.g) (kept c.spend_regions.new.g) (region_items c.loop-i.rs.items) _ (g.met.G.Regions.exact _) c.loop-i.invariant.made c.in-Err.ensures.halted c.spend_regions.ensures.spends

pub returns-in-Err-clause-told : goal.returns-in-Err-clause-told
returns-in-Err-clause-told g c = λ tale all.
    let kept = g.G.Regions.kept in
    let first = kept c.args.g.now in
    let sets = sets_wanted first.game c.args.kind in
    told_still first (kept c.region_of.new.g) (kept c.spend_regions.new.g) tale c.in-Err.halt c.spend_regions.ensures.spends.jam
    (told_after first (kept c.loop-i.g) (kept c.region_of.new.g) tale (region_items c.loop-i.rs.items) (map States (take c.loop-i.i sets)) c.in-Err.halt c.loop-i.invariant.made
    (made_sets tale (take c.loop-i.i sets) (every_take (λ s. IsIn s tale.sets) c.loop-i.i sets all)) (c.in-Err.ensures.told tale))

pub returns-clause-made : goal.returns-clause-made
returns-clause-made g c =
    let first = g.G.Regions.kept c.args.g.now in
    subst (λ (sets : List _). MakesAll first (g.G.Regions.kept c.loop-i.g) (region_items c.loop-i.rs.items) (map States sets)) (take_all c.loop-i.i (sets_wanted first.game c.args.kind) (omega (arith, c.loop-i-test.false, c.count-n.ensures))) c.loop-i.invariant.made
