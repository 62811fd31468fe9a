use Rattle.std.proofs.Common.{◌≡◌, ◌≤◌, ◌∙◌, List, length, subst, sym, arith, ap, map}
use Rattle.spec_model.specs.Steps.{below}
use Rattle.regions.specs.Kept.{MakesRegion}
use Rattle.gr1_law.specs.Layers.{union, assumption_sets}
use Rattle.gr1_sys.specs.Held.{HasEach, part_at, set_at}
use Rattle.gr1_sys.proofs.Lists.{as_held, held_each, together_as, made_and_spent_all, length_map, length_below}
use Rattle.gr1_sys.proofs.Parted.{layer_made, map_below-same}
use Rattle.gr1_sys.specs.Solution.{part_of, layer_of}
use Rattle.gr1_sys.specs.Moment.{IsGoal}
use Rattle.gr1_sys.specs.Told.{TellsHalt}
use Rattle.gr1_sys.proofs.Told.{handed_on, past_many}
use Rattle.gr1_sys.proofs.Naming.{parts_are, parts_named, lapse_count}
use Rattle.gr1_sys.proofs.ranks.layer_on.Goals as goal

pub union_of-requires-clause-xs : goal.union_of-requires-clause-xs
union_of-requires-clause-xs g c =
    let made = c.in_ok-x.ensures.made in
    let k = g.G.Regions.kept c.solutions.new.g in
    subst (HasEach k) (sym c.deref.ensures.value) (held_each k c.in_ok-x.x.items _ made.counted (λ w. omega (arith, made.held w)))

pub spend_all-requires : goal.spend_all-requires
spend_all-requires g c =
    let made = c.in_ok-x.ensures.made in
    together_as (g.G.Regions.kept c.union_of.new.g) c.in_ok-x.x.items _ (g.met.G.Regions.exact _) made.counted (λ w. omega (arith, made.held w, c.in-Err.ensures.halted w))

pub returns-in-Ok-clause-made : goal.returns-in-Ok-clause-made
returns-in-Ok-clause-made g c =
    let kept = g.G.Regions.kept in
    let k = kept c.args.g.now in
    let k1 = kept c.solutions.new.g in
    let k2 = kept c.union_of.new.g in
    layer_made k k1 k2 c.in_ok-x.x.items c.in-Ok.y (part_at k c.args.base.now c.args.lapses.now) (length c.args.lapses.now) (g.met.G.Regions.exact _) c.in_ok-x.ensures.made
    (subst (λ (xs : List _). MakesRegion k1 k2 c.in-Ok.y (union (set_at k1 xs) (length xs))) c.deref.ensures.value c.in-Ok.ensures.made)

pub returns-in-Ok-clause-parts : goal.returns-in-Ok-clause-parts
returns-in-Ok-clause-parts g c =
    let f = part_at (g.G.Regions.kept c.args.g.now) c.args.base.now c.args.lapses.now in
    let counted : length c.in_ok-x.x.items ≡ length c.args.lapses.now = c.in_ok-x.ensures.made.counted ∙ (length_map f (below (length c.args.lapses.now)) ∙ length_below (length c.args.lapses.now)) in
    omega (arith, counted)

pub returns-in-Err-clause-halted : goal.returns-in-Err-clause-halted
returns-in-Err-clause-halted g c =
    let kept = g.G.Regions.kept in
    made_and_spent_all (kept c.args.g.now) (kept c.solutions.new.g) (kept c.union_of.new.g) (kept c.spend_all.new.g) c.in_ok-x.x.items _ (g.met.G.Regions.exact _) c.in_ok-x.ensures.made c.in-Err.ensures.halted c.spend_all.ensures.spends

pub returns-in_err-x-clause-told : goal.returns-in_err-x-clause-told
returns-in_err-x-clause-told g c = λ z j r goal_in base_is are.
    let kept = g.G.Regions.kept in
    handed_on c.from_residual.result c.in_err-x.field-0.0 (TellsHalt (kept c.args.g.now) (kept c.solutions.new.g) z) c.from_residual.ensures.1 (c.in_err-x.ensures.told z j r goal_in base_is are)

pub returns-in-Err-clause-told : goal.returns-in-Err-clause-told
returns-in-Err-clause-told g c = λ z j r goal_in base_is are.
    let kept = g.G.Regions.kept in
    let k = kept c.args.g.now in
    let k1 = kept c.solutions.new.g in
    let xs = c.in_ok-x.x.items in
    let made = c.in_ok-x.ensures.made in
    let m = length c.args.lapses.now in
    let sets = as_held k1 xs (map (part_at k c.args.base.now c.args.lapses.now) (below m)) (g.met.G.Regions.exact _) made.counted (λ w. omega (arith, made.held w)) ∙
    (map_below-same (part_at k c.args.base.now c.args.lapses.now) (part_of k.game z (layer_of k.game z j r) j) m (parts_are k z j r c.args.base.now c.args.lapses.now base_is are) ∙
    ap (λ h. map (part_of h z (layer_of h z j r) j) (below m)) (sym c.solutions.ensures.keeps.game)) in
    let now = ap (λ (rs : List _). map k1.set rs) c.deref.ensures.value ∙ sets in
    let counted : length xs ≡ m = made.counted ∙ (length_map (part_at k c.args.base.now c.args.lapses.now) (below m) ∙ length_below m) in
    let asked : length c.deref.result.now ≡ length xs = ap (λ (rs : List _). length rs) c.deref.ensures.value in
    let few : length c.deref.result.now ≤ length (assumption_sets k1.game) =
    subst (λ h. length c.deref.result.now ≤ length (assumption_sets h)) (sym c.solutions.ensures.keeps.game) (omega (arith, asked, counted, lapse_count k c.args.lapses.now are)) in
    past_many k k1 (kept c.union_of.new.g) (kept c.spend_all.new.g) z xs _ c.in-Err.halt c.solutions.ensures.keeps.game made (parts_named k z j r c.args.base.now c.args.lapses.now m goal_in base_is are (omega arith)) c.spend_all.ensures.spends.jam (c.in-Err.ensures.told z j r m (subst (λ h. IsGoal h j) (sym c.solutions.ensures.keeps.game) goal_in) few now)
