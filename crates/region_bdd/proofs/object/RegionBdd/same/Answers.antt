use Rattle.std.proofs.Common.{subst, sym}
use Rattle.spec_model.specs.GameViews.{game_data}
use Rattle.spec_model.specs.Sets.{StateSet}
use Rattle.game_values.specs.declared.seen.At.TheVariants.{Now}
use Rattle.bdd_bits.specs.Contents.{function_at}
use Rattle.bdd_sets.specs.StateBits.{Tells}
use Rattle.bdd_sets.proofs.SetLemmas.{one_function, same_set}
use Rattle.region_bdd.proofs.ObjectLaws.{region_root}
use Rattle.region_bdd.proofs.SetCalls.{held_root, region_tells}
use Rattle.region_bdd.proofs.object.RegionBdd.same.Goals as goal

pub region-requires : goal.region-requires
region-requires c =
    let o = c.args.self.now in
    region_root (game_data o.game) o.diagrams o.slots.slots.items o.refused c.args.a.now c.requires.a

pub region-requires-2 : goal.region-requires-2
region-requires-2 c =
    let o = c.args.self.now in
    region_root (game_data o.game) o.diagrams o.slots.slots.items o.refused c.args.b.now c.requires.b

pub equal-requires-clause-a_kept : goal.equal-requires-clause-a_kept
equal-requires-clause-a_kept c =
    let o = c.args.self.now in
    held_root (game_data o.game) o.own o.levels o.diagrams o.slots.slots.items o.refused c.args.self.now.whole c.args.a.now c.region.result.now c.region.ensures

pub equal-requires-clause-b_kept : goal.equal-requires-clause-b_kept
equal-requires-clause-b_kept c =
    let o = c.args.self.now in
    held_root (game_data o.game) o.own o.levels o.diagrams o.slots.slots.items o.refused c.args.self.now.whole c.args.b.now c.region-2.result.now c.region-2.ensures

pub returns : goal.returns
returns c =
    let o = c.args.self.now in
    let g = game_data o.game in
    let f = function_at o.diagrams c.region.result.now in
    let h = function_at o.diagrams c.region-2.result.now in
    let first = region_tells g o.own o.levels o.diagrams o.slots.slots.items o.refused c.args.self.now.whole c.args.a.now c.region.result.now c.region.ensures in
    let second = region_tells g o.own o.levels o.diagrams o.slots.slots.items o.refused c.args.self.now.whole c.args.b.now c.region-2.result.now c.region-2.ensures in (
      λ yes'. same_set g Now f h _ _ first second (c.equal.ensures.0 yes'),
      λ same. c.equal.ensures.1 (one_function g Now f h _ first (subst (λ (t : StateSet). Tells g Now h t) (sym same) second)),
    )
