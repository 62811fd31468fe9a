use Rattle.std.proofs.Common.{true, List, [], ◌∷◌, Some, sym, subst}
use Rattle.spec_model.specs.GameViews.{game_data}
use Rattle.spec_model.specs.Sets.{both}
use Rattle.game_values.specs.declared.seen.At.TheVariants.{Now}
use Rattle.regions.specs.Kept.{States}
use Rattle.bdd_bits.specs.Contents.{function_at}
use Rattle.bdd_ops.specs.Functions.{joined, join_of}
use Rattle.bdd_sets.proofs.SetLemmas.{tells_both}
use Rattle.region_bdd.specs.declared.slots.Content.TheVariants.{Region}
use Rattle.region_bdd.specs.declared.slots.Slot.{Slot}
use Rattle.region_bdd.specs.declared.own.Refused.{Refused}
use Rattle.region_bdd.specs.declared.own.Asked.TheVariants as asked
use Rattle.region_bdd.specs.Slots.{HasContent, HasRegionRoot}
use Rattle.region_bdd.specs.Object.{kept_of}
use Rattle.region_bdd.proofs.ObjectLaws.{region_root}
use Rattle.region_bdd.proofs.OutcomeLaws.{answered}
use Rattle.region_bdd.proofs.SetCalls.{held_root, region_tells, two_arguments}
use Rattle.bit_compile.specs.NamedCodes.{NoFunction}
use Rattle.bit_compile.proofs.Causes.{cause_join}
use Rattle.region_bdd.proofs.object.RegionBdd.and.Goals as goal

pub region-requires : goal.region-requires
region-requires c =
    let o = c.args.self.now in
    let g = game_data o.game in
    let slots = o.slots.slots.items in
    let d = o.diagrams in
    subst (λ (ss : List Slot). HasRegionRoot ss c.args.a.now.slot) (sym c.room.ensures.keeps) (region_root g d slots o.refused c.args.a.now c.requires.a)

pub region-requires-2 : goal.region-requires-2
region-requires-2 c =
    let o = c.args.self.now in
    let g = game_data o.game in
    let slots = o.slots.slots.items in
    let d = o.diagrams in
    subst (λ (ss : List Slot). HasRegionRoot ss c.args.b.now.slot) (sym c.room.ensures.keeps) (region_root g d slots o.refused c.args.b.now c.requires.b)

pub and-made-requires-clause-a_kept : goal.and-made-requires-clause-a_kept
and-made-requires-clause-a_kept c =
    let o = c.args.self.now in
    let g = game_data o.game in
    let slots = o.slots.slots.items in
    let d = o.diagrams in
    let here_a = subst (λ (ss : List Slot). HasContent ss c.args.a.now.slot (Region c.region.result.now)) c.room.ensures.keeps c.region.ensures in
    let here_b = subst (λ (ss : List Slot). HasContent ss c.args.b.now.slot (Region c.region-2.result.now)) c.room.ensures.keeps c.region-2.ensures in
    held_root g o.own o.levels d slots o.refused c.args.self.now.whole c.args.a.now c.region.result.now here_a

pub and-made-requires-clause-b_kept : goal.and-made-requires-clause-b_kept
and-made-requires-clause-b_kept c =
    let o = c.args.self.now in
    let g = game_data o.game in
    let slots = o.slots.slots.items in
    let d = o.diagrams in
    let here_a = subst (λ (ss : List Slot). HasContent ss c.args.a.now.slot (Region c.region.result.now)) c.room.ensures.keeps c.region.ensures in
    let here_b = subst (λ (ss : List Slot). HasContent ss c.args.b.now.slot (Region c.region-2.result.now)) c.room.ensures.keeps c.region-2.ensures in
    held_root g o.own o.levels d slots o.refused c.args.self.now.whole c.args.b.now c.region-2.result.now here_b

pub returns-clause-made : goal.returns-clause-made
returns-clause-made c =
    let o = c.args.self.now in
    let g = game_data o.game in
    let slots = o.slots.slots.items in
    let d = o.diagrams in
    let here_a = subst (λ (ss : List Slot). HasContent ss c.args.a.now.slot (Region c.region.result.now)) c.room.ensures.keeps c.region.ensures in
    let here_b = subst (λ (ss : List Slot). HasContent ss c.args.b.now.slot (Region c.region-2.result.now)) c.room.ensures.keeps c.region-2.ensures in
    let now = kept_of g d slots o.refused in
    let why : Refused = record { asked = asked.And; first = Some c.args.a.now.slot; second = Some c.args.b.now.slot } in
    let done = answered g o.own o.levels d slots c.and-made.new.diagrams c.room.new.self.slots.items c.settle.new.slots.slots.items o.refused c.settle.new.refused c.args.self.now.whole c.requires.free c.room.ensures.keeps (joined (join_of true) (function_at d c.region.result.now) (function_at d c.region-2.result.now)) (both (now.set c.args.a.now) (now.set c.args.b.now)) (tells_both g Now _ _ _ _ (region_tells g o.own o.levels d slots o.refused c.args.self.now.whole c.args.a.now c.region.result.now here_a) (region_tells g o.own o.levels d slots o.refused c.args.self.now.whole c.args.b.now c.region-2.result.now here_b)) why (States (now.set c.args.a.now) ∷ States (now.set c.args.b.now) ∷ []) (two_arguments g o.own o.levels d slots o.refused c.args.self.now.whole c.args.a.now c.args.b.now c.region.result.now c.region-2.result.now here_a here_b) c.and-made.result c.settle.result (c.and-made.ensures.makes) NoFunction (cause_join true d c.and-made.new.diagrams c.region.result.now c.region-2.result.now _ NoFunction c.and-made.result (held_root g o.own o.levels d slots o.refused c.args.self.now.whole c.args.a.now c.region.result.now here_a) (held_root g o.own o.levels d slots o.refused c.args.self.now.whole c.args.b.now c.region-2.result.now here_b) c.and-made.ensures) (λ own_is h none. absurd none) c.of-why.result c.of-why.ensures c.settle.ensures in
    done.made

pub returns-clause-halted : goal.returns-clause-halted
returns-clause-halted c =
    let o = c.args.self.now in
    let g = game_data o.game in
    let slots = o.slots.slots.items in
    let d = o.diagrams in
    let here_a = subst (λ (ss : List Slot). HasContent ss c.args.a.now.slot (Region c.region.result.now)) c.room.ensures.keeps c.region.ensures in
    let here_b = subst (λ (ss : List Slot). HasContent ss c.args.b.now.slot (Region c.region-2.result.now)) c.room.ensures.keeps c.region-2.ensures in
    let now = kept_of g d slots o.refused in
    let why : Refused = record { asked = asked.And; first = Some c.args.a.now.slot; second = Some c.args.b.now.slot } in
    let done = answered g o.own o.levels d slots c.and-made.new.diagrams c.room.new.self.slots.items c.settle.new.slots.slots.items o.refused c.settle.new.refused c.args.self.now.whole c.requires.free c.room.ensures.keeps (joined (join_of true) (function_at d c.region.result.now) (function_at d c.region-2.result.now)) (both (now.set c.args.a.now) (now.set c.args.b.now)) (tells_both g Now _ _ _ _ (region_tells g o.own o.levels d slots o.refused c.args.self.now.whole c.args.a.now c.region.result.now here_a) (region_tells g o.own o.levels d slots o.refused c.args.self.now.whole c.args.b.now c.region-2.result.now here_b)) why (States (now.set c.args.a.now) ∷ States (now.set c.args.b.now) ∷ []) (two_arguments g o.own o.levels d slots o.refused c.args.self.now.whole c.args.a.now c.args.b.now c.region.result.now c.region-2.result.now here_a here_b) c.and-made.result c.settle.result (c.and-made.ensures.makes) NoFunction (cause_join true d c.and-made.new.diagrams c.region.result.now c.region-2.result.now _ NoFunction c.and-made.result (held_root g o.own o.levels d slots o.refused c.args.self.now.whole c.args.a.now c.region.result.now here_a) (held_root g o.own o.levels d slots o.refused c.args.self.now.whole c.args.b.now c.region-2.result.now here_b) c.and-made.ensures) (λ own_is h none. absurd none) c.of-why.result c.of-why.ensures c.settle.ensures in
    done.halted

pub invariant_of-self-2 : goal.invariant_of-self-2
invariant_of-self-2 c =
    let o = c.args.self.now in
    let g = game_data o.game in
    let slots = o.slots.slots.items in
    let d = o.diagrams in
    let here_a = subst (λ (ss : List Slot). HasContent ss c.args.a.now.slot (Region c.region.result.now)) c.room.ensures.keeps c.region.ensures in
    let here_b = subst (λ (ss : List Slot). HasContent ss c.args.b.now.slot (Region c.region-2.result.now)) c.room.ensures.keeps c.region-2.ensures in
    let now = kept_of g d slots o.refused in
    let why : Refused = record { asked = asked.And; first = Some c.args.a.now.slot; second = Some c.args.b.now.slot } in
    let done = answered g o.own o.levels d slots c.and-made.new.diagrams c.room.new.self.slots.items c.settle.new.slots.slots.items o.refused c.settle.new.refused c.args.self.now.whole c.requires.free c.room.ensures.keeps (joined (join_of true) (function_at d c.region.result.now) (function_at d c.region-2.result.now)) (both (now.set c.args.a.now) (now.set c.args.b.now)) (tells_both g Now _ _ _ _ (region_tells g o.own o.levels d slots o.refused c.args.self.now.whole c.args.a.now c.region.result.now here_a) (region_tells g o.own o.levels d slots o.refused c.args.self.now.whole c.args.b.now c.region-2.result.now here_b)) why (States (now.set c.args.a.now) ∷ States (now.set c.args.b.now) ∷ []) (two_arguments g o.own o.levels d slots o.refused c.args.self.now.whole c.args.a.now c.args.b.now c.region.result.now c.region-2.result.now here_a here_b) c.and-made.result c.settle.result (c.and-made.ensures.makes) NoFunction (cause_join true d c.and-made.new.diagrams c.region.result.now c.region-2.result.now _ NoFunction c.and-made.result (held_root g o.own o.levels d slots o.refused c.args.self.now.whole c.args.a.now c.region.result.now here_a) (held_root g o.own o.levels d slots o.refused c.args.self.now.whole c.args.b.now c.region-2.result.now here_b) c.and-made.ensures) (λ own_is h none. absurd none) c.of-why.result c.of-why.ensures c.settle.ensures in
    record { whole = done.object; coded = o.coded; room = o.room }
