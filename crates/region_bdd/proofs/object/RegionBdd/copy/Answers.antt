use Rattle.std.proofs.Common.{List, [], ◌∷◌, Some, None, sym, ◌∙◌, subst}
use Rattle.spec_model.specs.Diagrams.{Diagram}
use Rattle.spec_model.specs.GameViews.{game_data}
use Rattle.regions.specs.Kept.{States}
use Rattle.bdd_bits.specs.Contents.{function_at}
use Rattle.bit_compile.specs.Making.{Makes}
use Rattle.bit_compile.proofs.MakingLemmas.{told_makes}
use Rattle.region_bdd.specs.declared.slots.Content.TheVariants.{Region}
use Rattle.region_bdd.specs.declared.slots.Slot.{Slot}
use Rattle.region_bdd.specs.declared.own.Refused.{Refused}
use Rattle.region_bdd.specs.declared.own.Asked.TheVariants as asked
use Rattle.region_bdd.specs.Slots.{HasContent, HasRegionRoot}
use Rattle.region_bdd.specs.Object.{kept_of}
use Rattle.region_bdd.proofs.ObjectLaws.{region_root}
use Rattle.region_bdd.proofs.OutcomeLaws.{answered, settled_never, never_full}
use Rattle.region_bdd.proofs.SetCalls.{held_root, region_tells, one_argument}
use Rattle.bit_compile.specs.NamedCodes.{NoFunction}
use Rattle.bit_compile.proofs.Causes.{cause_never}
use Rattle.region_bdd.proofs.object.RegionBdd.copy.Goals as goal

pub region-requires : goal.region-requires
region-requires c =
    let o = c.args.self.now in
    let g = game_data o.game in
    let slots = o.slots.slots.items in
    let d = o.diagrams in
    subst (λ (ss : List Slot). HasRegionRoot ss c.args.a.now.slot) (sym c.room.ensures.keeps) (region_root g d slots o.refused c.args.a.now c.requires.a)

pub keep-requires : goal.keep-requires
keep-requires c =
    let o = c.args.self.now in
    let g = game_data o.game in
    let slots = o.slots.slots.items in
    let d = o.diagrams in
    let here_a = subst (λ (ss : List Slot). HasContent ss c.args.a.now.slot (Region c.region.result.now)) c.room.ensures.keeps c.region.ensures in
    held_root g o.own o.levels d slots o.refused c.args.self.now.whole c.args.a.now c.region.result.now here_a

pub returns-clause-made : goal.returns-clause-made
returns-clause-made c =
    let o = c.args.self.now in
    let g = game_data o.game in
    let slots = o.slots.slots.items in
    let d = o.diagrams in
    let here_a = subst (λ (ss : List Slot). HasContent ss c.args.a.now.slot (Region c.region.result.now)) c.room.ensures.keeps c.region.ensures in
    let now = kept_of g d slots o.refused in
    let why : Refused = record { asked = asked.Copy; first = Some c.args.a.now.slot; second = None } in
    let done = answered g o.own o.levels d slots c.keep.new.self c.room.new.self.slots.items c.settle.new.slots.slots.items o.refused c.settle.new.refused c.args.self.now.whole c.requires.free c.room.ensures.keeps (function_at d c.region.result.now) (now.set c.args.a.now) ((region_tells g o.own o.levels d slots o.refused c.args.self.now.whole c.args.a.now c.region.result.now here_a)) why (States (now.set c.args.a.now) ∷ []) (one_argument g o.own o.levels d slots o.refused c.args.self.now.whole c.args.a.now c.region.result.now here_a) c.told-made.result c.settle.result (subst (λ r. Makes d c.keep.new.self r (function_at d c.region.result.now)) (sym c.told-made.ensures) (told_makes d c.keep.new.self c.keep.result (function_at d c.region.result.now) (λ (made : Diagram). ⊥) c.keep.ensures.given)) NoFunction (cause_never d c.keep.new.self c.told-made.result NoFunction (λ e. never_full c.keep.result c.keep.ensures.full (sym c.told-made.ensures ∙ e))) (λ own_is h none. absurd none) c.of-why.result c.of-why.ensures c.settle.ensures in
    done.made

pub returns-clause-halted : goal.returns-clause-halted
returns-clause-halted c =
    let o = c.args.self.now in
    let g = game_data o.game in
    let slots = o.slots.slots.items in
    let d = o.diagrams in
    let here_a = subst (λ (ss : List Slot). HasContent ss c.args.a.now.slot (Region c.region.result.now)) c.room.ensures.keeps c.region.ensures in
    let now = kept_of g d slots o.refused in
    let why : Refused = record { asked = asked.Copy; first = Some c.args.a.now.slot; second = None } in
    let done = answered g o.own o.levels d slots c.keep.new.self c.room.new.self.slots.items c.settle.new.slots.slots.items o.refused c.settle.new.refused c.args.self.now.whole c.requires.free c.room.ensures.keeps (function_at d c.region.result.now) (now.set c.args.a.now) ((region_tells g o.own o.levels d slots o.refused c.args.self.now.whole c.args.a.now c.region.result.now here_a)) why (States (now.set c.args.a.now) ∷ []) (one_argument g o.own o.levels d slots o.refused c.args.self.now.whole c.args.a.now c.region.result.now here_a) c.told-made.result c.settle.result (subst (λ r. Makes d c.keep.new.self r (function_at d c.region.result.now)) (sym c.told-made.ensures) (told_makes d c.keep.new.self c.keep.result (function_at d c.region.result.now) (λ (made : Diagram). ⊥) c.keep.ensures.given)) NoFunction (cause_never d c.keep.new.self c.told-made.result NoFunction (λ e. never_full c.keep.result c.keep.ensures.full (sym c.told-made.ensures ∙ e))) (λ own_is h none. absurd none) c.of-why.result c.of-why.ensures c.settle.ensures in
    done.halted

pub invariant_of-self-2 : goal.invariant_of-self-2
invariant_of-self-2 c =
    let o = c.args.self.now in
    let g = game_data o.game in
    let slots = o.slots.slots.items in
    let d = o.diagrams in
    let here_a = subst (λ (ss : List Slot). HasContent ss c.args.a.now.slot (Region c.region.result.now)) c.room.ensures.keeps c.region.ensures in
    let now = kept_of g d slots o.refused in
    let why : Refused = record { asked = asked.Copy; first = Some c.args.a.now.slot; second = None } in
    let done = answered g o.own o.levels d slots c.keep.new.self c.room.new.self.slots.items c.settle.new.slots.slots.items o.refused c.settle.new.refused c.args.self.now.whole c.requires.free c.room.ensures.keeps (function_at d c.region.result.now) (now.set c.args.a.now) ((region_tells g o.own o.levels d slots o.refused c.args.self.now.whole c.args.a.now c.region.result.now here_a)) why (States (now.set c.args.a.now) ∷ []) (one_argument g o.own o.levels d slots o.refused c.args.self.now.whole c.args.a.now c.region.result.now here_a) c.told-made.result c.settle.result (subst (λ r. Makes d c.keep.new.self r (function_at d c.region.result.now)) (sym c.told-made.ensures) (told_makes d c.keep.new.self c.keep.result (function_at d c.region.result.now) (λ (made : Diagram). ⊥) c.keep.ensures.given)) NoFunction (cause_never d c.keep.new.self c.told-made.result NoFunction (λ e. never_full c.keep.result c.keep.ensures.full (sym c.told-made.ensures ∙ e))) (λ own_is h none. absurd none) c.of-why.result c.of-why.ensures c.settle.ensures in
    record { whole = done.object; coded = o.coded; room = o.room }

pub returns-clause-never : goal.returns-clause-never
returns-clause-never c =
    settled_never c.room.new.self.slots.items c.settle.new.slots.slots.items c.settle.new.refused c.told-made.result c.settle.result c.of-why.result c.settle.ensures (λ e. never_full c.keep.result c.keep.ensures.full (sym c.told-made.ensures ∙ e))
