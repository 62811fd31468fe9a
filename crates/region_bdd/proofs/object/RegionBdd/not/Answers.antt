use Rattle.std.proofs.Common.{List, [], ◌∷◌, Some, None, sym, subst}
use Rattle.spec_model.specs.Diagrams.{ite as choice}
use Rattle.spec_model.specs.GameViews.{game_data}
use Rattle.spec_model.specs.Sets.{rest}
use Rattle.regions.specs.Kept.{States}
use Rattle.bdd_bits.specs.Contents.{function_at}
use Rattle.region_bdd.specs.declared.slots.Content.TheVariants.{Region}
use Rattle.region_bdd.specs.declared.slots.Slot.{Slot}
use Rattle.region_bdd.specs.declared.own.Refused.{Refused}
use Rattle.region_bdd.specs.declared.own.Asked.TheVariants as asked
use Rattle.region_bdd.specs.Slots.{HasContent, HasRegionRoot}
use Rattle.region_bdd.specs.Object.{kept_of}
use Rattle.region_bdd.proofs.ObjectLaws.{region_root}
use Rattle.region_bdd.proofs.OutcomeLaws.{answered}
use Rattle.region_bdd.proofs.SetCalls.{nothing_root, proper_root, held_root, one_argument, tells_not}
use Rattle.bit_compile.specs.NamedCodes.{NoFunction}
use Rattle.bdd_sets.proofs.CauseLemmas.{cause_choice}
use Rattle.region_bdd.proofs.object.RegionBdd.not.Goals as goal

pub region-requires : goal.region-requires
region-requires c =
    let o = c.args.self.now in
    let g = game_data o.game in
    let slots = o.slots.slots.items in
    let d = o.diagrams in
    subst (λ (ss : List Slot). HasRegionRoot ss c.args.a.now.slot) (sym c.room.ensures.keeps) (region_root g d slots o.refused c.args.a.now c.requires.a)

pub ite-made-requires-clause-a_kept : goal.ite-made-requires-clause-a_kept
ite-made-requires-clause-a_kept c =
    let o = c.args.self.now in
    let g = game_data o.game in
    let slots = o.slots.slots.items in
    let d = o.diagrams in
    let here_a = subst (λ (ss : List Slot). HasContent ss c.args.a.now.slot (Region c.region.result.now)) c.room.ensures.keeps c.region.ensures in
    held_root g o.own o.levels d slots o.refused c.args.self.now.whole c.args.a.now c.region.result.now here_a

pub returns-clause-made : goal.returns-clause-made
returns-clause-made c =
    let o = c.args.self.now in
    let g = game_data o.game in
    let slots = o.slots.slots.items in
    let d = o.diagrams in
    let here_a = subst (λ (ss : List Slot). HasContent ss c.args.a.now.slot (Region c.region.result.now)) c.room.ensures.keeps c.region.ensures in
    let now = kept_of g d slots o.refused in
    let why : Refused = record { asked = asked.Not; first = Some c.args.a.now.slot; second = None } in
    let done = answered g o.own o.levels d slots c.ite-made.new.diagrams c.room.new.self.slots.items c.settle.new.slots.slots.items o.refused c.settle.new.refused c.args.self.now.whole c.requires.free c.room.ensures.keeps (choice (function_at d c.region.result.now) (function_at d o.own.step.nothing) (function_at d o.own.step.proper)) (rest g (now.set c.args.a.now)) (tells_not g o.own o.levels d slots o.refused c.args.self.now.whole c.args.a.now c.region.result.now here_a) why (States (now.set c.args.a.now) ∷ []) (one_argument g o.own o.levels d slots o.refused c.args.self.now.whole c.args.a.now c.region.result.now here_a) c.ite-made.result c.settle.result (c.ite-made.ensures.makes) NoFunction (cause_choice d c.ite-made.new.diagrams c.region.result.now o.own.step.nothing o.own.step.proper _ c.ite-made.result (held_root g o.own o.levels d slots o.refused c.args.self.now.whole c.args.a.now c.region.result.now here_a) (nothing_root g o.own o.levels d slots o.refused c.args.self.now.whole) (proper_root g o.own o.levels d slots o.refused c.args.self.now.whole) c.ite-made.ensures) (λ own_is h none. absurd none) c.of-why.result c.of-why.ensures c.settle.ensures in
    done.made

pub returns-clause-halted : goal.returns-clause-halted
returns-clause-halted c =
    let o = c.args.self.now in
    let g = game_data o.game in
    let slots = o.slots.slots.items in
    let d = o.diagrams in
    let here_a = subst (λ (ss : List Slot). HasContent ss c.args.a.now.slot (Region c.region.result.now)) c.room.ensures.keeps c.region.ensures in
    let now = kept_of g d slots o.refused in
    let why : Refused = record { asked = asked.Not; first = Some c.args.a.now.slot; second = None } in
    let done = answered g o.own o.levels d slots c.ite-made.new.diagrams c.room.new.self.slots.items c.settle.new.slots.slots.items o.refused c.settle.new.refused c.args.self.now.whole c.requires.free c.room.ensures.keeps (choice (function_at d c.region.result.now) (function_at d o.own.step.nothing) (function_at d o.own.step.proper)) (rest g (now.set c.args.a.now)) (tells_not g o.own o.levels d slots o.refused c.args.self.now.whole c.args.a.now c.region.result.now here_a) why (States (now.set c.args.a.now) ∷ []) (one_argument g o.own o.levels d slots o.refused c.args.self.now.whole c.args.a.now c.region.result.now here_a) c.ite-made.result c.settle.result (c.ite-made.ensures.makes) NoFunction (cause_choice d c.ite-made.new.diagrams c.region.result.now o.own.step.nothing o.own.step.proper _ c.ite-made.result (held_root g o.own o.levels d slots o.refused c.args.self.now.whole c.args.a.now c.region.result.now here_a) (nothing_root g o.own o.levels d slots o.refused c.args.self.now.whole) (proper_root g o.own o.levels d slots o.refused c.args.self.now.whole) c.ite-made.ensures) (λ own_is h none. absurd none) c.of-why.result c.of-why.ensures c.settle.ensures in
    done.halted

pub invariant_of-self-2 : goal.invariant_of-self-2
invariant_of-self-2 c =
    let o = c.args.self.now in
    let g = game_data o.game in
    let slots = o.slots.slots.items in
    let d = o.diagrams in
    let here_a = subst (λ (ss : List Slot). HasContent ss c.args.a.now.slot (Region c.region.result.now)) c.room.ensures.keeps c.region.ensures in
    let now = kept_of g d slots o.refused in
    let why : Refused = record { asked = asked.Not; first = Some c.args.a.now.slot; second = None } in
    let done = answered g o.own o.levels d slots c.ite-made.new.diagrams c.room.new.self.slots.items c.settle.new.slots.slots.items o.refused c.settle.new.refused c.args.self.now.whole c.requires.free c.room.ensures.keeps (choice (function_at d c.region.result.now) (function_at d o.own.step.nothing) (function_at d o.own.step.proper)) (rest g (now.set c.args.a.now)) (tells_not g o.own o.levels d slots o.refused c.args.self.now.whole c.args.a.now c.region.result.now here_a) why (States (now.set c.args.a.now) ∷ []) (one_argument g o.own o.levels d slots o.refused c.args.self.now.whole c.args.a.now c.region.result.now here_a) c.ite-made.result c.settle.result (c.ite-made.ensures.makes) NoFunction (cause_choice d c.ite-made.new.diagrams c.region.result.now o.own.step.nothing o.own.step.proper _ c.ite-made.result (held_root g o.own o.levels d slots o.refused c.args.self.now.whole c.args.a.now c.region.result.now here_a) (nothing_root g o.own o.levels d slots o.refused c.args.self.now.whole) (proper_root g o.own o.levels d slots o.refused c.args.self.now.whole) c.ite-made.ensures) (λ own_is h none. absurd none) c.of-why.result c.of-why.ensures c.settle.ensures in
    record { whole = done.object; coded = o.coded; room = o.room }
