use Rattle.std.proofs.Common.{ℕ, List, [], ◌∷◌, Some, None, sym, subst}
use Rattle.spec_model.specs.Diagrams.{shifted}
use Rattle.spec_model.specs.GameViews.{game_data}
use Rattle.regions.specs.Kept.{States}
use Rattle.bdd_bits.specs.Contents.{function_at}
use Rattle.bdd_bits.specs.Calls.{RisesOver}
use Rattle.bit_compile.specs.Making.{Makes}
use Rattle.bdd_sets.proofs.ShiftLemmas.{rises_to_next, tells_next}
use Rattle.region_bdd.specs.declared.slots.Content.TheVariants.{Region}
use Rattle.region_bdd.specs.declared.slots.Slot.{Slot}
use Rattle.region_bdd.specs.declared.own.Refused.{Refused}
use Rattle.region_bdd.specs.declared.own.Asked.TheVariants as asked
use Rattle.region_bdd.specs.Slots.{HasContent, HasRegionRoot}
use Rattle.region_bdd.specs.Object.{kept_of}
use Rattle.region_bdd.proofs.ObjectLaws.{region_root}
use Rattle.region_bdd.proofs.MoveOutcomes.{outputs_answered}
use Rattle.region_bdd.proofs.SetCalls.{held_root, region_tells, one_argument}
use Rattle.bit_compile.specs.NamedCodes.{NoFunction}
use Rattle.bdd_sets.proofs.CauseLemmas.{cause_moved}
use Rattle.region_bdd.proofs.object.RegionBdd.out_moves.Goals as goal

pub region-requires : goal.region-requires
region-requires c =
    let o = c.args.self.now in
    let g = game_data o.game in
    let slots = o.slots.slots.items in
    let d = o.diagrams in
    subst (λ (ss : List Slot). HasRegionRoot ss c.args.t.now.slot) (sym c.room.ensures.keeps) (region_root g d slots o.refused c.args.t.now c.requires.t)

pub shift-made-requires-clause-kept : goal.shift-made-requires-clause-kept
shift-made-requires-clause-kept c =
    let o = c.args.self.now in
    let g = game_data o.game in
    let slots = o.slots.slots.items in
    let d = o.diagrams in
    let here_t = subst (λ (ss : List Slot). HasContent ss c.args.t.now.slot (Region c.region.result.now)) c.room.ensures.keeps c.region.ensures in
    let f = function_at d c.region.result.now in
    let tells = region_tells g o.own o.levels d slots o.refused o.whole c.args.t.now c.region.result.now here_t in
    held_root g o.own o.levels d slots o.refused o.whole c.args.t.now c.region.result.now here_t

pub shift-made-requires-clause-rising : goal.shift-made-requires-clause-rising
shift-made-requires-clause-rising c =
    let o = c.args.self.now in
    let g = game_data o.game in
    let slots = o.slots.slots.items in
    let d = o.diagrams in
    let here_t = subst (λ (ss : List Slot). HasContent ss c.args.t.now.slot (Region c.region.result.now)) c.room.ensures.keeps c.region.ensures in
    let f = function_at d c.region.result.now in
    let tells = region_tells g o.own o.levels d slots o.refused o.whole c.args.t.now c.region.result.now here_t in
    subst (λ (to : List ℕ). RisesOver d.state.table.levels d.order to f) (sym c.deref.ensures.value) (rises_to_next g f tells.states d.state.table.levels d.order o.levels.to.items o.whole.fits.levels o.whole.lists_are.to o.whole.fits.rising)

pub invariant_of-self-2 : goal.invariant_of-self-2
invariant_of-self-2 c =
    let o = c.args.self.now in
    let g = game_data o.game in
    let slots = o.slots.slots.items in
    let d = o.diagrams in
    let here_t = subst (λ (ss : List Slot). HasContent ss c.args.t.now.slot (Region c.region.result.now)) c.room.ensures.keeps c.region.ensures in
    let f = function_at d c.region.result.now in
    let tells = region_tells g o.own o.levels d slots o.refused o.whole c.args.t.now c.region.result.now here_t in
    let now = kept_of g d slots o.refused in
    let why : Refused = record { asked = asked.OutMoves c.args.when; first = Some c.args.t.now.slot; second = None } in
    let makes = subst (λ (to : List ℕ). Makes d c.shift-made.new.diagrams c.shift-made.result (shifted to f)) c.deref.ensures.value c.shift-made.ensures.makes in
    let done = outputs_answered g o.own c.args.when o.levels d c.shift-made.new.diagrams slots c.room.new.self.slots.items c.settle_outputs.new.slots.slots.items o.refused c.settle_outputs.new.refused o.whole c.requires.free c.room.ensures.keeps (now.set c.args.t.now) why (States (now.set c.args.t.now) ∷ []) (one_argument g o.own o.levels d slots o.refused o.whole c.args.t.now c.region.result.now here_t) (shifted o.levels.to.items f) (tells_next g o.levels.to.items o.whole.lists_are.to f (now.set c.args.t.now) tells) c.shift-made.result c.settle_outputs.result makes NoFunction (cause_moved c.deref.result.now d c.shift-made.new.diagrams c.region.result.now _ c.shift-made.result (held_root g o.own o.levels d slots o.refused o.whole c.args.t.now c.region.result.now here_t) c.shift-made.ensures) (λ own_is h none. absurd none) c.of-why.result c.of-why.ensures c.settle_outputs.ensures in
    record { whole = done.object; coded = o.coded; room = o.room }

pub returns-clause-made : goal.returns-clause-made
returns-clause-made c =
    let o = c.args.self.now in
    let g = game_data o.game in
    let slots = o.slots.slots.items in
    let d = o.diagrams in
    let here_t = subst (λ (ss : List Slot). HasContent ss c.args.t.now.slot (Region c.region.result.now)) c.room.ensures.keeps c.region.ensures in
    let f = function_at d c.region.result.now in
    let tells = region_tells g o.own o.levels d slots o.refused o.whole c.args.t.now c.region.result.now here_t in
    let now = kept_of g d slots o.refused in
    let why : Refused = record { asked = asked.OutMoves c.args.when; first = Some c.args.t.now.slot; second = None } in
    let makes = subst (λ (to : List ℕ). Makes d c.shift-made.new.diagrams c.shift-made.result (shifted to f)) c.deref.ensures.value c.shift-made.ensures.makes in
    let done = outputs_answered g o.own c.args.when o.levels d c.shift-made.new.diagrams slots c.room.new.self.slots.items c.settle_outputs.new.slots.slots.items o.refused c.settle_outputs.new.refused o.whole c.requires.free c.room.ensures.keeps (now.set c.args.t.now) why (States (now.set c.args.t.now) ∷ []) (one_argument g o.own o.levels d slots o.refused o.whole c.args.t.now c.region.result.now here_t) (shifted o.levels.to.items f) (tells_next g o.levels.to.items o.whole.lists_are.to f (now.set c.args.t.now) tells) c.shift-made.result c.settle_outputs.result makes NoFunction (cause_moved c.deref.result.now d c.shift-made.new.diagrams c.region.result.now _ c.shift-made.result (held_root g o.own o.levels d slots o.refused o.whole c.args.t.now c.region.result.now here_t) c.shift-made.ensures) (λ own_is h none. absurd none) c.of-why.result c.of-why.ensures c.settle_outputs.ensures in
    done.made

pub returns-clause-halted : goal.returns-clause-halted
returns-clause-halted c =
    let o = c.args.self.now in
    let g = game_data o.game in
    let slots = o.slots.slots.items in
    let d = o.diagrams in
    let here_t = subst (λ (ss : List Slot). HasContent ss c.args.t.now.slot (Region c.region.result.now)) c.room.ensures.keeps c.region.ensures in
    let f = function_at d c.region.result.now in
    let tells = region_tells g o.own o.levels d slots o.refused o.whole c.args.t.now c.region.result.now here_t in
    let now = kept_of g d slots o.refused in
    let why : Refused = record { asked = asked.OutMoves c.args.when; first = Some c.args.t.now.slot; second = None } in
    let makes = subst (λ (to : List ℕ). Makes d c.shift-made.new.diagrams c.shift-made.result (shifted to f)) c.deref.ensures.value c.shift-made.ensures.makes in
    let done = outputs_answered g o.own c.args.when o.levels d c.shift-made.new.diagrams slots c.room.new.self.slots.items c.settle_outputs.new.slots.slots.items o.refused c.settle_outputs.new.refused o.whole c.requires.free c.room.ensures.keeps (now.set c.args.t.now) why (States (now.set c.args.t.now) ∷ []) (one_argument g o.own o.levels d slots o.refused o.whole c.args.t.now c.region.result.now here_t) (shifted o.levels.to.items f) (tells_next g o.levels.to.items o.whole.lists_are.to f (now.set c.args.t.now) tells) c.shift-made.result c.settle_outputs.result makes NoFunction (cause_moved c.deref.result.now d c.shift-made.new.diagrams c.region.result.now _ c.shift-made.result (held_root g o.own o.levels d slots o.refused o.whole c.args.t.now c.region.result.now here_t) c.shift-made.ensures) (λ own_is h none. absurd none) c.of-why.result c.of-why.ensures c.settle_outputs.ensures in
    done.halted
