use Rattle.std.proofs.Common.{inr, List, [], ◌∷◌, Some, None, sym, subst}
use Rattle.spec_model.specs.GameViews.{game_data}
use Rattle.regions.specs.Kept.{States}
use Rattle.bdd_bits.specs.Contents.{function_at}
use Rattle.bdd_sets.specs.declared.moves.Members.{Members}
use Rattle.bdd_sets.specs.Members.{AreMembers, move_functions, lists_at}
use Rattle.bdd_sets.proofs.ShiftLemmas.{rises_to_next}
use Rattle.region_bdd.specs.declared.slots.Content.TheVariants.{Region}
use Rattle.region_bdd.specs.declared.slots.Slot.{Slot}
use Rattle.region_bdd.specs.declared.own.Refused.{Refused}
use Rattle.region_bdd.specs.declared.own.Asked.TheVariants as asked
use Rattle.region_bdd.specs.Slots.{HasContent, HasRegionRoot}
use Rattle.region_bdd.specs.Leading.{members_at, leading_in, MakesTwo}
use Rattle.region_bdd.specs.Object.{kept_of}
use Rattle.region_bdd.proofs.ObjectLaws.{region_root}
use Rattle.region_bdd.proofs.MoveOutcomes.{inputs_answered}
use Rattle.region_bdd.proofs.SetCalls.{held_root, region_tells, one_argument}
use Rattle.region_bdd.proofs.LeadingLaws.{members_kept, leading_tells}
use Rattle.bit_compile.specs.Crowding.{HasCause}
use Rattle.bdd_sets.specs.NamedGame.{IsOfRest}
use Rattle.spec_model.specs.Diagrams.{shifted}
use Rattle.region_bdd.proofs.CallNames.{leads_into, rest_of}
use Rattle.region_bdd.proofs.object.RegionBdd.in_moves.Goals as goal

pub region-requires : goal.region-requires
region-requires c =
    let o = c.args.self.now in
    let g = game_data o.game in
    let slots = o.slots.slots.items in
    let d = o.diagrams in
    subst (λ (ss : List Slot). HasRegionRoot ss c.args.t.now.slot) (sym c.room.ensures.keeps) (region_root g d slots o.refused c.args.t.now c.requires.t)

pub with_leading-made-requires-clause-t : goal.with_leading-made-requires-clause-t
with_leading-made-requires-clause-t c =
    let o = c.args.self.now in
    let g = game_data o.game in
    let slots = o.slots.slots.items in
    let d = o.diagrams in
    let here = subst (λ (ss : List Slot). HasContent ss c.args.t.now.slot (Region c.region.result.now)) c.room.ensures.keeps c.region.ensures in
    held_root g o.own o.levels d slots o.refused o.whole c.args.t.now c.region.result.now here

pub with_leading-made-requires-clause-members : goal.with_leading-made-requires-clause-members
with_leading-made-requires-clause-members c =
    let o = c.args.self.now in
    let g = game_data o.game in
    let slots = o.slots.slots.items in
    let d = o.diagrams in
    let here = subst (λ (ss : List Slot). HasContent ss c.args.t.now.slot (Region c.region.result.now)) c.room.ensures.keeps c.region.ensures in
    subst (λ (m : Members). AreMembers d m) (sym c.members.ensures) (members_kept g o.own o.levels d slots o.refused o.whole c.args.when)

pub with_leading-made-requires-clause-rising : goal.with_leading-made-requires-clause-rising
with_leading-made-requires-clause-rising c =
    let o = c.args.self.now in
    let g = game_data o.game in
    let slots = o.slots.slots.items in
    let d = o.diagrams in
    let here = subst (λ (ss : List Slot). HasContent ss c.args.t.now.slot (Region c.region.result.now)) c.room.ensures.keeps c.region.ensures in
    let tells = region_tells g o.own o.levels d slots o.refused o.whole c.args.t.now c.region.result.now here in
    rises_to_next g (function_at d c.region.result.now) tells.states d.state.table.levels d.order o.levels.to.items o.whole.fits.levels o.whole.lists_are.to o.whole.fits.rising

pub invariant_of-self-2 : goal.invariant_of-self-2
invariant_of-self-2 c =
    let o = c.args.self.now in
    let g = game_data o.game in
    let slots = o.slots.slots.items in
    let d = o.diagrams in
    let here = subst (λ (ss : List Slot). HasContent ss c.args.t.now.slot (Region c.region.result.now)) c.room.ensures.keeps c.region.ensures in
    let f = function_at d c.region.result.now in
    let h = leading_in (move_functions d (members_at o.own c.args.when)) o.levels f in
    let now = kept_of g d slots o.refused in
    let why : Refused = record { asked = asked.InMoves c.args.when; first = Some c.args.t.now.slot; second = None } in
    let makes = subst (λ (m : Members). MakesTwo d c.with_leading-made.new.diagrams c.with_leading-made.result f (leading_in (move_functions d m) o.levels f)) c.members.ensures c.with_leading-made.ensures.made in
    let cause = subst (λ (m : Members). HasCause d c.with_leading-made.new.diagrams c.with_leading-made.result (IsOfRest (lists_at d m) o.levels (shifted o.levels.to.items f))) c.members.ensures c.with_leading-made.ensures.cause in
    let done = inputs_answered g o.own c.args.when o.levels d c.with_leading-made.new.diagrams slots c.room.new.self.slots.items c.settle_inputs.new.slots.slots.items o.refused c.settle_inputs.new.refused o.whole c.requires.free c.room.ensures.keeps (now.set c.args.t.now) why (States (now.set c.args.t.now) ∷ []) (one_argument g o.own o.levels d slots o.refused o.whole c.args.t.now c.region.result.now here) f h (region_tells g o.own o.levels d slots o.refused o.whole c.args.t.now c.region.result.now here) (leading_tells g o.own o.levels d slots o.refused o.whole c.args.when c.args.t.now c.region.result.now here) (leads_into g o.own o.levels d slots o.refused o.whole c.args.t.now c.region.result.now here c.args.when) c.with_leading-made.result c.settle_inputs.result makes (IsOfRest (lists_at d (members_at o.own c.args.when)) o.levels (shifted o.levels.to.items f)) cause (λ own_is k is. inr (rest_of g o.own o.levels d slots o.refused o.whole c.args.t.now c.region.result.now here c.args.when c.with_leading-made.new.diagrams c.requires.free makes.keeps own_is k is)) c.of-why.result c.of-why.ensures c.settle_inputs.ensures in
    record { whole = done.object; coded = o.coded; room = o.room }

pub returns-clause-made : goal.returns-clause-made
returns-clause-made c =
    let o = c.args.self.now in
    let g = game_data o.game in
    let slots = o.slots.slots.items in
    let d = o.diagrams in
    let here = subst (λ (ss : List Slot). HasContent ss c.args.t.now.slot (Region c.region.result.now)) c.room.ensures.keeps c.region.ensures in
    let f = function_at d c.region.result.now in
    let h = leading_in (move_functions d (members_at o.own c.args.when)) o.levels f in
    let now = kept_of g d slots o.refused in
    let why : Refused = record { asked = asked.InMoves c.args.when; first = Some c.args.t.now.slot; second = None } in
    let makes = subst (λ (m : Members). MakesTwo d c.with_leading-made.new.diagrams c.with_leading-made.result f (leading_in (move_functions d m) o.levels f)) c.members.ensures c.with_leading-made.ensures.made in
    let cause = subst (λ (m : Members). HasCause d c.with_leading-made.new.diagrams c.with_leading-made.result (IsOfRest (lists_at d m) o.levels (shifted o.levels.to.items f))) c.members.ensures c.with_leading-made.ensures.cause in
    let done = inputs_answered g o.own c.args.when o.levels d c.with_leading-made.new.diagrams slots c.room.new.self.slots.items c.settle_inputs.new.slots.slots.items o.refused c.settle_inputs.new.refused o.whole c.requires.free c.room.ensures.keeps (now.set c.args.t.now) why (States (now.set c.args.t.now) ∷ []) (one_argument g o.own o.levels d slots o.refused o.whole c.args.t.now c.region.result.now here) f h (region_tells g o.own o.levels d slots o.refused o.whole c.args.t.now c.region.result.now here) (leading_tells g o.own o.levels d slots o.refused o.whole c.args.when c.args.t.now c.region.result.now here) (leads_into g o.own o.levels d slots o.refused o.whole c.args.t.now c.region.result.now here c.args.when) c.with_leading-made.result c.settle_inputs.result makes (IsOfRest (lists_at d (members_at o.own c.args.when)) o.levels (shifted o.levels.to.items f)) cause (λ own_is k is. inr (rest_of g o.own o.levels d slots o.refused o.whole c.args.t.now c.region.result.now here c.args.when c.with_leading-made.new.diagrams c.requires.free makes.keeps own_is k is)) c.of-why.result c.of-why.ensures c.settle_inputs.ensures in
    done.made

pub returns-clause-halted : goal.returns-clause-halted
returns-clause-halted c =
    let o = c.args.self.now in
    let g = game_data o.game in
    let slots = o.slots.slots.items in
    let d = o.diagrams in
    let here = subst (λ (ss : List Slot). HasContent ss c.args.t.now.slot (Region c.region.result.now)) c.room.ensures.keeps c.region.ensures in
    let f = function_at d c.region.result.now in
    let h = leading_in (move_functions d (members_at o.own c.args.when)) o.levels f in
    let now = kept_of g d slots o.refused in
    let why : Refused = record { asked = asked.InMoves c.args.when; first = Some c.args.t.now.slot; second = None } in
    let makes = subst (λ (m : Members). MakesTwo d c.with_leading-made.new.diagrams c.with_leading-made.result f (leading_in (move_functions d m) o.levels f)) c.members.ensures c.with_leading-made.ensures.made in
    let cause = subst (λ (m : Members). HasCause d c.with_leading-made.new.diagrams c.with_leading-made.result (IsOfRest (lists_at d m) o.levels (shifted o.levels.to.items f))) c.members.ensures c.with_leading-made.ensures.cause in
    let done = inputs_answered g o.own c.args.when o.levels d c.with_leading-made.new.diagrams slots c.room.new.self.slots.items c.settle_inputs.new.slots.slots.items o.refused c.settle_inputs.new.refused o.whole c.requires.free c.room.ensures.keeps (now.set c.args.t.now) why (States (now.set c.args.t.now) ∷ []) (one_argument g o.own o.levels d slots o.refused o.whole c.args.t.now c.region.result.now here) f h (region_tells g o.own o.levels d slots o.refused o.whole c.args.t.now c.region.result.now here) (leading_tells g o.own o.levels d slots o.refused o.whole c.args.when c.args.t.now c.region.result.now here) (leads_into g o.own o.levels d slots o.refused o.whole c.args.t.now c.region.result.now here c.args.when) c.with_leading-made.result c.settle_inputs.result makes (IsOfRest (lists_at d (members_at o.own c.args.when)) o.levels (shifted o.levels.to.items f)) cause (λ own_is k is. inr (rest_of g o.own o.levels d slots o.refused o.whole c.args.t.now c.region.result.now here c.args.when c.with_leading-made.new.diagrams c.requires.free makes.keeps own_is k is)) c.of-why.result c.of-why.ensures c.settle_inputs.ensures in
    done.halted

pub returns-clause-keeps : goal.returns-clause-keeps
returns-clause-keeps c =
    let o = c.args.self.now in
    let g = game_data o.game in
    let slots = o.slots.slots.items in
    let d = o.diagrams in
    let here = subst (λ (ss : List Slot). HasContent ss c.args.t.now.slot (Region c.region.result.now)) c.room.ensures.keeps c.region.ensures in
    let f = function_at d c.region.result.now in
    let h = leading_in (move_functions d (members_at o.own c.args.when)) o.levels f in
    let now = kept_of g d slots o.refused in
    let why : Refused = record { asked = asked.InMoves c.args.when; first = Some c.args.t.now.slot; second = None } in
    let makes = subst (λ (m : Members). MakesTwo d c.with_leading-made.new.diagrams c.with_leading-made.result f (leading_in (move_functions d m) o.levels f)) c.members.ensures c.with_leading-made.ensures.made in
    let cause = subst (λ (m : Members). HasCause d c.with_leading-made.new.diagrams c.with_leading-made.result (IsOfRest (lists_at d m) o.levels (shifted o.levels.to.items f))) c.members.ensures c.with_leading-made.ensures.cause in
    let done = inputs_answered g o.own c.args.when o.levels d c.with_leading-made.new.diagrams slots c.room.new.self.slots.items c.settle_inputs.new.slots.slots.items o.refused c.settle_inputs.new.refused o.whole c.requires.free c.room.ensures.keeps (now.set c.args.t.now) why (States (now.set c.args.t.now) ∷ []) (one_argument g o.own o.levels d slots o.refused o.whole c.args.t.now c.region.result.now here) f h (region_tells g o.own o.levels d slots o.refused o.whole c.args.t.now c.region.result.now here) (leading_tells g o.own o.levels d slots o.refused o.whole c.args.when c.args.t.now c.region.result.now here) (leads_into g o.own o.levels d slots o.refused o.whole c.args.t.now c.region.result.now here c.args.when) c.with_leading-made.result c.settle_inputs.result makes (IsOfRest (lists_at d (members_at o.own c.args.when)) o.levels (shifted o.levels.to.items f)) cause (λ own_is k is. inr (rest_of g o.own o.levels d slots o.refused o.whole c.args.t.now c.region.result.now here c.args.when c.with_leading-made.new.diagrams c.requires.free makes.keeps own_is k is)) c.of-why.result c.of-why.ensures c.settle_inputs.ensures in
    done.same
