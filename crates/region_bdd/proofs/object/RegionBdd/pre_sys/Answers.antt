use Rattle.std.proofs.Common.{inr, List, [], ◌∷◌, Some, None, sym, subst}
use Rattle.spec_model.specs.Diagrams.{ite as choice, shifted}
use Rattle.spec_model.specs.GameViews.{game_data}
use Rattle.spec_model.specs.Sets.{pre_sys as system_forces_set}
use Rattle.regions.specs.Kept.{States}
use Rattle.bdd_bits.specs.Contents.{function_at}
use Rattle.bdd_sets.specs.Members.{move_functions, avoiding, lists_at}
use Rattle.bdd_sets.proofs.ShiftLemmas.{rises_to_next}
use Rattle.region_bdd.specs.declared.slots.Content.TheVariants.{Region}
use Rattle.region_bdd.specs.declared.slots.Slot.{Slot}
use Rattle.region_bdd.specs.declared.own.Refused.{Refused}
use Rattle.region_bdd.specs.declared.own.Asked.TheVariants as asked
use Rattle.region_bdd.specs.Slots.{HasContent, HasRegionRoot}
use Rattle.region_bdd.specs.Object.{kept_of}
use Rattle.bdd_products.proofs.KeepingLemmas.{keeps_itself}
use Rattle.region_bdd.proofs.ObjectLaws.{region_root, early_roots}
use Rattle.region_bdd.proofs.OutcomeLaws.{answered_where}
use Rattle.region_bdd.proofs.SetCalls.{later_roots, held_root, region_tells, one_argument, tells_forced}
use Rattle.regions.specs.declared.types.When.TheVariants.{Later}
use Rattle.bdd_sets.specs.NamedGame.{IsOfStep}
use Rattle.region_bdd.proofs.CallNames.{step_of}
use Rattle.region_bdd.proofs.object.RegionBdd.pre_sys.Goals as goal

pub region-requires : goal.region-requires
region-requires c =
    let o = c.args.self.now in
    let g = game_data o.game in
    let slots = o.slots.slots.items in
    let d = o.diagrams in
    subst (λ (ss : List Slot). HasRegionRoot ss c.args.t.now.slot) (sym c.room.ensures.keeps) (region_root g d slots o.refused c.args.t.now c.requires.t)

pub system_states-made-requires-clause-t : goal.system_states-made-requires-clause-t
system_states-made-requires-clause-t c =
    let o = c.args.self.now in
    let g = game_data o.game in
    let slots = o.slots.slots.items in
    let d = o.diagrams in
    let here_t = subst (λ (ss : List Slot). HasContent ss c.args.t.now.slot (Region c.region.result.now)) c.room.ensures.keeps c.region.ensures in
    held_root g o.own o.levels d slots o.refused c.args.self.now.whole c.args.t.now c.region.result.now here_t

pub system_states-made-requires-clause-later : goal.system_states-made-requires-clause-later
system_states-made-requires-clause-later c =
    let o = c.args.self.now in
    let g = game_data o.game in
    let slots = o.slots.slots.items in
    let d = o.diagrams in
    let here_t = subst (λ (ss : List Slot). HasContent ss c.args.t.now.slot (Region c.region.result.now)) c.room.ensures.keeps c.region.ensures in
    later_roots g o.own o.levels d slots o.refused c.args.self.now.whole

pub system_states-made-requires-clause-rising : goal.system_states-made-requires-clause-rising
system_states-made-requires-clause-rising c =
    let o = c.args.self.now in
    let g = game_data o.game in
    let slots = o.slots.slots.items in
    let d = o.diagrams in
    let here_t = subst (λ (ss : List Slot). HasContent ss c.args.t.now.slot (Region c.region.result.now)) c.room.ensures.keeps c.region.ensures in
    rises_to_next g (function_at d c.region.result.now) (region_tells g o.own o.levels d slots o.refused c.args.self.now.whole c.args.t.now c.region.result.now here_t).states d.state.table.levels d.order o.levels.to.items c.args.self.now.whole.fits.levels c.args.self.now.whole.lists_are.to c.args.self.now.whole.fits.rising

pub returns-clause-made : goal.returns-clause-made
returns-clause-made c =
    let o = c.args.self.now in
    let g = game_data o.game in
    let slots = o.slots.slots.items in
    let d = o.diagrams in
    let here_t = subst (λ (ss : List Slot). HasContent ss c.args.t.now.slot (Region c.region.result.now)) c.room.ensures.keeps c.region.ensures in
    let now = kept_of g d slots o.refused in
    let why : Refused = record { asked = asked.PreSys; first = Some c.args.t.now.slot; second = None } in
    let done = answered_where g o.own o.levels d slots c.system_states-made.new.diagrams c.room.new.self.slots.items c.settle.new.slots.slots.items o.refused c.settle.new.refused c.args.self.now.whole c.requires.free c.room.ensures.keeps (choice (avoiding (move_functions d o.own.step.later) o.levels.reply.items o.levels.all.items (shifted o.levels.to.items (function_at d c.region.result.now))) (function_at d o.own.step.nothing) (function_at d o.own.step.proper)) (system_forces_set g (now.set c.args.t.now)) (tells_forced g o.own o.levels d slots o.refused c.args.self.now.whole c.args.t.now c.region.result.now here_t) why (States (now.set c.args.t.now) ∷ []) (one_argument g o.own o.levels d slots o.refused c.args.self.now.whole c.args.t.now c.region.result.now here_t) c.system_states-made.result c.settle.result c.system_states-made.ensures.made (IsOfStep (lists_at d o.own.step.later) o.levels (shifted o.levels.to.items (function_at d c.region.result.now))) (λ declared own_is. c.system_states-made.ensures.cause (own_is.plain declared)) (λ own_is h is. inr (step_of g o.own o.levels d slots o.refused c.args.self.now.whole c.args.t.now c.region.result.now here_t Later c.system_states-made.new.diagrams c.requires.free c.system_states-made.ensures.made.keeps own_is h is)) c.of-why.result c.of-why.ensures c.settle.ensures in
    done.made

pub returns-clause-halted : goal.returns-clause-halted
returns-clause-halted c =
    let o = c.args.self.now in
    let g = game_data o.game in
    let slots = o.slots.slots.items in
    let d = o.diagrams in
    let here_t = subst (λ (ss : List Slot). HasContent ss c.args.t.now.slot (Region c.region.result.now)) c.room.ensures.keeps c.region.ensures in
    let now = kept_of g d slots o.refused in
    let why : Refused = record { asked = asked.PreSys; first = Some c.args.t.now.slot; second = None } in
    let done = answered_where g o.own o.levels d slots c.system_states-made.new.diagrams c.room.new.self.slots.items c.settle.new.slots.slots.items o.refused c.settle.new.refused c.args.self.now.whole c.requires.free c.room.ensures.keeps (choice (avoiding (move_functions d o.own.step.later) o.levels.reply.items o.levels.all.items (shifted o.levels.to.items (function_at d c.region.result.now))) (function_at d o.own.step.nothing) (function_at d o.own.step.proper)) (system_forces_set g (now.set c.args.t.now)) (tells_forced g o.own o.levels d slots o.refused c.args.self.now.whole c.args.t.now c.region.result.now here_t) why (States (now.set c.args.t.now) ∷ []) (one_argument g o.own o.levels d slots o.refused c.args.self.now.whole c.args.t.now c.region.result.now here_t) c.system_states-made.result c.settle.result c.system_states-made.ensures.made (IsOfStep (lists_at d o.own.step.later) o.levels (shifted o.levels.to.items (function_at d c.region.result.now))) (λ declared own_is. c.system_states-made.ensures.cause (own_is.plain declared)) (λ own_is h is. inr (step_of g o.own o.levels d slots o.refused c.args.self.now.whole c.args.t.now c.region.result.now here_t Later c.system_states-made.new.diagrams c.requires.free c.system_states-made.ensures.made.keeps own_is h is)) c.of-why.result c.of-why.ensures c.settle.ensures in
    done.halted

pub invariant_of-self-2 : goal.invariant_of-self-2
invariant_of-self-2 c =
    let o = c.args.self.now in
    let g = game_data o.game in
    let slots = o.slots.slots.items in
    let d = o.diagrams in
    let here_t = subst (λ (ss : List Slot). HasContent ss c.args.t.now.slot (Region c.region.result.now)) c.room.ensures.keeps c.region.ensures in
    let now = kept_of g d slots o.refused in
    let why : Refused = record { asked = asked.PreSys; first = Some c.args.t.now.slot; second = None } in
    let done = answered_where g o.own o.levels d slots c.system_states-made.new.diagrams c.room.new.self.slots.items c.settle.new.slots.slots.items o.refused c.settle.new.refused c.args.self.now.whole c.requires.free c.room.ensures.keeps (choice (avoiding (move_functions d o.own.step.later) o.levels.reply.items o.levels.all.items (shifted o.levels.to.items (function_at d c.region.result.now))) (function_at d o.own.step.nothing) (function_at d o.own.step.proper)) (system_forces_set g (now.set c.args.t.now)) (tells_forced g o.own o.levels d slots o.refused c.args.self.now.whole c.args.t.now c.region.result.now here_t) why (States (now.set c.args.t.now) ∷ []) (one_argument g o.own o.levels d slots o.refused c.args.self.now.whole c.args.t.now c.region.result.now here_t) c.system_states-made.result c.settle.result c.system_states-made.ensures.made (IsOfStep (lists_at d o.own.step.later) o.levels (shifted o.levels.to.items (function_at d c.region.result.now))) (λ declared own_is. c.system_states-made.ensures.cause (own_is.plain declared)) (λ own_is h is. inr (step_of g o.own o.levels d slots o.refused c.args.self.now.whole c.args.t.now c.region.result.now here_t Later c.system_states-made.new.diagrams c.requires.free c.system_states-made.ensures.made.keeps own_is h is)) c.of-why.result c.of-why.ensures c.settle.ensures in
    record { whole = done.object; coded = o.coded; room = o.room }

pub system_states-made-requires-clause-kept : goal.system_states-made-requires-clause-kept
system_states-made-requires-clause-kept c =
    let o = c.args.self.now in
    early_roots (game_data o.game) o.own o.diagrams o.diagrams o.slots.slots.items o.whole.sound (keeps_itself o.diagrams)

pub system_states-made-requires-clause-fits : goal.system_states-made-requires-clause-fits
system_states-made-requires-clause-fits c = c.args.self.now.whole.early
