use Rattle.std.proofs.Common.{inr, ◌≡◌, [], ◌∷◌, Some, None}
use Rattle.spec_model.specs.GameViews.{game_data}
use Rattle.spec_model.specs.Sets.{system_forces}
use Rattle.regions.specs.Kept.{States}
use Rattle.bdd_bits.specs.Contents.{function_at}
use Rattle.bdd_sets.proofs.ShiftLemmas.{rises_to_next}
use Rattle.bdd_sets.proofs.SpentLemmas.{still_root}
use Rattle.region_bdd.specs.declared.own.Refused.{Refused}
use Rattle.region_bdd.specs.declared.own.Asked.TheVariants as asked
use Rattle.region_bdd.specs.Object.{kept_of}
use Rattle.region_bdd.proofs.ObjectLaws.{region_root, none_refused}
use Rattle.region_bdd.proofs.AskLaws.{told, answers_by, roots_made}
use Rattle.region_bdd.proofs.SetCalls.{held_root, nothing_root, region_tells, one_argument}
use Rattle.region_bdd.proofs.StartLaws.{first_roots, kept_function, system_answer}
use Rattle.regions.specs.declared.types.When.TheVariants.{First}
use Rattle.bdd_sets.specs.Members.{lists_at}
use Rattle.bdd_sets.specs.NamedGame.{IsOfStep}
use Rattle.spec_model.specs.Diagrams.{shifted}
use Rattle.region_bdd.proofs.CallNames.{asked_cause, step_of}
use Rattle.region_bdd.proofs.object.RegionBdd.start_sys.Goals as goal

pub region-requires : goal.region-requires
region-requires c =
    let o = c.args.self.now in
    region_root (game_data o.game) o.diagrams o.slots.slots.items o.refused c.args.t.now c.requires.t

pub avoiding_set-made-requires-clause-t : goal.avoiding_set-made-requires-clause-t
avoiding_set-made-requires-clause-t c =
    let o = c.args.self.now in
    let g = game_data o.game in
    let slots = o.slots.slots.items in
    let d = o.diagrams in
    let here = c.region.ensures in
    held_root g o.own o.levels d slots o.refused o.whole c.args.t.now c.region.result.now here

pub avoiding_set-made-requires-clause-first : goal.avoiding_set-made-requires-clause-first
avoiding_set-made-requires-clause-first c =
    let o = c.args.self.now in
    let g = game_data o.game in
    let slots = o.slots.slots.items in
    let d = o.diagrams in
    let here = c.region.ensures in
    first_roots g o.own o.levels d slots o.refused o.whole

pub avoiding_set-made-requires-clause-rising : goal.avoiding_set-made-requires-clause-rising
avoiding_set-made-requires-clause-rising c =
    let o = c.args.self.now in
    let g = game_data o.game in
    let slots = o.slots.slots.items in
    let d = o.diagrams in
    let here = c.region.ensures in
    rises_to_next g (function_at d c.region.result.now) (region_tells g o.own o.levels d slots o.refused o.whole c.args.t.now c.region.result.now here).states d.state.table.levels d.order o.levels.to.items o.whole.fits.levels o.whole.lists_are.to o.whole.fits.rising

pub is_empty-asked-requires-clause-made : goal.is_empty-asked-requires-clause-made
is_empty-asked-requires-clause-made c =
    let o = c.args.self.now in
    let g = game_data o.game in
    let slots = o.slots.slots.items in
    let d = o.diagrams in
    let here = c.region.ensures in
    roots_made d c.avoiding_set-made.new.diagrams c.avoiding_set-made.result (kept_function g o.own o.levels d slots o.refused o.whole c.args.t.now c.region.result.now here) c.avoiding_set-made.ensures.made

pub is_empty-asked-requires-clause-nothing : goal.is_empty-asked-requires-clause-nothing
is_empty-asked-requires-clause-nothing c =
    let o = c.args.self.now in
    let g = game_data o.game in
    let slots = o.slots.slots.items in
    let d = o.diagrams in
    let here = c.region.ensures in
    still_root d c.avoiding_set-made.new.diagrams c.avoiding_set-made.result _ c.avoiding_set-made.ensures.made o.own.step.nothing (nothing_root g o.own o.levels d slots o.refused o.whole)

pub settle_answer-requires : goal.settle_answer-requires
settle_answer-requires c =
    let o = c.args.self.now in
    none_refused (game_data o.game) o.diagrams o.slots.slots.items o.refused c.requires.free

pub returns-clause-answer : goal.returns-clause-answer
returns-clause-answer c =
    let o = c.args.self.now in
    let g = game_data o.game in
    let slots = o.slots.slots.items in
    let d = o.diagrams in
    let here = c.region.ensures in
    let f = kept_function g o.own o.levels d slots o.refused o.whole c.args.t.now c.region.result.now here in
    let now = kept_of g d slots o.refused in
    let why : Refused = record { asked = asked.StartSys; first = Some c.args.t.now.slot; second = None } in
    let done = told g o.own o.levels d c.is_empty-asked.new.diagrams slots o.refused c.settle_answer.new.refused o.whole c.requires.free (f ≡ function_at d o.own.step.nothing) why (States (now.set c.args.t.now) ∷ []) (one_argument g o.own o.levels d slots o.refused o.whole c.args.t.now c.region.result.now here) c.is_empty-asked.result c.settle_answer.result (c.is_empty-asked.ensures.answers d f c.avoiding_set-made.ensures.made (nothing_root g o.own o.levels d slots o.refused o.whole)) (IsOfStep (lists_at d o.own.first) o.levels (shifted o.levels.to.items (function_at d c.region.result.now))) (asked_cause d c.avoiding_set-made.new.diagrams c.is_empty-asked.new.diagrams c.avoiding_set-made.result c.is_empty-asked.result (IsOfStep (lists_at d o.own.first) o.levels (shifted o.levels.to.items (function_at d c.region.result.now))) c.is_empty-asked.ensures.handed c.avoiding_set-made.ensures.cause) (λ own_is h is. inr (step_of g o.own o.levels d slots o.refused o.whole c.args.t.now c.region.result.now here First c.is_empty-asked.new.diagrams c.requires.free (c.is_empty-asked.ensures.answers d f c.avoiding_set-made.ensures.made (nothing_root g o.own o.levels d slots o.refused o.whole)).keeps own_is h is)) c.of-why.result c.of-why.ensures c.settle_answer.ensures in
    answers_by c.settle_answer.result (f ≡ function_at d o.own.step.nothing) (system_forces g (now.set c.args.t.now) None) _ done.answer done.stays (λ said answer. system_answer g o.own o.levels d slots o.refused o.whole c.args.t.now c.region.result.now here said answer)

pub returns-clause-halted : goal.returns-clause-halted
returns-clause-halted c =
    let o = c.args.self.now in
    let g = game_data o.game in
    let slots = o.slots.slots.items in
    let d = o.diagrams in
    let here = c.region.ensures in
    let f = kept_function g o.own o.levels d slots o.refused o.whole c.args.t.now c.region.result.now here in
    let now = kept_of g d slots o.refused in
    let why : Refused = record { asked = asked.StartSys; first = Some c.args.t.now.slot; second = None } in
    let done = told g o.own o.levels d c.is_empty-asked.new.diagrams slots o.refused c.settle_answer.new.refused o.whole c.requires.free (f ≡ function_at d o.own.step.nothing) why (States (now.set c.args.t.now) ∷ []) (one_argument g o.own o.levels d slots o.refused o.whole c.args.t.now c.region.result.now here) c.is_empty-asked.result c.settle_answer.result (c.is_empty-asked.ensures.answers d f c.avoiding_set-made.ensures.made (nothing_root g o.own o.levels d slots o.refused o.whole)) (IsOfStep (lists_at d o.own.first) o.levels (shifted o.levels.to.items (function_at d c.region.result.now))) (asked_cause d c.avoiding_set-made.new.diagrams c.is_empty-asked.new.diagrams c.avoiding_set-made.result c.is_empty-asked.result (IsOfStep (lists_at d o.own.first) o.levels (shifted o.levels.to.items (function_at d c.region.result.now))) c.is_empty-asked.ensures.handed c.avoiding_set-made.ensures.cause) (λ own_is h is. inr (step_of g o.own o.levels d slots o.refused o.whole c.args.t.now c.region.result.now here First c.is_empty-asked.new.diagrams c.requires.free (c.is_empty-asked.ensures.answers d f c.avoiding_set-made.ensures.made (nothing_root g o.own o.levels d slots o.refused o.whole)).keeps own_is h is)) c.of-why.result c.of-why.ensures c.settle_answer.ensures in
    done.halted

pub returns-clause-keeps : goal.returns-clause-keeps
returns-clause-keeps c =
    let o = c.args.self.now in
    let g = game_data o.game in
    let slots = o.slots.slots.items in
    let d = o.diagrams in
    let here = c.region.ensures in
    let f = kept_function g o.own o.levels d slots o.refused o.whole c.args.t.now c.region.result.now here in
    let now = kept_of g d slots o.refused in
    let why : Refused = record { asked = asked.StartSys; first = Some c.args.t.now.slot; second = None } in
    let done = told g o.own o.levels d c.is_empty-asked.new.diagrams slots o.refused c.settle_answer.new.refused o.whole c.requires.free (f ≡ function_at d o.own.step.nothing) why (States (now.set c.args.t.now) ∷ []) (one_argument g o.own o.levels d slots o.refused o.whole c.args.t.now c.region.result.now here) c.is_empty-asked.result c.settle_answer.result (c.is_empty-asked.ensures.answers d f c.avoiding_set-made.ensures.made (nothing_root g o.own o.levels d slots o.refused o.whole)) (IsOfStep (lists_at d o.own.first) o.levels (shifted o.levels.to.items (function_at d c.region.result.now))) (asked_cause d c.avoiding_set-made.new.diagrams c.is_empty-asked.new.diagrams c.avoiding_set-made.result c.is_empty-asked.result (IsOfStep (lists_at d o.own.first) o.levels (shifted o.levels.to.items (function_at d c.region.result.now))) c.is_empty-asked.ensures.handed c.avoiding_set-made.ensures.cause) (λ own_is h is. inr (step_of g o.own o.levels d slots o.refused o.whole c.args.t.now c.region.result.now here First c.is_empty-asked.new.diagrams c.requires.free (c.is_empty-asked.ensures.answers d f c.avoiding_set-made.ensures.made (nothing_root g o.own o.levels d slots o.refused o.whole)).keeps own_is h is)) c.of-why.result c.of-why.ensures c.settle_answer.ensures in
    done.same

pub invariant_of-self : goal.invariant_of-self
invariant_of-self c =
    let o = c.args.self.now in
    let g = game_data o.game in
    let slots = o.slots.slots.items in
    let d = o.diagrams in
    let here = c.region.ensures in
    let f = kept_function g o.own o.levels d slots o.refused o.whole c.args.t.now c.region.result.now here in
    let now = kept_of g d slots o.refused in
    let why : Refused = record { asked = asked.StartSys; first = Some c.args.t.now.slot; second = None } in
    let done = told g o.own o.levels d c.is_empty-asked.new.diagrams slots o.refused c.settle_answer.new.refused o.whole c.requires.free (f ≡ function_at d o.own.step.nothing) why (States (now.set c.args.t.now) ∷ []) (one_argument g o.own o.levels d slots o.refused o.whole c.args.t.now c.region.result.now here) c.is_empty-asked.result c.settle_answer.result (c.is_empty-asked.ensures.answers d f c.avoiding_set-made.ensures.made (nothing_root g o.own o.levels d slots o.refused o.whole)) (IsOfStep (lists_at d o.own.first) o.levels (shifted o.levels.to.items (function_at d c.region.result.now))) (asked_cause d c.avoiding_set-made.new.diagrams c.is_empty-asked.new.diagrams c.avoiding_set-made.result c.is_empty-asked.result (IsOfStep (lists_at d o.own.first) o.levels (shifted o.levels.to.items (function_at d c.region.result.now))) c.is_empty-asked.ensures.handed c.avoiding_set-made.ensures.cause) (λ own_is h is. inr (step_of g o.own o.levels d slots o.refused o.whole c.args.t.now c.region.result.now here First c.is_empty-asked.new.diagrams c.requires.free (c.is_empty-asked.ensures.answers d f c.avoiding_set-made.ensures.made (nothing_root g o.own o.levels d slots o.refused o.whole)).keeps own_is h is)) c.of-why.result c.of-why.ensures c.settle_answer.ensures in
    record { whole = done.object; coded = o.coded; room = o.room }
