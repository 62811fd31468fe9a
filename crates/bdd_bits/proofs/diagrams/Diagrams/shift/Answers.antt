use Rattle.std.proofs.Common.{◌≤◌, ℕ, List, length, refl, sym, ◌∙◌, subst}
use Rattle.spec_model.specs.Diagrams.{Diagram, value, shifted}
use Rattle.bdd_store.specs.State.{diagram_of}
use Rattle.bdd_ops.specs.Calls.{RisesOver}
use Rattle.bdd_ops.specs.Steps.{IsShiftedPart}
use Rattle.bdd_bits.specs.Orders.{moved_levels}
use Rattle.bdd_bits.specs.Contents.{Contents, function_at}
use Rattle.bdd_bits.specs.Calls.{RisesOver as Rises}
use Rattle.bdd_bits.proofs.ShiftLemmas.{levels_rise, shift_gives}
use Rattle.bdd_bits.proofs.CallLemmas.{nothing_given, as_seen}
use Rattle.bdd_bits.proofs.diagrams.Diagrams.shift.Goals as goal

pub returns-in-Err : goal.returns-in-Err
returns-in-Err c =
    let a = c.args.a.now in
    let to = c.args.to.now in
    as_seen (λ (d : Contents). shifted to (function_at d a)) (λ (d : Contents). IsShiftedPart (moved_levels d.order to) (diagram_of d.state a)) _ _ _ _ c.self.view_is (nothing_given _ _ _)

pub shift-requires-clause-rising : goal.shift-requires-clause-rising
shift-requires-clause-rising c =
    let rises = subst (λ (d : Contents). Rises d.state.table.levels d.order c.args.to.now (function_at d c.args.a.now)) (sym c.self.view_is) c.requires.rising in
    let d : Diagram = diagram_of c.self.inside.over_levels.state c.args.a.now in
    subst (λ (ls : List ℕ). RisesOver c.self.inside.over_levels.state.table.levels ls (value d)) (sym (c.deref.ensures.value ∙ c.in-Ok.ensures.levels))
    (levels_rise _ c.self.inside.order c.self.invariant.0 c.args.to.now (value d) rises)

pub returns-in-Ok : goal.returns-in-Ok
returns-in-Ok c =
    let a = c.args.a.now in
    let to = c.args.to.now in
    let short = subst (λ (d : Contents). length to ≤ d.state.table.levels) (sym c.self.view_is) c.requires.rising.short in
    as_seen (λ (d : Contents). shifted to (function_at d a)) (λ (d : Contents). IsShiftedPart (moved_levels d.order to) (diagram_of d.state a)) _ _ _ _ c.self.view_is
    (shift_gives _ _ _ _ _ _ c.self.invariant.0 (c.deref.ensures.value ∙ c.in-Ok.ensures.levels) refl short c.shift.ensures)
