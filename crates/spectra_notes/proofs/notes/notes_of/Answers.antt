use Rattle.std.proofs.Common.{List, length, map, subst}
use Rattle.spectra_uses.specs.Cycles.{AreOnCycle}
use Rattle.spectra_uses.specs.Orders.{IsOrderOf}
use Rattle.spectra_resolved.specs.declared.text.Definition.{Definition}
use Rattle.spectra_resolved.specs.TextViews.{definition_data}
use Rattle.spectra_uses.specs.Uses.{all_uses}
use Rattle.spectra_notes.proofs.notes.notes_of.Goals as goal

pub type_kinds-requires-clause-order : goal.type_kinds-requires-clause-order
type_kinds-requires-clause-order c =
    subst (λ (xs : List Definition). IsOrderOf (all_uses (map definition_data xs)) (length xs) c.in_ok-order.order.numbers.items) c.deref.ensures.value c.in_ok-order.ensures.order

pub type_kinds-requires-clause-on_cycle : goal.type_kinds-requires-clause-on_cycle
type_kinds-requires-clause-on_cycle c =
    subst (λ (xs : List Definition). AreOnCycle (all_uses (map definition_data xs)) (length xs) c.in_ok-order.order.on_cycle.items) c.deref.ensures.value c.in_ok-order.ensures.on_cycle

pub noted_by-requires-clause-order : goal.noted_by-requires-clause-order
noted_by-requires-clause-order c =
    subst (λ (xs : List Definition). IsOrderOf (all_uses (map definition_data xs)) (length xs) c.in_ok-order.order.numbers.items) c.deref.ensures.value c.in_ok-order.ensures.order

pub noted_by-requires-clause-on_cycle : goal.noted_by-requires-clause-on_cycle
noted_by-requires-clause-on_cycle c =
    subst (λ (xs : List Definition). AreOnCycle (all_uses (map definition_data xs)) (length xs) c.in_ok-order.order.on_cycle.items) c.deref.ensures.value c.in_ok-order.ensures.on_cycle
