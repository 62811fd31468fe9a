use Rattle.std.proofs.Common.{List, length, map, flat_map, replicate, sym, ap, subst, ◌∙◌}
use Rattle.spectra_uses.specs.Cycles.{AreOnCycle}
use Rattle.spectra_uses.specs.Orders.{IsOrderOf}
use Rattle.spectra_resolved.specs.declared.text.Definition.{Definition}
use Rattle.spectra_resolved.specs.declared.text.Variable.{Variable}
use Rattle.spectra_resolved.specs.Texts.{ResolvedVariable, ResolvedDefinition}
use Rattle.spectra_resolved.specs.TextViews.{variable_data, alias_data, definition_data}
use Rattle.spectra_uses.specs.Uses.{all_uses}
use Rattle.spectra_bounds.specs.Numbers.{constants}
use Rattle.spectra_bounds.specs.Types.{type_kind}
use Rattle.spectra_notes.specs.TypeKinds.{is_of_system}
use Rattle.spectra_notes.proofs.kinds.type_kinds.Goals as goal

pub constants_of-requires-clause-order : goal.constants_of-requires-clause-order
constants_of-requires-clause-order c =
    subst (λ (xs : List Definition). IsOrderOf (all_uses (map definition_data xs)) (length xs) c.args.order.now.numbers.items) (sym c.deref.ensures.value) c.requires.order

pub constants_of-requires-clause-on_cycle : goal.constants_of-requires-clause-on_cycle
constants_of-requires-clause-on_cycle c =
    subst (λ (xs : List Definition). AreOnCycle (all_uses (map definition_data xs)) (length xs) c.args.order.now.on_cycle.items) (sym c.deref.ensures.value) c.requires.on_cycle

pub returns : goal.returns
returns c =
    let made = c.in_ok-constants.ensures ∙ ap (λ (xs : List Definition). constants (map definition_data xs)) c.deref.ensures.value in
    let variables = c.in_ok-variables.ensures
    ∙ (λ i. flat_map (λ (v : ResolvedVariable). replicate v.count (type_kind (made i) (map alias_data (c.deref-2.ensures.value i)) v.domain)) (map variable_data (c.deref-3.ensures.value i))) in
    let system = c.in_ok-system.ensures ∙ ap (λ (xs : List Variable). flat_map (λ (v : ResolvedVariable). replicate v.count (is_of_system v.owner)) (map variable_data xs)) c.deref-4.ensures.value in
    let predicates = c.in_ok-predicates.ensures
    ∙ (λ i. map (λ (d : ResolvedDefinition). map (type_kind (made i) (map alias_data (c.deref-5.ensures.value i))) d.params) (map definition_data (c.deref-6.ensures.value i))) in
    λ i. record { constants = made i; variables = variables i; system = system i; predicates = predicates i }
