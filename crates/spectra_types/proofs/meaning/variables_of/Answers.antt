use Rattle.std.proofs.Common.{◌≡◌, ◌+◌, ◌∷◌, List, length, map, drop, subst, arith}
use Rattle.std.proofs.lemmas.List.{length-map}
use Rattle.spec_model.specs.Views.{variable_data}
use Rattle.spectra_resolved.specs.declared.text.Variable.{Variable}
use Rattle.spectra_resolved.specs.TextViews.{text_data, variable_data as resolved_variable}
use Rattle.spectra_copies.proofs.Made.{left_at}
use Rattle.spectra_judge.specs.KindViews.{kind_data}
use Rattle.spectra_types.proofs.VariableSteps.{Left, kind_next, next_left}
use Rattle.spectra_types.proofs.meaning.variables_of.Goals as goal

pub add_variables-requires-clause-kinds : goal.add_variables-requires-clause-kinds
add_variables-requires-clause-kinds c =
    let text = text_data c.args.text.now in
    let kinds = map kind_data c.args.kinds.now in
    let all = c.args.text.now.variables.items in
    let k = c.loop-declared.declared-index in
    let v = c.declared-item.result in
    let made = map variable_data c.loop-declared.all.items in
    let here : drop k all ≡ v ∷ drop (k + 1) all =
    subst (λ (xs : List Variable). drop k xs ≡ v ∷ drop (k + 1) xs) c.deref-declared-items.ensures.value (left_at c.deref-declared-items.result.now k v c.loop-declared-test.true c.declared-item.is) in
    let left = subst (λ (xs : List Variable). Left text kinds made (map resolved_variable xs)) here c.loop-declared.invariant in
    λ i below.
    let long = length-map c.loop-declared.all.items variable_data in
    kind_next text kinds made (resolved_variable v) (map resolved_variable (drop (k + 1) all)) left (length c.loop-declared.all.items + i) i (omega (arith, long)) below

pub loop-declared-preserved : goal.loop-declared-preserved
loop-declared-preserved c =
    let text = text_data c.args.text.now in
    let kinds = map kind_data c.args.kinds.now in
    let all = c.args.text.now.variables.items in
    let k = c.loop-declared.declared-index in
    let v = c.declared-item.result in
    let made = map variable_data c.loop-declared.all.items in
    let here : drop k all ≡ v ∷ drop (k + 1) all =
    subst (λ (xs : List Variable). drop k xs ≡ v ∷ drop (k + 1) xs) c.deref-declared-items.ensures.value (left_at c.deref-declared-items.result.now k v c.loop-declared-test.true c.declared-item.is) in
    let left = subst (λ (xs : List Variable). Left text kinds made (map resolved_variable xs)) here c.loop-declared.invariant in
    next_left text kinds made (map variable_data c.add_variables.new.all.items) (resolved_variable v) (map resolved_variable (drop (k + 1) all)) left c.in_ok-add_variables.ensures
