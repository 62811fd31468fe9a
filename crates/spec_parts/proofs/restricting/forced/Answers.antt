use Rattle.std.proofs.Common.{◌≡◌, ◌≤◌, List, map, sym, subst, ap, ◌∙◌}
use Rattle.std.proofs.lemmas.Result.{IfOk-weaker}
use Rattle.spec_model.specs.Syntax.{Statement}
use Rattle.spec_model.specs.Views.{line_data, spec_data}
use Rattle.spec_model.specs.Cores.{forced_lines}
use Rattle.spec_model.specs.WellTyped.{WellTyped, all_hidden}
use Rattle.spec_model.proofs.Forced.{forced_is_well_typed}
use Rattle.spec_parts.proofs.FewerHidden.{forced_needs_no_more}
use Rattle.spec_parts.proofs.restricting.forced.Goals as goal

pub returns-clause-typed : goal.returns-clause-typed
returns-clause-typed c =
    let lines : map line_data c.in_ok-lines.lines.items ≡ forced_lines (map line_data c.args.spec.now.lines.items) =
    c.in_ok-lines.ensures ∙ ap (λ ls. forced_lines (map line_data ls)) c.deref.ensures.value in
    IfOk-weaker c.copy_with_lines.result _ _
    (λ s is. subst WellTyped (sym (is ∙ ap (λ (ls : List Statement). record (spec_data c.args.spec.now) { lines = ls }) lines)) (forced_is_well_typed (spec_data c.args.spec.now) c.requires.typed c.requires.room))
    c.copy_with_lines.ensures

pub returns-clause-hidden : goal.returns-clause-hidden
returns-clause-hidden c =
    let lines : map line_data c.in_ok-lines.lines.items ≡ forced_lines (map line_data c.args.spec.now.lines.items) =
    c.in_ok-lines.ensures ∙ ap (λ ls. forced_lines (map line_data ls)) c.deref.ensures.value in
    IfOk-weaker c.copy_with_lines.result _ _
    (λ s is. subst (λ t. all_hidden t ≤ all_hidden (spec_data c.args.spec.now)) (sym (is ∙ ap (λ (ls : List Statement). record (spec_data c.args.spec.now) { lines = ls }) lines)) (forced_needs_no_more (spec_data c.args.spec.now)))
    c.copy_with_lines.ensures
