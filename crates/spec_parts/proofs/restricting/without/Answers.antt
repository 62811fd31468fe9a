use Rattle.std.proofs.Common.{◌≡◌, ◌≤◌, List, map, filter, sym, subst, ap, ◌∙◌}
use Rattle.std.proofs.lemmas.Result.{IfOk-weaker}
use Rattle.spec_model.specs.Syntax.{Statement}
use Rattle.spec_model.specs.Views.{line_data, spec_data}
use Rattle.spec_model.specs.Cores.{stays}
use Rattle.spec_model.specs.WellTyped.{WellTyped, all_hidden}
use Rattle.spec_model.proofs.Restricted.{restricted_is_well_typed}
use Rattle.spec_parts.proofs.FewerHidden.{part_needs_no_more}
use Rattle.spec_parts.proofs.restricting.without.Goals as goal

pub returns-clause-typed : goal.returns-clause-typed
returns-clause-typed c =
    let lines : map line_data c.in_ok-lines.lines.items ≡ filter (stays c.args.kept.now) (map line_data c.args.spec.now.lines.items) =
    c.in_ok-lines.ensures ∙ ap (λ ls. filter (stays c.args.kept.now) (map line_data ls)) c.deref.ensures.value in
    IfOk-weaker c.copy_with_lines.result _ _
    (λ s is. subst WellTyped (sym (is ∙ ap (λ (ls : List Statement). record (spec_data c.args.spec.now) { lines = ls }) lines)) (restricted_is_well_typed (spec_data c.args.spec.now) c.requires.typed c.args.kept.now))
    c.copy_with_lines.ensures

pub returns-clause-hidden : goal.returns-clause-hidden
returns-clause-hidden c =
    let lines : map line_data c.in_ok-lines.lines.items ≡ filter (stays c.args.kept.now) (map line_data c.args.spec.now.lines.items) =
    c.in_ok-lines.ensures ∙ ap (λ ls. filter (stays c.args.kept.now) (map line_data ls)) c.deref.ensures.value in
    IfOk-weaker c.copy_with_lines.result _ _
    (λ s is. subst (λ t. all_hidden t ≤ all_hidden (spec_data c.args.spec.now)) (sym (is ∙ ap (λ (ls : List Statement). record (spec_data c.args.spec.now) { lines = ls }) lines)) (part_needs_no_more (spec_data c.args.spec.now) c.args.kept.now))
    c.copy_with_lines.ensures
