use Rattle.std.proofs.Common.{map, Some, None, sym, ap, refl, ◌∙◌, arith}
use Rattle.std.proofs.lemmas.List.{length-map}
use Rattle.std.proofs.lemmas.Option.{slice_get_past}
use Rattle.spec_model.specs.declared.spec.Body.{Body}
use Rattle.spec_model.specs.Views.{formula, content_data, trigger_data, spec_data}
use Rattle.hidden_game.specs.GameOf.{table_for}
use Rattle.hidden_game.proofs.Limits.{some_element}
use Rattle.hidden_game.proofs.Making.{parts_of, parts-use, parts-trigger}
use Rattle.hidden_game.proofs.source.Source.parts.Goals as goal

pub returns-in-Pattern-clause-count : goal.returns-in-Pattern-clause-count
returns-in-Pattern-clause-count c =
    let s = spec_data c.args.self.now.spec.now in
    c.goals_of_pattern.ensures.count
    ∙ sym (parts-use s c.in-Pattern.p (map formula c.in-Pattern.field-1.items) _ refl)
    ∙ ap (λ (b : Body). parts_of s (table_for s (content_data b))) (sym c.in-Pattern.is)

pub returns-then-t-len-clause-count : goal.returns-then-t-len-clause-count
returns-then-t-len-clause-count c =
    let s = spec_data c.args.self.now.spec.now in
    let many = length-map c.args.self.now.spec.now.triggers.items trigger_data in
    sym (parts-trigger s c.in-Trigger.t None (slice_get_past s.triggers c.in-Trigger.t (omega (arith, c.if-t-len.true, c.len.ensures, many))))
    ∙ ap (λ (b : Body). parts_of s (table_for s (content_data b))) (sym c.in-Trigger.is)

pub returns-else-t-len-clause-count : goal.returns-else-t-len-clause-count
returns-else-t-len-clause-count c =
    let s = spec_data c.args.self.now.spec.now in
    let there = some_element trigger_data c.args.self.now.spec.now.triggers.items c.in-Trigger.t (omega (arith, c.if-t-len.false, c.len.ensures)) in
    sym (parts-trigger s c.in-Trigger.t (Some there.0) there.1) ∙ ap (λ (b : Body). parts_of s (table_for s (content_data b))) (sym c.in-Trigger.is)
