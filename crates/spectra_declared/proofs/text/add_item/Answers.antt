use Rattle.std.proofs.Common.{◌≡◌, [], ◌∷◌, ◌++◌, map, refl, sym, ap, ◌∙◌}
use Rattle.spectra_trees.specs.Data.{ItemData}
use Rattle.spectra_trees.specs.Views.{item_data}
use Rattle.spectra_resolved.specs.Findings.{with_faults}
use Rattle.spectra_resolved.specs.Reports.{found_in}
use Rattle.spectra_resolved.specs.LookViews.{scope_data}
use Rattle.spectra_resolved.specs.TextViews.{variable_data, alias_data, definition_data, pattern_data, line_data}
use Rattle.spectra_resolved.proofs.Mapped.{map_push}
use Rattle.spectra_items.specs.ItemViews.{pattern_item_data}
use Rattle.spectra_items.specs.Meanings.{variables_in, aliases_in, definitions_in, pattern_of, patterns_in, pattern_faults, lines_in, faults_in}
use Rattle.spectra_items.proofs.Loops.{nothing_more}
use Rattle.spectra_declared.proofs.text.add_item.Goals as goal

pub returns-in_ok-push-in-Pattern-clause-added : goal.returns-in_ok-push-in-Pattern-clause-added
returns-in_ok-push-in-Pattern-clause-added c =
    let s = scope_data c.args.scope.now in
    let file = c.args.filed.file in
    let text = c.args.text.now in
    let by = c.resolver_outside-by.ensures in
    let p = pattern_item_data c.in-Pattern.p in
    let item : ItemData.Pattern p ≡ item_data c.args.filed.item.now = sym (ap item_data c.in-Pattern.is) in
    let before = map pattern_data text.patterns.items in
    record {
      names = refl;
      variables = nothing_more variable_data text.variables.items ∙ ap (λ i. map variable_data text.variables.items ++ variables_in s file i) item;
      types = nothing_more alias_data text.types.items ∙ ap (λ i. map alias_data text.types.items ++ aliases_in s file i) item;
      definitions = nothing_more definition_data text.definitions.items ∙ ap (λ i. map definition_data text.definitions.items ++ definitions_in s file i) item;
      patterns = ap (map pattern_data) c.in_ok-push-in-Pattern.ensures.items
          ∙ map_push pattern_data text.patterns.items c.in_ok-pattern-in-Pattern.field-0
          ∙ ap (λ t. before ++ t ∷ []) (c.in_ok-pattern-in-Pattern.ensures.pattern ∙ (λ i. pattern_of (by.names i) (by.file i) p))
          ∙ ap (λ i. before ++ patterns_in s file i) item;
      lines = nothing_more line_data text.lines.items ∙ ap (λ i. map line_data text.lines.items ++ lines_in s file i) item;
    }

pub returns-in_ok-push-in-Pattern-clause-found : goal.returns-in_ok-push-in-Pattern-clause-found
returns-in_ok-push-in-Pattern-clause-found c =
    let s = scope_data c.args.scope.now in
    let file = c.args.filed.file in
    let old = found_in c.args.findings.now in
    let by = c.resolver_outside-by.ensures in
    let p = pattern_item_data c.in-Pattern.p in
    let item : ItemData.Pattern p ≡ item_data c.args.filed.item.now = sym (ap item_data c.in-Pattern.is) in
    c.in_ok-pattern-in-Pattern.ensures.found
    ∙ (λ i. with_faults old (pattern_faults (by.names i) (by.file i) p))
    ∙ ap (λ i. with_faults old (faults_in s file i)) item
