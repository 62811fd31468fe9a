use Rattle.std.proofs.lemmas.List.{drop_all}
use Rattle.std.proofs.Common.{◌≡◌, ◌+◌, [], ◌∷◌, map, drop, sym, ap, ◌∙◌, add-one, drop-cons}
use Rattle.spectra_resolved.specs.Reports.{found_in}
use Rattle.spectra_resolved.specs.LookViews.{scope_data}
use Rattle.spectra_resolved.specs.TextViews.{variable_data, alias_data, definition_data, pattern_data, line_data}
use Rattle.spectra_declared.specs.ItemViews.{filed_data}
use Rattle.spectra_items.specs.Meanings.{variables_in, aliases_in, definitions_in, patterns_in, lines_in, faults_in}
use Rattle.spectra_items.proofs.Loops.{list_step, found_step}
use Rattle.spectra_declared.proofs.Ends.{list_end, found_end}
use Rattle.spectra_declared.proofs.text.text_of_items.Goals as goal

pub loop-filed-preserved : goal.loop-filed-preserved
loop-filed-preserved c =
    let items = c.args.items.now in
    let i = c.loop-filed.filed-index in
    let filed = c.filed-item.result in
    let s = scope_data c.args.scope.now in
    let rest : drop i items ≡ filed ∷ drop (i + 1) items = drop-cons items i filed c.loop-filed-test.true ∙ (λ j. sym c.filed-item.is j ∷ drop (sym (add-one i) j) items) in
    let parts = ap (map filed_data) rest in
    let before = c.loop-filed.invariant in
    let added = c.in_ok-add_item.ensures.added in
    record {
      names = ap (map (λ name. name.now)) (ap (λ v. v.items) added.names) ∙ before.names;
      variables = list_step (λ f. variables_in s f.0 f.1) (filed_data filed) _ _ (map variable_data c.loop-filed.text.variables.items) _ _ parts added.variables before.variables;
      types = list_step (λ f. aliases_in s f.0 f.1) (filed_data filed) _ _ (map alias_data c.loop-filed.text.types.items) _ _ parts added.types before.types;
      definitions = list_step (λ f. definitions_in s f.0 f.1) (filed_data filed) _ _ (map definition_data c.loop-filed.text.definitions.items) _ _ parts added.definitions before.definitions;
      patterns = list_step (λ f. patterns_in s f.0 f.1) (filed_data filed) _ _ (map pattern_data c.loop-filed.text.patterns.items) _ _ parts added.patterns before.patterns;
      lines = list_step (λ f. lines_in s f.0 f.1) (filed_data filed) _ _ (map line_data c.loop-filed.text.lines.items) _ _ parts added.lines before.lines;
      found = found_step (λ f. faults_in s f.0 f.1) (filed_data filed) _ _ (found_in c.loop-filed.findings) _ _ parts c.in_ok-add_item.ensures.found before.found;
    }

pub returns-clause-text : goal.returns-clause-text
returns-clause-text c =
    let s = scope_data c.args.scope.now in
    let text = c.loop-filed.text in
    let before = c.loop-filed.invariant in
    let left : drop c.loop-filed.filed-index c.args.items.now ≡ [] = drop_all _ _ c.loop-filed-test.false in
    let none = ap (map filed_data) left in
    let variables = list_end (λ f. variables_in s f.0 f.1) _ (map variable_data text.variables.items) _ none before.variables in
    let types = list_end (λ f. aliases_in s f.0 f.1) _ (map alias_data text.types.items) _ none before.types in
    let definitions = list_end (λ f. definitions_in s f.0 f.1) _ (map definition_data text.definitions.items) _ none before.definitions in
    let patterns = list_end (λ f. patterns_in s f.0 f.1) _ (map pattern_data text.patterns.items) _ none before.patterns in
    let lines = list_end (λ f. lines_in s f.0 f.1) _ (map line_data text.lines.items) _ none before.lines in
    λ i. record { names = before.names i; variables = variables i; types = types i; definitions = definitions i; patterns = patterns i; lines = lines i }

pub returns-clause-found : goal.returns-clause-found
returns-clause-found c =
    let s = scope_data c.args.scope.now in
    let left : drop c.loop-filed.filed-index c.args.items.now ≡ [] = drop_all _ _ c.loop-filed-test.false in
    found_end (λ f. faults_in s f.0 f.1) _ (found_in c.loop-filed.findings) _ (ap (map filed_data) left) c.loop-filed.invariant.found
