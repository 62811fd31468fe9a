use Rattle.std.proofs.Common.{◌≡◌, ◌++◌, [], map, drop, flat_map, sym, ap, append-nil, ◌∙◌}
use Rattle.std.proofs.lemmas.List.{drop_all}
use Rattle.spec_model.specs.Views.{formula}
use Rattle.spectra_resolved.specs.TextViews.{pattern_line_data}
use Rattle.spectra_judge.specs.KindViews.{kind_data, known_data}
use Rattle.spectra_patterns.specs.Patterns.{pattern_known, first_in, step_in, goals_in}
use Rattle.spectra_patterns.proofs.patterns.made_of.Goals as goal

pub returns : goal.returns
returns c =
    let n = c.args.pattern.now.params in
    let lines = c.args.lines.now in
    let all = map pattern_line_data lines in
    let own = map kind_data c.args.own.now in
    let before = c.loop-line.invariant in
    let left : drop c.loop-line.line-index lines ≡ [] = drop_all _ _ c.loop-line-test.false in
    let parameters = ap (map kind_data) c.deref.ensures.value ∙ c.in_ok-parameters.ensures in
    let known : known_data c.known_inside.result ≡ pattern_known n own =
    c.known_inside.ensures.known ∙ (λ i. record { variables = []; system = []; defines = []; predicates = []; parameters = parameters i; own = own }) in
    let k = known_data c.known_inside.result in
    let first =
    sym (append-nil (map formula c.loop-line.made.first.items))
    ∙ ap (λ ls. map formula c.loop-line.made.first.items ++ flat_map (first_in k n) (map pattern_line_data ls)) (sym left)
    ∙ before.first ∙ ap (λ x. flat_map (first_in x n) all) known in
    let step =
    sym (append-nil (map formula c.loop-line.made.step.items))
    ∙ ap (λ ls. map formula c.loop-line.made.step.items ++ flat_map (step_in k n) (map pattern_line_data ls)) (sym left)
    ∙ before.step ∙ ap (λ x. flat_map (step_in x n) all) known in
    let goals =
    sym (append-nil (map formula c.loop-line.made.goals.items))
    ∙ ap (λ ls. map formula c.loop-line.made.goals.items ++ flat_map (goals_in k n) (map pattern_line_data ls)) (sym left)
    ∙ before.goals ∙ ap (λ x. flat_map (goals_in x n) all) known in
    λ i. record { params = before.params i; domains = before.domains i; first = first i; step = step i; goals = goals i }
