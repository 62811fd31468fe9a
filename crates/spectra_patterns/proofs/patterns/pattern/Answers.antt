use Rattle.std.proofs.Common.{◌≡◌, [], map, option_map, IfOk, OnOk, sym, ap, subst, ◌∙◌}
use Rattle.spec_model.specs.Views.{pattern_data as model_data}
use Rattle.spectra_resolved.specs.Findings.{with_faults}
use Rattle.spectra_resolved.specs.Reports.{found_in}
use Rattle.spectra_resolved.specs.TextViews.{pattern_line_data, pattern_data}
use Rattle.spectra_judge.specs.KindViews.{kind_data}
use Rattle.spectra_patterns.specs.Patterns.{with_lines, lines_faults, pattern_faults, meant}
use Rattle.spectra_judge.proofs.Found.{some_first, no_faults}
use Rattle.spectra_patterns.proofs.Shaped.{whole_faults}
use Rattle.spectra_patterns.proofs.Whole.{lines_found, unsound_faults, meant_whole}
use Rattle.spectra_patterns.proofs.patterns.pattern.Goals as goal

pub whole-requires-clause-faultless : goal.whole-requires-clause-faultless
whole-requires-clause-faultless c = no_faults (lines_faults (map kind_data c.args.own.now) (with_lines (pattern_data c.args.pattern.now) (map pattern_line_data c.args.lines.now))) (sym c.in_ok-first.ensures ∙ c.in-None.is)

pub whole-requires-clause-sound : goal.whole-requires-clause-sound
whole-requires-clause-sound c = c.requires.sound c.if-sound.true (no_faults (lines_faults (map kind_data c.args.own.now) (with_lines (pattern_data c.args.pattern.now) (map pattern_line_data c.args.lines.now))) (sym c.in_ok-first.ensures ∙ c.in-None.is))

pub returns-in-Some-clause-found : goal.returns-in-Some-clause-found
returns-in-Some-clause-found c =
    let own = map kind_data c.args.own.now in
    let p = with_lines (pattern_data c.args.pattern.now) (map pattern_line_data c.args.lines.now) in
    let old = found_in c.args.findings.now in
    let is = sym c.in_ok-first.ensures ∙ c.in-Some.is in
    c.report.ensures.put ∙ some_first old (lines_faults own p) c.in-Some.first is ∙ ap (with_faults old) (sym (lines_found own p c.args.sound c.in-Some.first is))

pub returns-then-sound-clause-found : goal.returns-then-sound-clause-found
returns-then-sound-clause-found c =
    let own = map kind_data c.args.own.now in
    let p = with_lines (pattern_data c.args.pattern.now) (map pattern_line_data c.args.lines.now) in
    let none : lines_faults own p ≡ [] = no_faults (lines_faults own p) (sym c.in_ok-first.ensures ∙ c.in-None.is) in
    subst (λ fs. OnOk c.whole.result (found_in c.whole.new.findings ≡ with_faults (found_in c.args.findings.now) fs))
    (sym (whole_faults own p none) ∙ ap (λ b. pattern_faults b own p) (sym c.if-sound.true))
    c.whole.ensures.found

pub returns-then-sound-clause-meant : goal.returns-then-sound-clause-meant
returns-then-sound-clause-meant c =
    let own = map kind_data c.args.own.now in
    let p = with_lines (pattern_data c.args.pattern.now) (map pattern_line_data c.args.lines.now) in
    let none : lines_faults own p ≡ [] = no_faults (lines_faults own p) (sym c.in_ok-first.ensures ∙ c.in-None.is) in
    subst (λ x. IfOk c.whole.result (λ made. option_map model_data made ≡ x)) (meant_whole own p none ∙ ap (λ b. meant b own p) (sym c.if-sound.true)) c.whole.ensures.meant

pub returns-else-sound-clause-found : goal.returns-else-sound-clause-found
returns-else-sound-clause-found c =
    let own = map kind_data c.args.own.now in
    let p = with_lines (pattern_data c.args.pattern.now) (map pattern_line_data c.args.lines.now) in
    let none : lines_faults own p ≡ [] = no_faults (lines_faults own p) (sym c.in_ok-first.ensures ∙ c.in-None.is) in
    ap (with_faults (found_in c.args.findings.now)) (sym (ap (λ b. pattern_faults b own p) c.if-sound.false ∙ unsound_faults own p none))
