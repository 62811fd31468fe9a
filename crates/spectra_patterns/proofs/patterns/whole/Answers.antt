use Rattle.std.proofs.Common.{◌≡◌, Some, None, map, option_map, option_to_list, sym, ap, subst, ◌∙◌}
use Rattle.pattern_rows.specs.Patterns.{IsPattern}
use Rattle.spectra_resolved.specs.Findings.{fault, with_faults}
use Rattle.spectra_resolved.specs.Reports.{found_in}
use Rattle.spectra_resolved.specs.TextViews.{pattern_line_data, pattern_data}
use Rattle.spectra_judge.specs.KindViews.{kind_data}
use Rattle.spectra_patterns.specs.Patterns.{with_lines, pattern_of, table_fault}
use Rattle.spectra_patterns.specs.SoundPatterns.{unless}
use Rattle.spectra_patterns.proofs.Shaped.{shaped}
use Rattle.spectra_patterns.proofs.Whole.{sound_types}
use Rattle.spectra_patterns.proofs.patterns.whole.Goals as goal

pub made_of-requires-clause-types : goal.made_of-requires-clause-types
made_of-requires-clause-types c = sound_types c.args.own.now (with_lines (pattern_data c.args.pattern.now) (map pattern_line_data c.args.lines.now)) c.requires.sound

pub table_fault-requires : goal.table_fault-requires
table_fault-requires c =
    record { shaped = subst IsPattern (sym c.in_ok-made.ensures) (shaped (map kind_data c.args.own.now) (with_lines (pattern_data c.args.pattern.now) (map pattern_line_data c.args.lines.now)) c.requires.sound c.requires.faultless) }

pub returns-in-Some-clause-found : goal.returns-in-Some-clause-found
returns-in-Some-clause-found c =
    let old = found_in c.args.findings.now in
    let at = c.args.pattern.now.name.at in
    let is : table_fault (pattern_of (map kind_data c.args.own.now) (with_lines (pattern_data c.args.pattern.now) (map pattern_line_data c.args.lines.now))) ≡ Some c.in-Some.number =
    ap table_fault (sym c.in_ok-made.ensures) ∙ sym c.in_ok-number.ensures ∙ c.in-Some.is in
    c.report-in-Some.ensures.put ∙ ap (λ o. with_faults old (option_to_list (option_map (λ number. fault number at) o))) (sym is)

pub returns-in-Some-clause-meant : goal.returns-in-Some-clause-meant
returns-in-Some-clause-meant c =
    let made = pattern_of (map kind_data c.args.own.now) (with_lines (pattern_data c.args.pattern.now) (map pattern_line_data c.args.lines.now)) in
    let is : table_fault made ≡ Some c.in-Some.number = ap table_fault (sym c.in_ok-made.ensures) ∙ sym c.in_ok-number.ensures ∙ c.in-Some.is in
    ap (λ o. unless o made) (sym is)

pub returns-in-None-clause-found : goal.returns-in-None-clause-found
returns-in-None-clause-found c =
    let old = found_in c.args.findings.now in
    let at = c.args.pattern.now.name.at in
    let is : table_fault (pattern_of (map kind_data c.args.own.now) (with_lines (pattern_data c.args.pattern.now) (map pattern_line_data c.args.lines.now))) ≡ None =
    ap table_fault (sym c.in_ok-made.ensures) ∙ sym c.in_ok-number.ensures ∙ c.in-None.is in
    ap (λ o. with_faults old (option_to_list (option_map (λ number. fault number at) o))) (sym is)
