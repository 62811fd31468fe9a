use Rattle.std.proofs.Common.{◌≡◌, ◌&&◌, if◌then◌else◌, [], OnOk, sym, ap, subst, ◌∙◌}
use Rattle.spectra_resolved.specs.Findings.{with_faults}
use Rattle.spectra_resolved.specs.Reports.{found_in}
use Rattle.spectra_resolved.specs.TextViews.{body_data}
use Rattle.spectra_resolved.proofs.First.{with_faults_append}
use Rattle.spectra_judge.specs.KindViews.{known_data}
use Rattle.spectra_patterns.specs.Patterns.{is_empty}
use Rattle.spectra_lines.specs.Contents.{trees_in}
use Rattle.spectra_lines.specs.Lines.{trees_faults, whole_faults}
use Rattle.spectra_lines.proofs.Firsts.{none_empty}
use Rattle.spectra_lines.proofs.lines.report_put.Goals as goal

pub returns : goal.returns
returns c =
    let put = trees_faults (known_data c.args.known.now) c.args.stand (trees_in (body_data c.args.body.now)) in
    let whole = whole_faults (known_data c.args.known.now) (body_data c.args.body.now) in
    let old = found_in c.args.findings.now in
    let first = c.in_ok-first.ensures in
    let test : c.is_sound-whole.result ≡ (c.args.sound && is_empty put) = c.is_sound-whole.ensures ∙ ap (λ b. c.args.sound && b) (none_empty put c.in_ok-first.first first) in
    subst (λ x. OnOk c.report_if_whole.result (found_in c.report_if_whole.new.findings ≡ x))
    ((λ i. with_faults (c.report_first.ensures put first i) (if test i then whole else [])) ∙ sym (with_faults_append old put (if c.args.sound && is_empty put then whole else [])))
    c.report_if_whole.ensures
