use Rattle.std.proofs.Common.{◌≡◌, ◌&&◌, ◌++◌, is_some, option_map, if◌then◌else◌, [], sym, ap, ◌∙◌}
use Rattle.spectra_resolved.specs.Findings.{with_faults, first_of_faults}
use Rattle.spectra_resolved.specs.Reports.{found_in}
use Rattle.spectra_resolved.specs.TextViews.{body_data, line_data}
use Rattle.spectra_trees.specs.Faults.{TooLarge, number_of}
use Rattle.spectra_judge.specs.Findings.{fault_if}
use Rattle.spectra_patterns.specs.Patterns.{is_empty}
use Rattle.spectra_lines.specs.Contents.{trees_in, stand_in, line_put}
use Rattle.spectra_lines.specs.Limits.{is_small}
use Rattle.spectra_lines.specs.Lines.{trees_faults, line_stand, as_written, put_trees, whole_faults}
use Rattle.spectra_lines.specs.Views.{facts_data, trees_data}
use Rattle.spectra_lines.proofs.Firsts.{none_empty, none_seen}
use Rattle.spectra_lines.proofs.Sized.{faults_as, some_sized, none_sized, all_found}
use Rattle.spectra_lines.proofs.lines.read_line.Goals as goal

pub returns-in-Some-clause-found : goal.returns-in-Some-clause-found
returns-in-Some-clause-found c =
    let f = facts_data c.args.facts.now in
    let l = line_data c.args.line.now in
    let room = c.args.room.now in
    let written = as_written f l in
    let body = body_data c.in-Some.made.body in
    let old = found_in c.report_own.new.findings in
    let stand : c.stand_in-stand.result ≡ line_stand l = c.stand_in-stand.ensures ∙ ap (λ b. stand_in b l.body) c.is_assumption.ensures in
    let trees : trees_data c.deref.result.now ≡ trees_in l.body = ap trees_data c.deref.ensures.value ∙ c.in_ok-trees.ensures in
    let first : c.first_fault-first.result ≡ first_of_faults written = c.first_fault-first.ensures ∙ (λ i. first_of_faults (trees_faults f.known (stand i) (trees i))) in
    let sound : c.is_none-sound.result ≡ is_empty written = none_seen c.first_fault-first.result c.is_none-sound.result c.is_none-sound.ensures ∙ none_empty written c.first_fault-first.result first in
    let put = c.in_ok-report_put-in-Some.ensures
    ∙ (λ i. with_faults old (trees_faults f.known (stand i) (trees_in body) ++ (if sound i && is_empty (trees_faults f.known (stand i) (trees_in body)) then whole_faults f.known body else []))) in
    let made = sym (ap (option_map line_data) c.in-Some.is) ∙ c.in_ok-put.ensures.made in
    all_found f room l (found_in c.args.findings.now) _ old _ (c.report_first.ensures written first) c.report_own.ensures
    (some_sized l.at (faults_as f l) (is_some room) (is_small f.known 0 room (put_trees f l)) (line_data c.in-Some.made) (line_put f l) _ old made put)

pub returns-clause-found : goal.returns-clause-found
returns-clause-found c =
    let f = facts_data c.args.facts.now in
    let l = line_data c.args.line.now in
    let room = c.args.room.now in
    let written = as_written f l in
    let old = found_in c.report_own.new.findings in
    let stand : c.stand_in-stand.result ≡ line_stand l = c.stand_in-stand.ensures ∙ ap (λ b. stand_in b l.body) c.is_assumption.ensures in
    let trees : trees_data c.deref.result.now ≡ trees_in l.body = ap trees_data c.deref.ensures.value ∙ c.in_ok-trees.ensures in
    let first : c.first_fault-first.result ≡ first_of_faults written = c.first_fault-first.ensures ∙ (λ i. first_of_faults (trees_faults f.known (stand i) (trees i))) in
    let put = c.report_if.ensures ∙ ap (λ b. with_faults old (fault_if b (number_of TooLarge) l.at)) c.is_some-had_room.ensures in
    let made = sym (ap (option_map line_data) c.in-None.is) ∙ c.in_ok-put.ensures.made in
    all_found f room l (found_in c.args.findings.now) _ old _ (c.report_first.ensures written first) c.report_own.ensures
    (none_sized l.at (faults_as f l) (is_some room) (is_small f.known 0 room (put_trees f l)) (line_put f l) _ old made put)
