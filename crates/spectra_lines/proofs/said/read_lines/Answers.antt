use Rattle.std.proofs.Common.{◌≡◌, [], length, map, sym, ap, subst, ◌∙◌}
use Rattle.std.proofs.lemmas.List.{length-map}
use Rattle.spec_model.specs.Views.{line_data as model_line, trigger_data}
use Rattle.spectra_resolved.specs.Findings.{with_faults}
use Rattle.spectra_resolved.specs.Reports.{found_in}
use Rattle.spectra_resolved.specs.Texts.{ResolvedLine}
use Rattle.spectra_resolved.specs.TextViews.{line_data}
use Rattle.spectra_resolved.proofs.First.{with_faults_append}
use Rattle.spectra_judge.specs.KindViews.{known_data}
use Rattle.spectra_lines.specs.Parts.{in_text_order, parts_faults, parts_lines}
use Rattle.spectra_lines.specs.Meanings.{statements, triggers}
use Rattle.spectra_patterns.specs.Hidden.{hidden_faults}
use Rattle.spectra_lines.specs.Said.{all_room, small_lines, tables_faults}
use Rattle.spectra_lines.specs.Steps.{ArePartsSound}
use Rattle.spectra_lines.specs.Views.{facts_data, typed_data, part_data}
use Rattle.spectra_lines.proofs.Orders.{parts_sound}
use Rattle.spectra_lines.proofs.Stated.{length_statements}
use Rattle.spectra_lines.proofs.said.read_lines.Goals as goal

pub read_parts-requires : goal.read_parts-requires
read_parts-requires c =
    let f = facts_data c.args.facts.now in
    record {
      sound =
          subst (λ xs. ArePartsSound f (map part_data xs)) (sym c.deref.ensures.value)
          (subst (ArePartsSound f) (sym c.in_ok-parts.ensures) (parts_sound f (map typed_data c.args.patterns.now) (map line_data c.args.lines.now) c.requires.sound));
    }

-- there is a place for each statement
pub report_hidden-requires : goal.report_hidden-requires
report_hidden-requires c =
    let known = known_data c.args.facts.now.known in
    let item = λ (l : ResolvedLine). l.item in
    let read = map line_data c.in_ok-read.read.lines.items in
    let stated = c.in_ok-stated.stated.lines.items in
    let places : c.deref-4.result.now ≡ map item read = c.deref-4.ensures.value ∙ c.in_ok-places.ensures ∙ ap (λ ls. map item (map line_data ls)) c.deref-3.ensures.value in
    let lines : map model_line stated ≡ statements known read = c.in_ok-stated.ensures.lines ∙ ap (λ ls. statements known (map line_data ls)) c.deref-2.ensures.value in
    record {
      placed = ap length places ∙ length-map read item ∙ sym (length_statements known 1 0 read) ∙ sym (ap length lines) ∙ length-map stated model_line ∙ sym (ap length c.deref-6.ensures.value);
    }

pub returns-clause-found : goal.returns-clause-found
returns-clause-found c =
    let f = facts_data c.args.facts.now in
    let ps = map typed_data c.args.patterns.now in
    let ls = map line_data c.args.lines.now in
    let old = found_in c.args.findings.now in
    let item = λ (l : ResolvedLine). l.item in
    let parts : map part_data c.deref.result.now ≡ in_text_order ps ls = ap (map part_data) c.deref.ensures.value ∙ c.in_ok-parts.ensures in
    let read : map line_data c.in_ok-read.read.lines.items ≡ small_lines f ps ls = c.in_ok-read.ensures.lines ∙ ap (parts_lines f all_room) parts in
    let places : c.deref-4.result.now ≡ map item (small_lines f ps ls) =
    c.deref-4.ensures.value ∙ c.in_ok-places.ensures ∙ ap (λ ls. map item (map line_data ls)) c.deref-3.ensures.value ∙ ap (map item) read in
    let stated = ap (map line_data) c.deref-2.ensures.value ∙ read in
    let lines : map model_line c.deref-6.result.now ≡ statements f.known (small_lines f ps ls) = ap (map model_line) c.deref-6.ensures.value ∙ c.in_ok-stated.ensures.lines ∙ ap (statements f.known) stated in
    let said : map trigger_data c.deref-5.result.now ≡ triggers f.known (small_lines f ps ls) = ap (map trigger_data) c.deref-5.ensures.value ∙ c.in_ok-stated.ensures.triggers ∙ ap (triggers f.known) stated in
    c.in_ok-report_hidden.ensures
    ∙ (λ i. with_faults (found_in c.read_parts.new.findings) (hidden_faults (said i) [] (places i) (lines i)))
    ∙ ap (λ o. with_faults o (tables_faults f (small_lines f ps ls))) (c.in_ok-read.ensures.found ∙ ap (λ xs. with_faults old (parts_faults f all_room xs)) parts)
    ∙ sym (with_faults_append old (parts_faults f all_room (in_text_order ps ls)) (tables_faults f (small_lines f ps ls)))
