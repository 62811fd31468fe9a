use Rattle.std.proofs.Common.{◌+◌, map, drop, sym, ap, ◌∙◌}
use Rattle.spectra_resolved.specs.Chained.{regexes}
use Rattle.spectra_resolved.specs.Views.{regex_data}
use Rattle.spectra_resolved.specs.Findings.{with_faults}
use Rattle.spectra_resolved.specs.Reports.{found_in}
use Rattle.spectra_resolved.proofs.Trees.{repeat_data}
use Rattle.spectra_judge.specs.KindViews.{known_data}
use Rattle.spectra_patterns.specs.TriggerParts.{atom_faults, each_atom_faults}
use Rattle.spectra_patterns.proofs.Regexes.{faults_repeated, atoms_left}
use Rattle.spectra_patterns.proofs.triggers.+judging.Goals as goal

pub report_atoms-returns-in-Repeat : goal.report_atoms-returns-in-Repeat
report_atoms-returns-in-Repeat t c =
    let known = known_data c.args.known.now in
    let old = found_in c.args.findings.now in
    let part = c.in-Repeat.part in
    let times = c.in-Repeat.field-1 in
    c.report_atoms.ensures
    ∙ ap (λ p. with_faults old (atom_faults known (regex_data p))) c.deref-in-Repeat.ensures
    ∙ ap (with_faults old) (sym (faults_repeated known (regex_data part.value) times.items) ∙ ap (atom_faults known) (sym (ap regex_data c.in-Repeat.is ∙ repeat_data part times)))

pub report_each-loop-r-preserved : goal.report_each-loop-r-preserved
report_each-loop-r-preserved t c =
    let known = known_data c.args.known.now in
    let rs = c.args.rs.now in
    let k = c.loop-r.r-index in
    ap (λ f. with_faults f (each_atom_faults known (regexes (map regex_data (drop (k + 1) rs))))) c.report_atoms.ensures
    ∙ atoms_left known rs k c.r-item.result c.loop-r-test.true c.r-item.is (found_in c.loop-r.findings)
    ∙ c.loop-r.invariant
