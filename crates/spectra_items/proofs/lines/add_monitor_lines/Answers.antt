use Rattle.std.proofs.Common.{◌≡◌, ◌+◌, ◌∷◌, map, drop, sym, ap, ◌∙◌, add-one, drop-cons}
use Rattle.spectra_trees.specs.Views.{part_data}
use Rattle.spectra_resolved.specs.Reports.{found_in}
use Rattle.spectra_resolved.specs.TextViews.{line_data}
use Rattle.spectra_items.specs.Meanings.{monitor_lines, monitor_faults}
use Rattle.spectra_items.specs.Steps.{look_by}
use Rattle.spectra_items.proofs.Loops.{list_step, found_step}
use Rattle.spectra_items.proofs.lines.add_monitor_lines.Goals as goal

pub loop-part-preserved : goal.loop-part-preserved
loop-part-preserved c =
    let r = c.args.resolver.now in
    let all = c.args.parts.now in
    let i = c.loop-part.part-index in
    let part = c.part-item.result in
    let rest : drop i all ≡ part ∷ drop (i + 1) all = drop-cons all i part c.loop-part-test.true ∙ (λ j. sym c.part-item.is j ∷ drop (sym (add-one i) j) all) in
    let parts = ap (map part_data) rest in
    let added = c.in_ok-add_monitor_line.ensures in
    record {
      same = list_step (monitor_lines (look_by r) r.file c.args.monitor) (part_data part) _ _ (map line_data c.loop-part.all.items) _ _ parts added.added c.loop-part.invariant.same;
      found = found_step (monitor_faults (look_by r) r.file) (part_data part) _ _ (found_in c.loop-part.findings) _ _ parts added.found c.loop-part.invariant.found;
    }
