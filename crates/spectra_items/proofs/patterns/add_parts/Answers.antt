use Rattle.std.proofs.Common.{◌≡◌, ◌+◌, ◌∷◌, map, drop, sym, ap, ◌∙◌, add-one, drop-cons}
use Rattle.spectra_trees.specs.Views.{part_data}
use Rattle.spectra_resolved.specs.Reports.{found_in}
use Rattle.spectra_resolved.specs.TextViews.{type_data, pattern_line_data}
use Rattle.spectra_items.specs.Meanings.{own_types, pattern_lines, part_faults}
use Rattle.spectra_items.specs.Steps.{names_by, look_by}
use Rattle.spectra_items.proofs.Loops.{list_step, found_step}
use Rattle.spectra_items.proofs.patterns.add_parts.Goals as goal

pub loop-part-preserved : goal.loop-part-preserved
loop-part-preserved c =
    let r = c.args.resolver.now in
    let all = c.args.parts.now in
    let i = c.loop-part.part-index in
    let part = c.part-item.result in
    let rest : drop i all ≡ part ∷ drop (i + 1) all = drop-cons all i part c.loop-part-test.true ∙ (λ j. sym c.part-item.is j ∷ drop (sym (add-one i) j) all) in
    let parts = ap (map part_data) rest in
    let added = c.in_ok-add_part.ensures in
    let before = c.loop-part.invariant in
    record {
      own = list_step (own_types (names_by r) (look_by r) r.file) (part_data part) _ _ (map type_data c.loop-part.own.items) _ _ parts added.own before.own;
      lines = list_step (pattern_lines (look_by r) r.file) (part_data part) _ _ (map pattern_line_data c.loop-part.lines.items) _ _ parts added.lines before.lines;
      found = found_step (part_faults (names_by r) (look_by r) r.file) (part_data part) _ _ (found_in c.loop-part.findings) _ _ parts added.found before.found;
    }
