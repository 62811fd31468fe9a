use Rattle.std.proofs.Common.{map}
use Rattle.spec_model.specs.Views.{pattern_data as model_pattern}
use Rattle.spectra_resolved.specs.Reports.{found_in}
use Rattle.spectra_resolved.specs.TextViews.{line_data}
use Rattle.spectra_judge.proofs.Lists.{mapped_left}
use Rattle.spectra_lines.specs.Parts.{part_lines, part_patterns}
use Rattle.spectra_lines.specs.Views.{facts_data, part_data}
use Rattle.spectra_lines.proofs.Parted.{through_more, found_more, first_sound}
use Rattle.spectra_lines.proofs.reading.read_parts.Goals as goal

pub loop-part-preserved : goal.loop-part-preserved
loop-part-preserved c =
    let f = facts_data c.args.facts.now in
    let ps = c.args.parts.now in
    let k = c.loop-part.part-index in
    let p = part_data c.part-item.result in
    let room = c.loop-part.read.room in
    let left = mapped_left part_data ps k c.part-item.result c.loop-part-test.true c.part-item.is in
    let before = c.loop-part.invariant in
    let now = c.in_ok-read_part.ensures in
    record {
      sound = (first_sound f p _ _ left before.sound).1;
      found = found_more f room _ p _ _ (found_in c.loop-part.findings) _ _ left now.read.room now.found before.found;
      lines = through_more f (part_lines f) room _ p _ _ (map line_data c.loop-part.read.lines.items) _ _ left now.read.room now.read.lines before.lines;
      patterns = through_more f (part_patterns f) room _ p _ _ (map model_pattern c.loop-part.read.patterns.items) _ _ left now.read.room now.read.patterns before.patterns;
    }
