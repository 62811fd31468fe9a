use Rattle.std.proofs.Common.{◌≡◌, ◌∙◌}
use Rattle.std.specs.Prelude.{option_map}
use Rattle.spectra_resolved.specs.Findings.{with_faults}
use Rattle.spectra_resolved.specs.Reports.{found_in}
use Rattle.spectra_resolved.specs.Views.{resolved_data}
use Rattle.spectra_judge.specs.KindViews.{known_data}
use Rattle.spectra_holes.specs.Holed.{holed}
use Rattle.spectra_elaboration.specs.Putting.{put_in}
use Rattle.spectra_copies.specs.Levels.{within_limits}
use Rattle.spectra_elaboration.specs.DefinitionViews.{definitions_data}
use Rattle.spectra_bodies.specs.PutIn.{most_nodes, most_levels, made_faults, put_in_faults}
use Rattle.spectra_bodies.proofs.putting.report_put_in.Goals as goal

pub returns : goal.returns
unfolding put_in_faults
returns c =
    let k = known_data c.args.known.now in
    let t = resolved_data c.args.t.now in
    let old = found_in c.args.findings.now in
    let made : option_map resolved_data c.in_ok-made.made ≡ within_limits most_nodes most_levels (put_in (definitions_data c.args.definitions.now) (holed k c.args.stand t)) =
    c.in_ok-made.ensures ∙ (λ i. within_limits most_nodes most_levels (put_in (definitions_data c.args.definitions.now) (c.in_ok-written.ensures i))) in
    c.in_ok-report_made.ensures ∙ (λ i. with_faults old (made_faults k c.args.stand (made i)))
