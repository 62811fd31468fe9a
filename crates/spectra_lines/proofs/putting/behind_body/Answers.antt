use Rattle.std.proofs.Common.{Some, ap, ◌∙◌, arith}
use Rattle.spectra_resolved.specs.TextViews.{body_data}
use Rattle.spectra_judge.specs.KindViews.{known_data}
use Rattle.spectra_lines.specs.Contents.{trees_in}
use Rattle.spectra_lines.specs.Rooms.{behind_formulas}
use Rattle.spectra_lines.specs.Views.{trees_data}
use Rattle.spectra_lines.proofs.Rooms.{behind_all}
use Rattle.spectra_lines.proofs.putting.behind_body.Goals as goal

pub returns : goal.returns
returns c = λ fit.
    let known = known_data c.args.facts.now.known in
    let small = c.ranges.room in
    c.in_ok-left.ensures
    ∙ ap (behind_formulas known (Some c.args.room)) (ap trees_data c.deref.ensures.value ∙ c.in_ok-trees.ensures)
    ∙ behind_all known c.args.room (trees_in (body_data c.args.body.now)) (omega (arith, small)) fit
