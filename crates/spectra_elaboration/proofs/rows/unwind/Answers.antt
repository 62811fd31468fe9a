use Rattle.std.proofs.Common.{◌≡◌, refl, sym, ap, ◌∙◌}
use Rattle.spectra_resolved.specs.Views.{resolved_data}
use Rattle.spectra_elaboration.specs.DefinitionViews.{definitions_data}
use Rattle.spectra_elaboration.specs.Frames.{filled_at}
use Rattle.spectra_elaboration.specs.Following.{front_data}
use Rattle.spectra_elaboration.proofs.Unwound.{gathers_not, gathers_on}
use Rattle.spectra_elaboration.proofs.rows.unwind.Goals as goal

pub loop-init : goal.loop-init
loop-init c =
    let b = definitions_data c.args.by.now.definitions.now in
    let fs = c.args.frames.now.items in
    record {
      gathered = gathers_not b fs c.args.pieces.now.items (filled_at b fs c.args.frame (resolved_data c.args.t.now)) c.requires.framed c.requires.pieces;
      within = c.requires.within;
    }
