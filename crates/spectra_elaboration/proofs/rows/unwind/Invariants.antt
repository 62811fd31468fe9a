use Rattle.std.proofs.Common.{◌<◌, length}
use Rattle.spectra_resolved.specs.Views.{resolved_data}
use Rattle.spectra_elaboration.specs.DefinitionViews.{definitions_data}
use Rattle.spectra_elaboration.specs.Frames.{filled_at}
use Rattle.spectra_elaboration.specs.Rows.{Gathers}
use Rattle.spectra_elaboration.proofs.rows.unwind.Given as goal

-- the expression that it has come to, with the operators so far, stands for the first one
abbrev pub invariant-loop : goal.invariant-loop
invariant-loop l =
    let b = definitions_data l.by.definitions.now in
    record {
      gathered : Gathers b l.fn.frames.items l.frames.items l.fn.pieces.items l.pieces.items (filled_at b l.fn.frames.items l.frame (resolved_data l.t)) (filled_at b l.frames.items l.inside (resolved_data l.here));
      within : l.inside < length l.frames.items;
    }
