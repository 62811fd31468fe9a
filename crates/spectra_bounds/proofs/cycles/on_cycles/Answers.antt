use Rattle.std.proofs.Common.{length, map, sym}
use Rattle.std.proofs.lemmas.List.{length-map}
use Rattle.spectra_bounds.proofs.Marks.{marks-are}
use Rattle.spectra_bounds.proofs.cycles.on_cycles.Goals as goal

pub returns : goal.returns
returns c =
    marks-are (map (λ us. us.items) c.args.uses.now) (length c.args.uses.now) c.in_ok-marks.marks.items (sym (length-map c.args.uses.now (λ us. us.items))) c.in_ok-marks.ensures
