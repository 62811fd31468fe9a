use Rattle.std.proofs.Common.{map, ap, ◌∙◌}
use Rattle.spectra_resolved.specs.Reports.{found_in}
use Rattle.spectra_resolved.specs.SpaceViews.{Told}
use Rattle.spectra_items.proofs.Told.{first_look, first_found}
use Rattle.spectra_items.specs.ItemViews.{entry_data}
use Rattle.spectra_items.proofs.spaces.space_of.Goals as goal

pub returns : goal.returns
returns c =
    let old = found_in c.args.findings.now in
    let entries = map entry_data c.args.entries.now in
    let told = c.in_ok-table.ensures in
    record { look = ap (λ (t : Told). t.look) told ∙ first_look old entries; found = ap (λ (t : Told). t.found) told ∙ first_found old entries }
