use Rattle.std.proofs.Common.{arith}
use Rattle.spectra_resolved.specs.Reports.{found_in}
use Rattle.spectra_resolved.specs.Texts.{ResolvedDefinition}
use Rattle.spectra_resolved.specs.TextViews.{definition_data, text_data}
use Rattle.spectra_notes.specs.Notes.{body_faults, known_inside, noted}
use Rattle.spectra_bodies.proofs.Loops.{numbered_step}
use Rattle.spectra_bodies.proofs.definitions.report_bodies.Goals as goal

pub loop-k-preserved : goal.loop-k-preserved
loop-k-preserved c =
    let text = text_data c.args.text.now in
    numbered_step definition_data (λ (d : ResolvedDefinition). body_faults (known_inside text (noted text).defines d) d) c.args.text.now.definitions.items c.loop-k.k (found_in c.loop-k.findings) _ _ (omega (arith, c.len-k-end.ensures, c.args.text.now.definitions.ok.0)) c.report_body.ensures c.loop-k.invariant
