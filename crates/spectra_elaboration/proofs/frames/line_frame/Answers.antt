use Rattle.std.proofs.Common.{◌≡◌, length, option_map, refl, arith}
use Rattle.std.proofs.lemmas.List.{length-map}
use Rattle.spectra_resolved.specs.Views.{resolved_data}
use Rattle.spectra_elaboration.specs.DefinitionViews.{definitions_data}
use Rattle.spectra_elaboration.proofs.Framed.{line_filled}
use Rattle.spectra_elaboration.proofs.frames.line_frame.Goals as goal

pub returns-clause-line : goal.returns-clause-line
returns-clause-line c =
    let d = c.args.by.now.definitions.now in
    let n = c.len.ensures in
    let m = d.bodies.ok in
    let size : c.len.result ≡ length (definitions_data d) = (let all = length-map d.bodies.items (λ body. option_map resolved_data body) in omega (arith, n, m, all)) in
    line_filled (definitions_data d) _ _ _ c.in_ok-push.ensures.items c.new-frames.ensures.items size refl refl
