use Rattle.std.proofs.Common.{◌∙◌, ap, arith}
use Rattle.std.proofs.lemmas.Option.{IfSome_then}
use Rattle.spectra_resolved.specs.Views.{resolved_data}
use Rattle.spectra_elaboration.specs.Giving.{gives}
use Rattle.spectra_elaboration.proofs.GivenBack.{found_given}
use Rattle.spectra_elaboration.proofs.giving.given_of.Goals as goal

pub returns-in-Found : goal.returns-in-Found
returns-in-Found c =
    let gs = c.args.given.now in
    let body = resolved_data c.args.body.now in
    let need = c.loop.need in
    IfSome_then c.found_in_body.result c.found_in_body.ensures
    (λ found is. found_given gs body need found is.1 (ap (λ n. gives gs need n body) is.0 ∙ c.loop.invariant need c.in-Found.place (omega arith) (c.in-Found.ensures need)))
