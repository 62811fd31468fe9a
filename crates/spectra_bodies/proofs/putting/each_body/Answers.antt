use Rattle.std.proofs.Common.{ap, ◌∙◌, arith}
use Rattle.std.proofs.lemmas.List.{length-map}
use Rattle.spectra_resolved.specs.TextViews.{definition_data, text_data}
use Rattle.spectra_elaboration.specs.PuttingViews.{bodies_data}
use Rattle.spectra_bodies.proofs.Inside.{one_more_body, all_bodies}
use Rattle.spectra_bodies.proofs.putting.each_body.Goals as goal

pub loop-k-preserved : goal.loop-k-preserved
loop-k-preserved c =
    let long = length-map c.args.text.now.definitions.items definition_data in
    ap bodies_data c.in_ok-push.ensures.items
    ∙ one_more_body (text_data c.args.text.now) c.loop-k.bodies.items c.loop-k.k c.in_ok-body.body (omega (arith, c.len-k-end.ensures, c.args.text.now.definitions.ok.0)) c.loop-k.invariant c.in_ok-body.ensures

pub returns : goal.returns
returns c =
    let long = length-map c.args.text.now.definitions.items definition_data in
    all_bodies (text_data c.args.text.now) c.loop-k.bodies.items c.loop-k.k (omega (arith, c.len-k-end.ensures, c.args.text.now.definitions.ok.0)) c.loop-k.invariant
