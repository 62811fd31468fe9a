use Rattle.std.proofs.Common.{refl}
use Rattle.spec_model.specs.Diagrams.{ite}
use Rattle.bdd_store.specs.State.{diagram_of}
use Rattle.bdd_ops.specs.Steps.{IsChoiceOfParts}
use Rattle.bdd_bits.specs.Contents.{Contents, function_at}
use Rattle.bdd_bits.proofs.CallLemmas.{gives_bits, as_seen}
use Rattle.bdd_bits.proofs.diagrams.Diagrams.ite.Goals as goal

pub returns : goal.returns
returns c =
    let a = c.args.a.now in
    let b = c.args.b.now in
    let e = c.args.c.now in
    as_seen (λ (d : Contents). ite (function_at d a) (function_at d b) (function_at d e)) (λ (d : Contents). IsChoiceOfParts (diagram_of d.state a) (diagram_of d.state b) (diagram_of d.state e)) _ _ _ _ c.self.view_is
    (gives_bits _ _ _ _ _ _ refl refl c.ite.ensures)
