use Rattle.std.proofs.Common.{false, refl}
use Rattle.bdd_store.specs.State.{diagram_of}
use Rattle.bdd_ops.specs.Functions.{joined, join_of}
use Rattle.bdd_ops.specs.Steps.{IsJoinOfParts}
use Rattle.bdd_bits.specs.Contents.{Contents, function_at}
use Rattle.bdd_bits.proofs.CallLemmas.{gives_bits, as_seen}
use Rattle.bdd_bits.proofs.diagrams.Diagrams.or.Goals as goal

pub returns : goal.returns
returns c =
    let a = c.args.a.now in
    let b = c.args.b.now in
    as_seen (λ (d : Contents). joined (join_of false) (function_at d a) (function_at d b)) (λ (d : Contents). IsJoinOfParts (join_of false) (diagram_of d.state a) (diagram_of d.state b)) _ _ _ _ c.self.view_is
    (gives_bits _ _ _ _ _ _ refl refl c.or.ensures)
