use Rattle.std.proofs.Common.{refl}
use Rattle.bdd_store.specs.State.{diagram_of}
use Rattle.bdd_ops.specs.Calls.{negated, IsNegatedPart}
use Rattle.bdd_bits.specs.Contents.{Contents, function_at}
use Rattle.bdd_bits.proofs.CallLemmas.{gives_bits, as_seen}
use Rattle.bdd_bits.proofs.diagrams.Diagrams.not.Goals as goal

pub returns : goal.returns
returns c =
    let a = c.args.a.now in
    as_seen (λ (d : Contents). negated (function_at d a)) (λ (d : Contents). IsNegatedPart (diagram_of d.state a)) _ _ _ _ c.self.view_is (gives_bits _ _ _ _ _ _ refl refl c.not.ensures)
