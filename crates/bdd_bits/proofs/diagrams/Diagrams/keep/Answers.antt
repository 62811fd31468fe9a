use Rattle.std.proofs.Common.{refl}
use Rattle.spec_model.specs.Diagrams.{Diagram}
use Rattle.bdd_bits.specs.Contents.{Contents, function_at}
use Rattle.bdd_bits.proofs.CallLemmas.{gives_bits, as_seen}
use Rattle.bdd_bits.proofs.diagrams.Diagrams.keep.Goals as goal

pub returns-clause-given : goal.returns-clause-given
returns-clause-given c =
    as_seen (λ (d : Contents). function_at d c.args.root.now) (λ (d : Contents) (made : Diagram). ⊥) _ _ _ _ c.self.view_is (gives_bits _ _ _ _ _ _ refl refl c.keep.ensures.given)
