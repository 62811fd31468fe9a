use Rattle.std.proofs.Common.{ℕ, List, false, refl, ◌∙◌}
use Rattle.spec_model.specs.Diagrams.{Diagram, value, exists_over}
use Rattle.bdd_store.specs.State.{diagram_of}
use Rattle.bdd_ops.specs.Functions.{join_of}
use Rattle.bdd_ops.specs.Steps.{IsUnfinished, IsQuantifiedPart}
use Rattle.bdd_bits.specs.Orders.{levels_of}
use Rattle.bdd_bits.specs.Contents.{Contents, function_at}
use Rattle.bdd_bits.proofs.RenamingLemmas.{exists_over_bits}
use Rattle.bdd_bits.proofs.CallLemmas.{list_gives, nothing_given, as_seen}
use Rattle.bdd_bits.proofs.diagrams.Diagrams.exists.Goals as goal

pub returns-in-Err : goal.returns-in-Err
returns-in-Err c =
    let a = c.args.a.now in
    let bits = c.args.bits.now in
    as_seen (λ (d : Contents). exists_over bits (function_at d a)) (λ (d : Contents). IsUnfinished (join_of false) (IsQuantifiedPart (join_of false) (levels_of d.order bits) (diagram_of d.state a))) _ _ _ _ c.self.view_is
    (nothing_given _ _ _)

pub returns-in-Ok : goal.returns-in-Ok
returns-in-Ok c =
    let a = c.args.a.now in
    let bits = c.args.bits.now in
    let e : Diagram = diagram_of c.self.inside.over_levels.state a in
    as_seen (λ (d : Contents). exists_over bits (function_at d a)) (λ (d : Contents). IsUnfinished (join_of false) (IsQuantifiedPart (join_of false) (levels_of d.order bits) (diagram_of d.state a))) _ _ _ _ c.self.view_is
    (list_gives (λ (ls : List ℕ). exists_over ls (value e)) (λ (ls : List ℕ). IsUnfinished (join_of false) (IsQuantifiedPart (join_of false) ls e)) _ _ _ _ _ _ (c.deref.ensures.value ∙ c.in-Ok.ensures) refl
    (exists_over_bits _ c.self.inside.order c.self.invariant.0 bits (value e)) c.exists.ensures)
