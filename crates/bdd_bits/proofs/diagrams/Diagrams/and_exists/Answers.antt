use Rattle.std.proofs.Common.{ℕ, List, true, false, refl, ◌∙◌}
use Rattle.spec_model.specs.Diagrams.{Diagram, Function, value, and_exists_over}
use Rattle.bdd_store.specs.State.{diagram_of}
use Rattle.bdd_ops.specs.Functions.{joined, join_of}
use Rattle.bdd_ops.specs.Steps.{IsUnfinished, IsRelatedPart}
use Rattle.bdd_bits.specs.Orders.{levels_of}
use Rattle.bdd_bits.specs.Contents.{Contents, function_at}
use Rattle.bdd_bits.proofs.RenamingLemmas.{exists_over_bits}
use Rattle.bdd_bits.proofs.CallLemmas.{list_gives, nothing_given, as_seen}
use Rattle.bdd_bits.proofs.diagrams.Diagrams.and_exists.Goals as goal

pub returns-in-Err : goal.returns-in-Err
returns-in-Err c =
    let a = c.args.a.now in
    let b = c.args.b.now in
    let bits = c.args.bits.now in
    as_seen (λ (d : Contents). and_exists_over bits (function_at d a) (function_at d b)) (λ (d : Contents). IsUnfinished (join_of false) (IsRelatedPart (levels_of d.order bits) (diagram_of d.state a) (diagram_of d.state b))) _ _ _ _ c.self.view_is
    (nothing_given _ _ _)

pub returns-in-Ok : goal.returns-in-Ok
returns-in-Ok c =
    let a = c.args.a.now in
    let b = c.args.b.now in
    let bits = c.args.bits.now in
    let e : Diagram = diagram_of c.self.inside.over_levels.state a in
    let f : Diagram = diagram_of c.self.inside.over_levels.state b in
    let both : Function = joined (join_of true) (value e) (value f) in
    as_seen (λ (d : Contents). and_exists_over bits (function_at d a) (function_at d b)) (λ (d : Contents). IsUnfinished (join_of false) (IsRelatedPart (levels_of d.order bits) (diagram_of d.state a) (diagram_of d.state b))) _ _ _ _ c.self.view_is
    (list_gives (λ (ls : List ℕ). and_exists_over ls (value e) (value f)) (λ (ls : List ℕ). IsUnfinished (join_of false) (IsRelatedPart ls e f)) _ _ _ _ _ _ (c.deref.ensures.value ∙ c.in-Ok.ensures) refl
    (exists_over_bits _ c.self.inside.order c.self.invariant.0 bits both) c.and_exists.ensures)
