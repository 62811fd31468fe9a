use Rattle.std.proofs.Common.{◌≡◌, ◌∙◌, Bool, IsTrue, ◌↔◌, Option, MatchOption, ap, sym, subst}
use Rattle.spec_model.specs.Diagrams.{Diagram, constant, Bits, value, shifted}
use Rattle.node_table.specs.Table.{Table, diagram_at}
use Rattle.bdd_store.specs.State.{SameRoots, diagram_of}
use Rattle.bdd_ops.specs.declared.split.Split.{Split}
use Rattle.bdd_ops.specs.Contents.{function_at}
use Rattle.bdd_ops.specs.Splits.{SplitsAt, AddsBoth}
use Rattle.bdd_reorder.proofs.PartLemmas.{which_constant}
use Rattle.bdd_reorder.proofs.ReplyLemmas.{given_one}
use Rattle.bdd_reorder.proofs.parts.reply.Goals as goal

pub returns-in-Ok-None-clause-replies : goal.returns-in-Ok-None-clause-replies
returns-in-Ok-None-clause-replies c = λ levels can.
    let from = c.args.from.now in
    let next = c.split.new.self.state in
    let a = c.args.a.now in
    let truth = c.args.truth.now in
    let e = c.equal.result in
    let d = diagram_of from.state a in
    let is : (b : Bool) × (d ≡ constant b) =
    subst (λ (o : Option Split). MatchOption o ((b : Bool) × (d ≡ constant b)) (λ x. SplitsAt from.state.table.levels x.level d (diagram_of next x.low) (diagram_of next x.high))) c.in-Ok-None.field-0-is c.in-Ok-None.ensures.split in
    let same : IsTrue e ↔ (function_at from a ≡ function_at from truth) = subst (λ (t : Table). IsTrue e ↔ (value (diagram_at t a) ≡ value (diagram_at t truth))) c.in-Ok-None.ensures.table c.equal.ensures in
    let which = which_constant is.0 e (function_at from a) (function_at from truth) (ap value is.1) can.truth_is same in
    record {
      made = given_one c.args.to.now c.constant.new.self c.constant.result (λ (s : Bits). e) (shifted levels (value d)) (λ (made : Diagram). ⊥) (which ∙ ap (λ (x : Diagram). shifted levels (value x)) (sym is.1)) c.constant.ensures.given c.constant.ensures.full;
      memory = c.constant.ensures.full;
      roots = subst (λ (o : Option Split). MatchOption o (SameRoots from.state next) (λ x. AddsBoth from.state next x.low x.high)) c.in-Ok-None.field-0-is c.in-Ok-None.ensures.added;
    }
