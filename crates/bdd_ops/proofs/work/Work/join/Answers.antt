use Rattle.std.proofs.Common.{◌++◌, ◌∷◌, [], refl, sym, ap, subst, ◌∙◌}
use Rattle.spec_model.specs.Diagrams.{IsLater}
use Rattle.bdd_store.specs.State.{IsFullOf, diagram_of}
use Rattle.bdd_ops.specs.Contents.{Contents, AreRight}
use Rattle.bdd_ops.proofs.StepLemmas.{later_in, right_kept, split_given}
use Rattle.bdd_ops.proofs.StayLemmas.{node_works}
use Rattle.bdd_ops.proofs.work.Work.join.Goals as goal

pub node-requires-clause-low_later : goal.node-requires-clause-low_later
node-requires-clause-low_later c =
    let are : AreRight c.args.self.now = subst (λ (x : Contents). AreRight x) c.self.view_is c.self.invariant.0 in
    subst (λ (x : Contents). IsLater c.args.level (diagram_of x.state c.args.low.0)) (sym c.self.view_is) (later_in c.args.self.now c.args.level c.args.low.0 are c.requires.low_live c.requires.low_ignores)

pub node-requires-clause-high_later : goal.node-requires-clause-high_later
node-requires-clause-high_later c =
    let are : AreRight c.args.self.now = subst (λ (x : Contents). AreRight x) c.self.view_is c.self.invariant.0 in
    subst (λ (x : Contents). IsLater c.args.level (diagram_of x.state c.args.high.0)) (sym c.self.view_is) (later_in c.args.self.now c.args.level c.args.high.0 are c.requires.high_live c.requires.high_ignores)

pub invariant_of-self : goal.invariant_of-self
invariant_of-self c = (right_kept _ _ c.self.invariant.0 c.node.ensures.answers refl c.node.ensures.sound, c.self.invariant.1)

pub returns-clause-joined : goal.returns-clause-joined
returns-clause-joined c = split_given _ _ _ c.args.level c.args.low.0 c.args.high.0 c.node.result c.self.view_is c.node.ensures.live c.node.ensures.value

pub returns-clause-works : goal.returns-clause-works
returns-clause-works c = node_works _ _ _ (c.args.low.0 ∷ c.args.high.0 ∷ []) c.self.view_is refl c.node.ensures.keeps c.node.ensures.roots

pub returns-clause-stack : goal.returns-clause-stack
returns-clause-stack c = c.node.ensures.stack ∙ ap (λ (x : Contents). x.state.stack) c.self.view_is

pub returns-clause-full : goal.returns-clause-full
returns-clause-full c is =
    subst (λ xs. IsFullOf c.node.new.self (xs ++ c.args.low.0 ∷ c.args.high.0 ∷ [])) (c.node.ensures.stack ∙ ap (λ (x : Contents). x.state.stack) c.self.view_is) (c.node.ensures.filled is)
