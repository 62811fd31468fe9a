use Rattle.std.proofs.Common.{◌≡◌, subst, sym, ap, ◌∙◌}
use Rattle.bdd_store.specs.State.{IsStore, IsEdge, diagram_of}
use Rattle.bdd_store.specs.contracts.store.Store.{the_view}
use Rattle.bdd_store.proofs.Whole.{store_of_whole, fixed_live, fixed_meaning}
use Rattle.bdd_store.proofs.store.Store.fixed.Goals as goal
use Rattle.spec_model.specs.Diagrams.{constant}

pub returns-clause-sound : goal.returns-clause-sound
returns-clause-sound c = subst IsStore c.self.view_is (store_of_whole (the_view c.self.inside) c.self.inside.roots c.self.invariant)

pub returns-clause-live : goal.returns-clause-live
returns-clause-live c = subst (λ s. IsEdge s c.from.result) c.self.view_is (subst (IsEdge (the_view c.self.inside)) (sym c.from.ensures) (fixed_live c.self.inside.nodes c.self.invariant.sound c.args.value))

pub returns-clause-meaning : goal.returns-clause-meaning
returns-clause-meaning c = subst (λ s. diagram_of s c.from.result ≡ constant c.args.value) c.self.view_is (ap (diagram_of (the_view c.self.inside)) c.from.ensures ∙ fixed_meaning c.self.inside.nodes c.self.invariant.sound c.args.value)
