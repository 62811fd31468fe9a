use Rattle.std.proofs.Common.{subst, sym, ◌∙◌}
use Rattle.bdd_store.specs.State.{IsStore, IsEdge}
use Rattle.bdd_store.specs.contracts.store.Store.{the_view}
use Rattle.bdd_store.proofs.Whole.{store_of_whole, has_parts, is_constant}
use Rattle.bdd_store.proofs.store.Store.parts.Goals as goal
use Rattle.bdd_store.specs.State.{HasParts, IsConstant}

pub returns-in_err-level-clause-sound : goal.returns-in_err-level-clause-sound
returns-in_err-level-clause-sound c = subst IsStore c.self.view_is (store_of_whole (the_view c.self.inside) c.self.inside.roots c.self.invariant)

pub returns-clause-sound : goal.returns-clause-sound
returns-clause-sound c = subst IsStore c.self.view_is (store_of_whole (the_view c.self.inside) c.self.inside.roots c.self.invariant)

pub returns-in_err-level-clause-parts : goal.returns-in_err-level-clause-parts
returns-in_err-level-clause-parts c = rw c.from_residual.ensures (subst (λ s. IsConstant s c.args.e.0) c.self.view_is (is_constant (the_view c.self.inside) c.self.inside.roots c.self.invariant c.args.e.0 (sym c.parts.ensures ∙ c.in_err-level.was)))

pub returns-clause-parts : goal.returns-clause-parts
returns-clause-parts c = subst (λ s. HasParts s c.args.e.0 c.in_ok-level.level c.in_ok-level.low c.in_ok-level.high) c.self.view_is
    (has_parts (the_view c.self.inside) c.self.inside.roots c.self.invariant c.args.e.0 c.in_ok-level.level c.in_ok-level.low c.in_ok-level.high (subst (λ s. IsEdge s c.args.e.0) (sym c.self.view_is) c.requires) (sym c.parts.ensures ∙ c.in_ok-level.was))
