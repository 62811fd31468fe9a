use Rattle.std.proofs.Common.{subst, sym, inl, inr}
use Rattle.bdd_store.specs.State.{IsEdge, HasAnswer}
use Rattle.bdd_store.specs.contracts.store.Store.{the_view}
use Rattle.bdd_store.proofs.Whole.{store_of_whole, whole_answers, LiveAnswer}
use Rattle.bdd_store.proofs.store.Store.remember.Goals as goal

pub invariant_of-self : goal.invariant_of-self
invariant_of-self c = whole_answers (the_view c.self.inside) c.self.inside.roots c.put.new.self c.self.invariant (λ a kept. elim (c.put.ensures.others a kept) [
  | inl e ↦ subst (LiveAnswer (the_view c.self.inside)) (sym e) (
    subst (λ s. IsEdge s c.args.a.0) (sym c.self.view_is) c.requires.a_live,
    subst (λ s. IsEdge s c.args.b.0) (sym c.self.view_is) c.requires.b_live,
    subst (λ s. IsEdge s c.args.c.0) (sym c.self.view_is) c.requires.c_live,
    subst (λ s. IsEdge s c.args.r.0) (sym c.self.view_is) c.requires.r_live,
  )
  | inr old ↦ c.self.invariant.answers_live a old
])

pub returns-clause-sound : goal.returns-clause-sound
returns-clause-sound c = store_of_whole _ c.self.inside.roots (invariant_of-self c)

pub returns-clause-others : goal.returns-clause-others
returns-clause-others c x kept = elim (c.put.ensures.others x kept) [ inl e ↦ inl e | inr old ↦ inr (subst (λ s. HasAnswer s x) c.self.view_is old) ]
