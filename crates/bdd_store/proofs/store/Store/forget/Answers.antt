use Rattle.bdd_store.specs.contracts.store.Store.{the_view}
use Rattle.bdd_store.proofs.Whole.{store_of_whole, whole_answers}
use Rattle.bdd_store.proofs.store.Store.forget.Goals as goal

pub invariant_of-self : goal.invariant_of-self
invariant_of-self c = whole_answers (the_view c.self.inside) c.self.inside.roots c.clear.new.self c.self.invariant (λ a kept. absurd (c.clear.ensures a kept))

pub returns-clause-sound : goal.returns-clause-sound
returns-clause-sound c = store_of_whole _ c.self.inside.roots (invariant_of-self c)
