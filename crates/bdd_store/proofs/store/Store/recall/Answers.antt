use Rattle.std.proofs.Common.{subst}
use Rattle.bdd_store.specs.State.{IsStore}
use Rattle.bdd_store.specs.contracts.store.Store.{the_view}
use Rattle.bdd_store.proofs.Whole.{store_of_whole}
use Rattle.bdd_store.proofs.store.Store.recall.Goals as goal

pub returns-clause-sound : goal.returns-clause-sound
returns-clause-sound c = subst IsStore c.self.view_is (store_of_whole (the_view c.self.inside) c.self.inside.roots c.self.invariant)
