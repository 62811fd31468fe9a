use Rattle.std.proofs.Common.{subst, sym}
use Rattle.bdd_store.specs.State.{IsStore, IsRoot}
use Rattle.bdd_store.specs.contracts.store.Store.{the_view}
use Rattle.bdd_store.proofs.Whole.{store_of_whole}
use Rattle.bdd_store.proofs.store.Store.edge.Goals as goal

pub returns-clause-sound : goal.returns-clause-sound
returns-clause-sound c = subst IsStore c.self.view_is (store_of_whole (the_view c.self.inside) c.self.inside.roots c.self.invariant)

pub returns-clause-live : goal.returns-clause-live
returns-clause-live c = (returns-clause-sound c).roots_live c.root.inside.node (subst (IsRoot c.args.self.now) (sym c.root.view_is) c.requires)
