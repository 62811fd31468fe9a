use Rattle.std.proofs.Common.{arith}
use Rattle.bdd_store.specs.contracts.store.Store.{the_view}
use Rattle.bdd_store.proofs.Whole.{store_of_whole, whole_kept, less_live}
use Rattle.bdd_store.proofs.store.Store.release.Goals as goal

pub returns-clause-sound : goal.returns-clause-sound
returns-clause-sound c = store_of_whole _ c.take_root.new.roots
    (whole_kept (the_view c.self.inside) c.self.inside.roots c.take_root.new.roots c.take_root.new.kept.items c.self.invariant (less_live (the_view c.self.inside) c.self.inside.roots c.take_root.new.kept.items c.root.inside.node c.self.invariant c.take_root.ensures.taken) c.take_root.ensures.counted (omega (arith, c.take_root.ensures.size, c.self.invariant.small)))
