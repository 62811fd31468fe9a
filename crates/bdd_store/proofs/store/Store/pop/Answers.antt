use Rattle.std.specs.Prelude.{option_to_list}
use Rattle.bdd_store.specs.contracts.store.Store.{the_view}
use Rattle.bdd_store.proofs.Whole.{store_of_whole, whole_stack, fewer_live}
use Rattle.bdd_store.proofs.store.Store.pop.Goals as goal

pub returns-clause-sound : goal.returns-clause-sound
returns-clause-sound c =
    store_of_whole _ c.self.inside.roots (whole_stack (the_view c.self.inside) c.self.inside.roots c.pop.new.self.items c.self.invariant (fewer_live (the_view c.self.inside) c.self.inside.roots c.pop.new.self.items (option_to_list c.pop.result) c.self.invariant c.pop.ensures.items))
