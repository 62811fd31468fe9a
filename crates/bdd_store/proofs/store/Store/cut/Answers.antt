use Rattle.std.proofs.Common.{ℕ, List, ◌++◌, drop, take-append-drop, sym, ◌∙◌, ap}
use Rattle.bdd_store.specs.contracts.store.Store.{the_view}
use Rattle.bdd_store.proofs.Whole.{store_of_whole, whole_stack, fewer_live}
use Rattle.bdd_store.proofs.store.Store.cut.Goals as goal

pub returns-clause-sound : goal.returns-clause-sound
returns-clause-sound c =
    let rest = drop c.args.depth c.self.inside.stack.items in
    store_of_whole _ c.self.inside.roots (whole_stack (the_view c.self.inside) c.self.inside.roots c.truncate.new.self.items c.self.invariant
    (fewer_live (the_view c.self.inside) c.self.inside.roots c.truncate.new.self.items rest c.self.invariant (sym (take-append-drop c.args.depth c.self.inside.stack.items) ∙ ap (λ (xs : List ℕ). xs ++ rest) (sym c.truncate.ensures.items))))
