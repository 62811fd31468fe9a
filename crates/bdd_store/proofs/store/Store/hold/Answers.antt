use Rattle.std.proofs.Common.{subst, sym, arith}
use Rattle.bdd_store.specs.State.{IsEdge}
use Rattle.bdd_store.specs.contracts.store.Store.{the_view}
use Rattle.bdd_store.proofs.Whole.{store_of_whole, whole_kept, more_live, same_live}
use Rattle.bdd_store.proofs.Whole.{is_root}
use Rattle.bdd_store.proofs.store.Store.hold.Goals as goal

pub invariant_of-self-2 : goal.invariant_of-self-2
invariant_of-self-2 c = whole_kept (the_view c.self.inside) c.self.inside.roots c.add_root.new.roots c.add_root.new.kept.items c.self.invariant
    (more_live (the_view c.self.inside) c.self.inside.roots c.add_root.new.kept.items c.args.e.0 c.self.invariant c.in_ok-add_root.ensures.added (subst (λ s. IsEdge s c.args.e.0) (sym c.self.view_is) c.requires))
    c.add_root.ensures.counted (omega (arith, c.add_root.ensures.small))

pub returns-clause-sound : goal.returns-clause-sound
returns-clause-sound c = store_of_whole _ c.add_root.new.roots (invariant_of-self-2 c)

pub returns-in_err-add_root-clause-sound : goal.returns-in_err-add_root-clause-sound
returns-in_err-add_root-clause-sound c = store_of_whole _ c.add_root.new.roots
    (whole_kept (the_view c.self.inside) c.self.inside.roots c.add_root.new.roots c.add_root.new.kept.items c.self.invariant (same_live (the_view c.self.inside) c.self.inside.roots c.add_root.new.kept.items c.self.invariant c.in_err-add_root.ensures.unchanged) c.add_root.ensures.counted (omega (arith, c.add_root.ensures.small)))

pub returns-clause-kept : goal.returns-clause-kept
returns-clause-kept c = is_root c.self.inside.kept.items c.add_root.new.kept.items c.args.e.0 c.in_ok-add_root.ensures.added
