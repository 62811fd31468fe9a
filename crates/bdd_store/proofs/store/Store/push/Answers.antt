use Rattle.std.proofs.Common.{ℕ, List, subst, sym}
use Rattle.std.specs.List.{Contains}
use Rattle.bdd_store.specs.State.{IsEdge}
use Rattle.bdd_store.specs.contracts.store.Store.{the_view}
use Rattle.bdd_store.proofs.Whole.{store_of_whole, whole_stack, pushed_live}
use Rattle.bdd_store.proofs.store.Store.push.Goals as goal

pub returns-in_err-push-clause-sound : goal.returns-in_err-push-clause-sound
returns-in_err-push-clause-sound c =
    store_of_whole _ c.self.inside.roots (whole_stack (the_view c.self.inside) c.self.inside.roots c.push.new.self.items c.self.invariant (λ n there. c.self.invariant.stack_live n (subst (λ (xs : List ℕ). Contains xs n) c.in_err-push.ensures.items there)))

pub returns-then-len-capacity-clause-sound : goal.returns-then-len-capacity-clause-sound
returns-then-len-capacity-clause-sound c =
    let live = subst (λ s. IsEdge s c.args.e.0) (sym c.self.view_is) c.requires in
    store_of_whole _ c.self.inside.roots (whole_stack (the_view c.self.inside) c.self.inside.roots c.push_reserved.new.self.items c.self.invariant
    (λ n there. pushed_live (the_view c.self.inside) c.self.inside.roots c.args.e.0 c.self.invariant live n (subst (λ (xs : List ℕ). Contains xs n) c.push_reserved.ensures.items there)))

pub returns-in_ok-push-clause-sound : goal.returns-in_ok-push-clause-sound
returns-in_ok-push-clause-sound c =
    let live = subst (λ s. IsEdge s c.args.e.0) (sym c.self.view_is) c.requires in
    store_of_whole _ c.self.inside.roots (whole_stack (the_view c.self.inside) c.self.inside.roots c.push.new.self.items c.self.invariant
    (λ n there. pushed_live (the_view c.self.inside) c.self.inside.roots c.args.e.0 c.self.invariant live n (subst (λ (xs : List ℕ). Contains xs n) c.in_ok-push.ensures.items there)))
