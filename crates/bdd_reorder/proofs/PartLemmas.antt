-- What one operation gives for a part.
use Rattle.std.proofs.Common.{◌≡◌, ℕ, ◌+◌, ◌↔◌, sym, ◌∙◌, ap, subst, refl, arith, Bool, true, false, IsTrue, Result, Ok, Err, IfOk}
use Rattle.std.proofs.lemmas.Bool.{false≢true}
use Rattle.spec_model.specs.Diagrams.{Diagram, constant, Bits, Function, value}
use Rattle.bdd_store.specs.declared.fault.StoreFault.{StoreFault}
use Rattle.bdd_store.specs.State.{roots_at}
use Rattle.bdd_ops.specs.Contents.{Contents, function_at}
use Rattle.bdd_ops.specs.Calls.{GivesRoot}
use Rattle.bdd_reorder.specs.Keeping.{made_at}

pub ok_as : (new : Contents) (r : Result ℕ StoreFault) (f g : Function) → f ≡ g → IfOk r (λ k. function_at new k ≡ f) → IfOk r (λ k. function_at new k ≡ g)
ok_as new (Ok k) f g same is = is ∙ same
ok_as new (Err h) f g same is = tt

pub given_added : (old new : Contents) (r : Result ℕ StoreFault) (f : Function) (MayMake : Diagram → Type 0) → GivesRoot old new r f MayMake → (n : ℕ) → roots_at new.state n ≡ roots_at old.state n + made_at n r
given_added old new (Ok k) f MayMake gives n = gives.added n
given_added old new (Err h) f MayMake gives n = let same = gives.refused n in omega (arith, same)

-- a constant is true exactly where it is the same function as a diagram that is
pub which_constant : (b e : Bool) (f t : Function) → f ≡ value (constant b) → t ≡ (λ s. true) → IsTrue e ↔ (f ≡ t) → (λ (s : Bits). e) ≡ value (constant b)
which_constant true e f t is truth same = let yes : e ≡ true = same.1 (is ∙ sym truth) in subst (λ (b : Bool). (λ (s : Bits). b) ≡ value (constant true)) (sym yes) refl
which_constant false true f t is truth same =
    let alike : value (constant false) ≡ (λ (s : Bits). true) = sym is ∙ (same.0 refl ∙ truth) in
    absurd (false≢true (ap (λ (g : Function). g (λ n. false)) alike))
which_constant false false f t is truth same = refl
