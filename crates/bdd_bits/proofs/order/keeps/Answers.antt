use Rattle.std.proofs.Common.{◌≡◌, ℕ, length, arith, subst}
use Rattle.bdd_bits.specs.Orders.{BitOrder, IsOrder}
use Rattle.bdd_bits.specs.Keeping.{KeepsBefore}
use Rattle.bdd_bits.proofs.KeepingLemmas.{keeps_all}
use Rattle.bdd_bits.proofs.order.keeps.Goals as goal

pub loop-level-init : goal.loop-level-init
loop-level-init c =
    record {
      before = λ x below moved. absurd (omega (arith, below));
      rising = λ x y below moved_x moved_y less. absurd (omega (arith, below));
    }

pub returns : goal.returns
returns c = λ yes.
    let o = c.args.order.now in
    let is : IsOrder (length o.names) o = subst (λ (p : BitOrder). IsOrder (length p.names) p) c.order.view_is c.order.invariant.0 in
    let whole : c.loop-level.level ≡ length o.names = omega arith in
    keeps_all (length o.names) o c.args.to.now c.loop-level.least is (subst (λ (n : ℕ). KeepsBefore o c.args.to.now n c.loop-level.least) whole c.loop-level.invariant)
