use Rattle.std.proofs.Common.{◌≡◌, ◌+◌, ◌∙◌, ◌++◌, ◌∷◌, [], ℕ, suc, List, ap, sym, arith}
use Rattle.std.specs.List.{range_with_len}
use Rattle.bdd_bits.proofs.OrderLemmas.{range_more}
use Rattle.bdd_bits.proofs.order.below.Goals as goal

pub loop-number-preserved : goal.loop-number-preserved
loop-number-preserved c =
    let next : c.loop-number.number + 1 ≡ suc c.loop-number.number = omega arith in
    c.in_ok-push.ensures.items ∙ (ap (λ (xs : List ℕ). xs ++ c.loop-number.number ∷ []) c.loop-number.invariant ∙ sym (ap (range_with_len 0) next ∙ range_more 0 c.loop-number.number c.loop-number.number (omega arith)))
