use Rattle.std.proofs.Common.{◌≡◌, ℕ, suc, ◌+◌, ◌-◌, ◌^◌, ◌<◌, subst, arith}
use Rattle.bdd_search.proofs.numbers.+digits.Goals as goal

pub returns-then-bits-level-clause-small : goal.returns-then-bits-level-clause-small
returns-then-bits-level-clause-small t c =
    let w = c.args.width - 1 in
    let some : 0 < c.args.width = omega (arith, c.if-width-eq0.false) in
    let wide : suc w ≡ c.args.width = omega (arith, some) in
    let half = c.power.ensures in
    let small : c.digits-rest.result < 2 ^ w = c.digits-rest.ensures.small in
    subst (λ (k : ℕ). c.power.result + c.digits-rest.result < 2 ^ k) wide (omega (arith, small, half))

pub returns-else-bits-level-clause-small : goal.returns-else-bits-level-clause-small
returns-else-bits-level-clause-small t c =
    let w = c.args.width - 1 in
    let some : 0 < c.args.width = omega (arith, c.if-width-eq0.false) in
    let wide : suc w ≡ c.args.width = omega (arith, some) in
    let small : c.digits-rest.result < 2 ^ w = c.digits-rest.ensures.small in
    subst (λ (k : ℕ). c.digits-rest.result < 2 ^ k) wide (omega (arith, small))
