use Rattle.std.proofs.Common.{◌≡◌, ◌<◌, ◌+◌, List, suc, MatchOption, map, sum, take, vec_len, ap, sym, ◌∙◌, subst, arith}
use Rattle.gr1_env.specs.Solved.{greatest, hold_count}
use Rattle.gr1_env.proofs.Counting.{greatest-next, greatest-at}
use Rattle.gr1_env.proofs.numbers.most_of.Goals as goal

pub returns-in_err-total : goal.returns-in_err-total
returns-in_err-total g c =
    let most = greatest hold_count c.args.goals.now in
    let within = greatest-at hold_count c.args.goals.now c.loop-e.e-index c.e-item.result c.loop-e-test.true in
    let item = ap hold_count c.e-item.is in
    let counted = ap (λ (vs : List _). sum (map vec_len vs)) c.deref.ensures.value in
    subst (λ o. MatchOption o (18446744073709551615 < most) (λ n. n ≡ most)) (sym c.from_residual.ensures) (omega (arith, within, item, counted, c.in_err-total.ensures))

pub loop-e-preserved : goal.loop-e-preserved
loop-e-preserved g c =
    let goals = c.args.goals.now in
    let next : c.loop-e.e-index + 1 ≡ suc c.loop-e.e-index = omega arith in
    let more = ap (λ n. greatest hold_count (take n goals)) next ∙ greatest-next hold_count goals c.loop-e.e-index c.e-item.result c.loop-e-test.true in
    let item = ap hold_count c.e-item.is in
    let counted = ap (λ (vs : List _). sum (map vec_len vs)) c.deref.ensures.value in
    record { most = omega (arith, more, item, counted, c.in_ok-total.ensures, c.max-most.ensures, c.loop-e.invariant.most) }
