use Rattle.std.proofs.Common.{◌≡◌, ◌<◌, sum, map, vec_len, MatchOption, ap, sym, subst, arith}
use Rattle.gr1_sys.proofs.Lists.{next_within}
use Rattle.gr1_env.proofs.Counting.{past_sum}
use Rattle.gr1_env.proofs.numbers.total.Goals as goal

pub returns-in_err-n : goal.returns-in_err-n
returns-in_err-n g c =
    let within = next_within vec_len c.args.xs.now c.loop-rs.rs-index c.rs-item.result c.loop-rs-test.true in
    let item = ap vec_len c.rs-item.is in
    subst (λ o. MatchOption o (18446744073709551615 < sum (map vec_len c.args.xs.now)) (λ n. n ≡ sum (map vec_len c.args.xs.now))) (sym c.from_residual.ensures)
    (past_sum c.loop-rs.n c.len.result (sum (map vec_len c.args.xs.now)) c.in_err-n.ensures (omega (arith, within, item, c.len.ensures, c.loop-rs.invariant.sum)))
