use Rattle.std.proofs.Common.{◌≡◌, ◌*◌, ◌^◌, ◌%◌, ◌<◌, arith, ap, ◌∙◌, mod-eq_of_lt}
use Rattle.std.proofs.Math.Pow.{pow-lt}
use Rattle.trigger_dfa.proofs.side.single.Goals as goal

pub returns : goal.returns
returns c =
    let below : c.args.p < 64 = c.requires in
    let fits : 2 ^ c.args.p < 2 ^ 64 = pow-lt below in
    let one : 1 * 2 ^ c.args.p ≡ 2 ^ c.args.p = omega arith in
    ap (λ n. n % 2 ^ 64) one ∙ mod-eq_of_lt fits
