use Rattle.std.proofs.Common.{◌≡◌, ◌<◌, ◌+◌, List, suc, MatchOption, take, ap, sym, ◌∙◌, subst, arith}
use Rattle.gr1_env.specs.Solved.{greatest, hold_count, layer_count}
use Rattle.gr1_env.proofs.Counting.{greatest-next, greatest-at}
use Rattle.gr1_env.proofs.numbers.denials.Goals as goal

pub returns-in_err-most_of : goal.returns-in_err-most_of
returns-in_err-most_of g c =
    let most = greatest layer_count c.args.layers.now in
    let within = greatest-at layer_count c.args.layers.now c.loop-layer.layer-index c.layer-item.result c.loop-layer-test.true in
    let item = ap layer_count c.layer-item.is in
    let counted = ap (λ (vs : List _). greatest hold_count vs) c.deref.ensures.value in
    subst (λ o. MatchOption o (18446744073709551615 < 1 + most) (λ n. n ≡ 1 + most)) (sym c.from_residual.ensures) (omega (arith, within, item, counted, c.in_err-most_of.ensures))

pub loop-layer-preserved : goal.loop-layer-preserved
loop-layer-preserved g c =
    let goals = c.args.layers.now in
    let next : c.loop-layer.layer-index + 1 ≡ suc c.loop-layer.layer-index = omega arith in
    let more = ap (λ n. greatest layer_count (take n goals)) next ∙ greatest-next layer_count goals c.loop-layer.layer-index c.layer-item.result c.loop-layer-test.true in
    let item = ap layer_count c.layer-item.is in
    let counted = ap (λ (vs : List _). greatest hold_count vs) c.deref.ensures.value in
    record { most = omega (arith, more, item, counted, c.in_ok-most_of.ensures, c.max-most.ensures, c.loop-layer.invariant.most) }
