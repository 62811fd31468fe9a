use Rattle.std.proofs.Common.{◌+◌, ◌≤◌, List, sum, vec_len, ap, sym, subst, arith}
use Rattle.gr1_sys.specs.Held.{ranks_of}
use Rattle.gr1_sys.proofs.Lists.{next_within, next_sum}
use Rattle.gr1_sys.proofs.layers.SysLayers.k.Goals as goal

pub overflow_add-k : goal.overflow_add-k
overflow_add-k g c =
    let within = next_within vec_len c.deref-layers-items.result.now c.loop-layers.layers-index c.layers-item.result c.loop-layers-test.true in
    let item = ap vec_len c.layers-item.is in
    let inv = c.loop-layers.invariant in
    let whole = subst (λ (gs : List _). 1 + sum (ranks_of gs) ≤ 18446744073709551615) (sym c.deref-layers-items.ensures.value) c.args.self.now.counted in
    omega (arith, within, item, inv, c.len.ensures, whole)

pub loop-layers-preserved : goal.loop-layers-preserved
loop-layers-preserved g c =
    let next = next_sum vec_len c.deref-layers-items.result.now c.loop-layers.layers-index c.layers-item.result c.loop-layers-test.true in
    let item = ap vec_len c.layers-item.is in
    let inv = c.loop-layers.invariant in
    omega (arith, next, item, inv, c.len.ensures)
