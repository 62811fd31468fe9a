use Rattle.std.proofs.Common.{◌∙◌, length, sym, ap, subst}
use Rattle.bdd_bits.specs.Orders.{BitOrder, IsOrder, level_of}
use Rattle.bdd_bits.proofs.KeepingLemmas.{keeps_stayed, keeps_moved}
use Rattle.bdd_bits.proofs.order.next_least.Goals as goal

pub returns-then-moved-bit : goal.returns-then-moved-bit
returns-then-moved-bit c =
    let o = c.args.order.now in
    let is : IsOrder (length o.names) o = subst (λ (p : BitOrder). IsOrder (length p.names) p) c.order.view_is c.order.invariant.0 in
    keeps_stayed (length o.names) o is c.args.to.now c.args.level c.args.least c.bit-bit.result c.bit-bit.ensures.bit (sym c.at-moved.ensures ∙ c.if-moved-bit.true) c.requires

pub returns : goal.returns
returns c =
    let o = c.args.order.now in
    let is : IsOrder (length o.names) o = subst (λ (p : BitOrder). IsOrder (length p.names) p) c.order.view_is c.order.invariant.0 in
    let next = c.from-next.ensures ∙ (c.level.ensures.level ∙ ap (level_of o) c.at-moved.ensures) in
    keeps_moved (length o.names) o is c.args.to.now c.args.level c.args.least c.bit-bit.result c.from-next.result c.bit-bit.ensures.bit next c.if-next-least.false c.requires
