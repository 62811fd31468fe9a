use Rattle.std.proofs.Common.{length, ap, subst, ◌∙◌, arith}
use Rattle.std.proofs.lemmas.List.{length-map}
use Rattle.spectra_uses.specs.Orders.{IsOrderOf}
use Rattle.spectra_uses.specs.Placing.{placing_data}
use Rattle.spectra_uses.proofs.Placed.{all_placed}
use Rattle.spectra_uses.proofs.placing.order_of.Goals as goal

pub returns : goal.returns
returns c =
    let s = placing_data c.loop-number.placer in
    let kept = c.loop-number.invariant in
    let size = ap length kept.uses ∙ length-map c.args.uses.now (λ us. us.items) in
    let done = all_placed s kept.placing kept.empty (λ v below. kept.known v (omega arith)) in
    subst (λ us. IsOrderOf us (length c.args.uses.now) s.order) kept.uses (subst (λ n. IsOrderOf s.uses n s.order) size done)
