use Rattle.std.proofs.Common.{length, subst, ap, ◌∙◌, arith}
use Rattle.std.proofs.lemmas.List.{length-map}
use Rattle.spectra_uses.specs.Cycles.{AreOnCycle}
use Rattle.spectra_uses.specs.Settling.{rings_data}
use Rattle.spectra_uses.proofs.Settled.{all_settled}
use Rattle.spectra_uses.proofs.cycles.cycles.Goals as goal

pub returns : goal.returns
returns c =
    let first = rings_data c.in_ok-rings.rings in
    let each = rings_data c.settle_each.new.self in
    let all = rings_data c.settle_all.new.self in
    let on = c.in_ok-settle_all.ensures.on in
    let uses = on.uses ∙ c.in_ok-settle_each.ensures.uses ∙ c.in_ok-rings.ensures.uses in
    let size = length-map c.args.uses.now (λ us. us.items) in
    let table = all_settled all.uses all.settled all.table on.settling.settled (λ v below. c.in_ok-settle_all.ensures.known v (let same = ap length on.uses in omega arith)) in
    subst (λ us. AreOnCycle us (length c.args.uses.now) all.table) uses (subst (λ n. AreOnCycle all.uses n all.table) (ap length uses ∙ size) table)
