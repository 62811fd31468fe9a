use Rattle.std.proofs.Common.{◌∙◌, ap, arith, length, map}
use Rattle.spec_model.specs.Views.{domain_data}
use Rattle.bit_compile.proofs.SlotLemmas.{length-slots}
use Rattle.bit_compile.proofs.codes.Codes.count.Goals as goal

pub returns : goal.returns
returns c =
    let slots = ap length c.self.invariant.slots_are ∙ length-slots (map domain_data c.self.inside.domains.items) 0 in
    let all = ap length c.self.view_is in
    omega (arith, slots, all, c.len.ensures)
