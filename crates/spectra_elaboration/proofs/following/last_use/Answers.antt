use Rattle.std.proofs.Common.{None, get_or, refl, sym, ap, ◌∙◌, arith}
use Rattle.spectra_elaboration.specs.DefinitionViews.{definitions_data}
use Rattle.spectra_elaboration.proofs.HandedOn.{last_used}
use Rattle.spectra_elaboration.proofs.following.last_use.Goals as goal

pub returns-else-first-last : goal.returns-else-first-last
returns-else-first-last c = λ at ts size.
    let d = c.args.definitions.now in
    let last = c.in-Some.last in
    let same = c.if-last-count.false in
    let low = c.if-first-last.false in
    last_used (definitions_data d) d.lasts.items d.ends c.args.first _ last
    (sym (c.in-Some.ensures ∙ ap (λ ls. get_or ls c.args.first.number None) c.deref.ensures.value)) (omega (arith, low)) refl refl refl at ts (omega (arith, same, size))
