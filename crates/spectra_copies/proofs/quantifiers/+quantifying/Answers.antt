use Rattle.std.proofs.Common.{◌||◌, map, sym, ap, ◌∙◌}
use Rattle.spectra_resolved.specs.Chained.{chained}
use Rattle.spectra_resolved.specs.Views.{resolved_data, link_data}
use Rattle.spectra_resolved.proofs.Trees.{chain_data}
use Rattle.spectra_copies.specs.Copies.{has_quantifier}
use Rattle.spectra_copies.specs.QuantifiedLinks.{links_quantified}
use Rattle.spectra_copies.proofs.Chained.{chained_quantified}
use Rattle.spectra_copies.proofs.quantifiers.+quantifying.Goals as goal

pub has_quantifier-returns-in-Chain : goal.has_quantifier-returns-in-Chain
has_quantifier-returns-in-Chain t c =
    c.chain_has.ensures
    ∙ ap has_quantifier
    ((λ i. chained (resolved_data (c.deref.ensures i)) (map link_data (c.deref-in-Chain.ensures.value i))) ∙ sym (ap resolved_data c.in-Chain.is ∙ chain_data c.in-Chain.head c.in-Chain.links))

pub chain_has-returns-then-has_quantifier : goal.chain_has-returns-then-has_quantifier
chain_has-returns-then-has_quantifier t c =
    let head = resolved_data c.args.head.now in let links = map link_data c.args.links.now in
    c.if-has_quantifier.true ∙ sym (chained_quantified head links ∙ ap (λ b. b || links_quantified links) (sym c.has_quantifier.ensures ∙ c.if-has_quantifier.true))

pub chain_has-returns-else-has_quantifier : goal.chain_has-returns-else-has_quantifier
chain_has-returns-else-has_quantifier t c =
    let head = resolved_data c.args.head.now in let links = map link_data c.args.links.now in
    c.links_have.ensures ∙ sym (chained_quantified head links ∙ ap (λ b. b || links_quantified links) (sym c.has_quantifier.ensures ∙ c.if-has_quantifier.false))
