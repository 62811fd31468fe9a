use Rattle.std.proofs.Common.{map, sym, ap, ◌∙◌}
use Rattle.spectra_resolved.specs.Chained.{chained}
use Rattle.spectra_resolved.specs.Views.{resolved_data, link_data}
use Rattle.spectra_resolved.proofs.Trees.{chain_data}
use Rattle.spectra_copies.specs.Numbers.{number_in}
use Rattle.spectra_copies.specs.ChainNumbers.{chain_number}
use Rattle.spectra_copies.proofs.Chained.{chain_number_is}
use Rattle.spectra_copies.proofs.numbers.+numbering.Goals as goal

pub chain_number-returns : goal.chain_number-returns
chain_number-returns t c =
    let numbers = c.args.numbers.now in
    let links = map link_data c.args.links.now in
    c.links_number.ensures ∙ ap (λ first. chain_number numbers first links) c.number_in-first.ensures ∙ chain_number_is numbers (resolved_data c.args.head.now) links

pub number_in-returns-in-Chain : goal.number_in-returns-in-Chain
number_in-returns-in-Chain t c =
    c.chain_number.ensures
    ∙ ap (number_in c.args.numbers.now)
    ((λ i. chained (resolved_data (c.deref.ensures i)) (map link_data (c.deref-in-Chain.ensures.value i))) ∙ sym (ap resolved_data c.in-Chain.is ∙ chain_data c.in-Chain.head c.in-Chain.links))
