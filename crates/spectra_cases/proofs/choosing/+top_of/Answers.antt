use Rattle.std.proofs.Common.{◌<◌, map, length, sym, ap, ◌∙◌, arith}
use Rattle.std.proofs.lemmas.Grind.{common_steps}
use Rattle.spectra_resolved.specs.Chained.{chained}
use Rattle.spectra_resolved.specs.Views.{resolved_data, link_data}
use Rattle.spectra_resolved.proofs.Trees.{chain_data}
use Rattle.spectra_cases.proofs.choosing.+top_of.Goals as goal

pub returns-else-is_empty : goal.returns-else-is_empty
returns-else-is_empty t c =
    let some : 0 < length c.deref-else-is_empty-2.result.now = grind (arith, common_steps) in (
      ap resolved_data c.in-Chain.is ∙ chain_data c.in-Chain.head c.in-Chain.links
          ∙ sym (λ i. chained (resolved_data (c.deref-else-is_empty.ensures i)) (map link_data (c.deref-else-is_empty-2.ensures.value i))),
      some,
    )
