use Rattle.std.proofs.Common.{map, sym, ap, ◌∙◌}
use Rattle.spectra_resolved.specs.Chained.{chained}
use Rattle.spectra_resolved.specs.Views.{resolved_data, link_data}
use Rattle.spectra_resolved.proofs.Trees.{chain_data}
use Rattle.spectra_judge.specs.Around.{comes_before}
use Rattle.spectra_bodies.specs.Places.{all_places}
use Rattle.spectra_bodies.proofs.places.+placing.Goals as goal

pub stands_behind-returns-in-Chain : goal.stands_behind-returns-in-Chain
stands_behind-returns-in-Chain t c =
    c.chain_behind.ensures
    ∙ ap (all_places (comes_before c.args.at))
    ((λ i. chained (resolved_data (c.deref.ensures i)) (map link_data (c.deref-in-Chain.ensures.value i))) ∙ sym (ap resolved_data c.in-Chain.is ∙ chain_data c.in-Chain.head c.in-Chain.links))
