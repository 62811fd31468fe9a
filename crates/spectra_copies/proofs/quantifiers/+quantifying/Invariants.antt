use Rattle.std.proofs.Common.{◌≡◌, ◌+◌, ◌*◌, max, drop, map}
use denote.Param.Weighed.{most}
use Rattle.spectra_resolved.specs.declared.tree.Resolved.{size-Resolved}
use Rattle.spectra_resolved.specs.declared.tree.Shape.{size-Shape}
use Rattle.spectra_resolved.specs.declared.tree.Link.{size-Link}
use Rattle.spectra_resolved.specs.Chained.{trees}
use Rattle.spectra_resolved.specs.Views.{resolved_data, link_data}
use Rattle.spectra_copies.specs.Copies.{some_quantified}
use Rattle.spectra_copies.specs.QuantifiedLinks.{links_quantified}
use Rattle.spectra_copies.proofs.quantifiers.+quantifying.Given as goal

abbrev pub decreases-has_quantifier : goal.decreases-has_quantifier
decreases-has_quantifier l = 8 * size-Resolved l.t.now

abbrev pub decreases-chain_has : goal.decreases-chain_has
decreases-chain_has l = 8 * max (size-Resolved l.head.now) (most (λ k. size-Link k) l.links.now) + 3

abbrev pub decreases-links_have : goal.decreases-links_have
decreases-links_have l = 8 * most (λ k. size-Link k) l.links.now + 2

abbrev pub decreases-some_has : goal.decreases-some_has
decreases-some_has l = 8 * most (λ t. size-Resolved t) l.ts.now + 1

abbrev pub decreases-shape_has : goal.decreases-shape_has
decreases-shape_has l = 8 * size-Shape l.shape.now + 3

-- those that are left decide
abbrev pub invariant-links_have-loop-link : goal.invariant-links_have-loop-link
invariant-links_have-loop-link l = links_quantified (map link_data (drop l.link-index l.links)) ≡ links_quantified (map link_data l.links)

abbrev pub invariant-some_has-loop-t : goal.invariant-some_has-loop-t
invariant-some_has-loop-t l = some_quantified (trees (map resolved_data (drop l.t-index l.ts))) ≡ some_quantified (trees (map resolved_data l.ts))
