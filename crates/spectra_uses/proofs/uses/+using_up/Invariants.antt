use Rattle.std.proofs.Common.{◌≡◌, ◌+◌, ◌*◌, ◌++◌, max, map, drop}
use denote.Param.Weighed.{most}
use Rattle.spectra_resolved.specs.declared.tree.Resolved.{size-Resolved}
use Rattle.spectra_resolved.specs.declared.tree.Shape.{size-Shape}
use Rattle.spectra_resolved.specs.declared.tree.Link.{size-Link}
use Rattle.spectra_resolved.specs.Chained.{trees}
use Rattle.spectra_resolved.specs.Views.{resolved_data, link_data}
use Rattle.spectra_uses.specs.Uses.{each_uses}
use Rattle.spectra_uses.specs.Links.{link_uses}
use Rattle.spectra_uses.proofs.uses.+using_up.Given as goal

abbrev pub decreases-add : goal.decreases-add
decreases-add l = 8 * size-Resolved l.t.now

abbrev pub decreases-add_chain : goal.decreases-add_chain
decreases-add_chain l = 8 * max (size-Resolved l.head.now) (most (λ k. size-Link k) l.links.now) + 3

abbrev pub decreases-add_links : goal.decreases-add_links
decreases-add_links l = 8 * most (λ k. size-Link k) l.links.now + 2

abbrev pub decreases-add_shape : goal.decreases-add_shape
decreases-add_shape l = 8 * size-Shape l.shape.now + 3

abbrev pub decreases-add_quantified : goal.decreases-add_quantified
decreases-add_quantified l = 8 * max (max (size-Resolved l.low.now) (size-Resolved l.high.now)) (most (λ t. size-Resolved t) l.copies.now) + 2

abbrev pub decreases-add_call : goal.decreases-add_call
decreases-add_call l = 8 * most (λ t. size-Resolved t) l.ts.now + 2

abbrev pub decreases-add_each : goal.decreases-add_each
decreases-add_each l = 8 * most (λ t. size-Resolved t) l.ts.now + 1

-- with what is left, they are all
abbrev pub invariant-add_each-loop-t : goal.invariant-add_each-loop-t
invariant-add_each-loop-t l = l.uses.items ++ each_uses (trees (map resolved_data (drop l.t-index l.ts))) ≡ l.fn.uses.items ++ each_uses (trees (map resolved_data l.ts))

abbrev pub invariant-add_links-loop-link : goal.invariant-add_links-loop-link
invariant-add_links-loop-link l = l.uses.items ++ link_uses (map link_data (drop l.link-index l.links)) ≡ l.fn.uses.items ++ link_uses (map link_data l.links)
