use Rattle.std.proofs.Common.{◌≡◌, ◌+◌, ◌*◌, max, map, drop}
use denote.Param.Weighed.{most}
use Rattle.std.specs.List.{list_all}
use Rattle.spectra_resolved.specs.declared.tree.Resolved.{size-Resolved}
use Rattle.spectra_resolved.specs.declared.tree.Shape.{size-Shape}
use Rattle.spectra_resolved.specs.declared.tree.Link.{size-Link}
use Rattle.spectra_resolved.specs.Chained.{trees}
use Rattle.spectra_resolved.specs.Views.{resolved_data, link_data}
use Rattle.spectra_judge.specs.Around.{comes_before}
use Rattle.spectra_bodies.specs.Places.{link_places, each_places}
use Rattle.spectra_bodies.proofs.places.+placing.Given as goal

abbrev pub decreases-stands_behind : goal.decreases-stands_behind
decreases-stands_behind l = 8 * size-Resolved l.t.now

abbrev pub decreases-chain_behind : goal.decreases-chain_behind
decreases-chain_behind l = 8 * max (size-Resolved l.head.now) (most (λ k. size-Link k) l.links.now) + 3

abbrev pub decreases-links_behind : goal.decreases-links_behind
decreases-links_behind l = 8 * most (λ k. size-Link k) l.links.now + 2

abbrev pub decreases-link_behind : goal.decreases-link_behind
decreases-link_behind l = 8 * size-Link l.link.now + 1

abbrev pub decreases-shape_behind : goal.decreases-shape_behind
decreases-shape_behind l = 8 * size-Shape l.shape.now + 4

abbrev pub decreases-bounded_behind : goal.decreases-bounded_behind
decreases-bounded_behind l = 8 * max (size-Resolved l.low.now) (max (size-Resolved l.high.now) (most (λ t. size-Resolved t) l.copies.now)) + 3

abbrev pub decreases-each_behind : goal.decreases-each_behind
decreases-each_behind l = 8 * most (λ t. size-Resolved t) l.ts.now + 1

-- those that are left decide
abbrev pub invariant-links_behind-loop-link : goal.invariant-links_behind-loop-link
invariant-links_behind-loop-link l = list_all (link_places (comes_before l.at)) (map link_data (drop l.link-index l.links)) ≡ list_all (link_places (comes_before l.at)) (map link_data l.links)

abbrev pub invariant-each_behind-loop-t : goal.invariant-each_behind-loop-t
invariant-each_behind-loop-t l = each_places (comes_before l.at) (trees (map resolved_data (drop l.t-index l.ts))) ≡ each_places (comes_before l.at) (trees (map resolved_data l.ts))
