use Rattle.std.proofs.Common.{◌≡◌, ◌+◌, ◌*◌, max, drop, map}
use denote.Param.Weighed.{most}
use Rattle.spectra_resolved.specs.declared.tree.Resolved.{size-Resolved}
use Rattle.spectra_resolved.specs.declared.tree.Shape.{size-Shape}
use Rattle.spectra_resolved.specs.declared.tree.Link.{size-Link}
use Rattle.spectra_resolved.specs.Views.{link_data}
use Rattle.spectra_copies.specs.ChainNumbers.{chain_number}
use Rattle.spectra_copies.proofs.numbers.+numbering.Given as goal

abbrev pub decreases-number_in : goal.decreases-number_in
decreases-number_in l = 8 * size-Resolved l.t.now

abbrev pub decreases-chain_number : goal.decreases-chain_number
decreases-chain_number l = 8 * max (size-Resolved l.head.now) (most (λ k. size-Link k) l.links.now) + 3

abbrev pub decreases-links_number : goal.decreases-links_number
decreases-links_number l = 8 * most (λ k. size-Link k) l.links.now + 2

abbrev pub decreases-link_number : goal.decreases-link_number
decreases-link_number l = 8 * size-Link l.link.now + 1

abbrev pub decreases-shape_number : goal.decreases-shape_number
decreases-shape_number l = 8 * size-Shape l.shape.now + 4

-- the operators that are left make the answer
abbrev pub invariant-links_number-loop-link : goal.invariant-links_number-loop-link
invariant-links_number-loop-link l = chain_number l.numbers l.number (map link_data (drop l.link-index l.links)) ≡ chain_number l.numbers l.fn.first (map link_data l.links)
