use Rattle.std.proofs.Common.{◌≡◌, ◌+◌, ◌*◌, max, drop, map}
use denote.Param.Weighed.{most}
use Rattle.spectra_resolved.specs.declared.tree.Resolved.{size-Resolved}
use Rattle.spectra_resolved.specs.declared.tree.Shape.{size-Shape}
use Rattle.spectra_resolved.specs.declared.tree.Link.{size-Link}
use Rattle.spectra_resolved.specs.Views.{link_data}
use Rattle.spectra_judge.specs.KindViews.{kind_data, known_data}
use Rattle.spectra_judge.specs.Chains.{chain_kind}
use Rattle.spectra_judge.proofs.kinding.+kinding.Given as goal

abbrev pub decreases-kind_of : goal.decreases-kind_of
decreases-kind_of l = 8 * size-Resolved l.t.now

abbrev pub decreases-chain_kind : goal.decreases-chain_kind
decreases-chain_kind l = 8 * max (size-Resolved l.head.now) (most (λ k. size-Link k) l.links.now) + 3

abbrev pub decreases-links_kind : goal.decreases-links_kind
decreases-links_kind l = 8 * most (λ k. size-Link k) l.links.now + 2

abbrev pub decreases-shape_kind : goal.decreases-shape_kind
decreases-shape_kind l = 8 * size-Shape l.shape.now + 3

-- what is left gives what all of them do
abbrev pub invariant-links_kind-loop-link : goal.invariant-links_kind-loop-link
invariant-links_kind-loop-link l =
    chain_kind (known_data l.known) (kind_data l.kind) (map link_data (drop l.link-index l.links)) ≡ chain_kind (known_data l.known) (kind_data l.fn.first) (map link_data l.links)
