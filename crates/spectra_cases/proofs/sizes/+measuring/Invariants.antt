use Rattle.std.proofs.Common.{◌≡◌, ◌+◌, ◌*◌, ◌&&◌, max, map, take, nat_le}
use denote.Param.Weighed.{most}
use Rattle.spectra_resolved.specs.declared.tree.Resolved.{size-Resolved}
use Rattle.spectra_resolved.specs.declared.tree.Shape.{size-Shape}
use Rattle.spectra_resolved.specs.declared.tree.Link.{size-Link}
use Rattle.spectra_resolved.specs.Chained.{chained, trees}
use Rattle.spectra_resolved.specs.Views.{resolved_data, link_data}
use Rattle.spectra_judge.specs.KindViews.{known_data}
use Rattle.spectra_cases.specs.Sizes.{measured, each_measured}
use Rattle.spectra_cases.specs.SizeViews.{size_data, side_data}
use Rattle.spectra_cases.proofs.sizes.+measuring.Given as goal

-- what is measured of the operators so far
abbrev pub invariant-measure_row-loop-link : goal.invariant-measure_row-loop-link
invariant-measure_row-loop-link l =
    record {
      place : l.place ≡ l.link-index;
      side : side_data l.side ≡ measured (known_data l.known) (chained (resolved_data l.head) (map link_data (take l.link-index l.links))) (l.under && nat_le l.before l.link-index);
    }

-- those so far together
abbrev pub invariant-size_of_each-loop-t : goal.invariant-size_of_each-loop-t
invariant-size_of_each-loop-t l = size_data l.all ≡ each_measured (known_data l.known) (trees (map resolved_data (take l.t-index l.ts)))

abbrev pub decreases-measure : goal.decreases-measure
decreases-measure l = 8 * size-Resolved l.t.now

abbrev pub decreases-measure_row : goal.decreases-measure_row
decreases-measure_row l = 8 * max (size-Resolved l.head.now) (most (λ k. size-Link k) l.links.now) + 3

abbrev pub decreases-measure_shape : goal.decreases-measure_shape
decreases-measure_shape l = 8 * size-Shape l.shape.now + 5

abbrev pub decreases-measure_above : goal.decreases-measure_above
decreases-measure_above l = 8 * size-Resolved l.t.now + 1

abbrev pub decreases-measure_index : goal.decreases-measure_index
decreases-measure_index l = 8 * size-Resolved l.t.now + 1

abbrev pub decreases-size_of_each : goal.decreases-size_of_each
decreases-size_of_each l = 8 * most (λ t. size-Resolved t) l.ts.now + 2

abbrev pub decreases-measure_apart : goal.decreases-measure_apart
decreases-measure_apart l = 8 * size-Resolved l.t.now + 1
