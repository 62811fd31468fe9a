use Rattle.std.proofs.Common.{◌≡◌, ◌+◌, ◌*◌, ◌++◌, max, map, drop}
use denote.Param.Weighed.{most}
use Rattle.spectra_resolved.specs.declared.tree.Resolved.{size-Resolved}
use Rattle.spectra_resolved.specs.declared.tree.Shape.{size-Shape}
use Rattle.spectra_resolved.specs.declared.tree.Link.{size-Link}
use Rattle.spectra_resolved.specs.Views.{link_data}
use Rattle.spectra_judge.specs.KindViews.{known_data}
use Rattle.spectra_cases.specs.Wholes.{choice_data}
use Rattle.spectra_cases.proofs.Rows.{row_choices}
use Rattle.spectra_cases.proofs.choosing.+gathering.Given as goal

-- those so far and those of what is left are all
abbrev pub invariant-gather_row-loop-link : goal.invariant-gather_row-loop-link
invariant-gather_row-loop-link l =
    map choice_data l.choices.items ++ row_choices (known_data l.known) (map link_data (drop l.link-index l.row)) l.under
    ≡ map choice_data l.initial.choices.items ++ row_choices (known_data l.known) (map link_data l.row) l.under

abbrev pub decreases-gather : goal.decreases-gather
decreases-gather l = 8 * size-Resolved l.t.now

abbrev pub decreases-gather_row : goal.decreases-gather_row
decreases-gather_row l = 8 * max (size-Resolved l.head.now) (most (λ k. size-Link k) l.links.now) + 3

abbrev pub decreases-gather_front : goal.decreases-gather_front
decreases-gather_front l = 8 * size-Resolved l.head.now + 1

abbrev pub decreases-gather_shape : goal.decreases-gather_shape
decreases-gather_shape l = 8 * size-Shape l.shape.now + 3
