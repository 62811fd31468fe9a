use Rattle.std.proofs.Common.{◌≡◌, ◌+◌, ◌*◌, ◌∷◌, max, drop, map}
use denote.Param.Weighed.{most}
use Rattle.spectra_resolved.specs.declared.tree.Resolved.{size-Resolved}
use Rattle.spectra_resolved.specs.declared.tree.Shape.{size-Shape}
use Rattle.spectra_resolved.specs.declared.tree.Link.{size-Link}
use Rattle.spectra_resolved.specs.Chained.{chained, trees}
use Rattle.spectra_resolved.specs.Views.{resolved_data, link_data}
use Rattle.spectra_resolved.specs.Findings.{with_faults}
use Rattle.spectra_resolved.specs.Reports.{found_in}
use Rattle.spectra_judge.specs.KindViews.{kind_data, setting_data}
use Rattle.spectra_judge.specs.Known.{wanted}
use Rattle.spectra_judge.specs.Judged.{kind_of, faults, operand_faults, argument_faults, copy_faults}
use Rattle.spectra_judge.specs.Chains.{chain_kind, chain_faults}
use Rattle.spectra_judge.proofs.walking.+walking.Given as goal

-- what is left is the answer
abbrev pub invariant-walk_chain-loop-link : goal.invariant-walk_chain-loop-link
invariant-walk_chain-loop-link l =
    record {
      place : l.place ≡ l.link-index;
      kind : chain_kind (setting_data l.setting).known (kind_data l.kind) (map link_data (drop l.link-index l.links))
          ≡ kind_of (setting_data l.setting).known (chained (resolved_data l.head) (map link_data l.links));
      found : with_faults (found_in l.findings) (chain_faults (setting_data l.setting) l.around (kind_data l.kind) (map link_data (drop l.link-index l.links)))
          ≡ with_faults (found_in l.fn.findings) (faults (setting_data l.setting) l.around (chained (resolved_data l.head) (map link_data l.links)));
    }

abbrev pub invariant-walk_operands-loop-t : goal.invariant-walk_operands-loop-t
invariant-walk_operands-loop-t l =
    record {
      place : l.place ≡ l.t-index;
      found : with_faults (found_in l.findings) (operand_faults (setting_data l.setting) l.around l.at (drop l.t-index (l.at ∷ l.operators)) (trees (map resolved_data (drop l.t-index l.ts))))
          ≡ with_faults (found_in l.fn.findings) (operand_faults (setting_data l.setting) l.around l.at (l.at ∷ l.operators) (trees (map resolved_data l.ts)));
    }

abbrev pub invariant-walk_arguments-loop-t : goal.invariant-walk_arguments-loop-t
invariant-walk_arguments-loop-t l =
    record {
      place : l.place ≡ l.t-index;
      found : with_faults (found_in l.findings) (argument_faults (setting_data l.setting) l.around (drop l.t-index (wanted (setting_data l.setting).known l.predicate)) (trees (map resolved_data (drop l.t-index l.ts))))
          ≡ with_faults (found_in l.fn.findings) (argument_faults (setting_data l.setting) l.around (wanted (setting_data l.setting).known l.predicate) (trees (map resolved_data l.ts)));
    }

abbrev pub invariant-walk_copies-loop-t : goal.invariant-walk_copies-loop-t
invariant-walk_copies-loop-t l =
    with_faults (found_in l.findings) (copy_faults (setting_data l.setting) l.around (trees (map resolved_data (drop l.t-index l.copies))))
    ≡ with_faults (found_in l.fn.findings) (copy_faults (setting_data l.setting) l.around (trees (map resolved_data l.copies)))

abbrev pub decreases-walk : goal.decreases-walk
decreases-walk l = 8 * size-Resolved l.tree.now

abbrev pub decreases-walk_chain : goal.decreases-walk_chain
decreases-walk_chain l = 8 * max (size-Resolved l.head.now) (most (λ k. size-Link k) l.links.now) + 3

abbrev pub decreases-walk_link : goal.decreases-walk_link
decreases-walk_link l = 8 * size-Link l.link.now + 1

abbrev pub decreases-walk_shape : goal.decreases-walk_shape
decreases-walk_shape l = 8 * size-Shape l.shape.now + 4

abbrev pub decreases-walk_prefix : goal.decreases-walk_prefix
decreases-walk_prefix l = 8 * size-Resolved l.t.now + 1

abbrev pub decreases-walk_remainder : goal.decreases-walk_remainder
decreases-walk_remainder l = 8 * size-Resolved l.t.now + 1

abbrev pub decreases-walk_operands : goal.decreases-walk_operands
decreases-walk_operands l = 8 * most (λ t. size-Resolved t) l.ts.now + 2

abbrev pub decreases-walk_operand : goal.decreases-walk_operand
decreases-walk_operand l = 8 * size-Resolved l.t.now + 1

abbrev pub decreases-walk_arguments : goal.decreases-walk_arguments
decreases-walk_arguments l = 8 * most (λ t. size-Resolved t) l.ts.now + 2

abbrev pub decreases-walk_argument : goal.decreases-walk_argument
decreases-walk_argument l = 8 * size-Resolved l.t.now + 1

abbrev pub decreases-walk_index : goal.decreases-walk_index
decreases-walk_index l = 8 * size-Resolved l.t.now + 1

abbrev pub decreases-walk_quantified : goal.decreases-walk_quantified
decreases-walk_quantified l = 8 * max (max (size-Resolved l.low.now) (size-Resolved l.high.now)) (most (λ t. size-Resolved t) l.copies.now) + 3

abbrev pub decreases-walk_bounds : goal.decreases-walk_bounds
decreases-walk_bounds l = 8 * max (size-Resolved l.low.now) (size-Resolved l.high.now) + 2

abbrev pub decreases-walk_bound : goal.decreases-walk_bound
decreases-walk_bound l = 8 * size-Resolved l.t.now + 1

abbrev pub decreases-walk_copies : goal.decreases-walk_copies
decreases-walk_copies l = 8 * most (λ t. size-Resolved t) l.copies.now + 2

abbrev pub decreases-walk_copy : goal.decreases-walk_copy
decreases-walk_copy l = 8 * size-Resolved l.t.now + 1
