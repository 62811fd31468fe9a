use Rattle.std.proofs.Common.{◌≡◌, ◌≤◌, length, drop, map}
use Rattle.spec_model.specs.Values.{assignments_of}
use Rattle.spec_model.specs.Views.{domain_data}
use Rattle.pattern_rows.proofs.choices.assignments.Given as goal

abbrev pub invariant-loop-i : goal.invariant-loop-i
invariant-loop-i l =
    record {
      within : l.i ≤ length l.domains;
      made : map (λ c. c.items) l.tails.items ≡ assignments_of (map domain_data (drop l.i l.domains));
    }

abbrev pub decreases-loop-i : goal.decreases-loop-i
decreases-loop-i l = l.i
