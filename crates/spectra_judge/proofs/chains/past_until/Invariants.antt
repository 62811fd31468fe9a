use Rattle.std.proofs.Common.{◌≡◌, ℕ, ◌≤◌, false, length, drop, map}
use Rattle.spectra_resolved.specs.Views.{link_data}
use Rattle.spectra_judge.specs.Chains.{has_past}
use Rattle.spectra_judge.proofs.chains.past_until.Given as goal

-- none of those that were looked at is a past operator
abbrev pub invariant-loop-last : goal.invariant-loop-last
invariant-loop-last l =
    record {
      within : l.last ≤ length l.links;
      nothing : (place : ℕ) → l.last ≤ place → has_past (map link_data (drop place l.links)) ≡ false;
    }

abbrev pub decreases-loop-last : goal.decreases-loop-last
decreases-loop-last l = l.last
