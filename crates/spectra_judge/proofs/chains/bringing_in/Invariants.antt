use Rattle.std.proofs.Common.{◌≡◌, ℕ, ◌≤◌, None, length, drop, map}
use Rattle.spectra_resolved.specs.Views.{link_data}
use Rattle.spectra_judge.specs.Chains.{brought_in}
use Rattle.spectra_judge.proofs.chains.bringing_in.Given as goal

-- none of those that were looked at is a past operator that a body brings
abbrev pub invariant-loop-last : goal.invariant-loop-last
invariant-loop-last l =
    record {
      within : l.last ≤ length l.links;
      nothing : (place : ℕ) → l.last ≤ place → brought_in (map link_data (drop place l.links)) ≡ None;
    }

abbrev pub decreases-loop-last : goal.decreases-loop-last
decreases-loop-last l = l.last
