use Rattle.std.proofs.Common.{ℕ, ◌<◌}
use Rattle.spectra_uses.specs.Searching.{IsKnown}
use Rattle.spectra_uses.specs.Settling.{rings_data, SettlesOn}
use Rattle.spectra_uses.proofs.cycles.Rings.settle_all.Given as goal

-- those so far are settled
abbrev pub invariant-loop-number : goal.invariant-loop-number
invariant-loop-number l =
    record {
      on : SettlesOn (rings_data l.fn.self) (rings_data l.self);
      known : (k : ℕ) → k < l.number → IsKnown (rings_data l.self).settled k;
    }
