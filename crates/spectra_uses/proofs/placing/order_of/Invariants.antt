use Rattle.std.proofs.Common.{◌≡◌, ℕ, ◌<◌, [], map}
use Rattle.spectra_uses.specs.Searching.{IsKnown}
use Rattle.spectra_uses.specs.Placing.{placing_data, IsPlacing}
use Rattle.spectra_uses.proofs.placing.order_of.Given as goal

-- those so far are placed
abbrev pub invariant-loop-number : goal.invariant-loop-number
invariant-loop-number l =
    record {
      placing : IsPlacing (placing_data l.placer);
      uses : (placing_data l.placer).uses ≡ map (λ us. us.items) l.uses;
      empty : (placing_data l.placer).path ≡ [];
      known : (v : ℕ) → v < l.number → IsKnown (placing_data l.placer).marks v;
    }
