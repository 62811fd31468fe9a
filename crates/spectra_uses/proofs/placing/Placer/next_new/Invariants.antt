use Rattle.std.proofs.Common.{◌≡◌, ℕ, ◌<◌, Some, slice_get}
use Rattle.spectra_uses.specs.Searching.{IsKnown}
use Rattle.spectra_uses.specs.Placing.{placing_data}
use Rattle.spectra_uses.proofs.placing.Placer.next_new.Given as goal

-- those so far are known
abbrev pub invariant-loop-place : goal.invariant-loop-place
invariant-loop-place l =
    record {
      same : l.self ≡ l.fn.self;
      known : (i v : ℕ) → i < l.place → slice_get l.list i ≡ Some v → IsKnown (placing_data l.self).marks v;
    }
