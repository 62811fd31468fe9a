use Rattle.std.proofs.Common.{◌≡◌, ℕ, ◌<◌, Some, slice_get}
use Rattle.spectra_uses.specs.Searching.{IsKnown}
use Rattle.spectra_uses.specs.Walking.{Enters}
use Rattle.spectra_uses.proofs.walking.enter_each.Given as goal

-- those so far are known
abbrev pub invariant-loop-number : goal.invariant-loop-number
invariant-loop-number l =
    record {
      enters : Enters l.fn.marks.items l.marks.items l.fn.reached.items l.reached.items l.list;
      known : (i v : ℕ) → i < l.number-index → slice_get l.list i ≡ Some v → IsKnown l.marks.items v;
    }
