-- What writing a part of a text out gives.
use Rattle.std.specs.Prelude.{◌≡◌, ℕ, Option, Result, IfOk}
use Rattle.std.specs.declared.alloc.AllocError.{AllocError}
use Rattle.spectra_copies.specs.Texts.{Out}

-- the part and the room that are left
abbrev pub Leaves : {A B : Type 0} → (A → B) → (room : Option ℕ) → Out B → Result A AllocError → Type 0
Leaves view room out result = IfOk result (λ made. record { made = view made; room = room } ≡ out)
