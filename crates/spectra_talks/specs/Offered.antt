-- A line that is offered to an output, and what is kept of it.
use Rattle.std.specs.Prelude.{◌⊎◌, ℕ, List, Option}
use Rattle.spectra_talks.specs.declared.status.Status.{Status}
use Rattle.spectra_talks.specs.Endings.{Ending}
use Rattle.spectra_talks.specs.Streams.{Moment, moment, Ends, WantsMemory}

-- the output is all that has a part in it, whatever the input is
abbrev pub OverOutput : {O : Type 0} → (O → Option (List ℕ)) → (O → ℕ) → (old new : O) → (Moment → Moment → Type 0) → Type 0
OverOutput written faults old new Does = (left : Option (List ℕ)) (reads read_faults : ℕ) → Does (moment left (written old) reads read_faults (faults old)) (moment left (written new) reads read_faults (faults new))

-- the run ends so, or no memory was given for the line; the input has no part in it
abbrev pub IsSaid : {O : Type 0} → (O → Option (List ℕ)) → (O → ℕ) → Ending → (old new : O) → Status → Type 0
IsSaid written faults e old new status = OverOutput written faults old new (λ before after. Ends e before after status ⊎ WantsMemory before after status)
