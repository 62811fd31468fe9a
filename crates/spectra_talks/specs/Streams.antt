-- What the program did to its input and its output, seen as one value before and one after.
use Rattle.std.specs.Prelude.{◌≡◌, ℕ, List, [], Option}
use Rattle.std.specs.Io.KnownBytes.{Appends}
use Rattle.sp_outside.specs.Causes.{Rose}
use Rattle.sp_outside.specs.Written.{AppendsFront}
use Rattle.spectra_talks.specs.declared.status.Status.{Status}
use Rattle.spectra_talks.specs.declared.status.Status.TheVariants.{OutputFault, Memory}
use Rattle.spectra_talks.specs.Endings.{Ending, line_of, status_of}

-- What is told of the input and the output: the bytes to come, the bytes written, how often the input was read, and how often
-- each of them failed.
pub record Moment : Type 0 where
  pub left : Option (List ℕ)
  pub written : Option (List ℕ)
  pub reads : ℕ
  pub read_faults : ℕ
  pub write_faults : ℕ

abbrev pub moment : (left written : Option (List ℕ)) (reads read_faults write_faults : ℕ) → Moment
moment left written reads read_faults write_faults = record { left = left; written = written; reads = reads; read_faults = read_faults; write_faults = write_faults }

-- the moment of an input and an output, by what each of the two tells
abbrev pub moments : {I O : Type 0} → (I → Option (List ℕ)) → (O → Option (List ℕ)) → (I → ℕ) → (I → ℕ) → (O → ℕ) → I → O → Moment
moments left written reads read_faults write_faults input output = moment (left input) (written output) (reads input) (read_faults input) (write_faults output)

-- the input was not read
pub record IsUnread (before after : Moment) : Type 0 where
  pub left : after.left ≡ before.left
  pub reads : after.reads ≡ before.reads
  pub faults : after.read_faults ≡ before.read_faults

module _ (line : List ℕ) (expected : Status) (before after : Moment) where
  -- The line is written, with this status; or the output failed, and a front of it is written. The input was not read.
  pub data Writes : Status → Type 0 where
    whole : IsUnread before after → Appends before.written after.written line → Writes expected
    cut : IsUnread before after → AppendsFront before.written after.written line → Rose before.write_faults after.write_faults → Writes OutputFault

-- the run ends so, with its line and its status
abbrev pub Ends : Ending → (before after : Moment) → Status → Type 0
Ends e before after status = Writes (line_of e) (status_of e) before after status

-- no memory was given: nothing is written, and the input was not read
pub record WantsMemory (before after : Moment) (status : Status) : Type 0 where
  pub is : status ≡ Memory
  pub nothing_written : Appends before.written after.written []
  pub unread : IsUnread before after
