-- How often an input is read for its lines, and how much is taken.
use Rattle.std.specs.Prelude.{ℕ, ◌+◌, ◌*◌, Bool, true, false, List, length, Option, Some, None}
use Rattle.sp_outside.specs.Parts.{ReadsUpTo}
use Rattle.session_lines.specs.declared.reader.Taken.{Taken}
use Rattle.session_lines.specs.declared.reader.Taken.TheVariants as taken
use Rattle.session_lines.specs.InputLines.{line_room}

-- how many reads took no byte: the one that found the end of the input
abbrev pub end_reads : (ended : Bool) → ℕ
end_reads true = 1
end_reads false = 0

-- or the one that failed
abbrev pub idle_reads : (ended : Bool) → Taken → ℕ
idle_reads false taken.Failed = 1
idle_reads ended what = end_reads ended

-- So many lines were handed out: what was taken is no more than these lines, each with its line feed, and what is there; and
-- each read took at least one byte, but for the one that found the end.
abbrev pub ReadsLines : (lines : ℕ) → (ended : Bool) → (pending : List ℕ) → (left_old left_new : Option (List ℕ)) → (reads_old reads_new : ℕ) → Type 0
ReadsLines lines ended pending = ReadsUpTo (line_room * lines + length pending) (end_reads ended)

-- At most so many lines were handed out: what was taken is no more than these lines and one line more, and each read but one
-- took at least one byte.
abbrev pub ReadsForLines : (lines : ℕ) → (left_old left_new : Option (List ℕ)) → (reads_old reads_new : ℕ) → Type 0
ReadsForLines lines = ReadsUpTo (line_room * (lines + 1)) 1

-- what came of a turn behind so many lines: one line more was handed out, or the input is not read again
abbrev pub ReadsOneMore : {E : Type 0} → (lines : ℕ) → (ended : Bool) → (pending : List ℕ) → (left_old left_new : Option (List ℕ)) → (reads_old reads_new : ℕ) → Option E → Type 0
ReadsOneMore lines ended pending left_old left_new reads_old reads_new None = ReadsLines (lines + 1) ended pending left_old left_new reads_old reads_new
ReadsOneMore lines ended pending left_old left_new reads_old reads_new (Some end) = ReadsForLines (lines + 1) left_old left_new reads_old reads_new
