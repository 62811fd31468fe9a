-- What those who ask a shelf for a part of a file learn of it, and what is taken of an input.
use Rattle.std.specs.Io.KnownBytes.{Consumes, IsAtEnd}
use Rattle.std.specs.Prelude.{◌≡◌, ℕ, ◌+◌, ◌-◌, ◌<◌, ◌≤◌, min, List, [], length, take, drop, Option, None, Some, Result, Ok, Err}

-- the bytes are the first of the file, as many as the limit lets; where there is no file, it lets none
abbrev pub IsFrontOf : Option (Option (List ℕ)) → ℕ → List ℕ → Type 0
IsFrontOf None limit bytes = Unit {0}
IsFrontOf (Some None) limit bytes = (limit ≡ 0) × (bytes ≡ [])
IsFrontOf (Some (Some file)) limit bytes = bytes ≡ take limit file

-- the front of buf has the n bytes of the file from that place on, and none only where there is none
pub record IsPart (bytes : List ℕ) (from n : ℕ) (buf : List ℕ) : Type 0 where
  pub within : n ≤ length bytes - from
  pub same : take n buf ≡ take n (drop from bytes)
  pub at_end : n ≡ 0 → 0 < length buf → length bytes ≤ from

-- a part comes only of a file that is there, `None` only where it isn't, and a fault tells nothing
abbrev pub GivesPart : {E : Type 0} → Option (Option (List ℕ)) → ℕ → Result (Option ℕ) E → List ℕ → Type 0
GivesPart None from r buf = Unit {0}
GivesPart (Some file) from (Err e) buf = Unit {0}
GivesPart (Some file) from (Ok None) buf = file ≡ None
GivesPart (Some None) from (Ok (Some n)) buf = ⊥
GivesPart (Some (Some bytes)) from (Ok (Some n)) buf = IsPart bytes from n buf

-- the bytes were taken from the front of what an input had left: as many as the limit lets, or all
pub record TakesUpTo (limit : ℕ) (left_old left_new : Option (List ℕ)) (bytes : List ℕ) : Type 0 where
  pub taken : Consumes left_old left_new bytes
  pub within : length bytes ≤ limit
  pub whole : length bytes < limit → IsAtEnd left_new

-- At most so many bytes were taken of an input, and it was read at most once for each of them and `idle` times more: each
-- other read took at least one byte.
pub record ReadsUpTo (most idle : ℕ) (left_old left_new : Option (List ℕ)) (reads_old reads_new : ℕ) : Type 0 where
  pub given : List ℕ
  pub taken_from : Consumes left_old left_new given
  pub within : length given ≤ most
  pub each : reads_new ≤ reads_old + (length given + idle)

-- how many reads took no byte where so much room was to be filled: none where it was, or the one that found the end, or failed
abbrev pub idle_in : {E : Type 0} → (room : ℕ) → Result ℕ E → ℕ
idle_in room (Ok end) = min 1 (room - end)
idle_in room (Err e) = 1
