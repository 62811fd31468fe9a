-- What stands in a buffer, and how it grows.
use Rattle.std.specs.Prelude.{◌≡◌, ◌≢◌, ℕ, ◌-◌, ◌<◌, List, ◌++◌, length, take, drop, slice_index, Option}
use Rattle.std.specs.Io.KnownBytes.{Consumes}
use Rattle.session_lines.specs.declared.reader.Reader.{Reader}

-- the bytes that were taken of the input and not handed out yet
abbrev pub reader_pending : Reader → List ℕ
reader_pending r = take (r.end - r.start) (drop r.start r.buffer.items)

-- the line that was handed out last
abbrev pub reader_line : Reader → List ℕ
reader_line r = take (r.line_end - r.line_start) (drop r.line_start r.buffer.items)

-- no line feed is among the first n bytes
abbrev pub HasNoFeedBelow : ℕ → List ℕ → Type 0
HasNoFeedBelow n bytes = (k : ℕ) → k < n → slice_index bytes k ≢ 10

abbrev pub HasNoFeed : List ℕ → Type 0
HasNoFeed bytes = HasNoFeedBelow (length bytes) bytes

-- so many bytes were moved from what the input had left behind those that were there
pub record Grows (old_left new_left : Option (List ℕ)) (before after : List ℕ) (n : ℕ) : Type 0 where
  pub got : List ℕ
  pub count : length got ≡ n
  pub taken_from : Consumes old_left new_left got
  pub behind : after ≡ before ++ got
