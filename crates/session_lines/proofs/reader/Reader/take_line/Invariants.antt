use Rattle.std.proofs.Common.{◌≡◌, ℕ, ◌+◌, ◌-◌, ◌≤◌, false, List, ◌++◌, length}
use Rattle.std.specs.Io.KnownBytes.{Consumes}
use Rattle.session_lines.specs.Pieces.{reader_pending, HasNoFeedBelow}
use Rattle.session_lines.proofs.reader.Reader.take_line.Given as goal

-- What is there is what was there and what came since, each read took some of that, and the front that was looked at has no
-- line feed.
abbrev pub invariant-loop-at : goal.invariant-loop-at
invariant-loop-at g l = record {
  came : (got : List ℕ) × Consumes (g.I.Source.left l.initial.input) (g.I.Source.left l.input) got × (reader_pending l.self ≡ reader_pending l.initial.self ++ got) × (g.I.Source.reads l.input ≤ g.I.Source.reads l.initial.input + length got);
  within : l.looked ≤ length (reader_pending l.self);
  none_before : HasNoFeedBelow l.looked (reader_pending l.self);
  open_still : l.self.ended ≡ false;
  later : g.I.Source.faults l.initial.input ≤ g.I.Source.faults l.input;
}

abbrev pub decreases-loop-at : goal.decreases-loop-at
decreases-loop-at g l = 65537 - length (reader_pending l.self)
