use Rattle.std.proofs.Common.{◌≡◌, ◌-◌, ◌≤◌, length, take}
use Rattle.sp_outside.specs.Files.{told_file}
use Rattle.sp_outside.specs.Parts.{IsFrontOf}
use Rattle.sp_outside.proofs.file.fill.Given as goal

-- the front of `buf` has that of the file, the files are the same, and the count of faults has not fallen
abbrev pub invariant-loop-at : goal.invariant-loop-at
invariant-loop-at g l = record {
  within : l.at ≤ length l.buf;
  front : IsFrontOf (told_file (g.F.Shelf.holds l.initial.shelf) l.name) l.at (take l.at l.buf);
  keeps : g.F.Shelf.holds l.shelf ≡ g.F.Shelf.holds l.initial.shelf;
  later : g.F.Shelf.faults l.initial.shelf ≤ g.F.Shelf.faults l.shelf;
}

abbrev pub decreases-loop-at : goal.decreases-loop-at
decreases-loop-at g l = length l.buf - l.at
