use Rattle.std.proofs.Common.{◌≡◌, ◌-◌, ◌≤◌, vec_len}
use Rattle.sp_outside.specs.Files.{told_file}
use Rattle.sp_outside.specs.Parts.{IsFrontOf}
use Rattle.sp_outside.proofs.file.read_file.Given as goal

-- all of `bytes` is the front of the file, the files are the same, and the count of faults has not fallen
abbrev pub invariant-loop-bytes : goal.invariant-loop-bytes
invariant-loop-bytes g l = record {
  within : vec_len l.bytes ≤ l.limit;
  front : IsFrontOf (told_file (g.F.Shelf.holds l.initial.shelf) l.name) (vec_len l.bytes) l.bytes.items;
  keeps : g.F.Shelf.holds l.shelf ≡ g.F.Shelf.holds l.initial.shelf;
  later : g.F.Shelf.faults l.initial.shelf ≤ g.F.Shelf.faults l.shelf;
}

abbrev pub decreases-loop-bytes : goal.decreases-loop-bytes
decreases-loop-bytes g l = l.limit - vec_len l.bytes
