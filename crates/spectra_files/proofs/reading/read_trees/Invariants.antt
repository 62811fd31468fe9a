use Rattle.std.proofs.Common.{◌≡◌, ◌≤◌, All, map, take, string_bytes}
use Rattle.std.specs.Vec.{vec_len}
use Rattle.sp_outside.specs.Files.{told_file}
use Rattle.spectra_trees.specs.Views.{tree_data}
use Rattle.spectra_parser.specs.Shapes.{IsShaped}
use Rattle.spectra_files.specs.Reading.{FilesReadAs}
use Rattle.spectra_files.proofs.reading.read_trees.Given as goal

-- the files so far are read, which are as many as their trees, the files are the same, and the count of faults has not fallen
abbrev pub invariant-loop-name : goal.invariant-loop-name
invariant-loop-name g l = record {
  read : FilesReadAs (told_file (g.F.Shelf.holds l.initial.shelf)) (take l.name-index (map string_bytes l.names)) (map tree_data l.trees.items);
  count : vec_len l.trees ≡ l.name-index;
  shaped : All IsShaped (map tree_data l.trees.items);
  keeps : g.F.Shelf.holds l.shelf ≡ g.F.Shelf.holds l.initial.shelf;
  later : g.F.Shelf.faults l.initial.shelf ≤ g.F.Shelf.faults l.shelf;
}
