use Rattle.std.proofs.Common.{◌≡◌, Some, drop}
use Rattle.spectra_judge.specs.KindViews.{known_data}
use Rattle.spectra_lines.specs.Rooms.{behind_formulas}
use Rattle.spectra_lines.specs.Views.{trees_data}
use Rattle.spectra_lines.proofs.sizes.behind_trees.Given as goal

-- what is left behind the rest is left behind all
abbrev pub invariant-loop-t : goal.invariant-loop-t
invariant-loop-t l = behind_formulas (known_data l.known) (Some l.left) (trees_data (drop l.t-index l.trees)) ≡ behind_formulas (known_data l.known) (Some l.fn.room) (trees_data l.trees)
