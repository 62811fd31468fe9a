use Rattle.std.proofs.Common.{◌≡◌, ◌++◌, map, drop}
use Rattle.spectra_resolved.specs.Views.{resolved_data}
use Rattle.spectra_lines.specs.Views.{trees_data}
use Rattle.spectra_lines.proofs.trees.add_trees.Given as goal

-- those so far and what is left are all
abbrev pub invariant-loop-t : goal.invariant-loop-t
invariant-loop-t l = trees_data l.trees.items ++ map resolved_data (drop l.t-index l.ts) ≡ trees_data l.fn.trees.items ++ map resolved_data l.ts
