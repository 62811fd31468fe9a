use Rattle.std.proofs.Common.{◌≡◌, drop, map}
use Rattle.spectra_trees.specs.Classes.{class_in}
use Rattle.spectra_trees.proofs.spellings.class_in.Given as goal

-- what is left decides
abbrev pub invariant-loop-spelling : goal.invariant-loop-spelling
invariant-loop-spelling l = class_in (map (λ row. (row.0.now, row.1)) (drop l.spelling-index l.rows)) l.text ≡ class_in (map (λ row. (row.0.now, row.1)) l.rows) l.text
