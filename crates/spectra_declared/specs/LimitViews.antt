-- Of what there may be so many.
use Rattle.std.specs.Prelude.{ℕ}
use Rattle.spectra_trees.specs.Data.{ItemData}
use Rattle.spectra_declared.specs.declared.limits.Limited.{Limited}
use Rattle.spectra_declared.specs.declared.limits.Limited.TheVariants as limits
use Rattle.spectra_declared.specs.Declarations.{variables_of, lines_of}

-- how many of what is limited an item has
abbrev pub weight_of : Limited → ItemData → ℕ
weight_of limits.Variables = variables_of
weight_of limits.Lines = lines_of
