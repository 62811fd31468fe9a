-- What an answer of the program says of several files.
use Rattle.std.specs.Prelude.{◌≡◌, ℕ, min, List, Some}
use Rattle.spectra_trees.specs.Data.{TreeData}
use Rattle.spectra_resolved.specs.Findings.{fault, first_of_faults}
use Rattle.spectra_types.specs.declared.fault.TypeFault.{TypeFault}
use Rattle.spectra_types.specs.declared.fault.TypeFault.TheVariants as faults
use Rattle.spectra_types.specs.Meanings.{faults_of}
pub use Rattle.spectra_types.specs.Meanings.{Means}

-- the first fault of the files is this one, in the file of this number
pub record IsFirstIn (trees : List TreeData) (file number line column : ℕ) : Type 0 where
  pub first : first_of_faults (faults_of trees) ≡ Some (fault number (record { file = file; line = line; column = column }))

-- The first fault is this one; the greatest number of a file stands for all numbers from it on. Of want of memory nothing is
-- said.
abbrev pub Explains : List TreeData → TypeFault → Type 0
Explains trees (faults.Refused number tree line column) = (file : ℕ) × IsFirstIn trees file number line column × (tree ≡ min file 4_294_967_295)
Explains trees faults.Memory = Unit {0}
