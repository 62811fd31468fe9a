-- What is said where there is no tree, and where there is no verdict.
use Rattle.std.specs.Prelude.{◌⊎◌, ℕ, List}
use Rattle.regions.specs.declared.types.Halt.{Halt}
use Rattle.regions.specs.declared.types.Halt.TheVariants as halts
use Rattle.spectra_files.specs.declared.reading.NoTree.{NoTree}
use Rattle.spectra_files.specs.declared.reading.NoTree.TheVariants as files
use Rattle.spectra_talks.specs.declared.status.Status.{Status}
use Rattle.spectra_talks.specs.Endings.{no_file, shelf_fault, refused, node_budget}
use Rattle.spectra_talks.specs.Streams.{Moment, Ends, WantsMemory}

-- ---- one file

-- what is said of a file of this name that has no tree: a line that is written last, unless no memory was given
abbrev pub SaysStop : (name : List ℕ) → NoTree → (before after : Moment) → Status → Type 0
SaysStop name files.Missing before after status = Ends (no_file name) before after status ⊎ WantsMemory before after status
SaysStop name files.Shelf before after status = Ends (shelf_fault name) before after status ⊎ WantsMemory before after status
SaysStop name (files.Refused number line column) before after status = Ends (refused name line column number) before after status ⊎ WantsMemory before after status
SaysStop name files.Memory before after status = WantsMemory before after status

-- ---- what is done for a command, with so many nodes

-- where there is no verdict: the nodes ran out, of which there are so many, or no memory was given
abbrev pub SaysNoVerdict : Halt → (nodes : ℕ) → (before after : Moment) → Status → Type 0
SaysNoVerdict halts.Budget nodes before after status = Ends (node_budget nodes) before after status ⊎ WantsMemory before after status
SaysNoVerdict halts.Memory nodes before after status = WantsMemory before after status
