-- The number of each status.
use Rattle.std.specs.Prelude.{ℕ}
use Rattle.spectra_talks.specs.declared.status.Status.{Status}
use Rattle.spectra_talks.specs.declared.status.Status.TheVariants.{Done, Other, Words, Refused, Assumption, Budget, BadLine, ShelfFault, InputFault, OutputFault, Memory, NoFile, Limit, TableRefused, SizeLimit}

-- the number that stands for each
abbrev pub number_of : Status → ℕ
number_of Done = 0
number_of Other = 1
number_of Words = 2
number_of Refused = 3
number_of Assumption = 4
number_of Budget = 5
number_of BadLine = 6
number_of ShelfFault = 7
number_of InputFault = 8
number_of OutputFault = 9
number_of Memory = 10
number_of NoFile = 11
number_of Limit = 12
number_of TableRefused = 13
number_of SizeLimit = 14
