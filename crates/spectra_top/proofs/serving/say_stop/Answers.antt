use Rattle.spectra_talks.proofs.Exchanges.{nothing_done}
use Rattle.spectra_top.proofs.Decided.{said_as}
use Rattle.spectra_top.proofs.serving.say_stop.Goals as goal

pub returns-in-Missing : goal.returns-in-Missing
returns-in-Missing g c = λ left reads faults. said_as _ _ c.in-Missing.is _ _ _ _ (c.say_no_file.ensures left reads faults)

pub returns-in-Shelf : goal.returns-in-Shelf
returns-in-Shelf g c = λ left reads faults. said_as _ _ c.in-Shelf.is _ _ _ _ (c.say_shelf_fault.ensures left reads faults)

pub returns-in-Refused : goal.returns-in-Refused
returns-in-Refused g c = λ left reads faults. said_as _ _ c.in-Refused.is _ _ _ _ (c.say_fault.ensures left reads faults)

pub returns-in-Memory : goal.returns-in-Memory
returns-in-Memory g c = λ left reads faults. said_as _ _ c.in-Memory.is _ _ _ _ (nothing_done _)
