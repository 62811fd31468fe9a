use Rattle.spectra_talks.proofs.Exchanges.{nothing_done}
use Rattle.spectra_top.proofs.Decided.{no_verdict_said}
use Rattle.spectra_top.proofs.deciding.say_no_verdict.Goals as goal

pub returns-in-Budget : goal.returns-in-Budget
returns-in-Budget g c = λ left reads faults. no_verdict_said _ _ c.in-Budget.is _ _ _ _ (c.say_node_budget.ensures left reads faults)

pub returns-in-Memory : goal.returns-in-Memory
returns-in-Memory g c = λ left reads faults. no_verdict_said _ _ c.in-Memory.is _ _ _ _ (nothing_done _)
