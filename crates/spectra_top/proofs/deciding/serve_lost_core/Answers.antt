use Rattle.std.proofs.Common.{refl}
use Rattle.solve.proofs.Wholly.{lost_within}
use Rattle.spectra_top.proofs.Decided.{core_found, by_trying, not_decided}
use Rattle.spectra_top.proofs.deciding.serve_lost_core.Goals as goal

pub core_of_lost-requires-clause-lost : goal.core_of_lost-requires-clause-lost
core_of_lost-requires-clause-lost g c = lost_within _ _ _ c.requires.lost

pub returns-in-Ok : goal.returns-in-Ok
returns-in-Ok g c = λ left reads faults.
    core_found _ _ _ _ _ _ _ _ _ refl c.requires.lost c.in-Ok.ensures.left c.in-Ok.ensures.core (rw c.deref.ensures.value at (c.say_core.ensures left reads faults))

pub returns-in-Err : goal.returns-in-Err
returns-in-Err g c = λ left reads faults.
    not_decided _ _ _ _ _ _ _ tt (by_trying _ _ _ c.in-Err.ensures.cause) (c.say_no_verdict.ensures left reads faults)
