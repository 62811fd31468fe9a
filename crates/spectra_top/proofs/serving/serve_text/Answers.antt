use Rattle.spectra_top.specs.Top as top
use Rattle.spectra_talks.proofs.Exchanges.{nothing_done}
use Rattle.spectra_top.proofs.Decided.{text_refused}
use Rattle.spectra_top.proofs.serving.serve_text.Goals as goal

pub returns-in-Ok-clause-serves : goal.returns-in-Ok-clause-serves
returns-in-Ok-clause-serves g c = top.of_tree _ c.in-Ok.ensures.reads c.serve_tree.ensures.serves

pub returns-in-Err-Refused-clause-serves : goal.returns-in-Err-Refused-clause-serves
returns-in-Err-Refused-clause-serves g c =
    let h = rw c.in-Err-Refused.field-0-is at c.in-Err-Refused.ensures in
    text_refused _ _ _ _ _ _ _ _ _ _ _ _ h.fault (c.say_fault.ensures _ _ _)

pub returns-in-Err-Memory-clause-serves : goal.returns-in-Err-Memory-clause-serves
returns-in-Err-Memory-clause-serves g c = top.no_memory (nothing_done _)
