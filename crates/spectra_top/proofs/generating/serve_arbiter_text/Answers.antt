use Rattle.std.proofs.Common.{◌∙◌}
use Rattle.spectra_top.specs.Top.{no_room}
use Rattle.spectra_talks.proofs.Exchanges.{nothing_done}
use Rattle.spectra_top.proofs.Decided.{below_its_line}
use Rattle.spectra_top.proofs.generating.serve_arbiter_text.Goals as goal

pub returns-in-Ok-clause-serves : goal.returns-in-Ok-clause-serves
returns-in-Ok-clause-serves g c = below_its_line _ _ _ _ _ _ _ _ _ (c.as_bytes.ensures.value ∙ c.in-Ok.ensures) c.requires.text c.serve_below.ensures.serves

pub returns-in-Err-clause-serves : goal.returns-in-Err-clause-serves
returns-in-Err-clause-serves g c = no_room (nothing_done _)
