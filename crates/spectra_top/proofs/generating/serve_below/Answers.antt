use Rattle.std.proofs.Common.{refl}
use Rattle.spectra_top.specs.Top.{headed, cut_at_once}
use Rattle.spectra_top.proofs.generating.serve_below.Goals as goal

pub returns-in-Ok-clause-serves : goal.returns-in-Ok-clause-serves
returns-in-Ok-clause-serves g c = headed _ (record { unread = record { left = refl; reads = refl; faults = refl }; written = c.in-Ok.ensures.whole; later = c.write_line.ensures.cause.later }) c.serve_text.ensures.serves

pub returns-in-Err-clause-serves : goal.returns-in-Err-clause-serves
returns-in-Err-clause-serves g c = cut_at_once (record { left = refl; reads = refl; faults = refl }) c.in-Err.ensures.part c.in-Err.ensures.cause.failed
