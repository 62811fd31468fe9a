use Rattle.sp_outside.specs.Files.{told_file}
use Rattle.spectra_top.specs.Top as top
use Rattle.spectra_top.proofs.Decided.{stop_said, file_stopped, failed_before}
use Rattle.spectra_files.proofs.InOrder.{rose_before}
use Rattle.spectra_top.proofs.serving.serve_file.Goals as goal

pub returns-in-Ok-clause-serves : goal.returns-in-Ok-clause-serves
returns-in-Ok-clause-serves g c =
    top.of_tree _ c.in-Ok.ensures.reads (failed_before _ _ _ _ _ _ _ _ _ (rose_before _ _ _ c.read_tree.ensures.later) _ (rw c.read_tree.ensures.keeps at c.serve_tree.ensures.serves))

pub returns-in-Err-clause-serves : goal.returns-in-Err-clause-serves
returns-in-Err-clause-serves g c =
    file_stopped _ _ _ _ _ _ (told_file (g.F.Shelf.holds c.args.shelf.now)) _ (stop_said _ _ _ _ _ _ c.in-Err.why c.in-Err.ensures.fault (c.say_stop.ensures _ _ _))
