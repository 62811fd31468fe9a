use Rattle.std.proofs.Common.{sym, subst}
use Rattle.sp_outside.specs.Causes.{Rose}
use Rattle.sp_outside.specs.Files.{told_file}
use Rattle.spectra_files.specs.Refusals.{HasNoTree}
use Rattle.spectra_files.proofs.Fronts.{file_reads, front_refused}
use Rattle.spectra_files.proofs.reading.read_tree.Goals as goal

pub returns-in-Ok-tree_of-clause-reads : goal.returns-in-Ok-tree_of-clause-reads
returns-in-Ok-tree_of-clause-reads g c = file_reads _ c.in-Ok.text.items _ c.in-Ok.ensures.front (rw c.deref.ensures.value at c.in-Ok-tree_of.ensures.reads)

pub returns-in-Ok-clause-fault : goal.returns-in-Ok-clause-fault
returns-in-Ok-clause-fault g c =
    subst (HasNoTree (told_file (g.F.Shelf.holds c.args.shelf.now) c.args.name.now) (Rose (g.F.Shelf.faults c.args.shelf.now) (g.F.Shelf.faults c.read_file.new.shelf))) (sym c.of_text.ensures)
    (front_refused _ _ c.in-Ok.text.items c.in-Err.fault c.in-Ok.ensures.front (rw c.deref.ensures.value at c.in-Err.ensures.fault))
