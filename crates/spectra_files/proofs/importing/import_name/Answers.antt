use Rattle.std.proofs.Common.{arith}
use Rattle.std.proofs.lemmas.Grind.{common_steps}
use Rattle.spectra_files.proofs.Folders.{of_split, of_none}
use Rattle.spectra_files.proofs.importing.import_name.Goals as goal

pub returns-in-Some : goal.returns-in-Some
returns-in-Some c =
    let at = c.in-Some.ensures.cases in
    let folder = of_split c.args.file.now c.in-Some.folder.now at.0 at.1 at.2 at.3 in
    grind (arith, common_steps, folder)

pub returns-in-None : goal.returns-in-None
returns-in-None c =
    let none = of_none c.args.file.now c.in-None.ensures.cases in
    grind (arith, common_steps, none)
