use Rattle.std.proofs.Common.{refl}
use Rattle.spec_model.specs.Diagrams.{ite as choice_of}
use Rattle.bdd_store.specs.State.{diagram_of}
use Rattle.bdd_ops.specs.Contents.{function_at}
use Rattle.bdd_reorder.specs.Crowding.{choice}
use Rattle.bdd_reorder.specs.Rearranged.{NoFunction}
use Rattle.bdd_reorder.proofs.StepLemmas.{makes_one}
use Rattle.bdd_reorder.proofs.steps.ite.Goals as goal

pub returns : goal.returns
returns c =
    let old = c.args.diagrams.now in
    let x = c.args.a.now in
    let y = c.args.b.now in
    let z = c.args.c.now in
    makes_one old c.ite.new.self (choice_of (function_at old x) (function_at old y) (function_at old z)) (choice (diagram_of old.state x) (diagram_of old.state y) (diagram_of old.state z)) NoFunction
    ((x, c.requires.a_kept, refl), ((y, c.requires.b_kept, refl), ((z, c.requires.c_kept, refl), tt))) c.ite.result c.ite.ensures
