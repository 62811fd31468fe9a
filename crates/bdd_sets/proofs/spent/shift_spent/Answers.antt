use Rattle.spec_model.specs.Diagrams.{Function, shifted}
use Rattle.bdd_sets.proofs.SpentLemmas.{still_root, one_spent}
use Rattle.bdd_sets.proofs.CauseLemmas.{spent_cause, cause_moved}
use Rattle.bdd_sets.proofs.spent.shift_spent.Goals as goal

pub release-requires : goal.release-requires
release-requires c = still_root c.args.diagrams.now c.shift-moved.new.diagrams c.shift-moved.result _ c.shift-moved.ensures.makes c.args.a c.requires.kept

pub returns-clause-made : goal.returns-clause-made
returns-clause-made c = λ base f first. one_spent (λ (k : Function). shifted c.args.to.now k) base c.args.diagrams.now c.shift-moved.new.diagrams _ c.args.a f c.shift-moved.result first c.shift-moved.ensures.makes c.release.ensures.released c.release.ensures.nodes

pub returns-clause-cause : goal.returns-clause-cause
returns-clause-cause c = λ base f first. spent_cause base c.args.diagrams.now c.shift-moved.new.diagrams c.release.new.self c.args.a f c.shift-moved.result first c.release.ensures.nodes
    (cause_moved c.args.to.now c.args.diagrams.now c.shift-moved.new.diagrams c.args.a _ c.shift-moved.result c.requires.kept c.shift-moved.ensures)
