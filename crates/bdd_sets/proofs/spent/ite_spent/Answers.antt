use Rattle.spec_model.specs.Diagrams.{Function, ite as choice}
use Rattle.bdd_bits.specs.Contents.{function_at}
use Rattle.bdd_sets.proofs.SpentLemmas.{still_root, one_spent}
use Rattle.bdd_sets.proofs.CauseLemmas.{spent_cause, cause_choice}
use Rattle.bdd_sets.proofs.spent.ite_spent.Goals as goal

pub release-requires : goal.release-requires
release-requires c = still_root c.args.diagrams.now c.ite-whole.new.diagrams c.ite-whole.result _ c.ite-whole.ensures.makes c.args.a c.requires.a_kept

pub returns-clause-made : goal.returns-clause-made
returns-clause-made c = λ base f first. one_spent (λ (k : Function). choice k (function_at c.args.diagrams.now c.args.b.now) (function_at c.args.diagrams.now c.args.c.now)) base c.args.diagrams.now c.ite-whole.new.diagrams _ c.args.a f c.ite-whole.result first c.ite-whole.ensures.makes c.release.ensures.released c.release.ensures.nodes

pub returns-clause-cause : goal.returns-clause-cause
returns-clause-cause c = λ base f first. spent_cause base c.args.diagrams.now c.ite-whole.new.diagrams c.release.new.self c.args.a f c.ite-whole.result first c.release.ensures.nodes
    (cause_choice c.args.diagrams.now c.ite-whole.new.diagrams c.args.a c.args.b.now c.args.c.now _ c.ite-whole.result c.requires.a_kept c.requires.b_kept c.requires.c_kept c.ite-whole.ensures)
