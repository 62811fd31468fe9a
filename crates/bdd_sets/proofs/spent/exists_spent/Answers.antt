use Rattle.spec_model.specs.Diagrams.{Function, and_exists_over}
use Rattle.bdd_sets.proofs.SpentLemmas.{still_root, after_release, two_spent}
use Rattle.bdd_sets.proofs.CauseLemmas.{both_cause, cause_related}
use Rattle.bdd_sets.proofs.spent.exists_spent.Goals as goal

pub release-requires : goal.release-requires
release-requires c = still_root c.args.diagrams.now c.and_exists-whole.new.diagrams c.and_exists-whole.result _ c.and_exists-whole.ensures.makes c.args.b c.requires.b_kept

pub release-requires-2 : goal.release-requires-2
release-requires-2 c = after_release c.args.diagrams.now c.and_exists-whole.new.diagrams c.release.new.self c.and_exists-whole.result _ c.args.a c.args.b c.and_exists-whole.ensures.makes c.requires.a_kept c.requires.apart c.release.ensures.released

pub returns-clause-made : goal.returns-clause-made
returns-clause-made c = λ base mid f g first second. two_spent (λ (k h : Function). and_exists_over c.args.levels.now k h) base mid c.args.diagrams.now c.and_exists-whole.new.diagrams c.release.new.self _ c.args.a c.args.b f g c.and_exists-whole.result first second c.and_exists-whole.ensures.makes c.release.ensures.released c.release.ensures.nodes c.release-2.ensures.released c.release-2.ensures.nodes

pub returns-clause-cause : goal.returns-clause-cause
returns-clause-cause c = λ base mid f g first second. both_cause base mid c.args.diagrams.now c.and_exists-whole.new.diagrams c.release.new.self c.release-2.new.self c.args.a c.args.b f g c.and_exists-whole.result first second c.release.ensures.nodes c.release-2.ensures.nodes
    (cause_related c.args.levels.now c.args.diagrams.now c.and_exists-whole.new.diagrams c.args.a c.args.b _ c.and_exists-whole.result c.requires.a_kept c.requires.b_kept c.and_exists-whole.ensures)
