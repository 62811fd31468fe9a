use Rattle.std.proofs.Common.{true}
use Rattle.spec_model.specs.Diagrams.{Function}
use Rattle.bdd_ops.specs.Functions.{joined, join_of}
use Rattle.bdd_sets.proofs.SpentLemmas.{still_root, after_release, two_spent}
use Rattle.bdd_sets.proofs.CauseLemmas.{both_cause}
use Rattle.bit_compile.proofs.Causes.{cause_join}
use Rattle.bit_compile.specs.NamedCodes.{NoFunction}
use Rattle.bdd_bits.specs.Contents.{function_at}
use Rattle.bdd_sets.proofs.spent.join_spent.Goals as goal

pub release-requires : goal.release-requires
release-requires c = still_root c.args.diagrams.now c.and-whole.new.diagrams c.and-whole.result _ c.and-whole.ensures.makes c.args.b c.requires.b_kept

pub release-requires-2 : goal.release-requires-2
release-requires-2 c = after_release c.args.diagrams.now c.and-whole.new.diagrams c.release.new.self c.and-whole.result _ c.args.a c.args.b c.and-whole.ensures.makes c.requires.a_kept c.requires.apart c.release.ensures.released

pub returns-clause-made : goal.returns-clause-made
returns-clause-made c = λ base mid f g first second. two_spent (λ (k h : Function). joined (join_of true) k h) base mid c.args.diagrams.now c.and-whole.new.diagrams c.release.new.self _ c.args.a c.args.b f g c.and-whole.result first second c.and-whole.ensures.makes c.release.ensures.released c.release.ensures.nodes c.release-2.ensures.released c.release-2.ensures.nodes

pub returns-clause-cause : goal.returns-clause-cause
returns-clause-cause c = λ base mid f g first second. both_cause base mid c.args.diagrams.now c.and-whole.new.diagrams c.release.new.self c.release-2.new.self c.args.a c.args.b f g c.and-whole.result first second c.release.ensures.nodes c.release-2.ensures.nodes
    (cause_join true c.args.diagrams.now c.and-whole.new.diagrams c.args.a c.args.b (joined (join_of true) (function_at c.args.diagrams.now c.args.a) (function_at c.args.diagrams.now c.args.b)) NoFunction c.and-whole.result c.requires.a_kept c.requires.b_kept c.and-whole.ensures)
