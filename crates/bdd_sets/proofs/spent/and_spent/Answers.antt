use Rattle.std.proofs.Common.{true}
use Rattle.spec_model.specs.Diagrams.{Function}
use Rattle.bdd_bits.specs.Contents.{function_at}
use Rattle.bdd_ops.specs.Functions.{joined, join_of}
use Rattle.bdd_sets.proofs.SpentLemmas.{still_root, one_spent}
use Rattle.bdd_sets.proofs.CauseLemmas.{spent_cause}
use Rattle.bit_compile.proofs.Causes.{cause_join}
use Rattle.bit_compile.specs.NamedCodes.{NoFunction}
use Rattle.bdd_sets.proofs.spent.and_spent.Goals as goal

pub release-requires : goal.release-requires
release-requires c = still_root c.args.diagrams.now c.and-whole.new.diagrams c.and-whole.result _ c.and-whole.ensures.makes c.args.a c.requires.a_kept

pub returns-clause-made : goal.returns-clause-made
returns-clause-made c = λ base f first. one_spent (λ (k : Function). joined (join_of true) k (function_at c.args.diagrams.now c.args.b.now)) base c.args.diagrams.now c.and-whole.new.diagrams _ c.args.a f c.and-whole.result first c.and-whole.ensures.makes c.release.ensures.released c.release.ensures.nodes

pub returns-clause-cause : goal.returns-clause-cause
returns-clause-cause c = λ base f first. spent_cause base c.args.diagrams.now c.and-whole.new.diagrams c.release.new.self c.args.a f c.and-whole.result first c.release.ensures.nodes
    (cause_join true c.args.diagrams.now c.and-whole.new.diagrams c.args.a c.args.b.now (joined (join_of true) (function_at c.args.diagrams.now c.args.a) (function_at c.args.diagrams.now c.args.b.now)) NoFunction c.and-whole.result c.requires.a_kept c.requires.b_kept c.and-whole.ensures)
