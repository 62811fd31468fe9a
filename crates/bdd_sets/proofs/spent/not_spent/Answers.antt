use Rattle.spec_model.specs.Diagrams.{Function}
use Rattle.bdd_ops.specs.Calls.{negated}
use Rattle.bdd_sets.proofs.SpentLemmas.{still_root, one_spent}
use Rattle.bdd_sets.proofs.CauseLemmas.{spent_cause}
use Rattle.bit_compile.proofs.Causes.{cause_not}
use Rattle.bit_compile.specs.NamedCodes.{NoFunction}
use Rattle.bdd_bits.specs.Contents.{function_at}
use Rattle.bdd_sets.proofs.spent.not_spent.Goals as goal

pub release-requires : goal.release-requires
release-requires c = still_root c.args.diagrams.now c.not-other.new.diagrams c.not-other.result _ c.not-other.ensures.makes c.args.a c.requires

pub returns-clause-made : goal.returns-clause-made
returns-clause-made c = λ base f first. one_spent (λ (k : Function). negated k) base c.args.diagrams.now c.not-other.new.diagrams _ c.args.a f c.not-other.result first c.not-other.ensures.makes c.release.ensures.released c.release.ensures.nodes

pub returns-clause-cause : goal.returns-clause-cause
returns-clause-cause c = λ base f first. spent_cause base c.args.diagrams.now c.not-other.new.diagrams c.release.new.self c.args.a f c.not-other.result first c.release.ensures.nodes
    (cause_not c.args.diagrams.now c.not-other.new.diagrams c.args.a (negated (function_at c.args.diagrams.now c.args.a)) NoFunction c.not-other.result c.requires c.not-other.ensures)
