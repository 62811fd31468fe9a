use Rattle.bdd_bits.specs.Contents.{function_at}
use Rattle.bdd_ops.specs.Calls.{negated}
use Rattle.bit_compile.specs.NamedCodes.{NoFunction}
use Rattle.bit_compile.proofs.Causes.{cause_not}
use Rattle.bit_compile.proofs.cases.truth_root.Goals as goal

pub returns-else-truth-clause-cause : goal.returns-else-truth-clause-cause
returns-else-truth-clause-cause c =
    let old = c.args.diagrams.now in
    cause_not old c.not.new.diagrams c.args.root.now (negated (function_at old c.args.root.now)) NoFunction c.not.result c.requires c.not.ensures
