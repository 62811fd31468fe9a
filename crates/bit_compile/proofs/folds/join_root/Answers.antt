use Rattle.std.proofs.Common.{true, false}
use Rattle.bdd_ops.specs.Functions.{joined, join_of}
use Rattle.bdd_bits.specs.Contents.{function_at}
use Rattle.bit_compile.specs.NamedCodes.{NoFunction}
use Rattle.bit_compile.proofs.Causes.{cause_join}
use Rattle.bit_compile.proofs.folds.join_root.Goals as goal

pub returns-in-All-clause-cause : goal.returns-in-All-clause-cause
returns-in-All-clause-cause c =
    let old = c.args.diagrams.now in
    cause_join true old c.and.new.diagrams c.args.a.now c.args.b.now (joined (join_of true) (function_at old c.args.a.now) (function_at old c.args.b.now)) NoFunction c.and.result c.requires.a_kept c.requires.b_kept c.and.ensures

pub returns-in-Some-clause-cause : goal.returns-in-Some-clause-cause
returns-in-Some-clause-cause c =
    let old = c.args.diagrams.now in
    cause_join false old c.or.new.diagrams c.args.a.now c.args.b.now (joined (join_of false) (function_at old c.args.a.now) (function_at old c.args.b.now)) NoFunction c.or.result c.requires.a_kept c.requires.b_kept c.or.ensures
