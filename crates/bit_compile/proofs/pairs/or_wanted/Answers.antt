use Rattle.std.proofs.Common.{subst, sym}
use Rattle.spec_model.specs.Diagrams.{Function}
use Rattle.bdd_bits.specs.Contents.{function_at}
use Rattle.bit_compile.specs.Making.{Makes}
use Rattle.bit_compile.proofs.Folding.{or_false}
use Rattle.bit_compile.proofs.Causes.{cause_never}
use Rattle.bit_compile.specs.Named.{IsBoth}
use Rattle.bit_compile.proofs.pairs.or_wanted.Goals as goal

pub returns-then-wanted-clause-made : goal.returns-then-wanted-clause-made
returns-then-wanted-clause-made c = rw c.if-wanted.true c.or_both.ensures.made

pub returns-else-wanted-clause-made : goal.returns-else-wanted-clause-made
returns-else-wanted-clause-made c =
    let sum = function_at c.args.diagrams.now c.args.sum.now in
    rw c.if-wanted.false (subst (λ (g : Function). Makes c.args.diagrams.now c.keep.new.diagrams c.keep.result g) (sym (λ i s. or_false (sum s) i)) c.keep.ensures.made)

pub returns-else-wanted-clause-cause : goal.returns-else-wanted-clause-cause
returns-else-wanted-clause-cause c =
    let old = c.args.diagrams.now in
    cause_never old c.keep.new.diagrams c.keep.result (IsBoth (function_at old c.args.a.now) (function_at old c.args.b.now)) c.keep.ensures.never
