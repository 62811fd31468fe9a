use Rattle.spec_model.specs.Diagrams.{Diagram}
use Rattle.bdd_bits.specs.Contents.{function_at}
use Rattle.bit_compile.proofs.MakingLemmas.{told_makes, never_told}
use Rattle.bit_compile.proofs.steps.keep.Goals as goal

pub returns-clause-made : goal.returns-clause-made
returns-clause-made c = rw c.told.ensures (told_makes c.args.diagrams.now c.keep.new.self c.keep.result (function_at c.args.diagrams.now c.args.a.now) (λ (made : Diagram). ⊥) c.keep.ensures.given)

pub returns-clause-never : goal.returns-clause-never
returns-clause-never c = rw c.told.ensures (never_told c.keep.result c.keep.ensures.full)
