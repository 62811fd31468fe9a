use Rattle.spec_model.specs.Diagrams.{Bits, Diagram}
use Rattle.bit_compile.proofs.MakingLemmas.{told_makes, never_told}
use Rattle.bit_compile.proofs.steps.constant.Goals as goal

pub returns-clause-made : goal.returns-clause-made
returns-clause-made c = rw c.told.ensures (told_makes c.args.diagrams.now c.constant.new.self c.constant.result (λ (s : Bits). c.args.value) (λ (made : Diagram). ⊥) c.constant.ensures.given)

pub returns-clause-never : goal.returns-clause-never
returns-clause-never c = rw c.told.ensures (never_told c.constant.result c.constant.ensures.full)
