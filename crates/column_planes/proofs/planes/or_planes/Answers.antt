use Rattle.std.proofs.Common.{ℕ, List, ◌||◌, bit_or, refl, ap, ◌∙◌}
use Rattle.column_planes.specs.Planes.{bit_in}
use Rattle.column_planes.proofs.Bits.{bits_of_both, bit_of_or}
use Rattle.column_planes.proofs.planes.or_planes.Goals as goal

pub returns-clause-bits : goal.returns-clause-bits
returns-clause-bits c = λ i. ap (λ (ws : List ℕ). bit_in ws i) c.or_rest.ensures ∙ bits_of_both bit_or (λ x y. x || y) bit_of_or refl c.args.a.now c.args.b.now c.requires.lengths.0 i
