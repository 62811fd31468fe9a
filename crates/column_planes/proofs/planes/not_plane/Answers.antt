use Rattle.std.proofs.Common.{ℕ, List, ap, ◌∙◌}
use Rattle.column_planes.specs.Planes.{bit_in}
use Rattle.column_planes.proofs.Bits.{bits_of_not}
use Rattle.column_planes.proofs.planes.not_plane.Goals as goal

pub returns-clause-bits : goal.returns-clause-bits
returns-clause-bits c = λ i below. ap (λ (ws : List ℕ). bit_in ws i) c.not_rest.ensures ∙ bits_of_not c.args.a.now (λ k word. (c.type_inv.a k).fits) i below
