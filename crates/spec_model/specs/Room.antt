-- Room for one guarantee more, as the limits on a text leave it.
use Rattle.std.specs.Prelude.{◌≤◌, nat_le, IsTrue}
use Rattle.std.specs.List.{list_all}
use Rattle.spec_model.specs.Syntax.{Specification}
use Rattle.spec_model.specs.WellTyped.{all_nodes}

-- room for the guarantee that is forced, as the limits on a text leave it
pub record HasRoomForOne (s : Specification) : Type 0 where
  pub numbers : IsTrue (list_all (λ l. nat_le l.number 4096) s.lines)
  pub few_nodes : all_nodes s ≤ 1_000_000
