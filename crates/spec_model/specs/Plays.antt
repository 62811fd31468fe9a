-- Plays: runs all of whose moves are legal.
use Rattle.std.specs.Prelude.{◌≡◌, true, []}
use Rattle.spec_model.specs.Values.{Assignment}
use Rattle.spec_model.specs.Rules.{Run, after, Rules}

pub data IsPlay (r : Rules) : Run → Type 0 where
  nothing : IsPlay r []
  more : (h : Run) (x y : Assignment) → IsPlay r h → r.legal_input h x ≡ true → r.legal_output h x y ≡ true → IsPlay r (after h x y)
