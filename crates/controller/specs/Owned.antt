-- What a strategy owns: regions and moves in one list.
use Rattle.std.specs.Prelude.{List, [], ◌∷◌, ◌++◌, Vec}
use Rattle.std.specs.declared.alloc.Global.{Global}
use Rattle.regions.specs.Kept.{Item, Move}
use Rattle.gr1_sys.specs.declared.layers.SysLayer.{SysLayer}
use Rattle.gr1_sys.specs.Held.{all_regions}
use Rattle.strategy_parts.specs.Owned.{region_items, move_items}
use Rattle.controller.specs.declared.aims.Aim.{Aim}

module _ {G R M : Type 0} where
  abbrev pub aim_items : Aim G R M → List (Item R M)
  aim_items a = Move a.layer ∷ move_items a.parts.items

  abbrev pub aims_items : List (Aim G R M) → List (Item R M)
  aims_items [] = []
  aims_items (a ∷ more) = aim_items a ++ aims_items more

  abbrev pub all_aims_items : List (Vec (Aim G R M) Global) → List (Item R M)
  all_aims_items [] = []
  all_aims_items (v ∷ vs) = aims_items v.items ++ all_aims_items vs

  -- what is made for a strategy, besides the layers
  abbrev pub made_items : (first : List (Aim G R M)) (goals : List (Vec (Aim G R M) Global)) (holds : List R) → List (Item R M)
  made_items first goals holds = region_items holds ++ (aims_items first ++ all_aims_items goals)

  -- Z and the layers
  abbrev pub layer_items : R → List (Vec (SysLayer G R M) Global) → List (Item R M)
  layer_items z layers = region_items (z ∷ all_regions layers)
