-- What is remembered after a position.
use Rattle.std.specs.Prelude.{◌≡◌, ℕ, suc, ◌<◌, Bool, List, Vec, length, get_or, Some}
use Rattle.std.specs.declared.alloc.Global.{Global}
use Rattle.spec_model.specs.Values.{Assignment}
use Rattle.spec_model.specs.Steps.{Before, reached}
use Rattle.regions.specs.Kept.{Kept}
use Rattle.gr1_law.specs.Layers.{LayerSets, assumption_sets}
use Rattle.gr1_law.specs.Choice.{Memory, waits}
use Rattle.gr1_sys.specs.declared.layers.SysLayer.{SysLayer}
use Rattle.gr1_sys.specs.Held.{AllHaveParts}
use Rattle.controller.specs.declared.remembered.Remembered.{Remembered}
use Rattle.controller.specs.Aims.{AllLayersAre}
use Rattle.controller.specs.Places.{IsAt}
use Rattle.controller.specs.Turns.{IsTurn}

module _ {G R M : Type 0} where
  -- The turn was made: the place is after the state that it reached, and still remembers what was remembered before.
  pub record Settles (k : Kept R M) (goals : List (Vec (SysLayer G R M) Global)) (p : Remembered) (goal rank : ℕ) (waited : Bool) (l : LayerSets) (b : Before) (m : Memory) (x y : Assignment) (next : Memory) : Type 0 where
    pub turn : IsTurn k.game l b m x y next
    pub layers : AllLayersAre k goals (λ j r. l.x j (suc r))
    pub parts : AllHaveParts (length (assumption_sets k.game)) goals
    pub here : IsAt k.game p (Some (reached k.game b x y)) m
    pub aim : goal ≡ next.goal
    pub reach : suc rank ≡ next.rank
    pub waiting : waited ≡ waits k.game b m next.rank
    pub goal_in : goal < length goals
    pub rank_in : (v : Vec (SysLayer G R M) Global) → rank < length (get_or goals goal v).items
