-- The spot of a play: its last state, and what is remembered there.
use Rattle.std.specs.Prelude.{◌≡◌, suc, List, [], Some, None}
use Rattle.spec_model.specs.declared.value.Value.{Value}
use Rattle.spec_model.specs.Rules.{Run}
use Rattle.spec_model.specs.Games.{GameData, State, listed}
use Rattle.spec_model.specs.Steps.{Before}
use Rattle.spec_model.specs.Sets.{StateSet}
use Rattle.regions.specs.Kept.{Kept}
use Rattle.gr1_law.specs.Layers.{LayerSets}
use Rattle.gr1_law.specs.Choice.{Memory, first_memory, ChosenPlay}
use Rattle.controller.specs.declared.controller.Controller.{Controller}
use Rattle.controller.specs.declared.spot.Spot.{Spot}
use Rattle.controller.specs.Objects.{IsFresh, game_of, StandsFor, InEachPlay}

-- what is remembered, goal and assumption counted from 1
abbrev pub spot_at : Memory → Spot
spot_at m = record { goal = suc m.goal; rank = m.rank; index = suc m.index }

-- this play of chosen outputs ends in the state with these values, with this spot
pub record EndsAt (g : GameData) (l : LayerSets) (h : Run) (s : State) (m : Memory) (values : List Value) (spot : Spot) : Type 0 where
  pub play : ChosenPlay g l h (Some s) m
  pub lists : listed s ≡ values
  pub remembered : spot_at m ≡ spot

module _ {G R M : Type 0} (kept : G → Kept R M) where
  -- by the layers of a play that it stands for, some play of chosen outputs ends in the state with these values, with this spot
  abbrev pub CanGo : Controller G R M → List Value → Spot → Type 0
  CanGo c values spot = (z : StateSet) × (l : LayerSets) × (h : Run) × (b : Before) × (m : Memory) × StandsFor kept c z l h b m × (to : Run) × (s : State) × (next : Memory) × EndsAt (game_of kept c) l to s next values spot

  -- by the same layers it stands for the empty play, and for no other
  pub record BeginsAgain (old new : Controller G R M) : Type 0 where
    pub stands : InEachPlay kept old (λ z l h b m. StandsFor kept new z l [] None first_memory)
    pub fresh : InEachPlay kept new (λ z l h b m. (h ≡ []) × (b ≡ None) × (m ≡ first_memory))
    pub not_started : IsFresh new
