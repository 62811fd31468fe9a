-- The spot of a play: its last state, and what is remembered there.
use Rattle.std.specs.Prelude.{◌≡◌, ℕ, suc, true, List, [], Some, None}
use Rattle.spec_model.specs.declared.value.Value.{Value}
use Rattle.spec_model.specs.Values.{Assignment}
use Rattle.spec_model.specs.Rules.{Run}
use Rattle.spec_model.specs.Unrealizable.{NoteData}
use Rattle.spec_model.specs.Games.{GameData, State, listed}
use Rattle.spec_model.specs.Steps.{Before}
use Rattle.regions.specs.Kept.{Kept}
use Rattle.gr1_law.specs.EnvLayers.{EnvLayerSets}
use Rattle.gr1_law.specs.Counter.{CounterMemory, first_counter, IsGiven, AnsweredPlay}
use Rattle.counterstrategy.specs.declared.counterstrategy.Counterstrategy.{Counterstrategy}
use Rattle.counterstrategy.specs.declared.spot.EnvSpot.{EnvSpot}
use Rattle.counterstrategy.specs.Turns.{rank_kept}
use Rattle.counterstrategy.specs.Objects.{IsFresh, game_of, StandsFor, InEachPlay}

-- what is remembered, with the number of the set that the next input leads into; goal and assumption are counted from 1
abbrev pub spot_at : CounterMemory → ℕ → EnvSpot
spot_at k r = record { layer = k.layer; goal = suc k.goal; asm = suc k.before; rank = rank_kept k r }

-- this noted play of given inputs ends in the state with these values, with this spot
pub record EndsAt (g : GameData) (e : EnvLayerSets) (h : Run) (notes : List NoteData) (s : State) (k : CounterMemory) (values : List Value) (spot : EnvSpot) : Type 0 where
  pub play : AnsweredPlay g e h notes (Some s) k
  pub rank : ℕ
  pub input : Assignment
  pub given : IsGiven g e (Some s) k rank input
  pub lists : listed s ≡ values
  pub remembered : spot_at k rank ≡ spot

module _ {G R M : Type 0} where
  -- whether a position was completed
  abbrev pub HasPosition : Counterstrategy G R M → Type 0
  HasPosition c = c.place.position.started ≡ true

  module _ (kept : G → Kept R M) where
    -- by the layers of a play that it stands for, some noted play of given inputs ends in the state with these values, with this spot
    abbrev pub CanGo : Counterstrategy G R M → List Value → EnvSpot → Type 0
    CanGo c values spot =
        (e : EnvLayerSets) × (h : Run) × (notes : List NoteData) × (b : Before) × (k : CounterMemory) × StandsFor kept c e h notes b k × (to : Run) × (noted : List NoteData) × (s : State) × (next : CounterMemory) × EndsAt (game_of kept c) e to noted s next values spot

    -- by the same layers it stands for the empty play, and for no other
    pub record BeginsAgain (old new : Counterstrategy G R M) : Type 0 where
      pub stands : InEachPlay kept old (λ e h notes b k. StandsFor kept new e [] [] None first_counter)
      pub empty : InEachPlay kept new (λ e h notes b k. (h ≡ []) × (notes ≡ []) × (b ≡ None) × (k ≡ first_counter))
      pub fresh : IsFresh new
