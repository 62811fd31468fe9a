-- One turn of the environment's strategy: which input is given, and what is remembered after the reply; the numbers are in range.
use Rattle.std.specs.Prelude.{◌≡◌, ℕ, suc, ◌<◌, ◌≤◌, true, false, if◌then◌else◌, List, length, slice_index, Some, is_some, IsTrue}
use Rattle.spec_model.specs.Values.{Assignment}
use Rattle.spec_model.specs.Games.{GameData, State}
use Rattle.spec_model.specs.Steps.{Before, is_state}
use Rattle.regions.specs.declared.types.When.TheVariants.{First, Later}
use Rattle.regions.specs.Kept.{Kept}
use Rattle.gr1_law.specs.Layers.{goal_sets, assumption_sets}
use Rattle.gr1_law.specs.EnvLayers.{EnvLayerSets}
use Rattle.gr1_law.specs.Counter.{CounterMemory, IsGiven, IsNoted}
use Rattle.gr1_env.specs.declared.layers.EnvLayer.{EnvLayer}
use Rattle.strategy_parts.specs.Positions.{IsWholeBefore}
use Rattle.counterstrategy.specs.declared.kit.Kit.{Kit}
use Rattle.counterstrategy.specs.declared.remembered.Remembered.{Remembered}
use Rattle.counterstrategy.specs.Places.{IsAt}
use Rattle.counterstrategy.specs.Forced.{MovesLead, ChainsLead}
use Rattle.counterstrategy.specs.Settled.{LayersAre, GoalsAre}

-- of the number of the set that an input leads into what is kept: after a denial the iterate's, after a shift none
abbrev pub rank_kept : CounterMemory → ℕ → ℕ
rank_kept k r = if k.denying then r else 0

-- what is remembered names a hold, whose iterates for the assumption aimed at have this rank
pub record IsInHold (g : GameData) (n : ℕ) (counts : ℕ → ℕ → List ℕ) (k : CounterMemory) (r : ℕ) : Type 0 where
  pub low : ℕ
  pub layer : k.layer ≡ suc low
  pub layer_in : low < n
  pub goal_in : k.goal < length (goal_sets g)
  pub index_in : k.index < length (assumption_sets g)
  pub few : r ≤ slice_index (counts (suc low) k.goal) k.index

-- this input is given, since it forces the next state into the layer with this number, or into the iterate
pub record IsTurn (g : GameData) (e : EnvLayerSets) (n : ℕ) (counts : ℕ → ℕ → List ℕ) (b : Before) (k : CounterMemory) (r : ℕ) (x : Assignment) : Type 0 where
  pub given : IsGiven g e b k r x
  pub before : IsWholeBefore g b
  pub layer : k.denying ≡ false → r ≤ n
  pub hold : k.denying ≡ true → IsInHold g n counts k r
  -- nothing is denied before the first position, and a hold's first iterate has no states, as layer 0
  pub later : k.denying ≡ true → is_some b ≡ true
  pub none : k.denying ≡ true → e.x k.layer k.goal k.index 0 ≡ e.z 0

-- this is remembered after a reply
pub record IsReply (g : GameData) (e : EnvLayerSets) (n : ℕ) (k : CounterMemory) (s : State) (next : CounterMemory) : Type 0 where
  pub noted : IsNoted g e k s next
  pub state : IsTrue (is_state g s)
  pub low : ℕ
  pub layer : next.layer ≡ suc low
  pub layer_in : low < n
  pub goal_in : next.goal < length (goal_sets g)
  pub before_in : next.before < length (assumption_sets g)

module _ {G R M : Type 0} where
  -- the place is before the turn, and the moves lead where it is to lead
  pub record ServesTurn (k : Kept R M) (kit : Kit G R M) (p : Remembered) (e : EnvLayerSets) (n : ℕ) (counts : ℕ → ℕ → List ℕ) (b : Before) (m : CounterMemory) (r : ℕ) (x : Assignment) : Type 0 where
    pub turn : IsTurn k.game e n counts b m r x
    pub here : IsAt k.game p b m
    pub first : MovesLead k First kit.first.items e.z
    pub first_counted : length kit.first.items ≡ suc n
    pub later : MovesLead k Later kit.later.items e.z
    pub later_counted : length kit.later.items ≡ suc n
    pub chains : ChainsLead k kit.delays.items n (length (goal_sets k.game)) (length (assumption_sets k.game)) e counts
    pub goals : length kit.goals.items ≡ length (goal_sets k.game)
    pub asms : length kit.asms.items ≡ length (assumption_sets k.game)

  -- the place is after the state that the reply reached, and still remembers what was remembered before
  pub record ServesReply (k : Kept R M) (ls : List (EnvLayer G R M)) (kit : Kit G R M) (p : Remembered) (e : EnvLayerSets) (m : CounterMemory) (s : State) (next : CounterMemory) : Type 0 where
    pub reply : IsReply k.game e (length ls) m s next
    pub here : IsAt k.game p (Some s) m
    pub layers : LayersAre k ls e
    pub goals : GoalsAre k kit
