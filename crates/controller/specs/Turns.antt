-- One turn of the system's strategy: what is chosen, and what stands fast before.
use Rattle.std.specs.Prelude.{◌≡◌, ℕ, suc, ◌<◌, ◌≤◌, Bool, List, [], ◌∷◌, length, Option, Some, None, find, IsTrue}
use Rattle.spec_model.specs.declared.value.Value.{Value}
use Rattle.spec_model.specs.Values.{Assignment}
use Rattle.spec_model.specs.Games.{GameData, State, listed, outputs_of}
use Rattle.spec_model.specs.Steps.{Before, is_state, is_input, is_output, reached, legal_input}
use Rattle.spec_model.specs.Sets.{StateSet}
use Rattle.regions.specs.declared.types.When.{When}
use Rattle.regions.specs.declared.types.When.TheVariants.{Later}
use Rattle.regions.specs.Kept.{Kept}
use Rattle.regions.specs.Rules.{outputs_into}
use Rattle.gr1_law.specs.Layers.{LayerSets, goal_sets, assumption_sets}
use Rattle.gr1_law.specs.Choice.{Memory, IsChosen, goal_stays}
use Rattle.strategy_parts.specs.Positions.{IsWholeBefore}
use Rattle.controller.specs.declared.aims.Aim.{Aim}
use Rattle.controller.specs.Aims.{AimsLead}

-- the first legal output, if there is one, that leads into the set
abbrev pub first_into : GameData → When → StateSet → Before → Assignment → Option Assignment
first_into g when t b x = find (outputs_into g when t b x) (outputs_of g)

-- the set with this number is the first that a legal output leads into, and the first such output is this
pub record IsFirstReached (g : GameData) (when : When) (sets : ℕ → StateSet) (b : Before) (x : Assignment) (r : ℕ) (reply : Assignment) : Type 0 where
  pub none_before : (i : ℕ) → i < r → first_into g when (sets i) b x ≡ None
  pub here : first_into g when (sets r) b x ≡ Some reply

-- After a legal input this is what is chosen, and what is remembered then; the numbers are in range.
pub record IsTurn (g : GameData) (l : LayerSets) (b : Before) (m : Memory) (x y : Assignment) (m' : Memory) : Type 0 where
  pub chosen : IsChosen g l b m x y m'
  pub before : IsWholeBefore g b
  pub input : IsTrue (is_input g x)
  pub legal : IsTrue (legal_input g b x)
  pub output : IsTrue (is_output g y)
  pub state : IsTrue (is_state g (reached g b x y))
  pub goal_in : m'.goal < length (goal_sets g)
  pub index_in : m'.index < length (assumption_sets g)
  pub rank_some : (r : ℕ) × (m'.rank ≡ suc r)

module _ {G R M : Type 0} where
  -- each layer has so many parts
  abbrev pub HaveParts : ℕ → List (Aim G R M) → Type 0
  HaveParts n [] = Unit {0}
  HaveParts n (a ∷ more) = (length a.parts.items ≡ n) × HaveParts n more

  -- The moves are those into the layers of the goal aimed at, and they reach far enough.
  pub record ServesTurn (k : Kept R M) (when : When) (aims : List (Aim G R M)) (l : LayerSets) (m' : Memory) : Type 0 where
    pub lead : AimsLead k when aims (λ r. l.y m'.goal (suc r)) (λ r. l.x m'.goal (suc r))
    pub high : m'.rank ≤ length aims

  -- A later turn from the state with these values, where this rank and this index are remembered.
  pub record IsLater (k : Kept R M) (aims : List (Aim G R M)) (values : List Value) (old_rank old_index : ℕ) (stayed : Bool) (x : Assignment) (l : LayerSets) (s : State) (m : Memory) (y : Assignment) (m' : Memory) : Type 0 where
    pub turn : IsTurn k.game l (Some s) m x y m'
    pub serves : ServesTurn k Later aims l m'
    pub parts : HaveParts (length (assumption_sets k.game)) aims
    pub listed : listed s ≡ values
    pub rank : m.rank ≡ old_rank
    pub index : m.index ≡ old_index
    pub stays : stayed ≡ goal_stays k.game (Some s) m
