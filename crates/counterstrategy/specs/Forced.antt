-- Where an input forces the next state into, of several sets by number, and what the moves of a strategy stand for.
use Rattle.std.specs.Prelude.{◌≡◌, ℕ, suc, ◌+◌, ◌*◌, ◌<◌, List, [], ◌∷◌, Vec, length, slice_get, slice_index, Option, Some, None, find}
use Rattle.std.specs.declared.alloc.Global.{Global}
use Rattle.spec_model.specs.Values.{Assignment}
use Rattle.spec_model.specs.Games.{GameData, inputs_of}
use Rattle.spec_model.specs.Steps.{Before}
use Rattle.spec_model.specs.Sets.{StateSet}
use Rattle.regions.specs.declared.types.When.{When}
use Rattle.regions.specs.declared.types.When.TheVariants.{Later}
use Rattle.regions.specs.Kept.{Kept, Move, Inputs, IsHeldAs}
use Rattle.regions.specs.Rules.{inputs_into}
use Rattle.gr1_law.specs.EnvLayers.{EnvLayerSets}

-- the first input, if there is one, that forces the next state into the set
abbrev pub first_forcing : GameData → When → StateSet → Before → Option Assignment
first_forcing g when t b = find (inputs_into g when t b) (inputs_of g)

-- the set with this number is the first that an input forces the next state into, and the first such input is this
pub record IsFirstForced (g : GameData) (when : When) (sets : ℕ → StateSet) (b : Before) (r : ℕ) (x : Assignment) : Type 0 where
  pub none_before : (i : ℕ) → i < r → first_forcing g when (sets i) b ≡ None
  pub here : first_forcing g when (sets r) b ≡ Some x

module _ {R M : Type 0} where
  -- the moves are held as those into the sets, one after the other
  abbrev pub MovesLead : Kept R M → When → List M → (ℕ → StateSet) → Type 0
  MovesLead k when [] sets = Unit {0}
  MovesLead k when (m ∷ ms) sets = IsHeldAs k (Move m) (Inputs when (sets 0)) × MovesLead k when ms (λ i. sets (suc i))

  abbrev pub LeadSomewhere : Kept R M → List M → Type 0
  LeadSomewhere k ms = (when : When) × (sets : ℕ → StateSet) × MovesLead k when ms sets

  -- The moves into the iterates of one hold for one assumption, as many as its greatest rank.
  pub record IsChain (k : Kept R M) (v : Vec M Global) (sets : ℕ → StateSet) (count : ℕ) : Type 0 where
    pub lead : MovesLead k Later v.items (λ r. sets (suc r))
    pub counted : length v.items ≡ count

  -- There are those of each hold for each assumption: by the number of the layer from 0, of the goal and of the assumption.
  abbrev pub ChainsLead : Kept R M → List (Vec M Global) → (layers goals asms : ℕ) → EnvLayerSets → (ℕ → ℕ → List ℕ) → Type 0
  ChainsLead k chains layers goals asms e counts =
      (a j i : ℕ) → a < layers → j < goals → i < asms → (v : Vec M Global) × (slice_get chains ((a * goals + j) * asms + i) ≡ Some v) × IsChain k v (e.x (suc a) j i) (slice_index (counts (suc a) j) i)
