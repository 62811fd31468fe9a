-- What the regions and the moves of a strategy stand for: the sets of the layers, by their numbers.
use Rattle.std.specs.Prelude.{ℕ, suc, List, [], ◌∷◌, Vec}
use Rattle.std.specs.declared.alloc.Global.{Global}
use Rattle.spec_model.specs.Sets.{StateSet}
use Rattle.regions.specs.declared.types.When.{When}
use Rattle.regions.specs.declared.types.When.TheVariants.{Later}
use Rattle.regions.specs.Kept.{Kept, Move, Outputs, IsHeldAs}
use Rattle.strategy_parts.specs.Owned.{RegionsAre}
use Rattle.gr1_sys.specs.declared.layers.SysLayer.{SysLayer}
use Rattle.controller.specs.declared.aims.Aim.{Aim}

module _ {R M : Type 0} where
  -- the moves are held as those into the sets
  abbrev pub MovesLead : Kept R M → When → List M → (ℕ → StateSet) → Type 0
  MovesLead k when [] sets = Unit {0}
  MovesLead k when (m ∷ ms) sets = IsHeldAs k (Move m) (Outputs when (sets 0)) × MovesLead k when ms (λ i. sets (suc i))

module _ {G R M : Type 0} where
  -- for each rank from the first on: the moves into the layer, and those into its parts
  abbrev pub AimsLead : Kept R M → When → List (Aim G R M) → (y : ℕ → StateSet) → (x : ℕ → ℕ → StateSet) → Type 0
  AimsLead k when [] y x = Unit {0}
  AimsLead k when (a ∷ more) y x = IsHeldAs k (Move a.layer) (Outputs when (y 0)) × MovesLead k when a.parts.items (x 0) × AimsLead k when more (λ r. y (suc r)) (λ r. x (suc r))

  abbrev pub LeadSomewhere : Kept R M → List (Aim G R M) → Type 0
  LeadSomewhere k aims = (when : When) × (y : ℕ → StateSet) × (x : ℕ → ℕ → StateSet) × AimsLead k when aims y x

  -- likewise for each goal
  abbrev pub GoalsLead : Kept R M → List (Vec (Aim G R M) Global) → (y : ℕ → ℕ → StateSet) → (x : ℕ → ℕ → ℕ → StateSet) → Type 0
  GoalsLead k [] y x = Unit {0}
  GoalsLead k (v ∷ vs) y x = AimsLead k Later v.items (y 0) (x 0) × GoalsLead k vs (λ j. y (suc j)) (λ j. x (suc j))

  -- the parts of each layer are held as the sets
  abbrev pub LayersAre : Kept R M → List (SysLayer G R M) → (x : ℕ → ℕ → StateSet) → Type 0
  LayersAre k [] x = Unit {0}
  LayersAre k (l ∷ ls) x = RegionsAre k l.x.items (x 0) × LayersAre k ls (λ r. x (suc r))

  abbrev pub AllLayersAre : Kept R M → List (Vec (SysLayer G R M) Global) → (x : ℕ → ℕ → ℕ → StateSet) → Type 0
  AllLayersAre k [] x = Unit {0}
  AllLayersAre k (v ∷ vs) x = LayersAre k v.items (x 0) × AllLayersAre k vs (λ j. x (suc j))
