-- What is asked for to make a strategy, what is made, and what is told where it isn't.
use Rattle.std.specs.Prelude.{◌≡◌, ℕ, suc, true, List, [], ◌∷◌, ◌++◌, map, length, slice_get, Some, None, Vec}
use Rattle.std.specs.declared.alloc.Global.{Global}
use Rattle.spec_model.specs.declared.value.Owner.TheVariants.{Sys}
use Rattle.spec_model.specs.Games.{GameData}
use Rattle.spec_model.specs.Steps.{below}
use Rattle.spec_model.specs.Sets.{StateSet, system_forces}
use Rattle.spec_model.specs.WellMade.{WellMade}
use Rattle.regions.specs.declared.types.Halt.{Halt}
use Rattle.regions.specs.declared.types.When.{When}
use Rattle.regions.specs.declared.types.When.TheVariants.{First, Later}
use Rattle.regions.specs.Kept.{Kept, Meaning, States, Outputs, IsSameGame}
use Rattle.gr1_law.specs.Layers.{LayerSets, IsWinning, AreGreatestRanks, goal_sets, assumption_sets}
use Rattle.gr1_sys.specs.declared.layers.SysLayer.{SysLayer}
use Rattle.gr1_sys.specs.Held.{HasTogether, HoldsWithoutAll, all_regions, ranks_of}
use Rattle.strategy_parts.specs.Owned.{Every}
use Rattle.strategy_parts.specs.Told.{Tale, IsIn, TellsHalt as HaltIsTold}
use Rattle.controller.specs.declared.aims.Aim.{Aim}

-- ---- what is told of

-- The sets that first moves lead into, and later ones.
abbrev pub Targets : Type 0
Targets = When → List StateSet

-- What is made besides the layers: the states of a goal, or the moves into a target.
abbrev pub tale_of : GameData → Targets → Tale
tale_of g targets = record { who = Sys; sets = goal_sets g; targets = targets }

module _ {R M : Type 0} where
  -- each region stands for a target of that time
  abbrev pub AreTargets : Targets → When → Kept R M → List R → Type 0
  AreTargets targets when k rs = Every (λ r. IsIn (k.set r) (targets when)) rs

  -- why a budget ran out is told, or memory was wanting
  abbrev pub TellsHalt : Kept R M → Kept R M → Targets → Halt → Type 0
  TellsHalt old new targets halt = HaltIsTold old new (tale_of old.game targets) halt

  -- ---- what is made

  -- the moves into each region
  abbrev pub leadings : Kept R M → When → List R → List Meaning
  leadings k when rs = map (λ r. Outputs when (k.set r)) rs

module _ {G R M : Type 0} where
  -- the parts that have moves of their own: at the first position none
  abbrev pub parts_for : When → SysLayer G R M → List R
  parts_for First l = []
  parts_for Later l = l.x.items

  abbrev pub regions_for : When → List (SysLayer G R M) → List R
  regions_for when [] = []
  regions_for when (l ∷ ls) = (l.y ∷ parts_for when l) ++ regions_for when ls

  -- for each layer one aim, with as many parts
  abbrev pub AreLike : When → List (Aim G R M) → List (SysLayer G R M) → Type 0
  AreLike when [] [] = Unit {0}
  AreLike when [] (l ∷ ls) = ⊥
  AreLike when (a ∷ more) [] = ⊥
  AreLike when (a ∷ more) (l ∷ ls) = (length a.parts.items ≡ length (parts_for when l)) × AreLike when more ls

  -- likewise for each goal
  abbrev pub AreAllLike : List (Vec (Aim G R M) Global) → List (Vec (SysLayer G R M) Global) → Type 0
  AreAllLike [] [] = Unit {0}
  AreAllLike [] (v ∷ vs) = ⊥
  AreAllLike (a ∷ more) [] = ⊥
  AreAllLike (a ∷ more) (v ∷ vs) = AreLike Later a.items v.items × AreAllLike more vs

  -- the layers of the first goal
  abbrev pub first_layers : List (Vec (SysLayer G R M) Global) → List (SysLayer G R M)
  first_layers [] = []
  first_layers (v ∷ vs) = v.items

  -- the moves of the first position, and the later ones
  abbrev pub move_meanings : Kept R M → List (Vec (SysLayer G R M) Global) → List Meaning
  move_meanings k layers = leadings k First (regions_for First (first_layers layers)) ++ leadings k Later (all_regions layers)

  -- First moves lead into the layers of the first goal, later ones into each layer of each goal and into its parts.
  abbrev pub targets_of : Kept R M → List (Vec (SysLayer G R M) Global) → Targets
  targets_of k layers First = map k.set (regions_for First (first_layers layers))
  targets_of k layers Later = map k.set (all_regions layers)

  -- the states of each goal, and the moves
  abbrev pub made_meanings : Kept R M → List (Vec (SysLayer G R M) Global) → List Meaning
  made_meanings k layers = map States (goal_sets k.game) ++ move_meanings k layers

  -- ---- what is asked for

  -- The system wins, and these regions are held for Z and its layers.
  pub record AreLayersOf (k : Kept R M) (z : R) (layers : List (Vec (SysLayer G R M) Global)) (l : LayerSets) : Type 0 where
    pub made : WellMade k.game
    pub held : HasTogether k (z ∷ all_regions layers)
    pub winning : IsWinning k.game (k.set z) l
    pub forced : system_forces k.game (k.set z) None ≡ true
    pub ranks : AreGreatestRanks k.game l (ranks_of layers)
    pub shown : (j r : ℕ) (goal : Vec (SysLayer G R M) Global) (layer : SysLayer G R M) → slice_get layers j ≡ Some goal → slice_get goal.items r ≡ Some layer →
        (k.set layer.y ≡ l.y j (suc r)) × (map k.set layer.x.items ≡ map (l.x j (suc r)) (below (length (assumption_sets k.game))))

  -- after a call that halted and spent Z and the layers
  pub record IsRefused (old new : Kept R M) (z : R) (layers : List (Vec (SysLayer G R M) Global)) (halt : Halt) : Type 0 where
    pub held : HoldsWithoutAll old new (z ∷ all_regions layers)
    pub told : TellsHalt old new (targets_of old layers) halt
    pub game : IsSameGame old new
