-- The system's winning states, as a solver holds them.
use Rattle.std.specs.Prelude.{◌≡◌, ℕ, suc, ◌+◌, ◌<◌, true, false, List, ◌∷◌, length, map, slice_get, slice_index, Some, None, Vec}
use Rattle.std.specs.declared.alloc.Global.{Global}
use Rattle.spec_model.specs.Games.{GameData}
use Rattle.spec_model.specs.Steps.{below}
use Rattle.spec_model.specs.Sets.{StateSet, system_forces, IsGreatest}
use Rattle.regions.specs.Kept.{Kept, Item, Region, Meaning, States, Replaces, Stays, weight}
use Rattle.gr1_law.specs.Layers.{LayerSets, goal_sets, assumption_sets, IsLeastNumber, AreGreatestRanks, IsWinning}
use Rattle.gr1_sys.specs.declared.layers.SysLayer.{SysLayer}
use Rattle.gr1_sys.specs.declared.solving.Iteration.{Iteration}
use Rattle.gr1_sys.specs.declared.solving.Iteration.TheVariants.{Settled, Next}
use Rattle.gr1_sys.specs.Solution.{layer_of, following}
use Rattle.gr1_sys.specs.Held.{weight_as, MakesRegions, SpendsAll, rank_sets, sets_of, ranks_of, all_regions, AllHaveParts}

module _ {G R M : Type 0} where
  -- a region for Z and those of its layers are held besides
  pub record HoldsLayers (g : GameData) (old new : Kept R M) (z : R) (set : StateSet) (goals : List (Vec (SysLayer G R M) Global)) : Type 0 where
    pub made : MakesRegions old new (z ∷ all_regions goals) (set ∷ sets_of (rank_sets g set) goals)
    pub parts : AllHaveParts (length (assumption_sets g)) goals
    pub counted : length goals ≡ length (goal_sets g)
    pub greatest : (j : ℕ) → j < length goals → IsLeastNumber (λ r. layer_of g set j r ≡ layer_of g set j (suc r)) (slice_index (ranks_of goals) j)

  -- One value of Z was looked at: it equals the one that follows, and its layers were made; or the next is in its place.
  abbrev pub Steps : Kept R M → Kept R M → R → StateSet → Iteration G R M → Type 0
  Steps old new z set (Settled y goals) =
      (y ≡ z) × ((set ≡ following old.game set) × (MakesRegions old new (all_regions goals.items) (sets_of (rank_sets old.game set) goals.items) × (AllHaveParts (length (assumption_sets old.game)) goals.items ×
      ((length goals.items ≡ length (goal_sets old.game)) × ((j : ℕ) → j < length goals.items → IsLeastNumber (λ r. layer_of old.game set j r ≡ layer_of old.game set j (suc r)) (slice_index (ranks_of goals.items) j))))))
  Steps old new z set (Next next) = Replaces old new (Region z) (States set) (Region next) (States (following old.game set)) × (set ≡ following old.game set → ⊥)

  -- Z is the greatest set that equals the one that follows it.
  pub record HasWon (old new : Kept R M) (z : R) (goals : List (Vec (SysLayer G R M) Global)) : Type 0 where
    pub layers : HoldsLayers old.game old new z (new.set z) goals
    pub greatest : IsGreatest (following old.game) (new.set z)

  -- ---- what the solver gives

  -- The system wins: it forces the first state into Z, the winning states. Each goal has the layers of its ranks, from 1 to
  -- the greatest, and each layer the part of each assumption. Their regions are held besides what was held, and no others.
  pub record WonBySystem (old new : Kept R M) (z : R) (goals : List (Vec (SysLayer G R M) Global)) (sets : LayerSets) : Type 0 where
    pub held : (w : Item R M → Meaning → ℕ) → weight new w ≡ weight_as (z ∷ all_regions goals) (map new.set (z ∷ all_regions goals)) w + weight old w
    pub jam : new.jam ≡ None
    pub winning : IsWinning old.game (new.set z) sets
    pub forced : system_forces old.game (new.set z) None ≡ true
    pub ranks : AreGreatestRanks old.game sets (ranks_of goals)
    pub shown : (j r : ℕ) (goal : Vec (SysLayer G R M) Global) (layer : SysLayer G R M) → slice_get goals j ≡ Some goal → slice_get goal.items r ≡ Some layer →
        (new.set layer.y ≡ sets.y j (suc r)) × (map new.set layer.x.items ≡ map (sets.x j (suc r)) (below (length (assumption_sets old.game))))

module _ {R M : Type 0} where
  -- the system doesn't force the first state into the winning states, and nothing more is held
  pub record IsLost (old new : Kept R M) : Type 0 where
    pub stays : Stays old new
    pub escapes : (z : StateSet) (sets : LayerSets) → IsWinning old.game z sets → system_forces old.game z None ≡ false

  -- it was asked whether the first state is forced into Z: it is, and nothing changed; or it isn't, and the regions are spent
  abbrev pub IsForced : Kept R M → Kept R M → R → Type 0
  IsForced old new z = Stays old new × (system_forces old.game (old.set z) None ≡ true)

  abbrev pub IsDropped : Kept R M → Kept R M → R → List R → Type 0
  IsDropped old new z rs = SpendsAll old new (z ∷ rs) × (system_forces old.game (old.set z) None ≡ false)
