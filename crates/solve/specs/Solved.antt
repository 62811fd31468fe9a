-- A game that is solved: the layers of the side that wins are held.
use Rattle.std.specs.Prelude.{◌≡◌, true, List, length, None}
use Rattle.spec_model.specs.Sets.{environment_forces}
use Rattle.regions.specs.Kept.{Kept, Stays}
use Rattle.regions.specs.declared.regions.Regions.{Ghosts}
use Rattle.gr1_law.specs.Layers.{LayerSets}
use Rattle.gr1_law.specs.EnvLayers.{EnvLayerSets, AreEnvLayers, IsLayerCount, AreDelayCounts, denial_count}
use Rattle.gr1_sys.specs.Held.{HasTogether}
use Rattle.gr1_env.specs.declared.layers.EnvLayer.{EnvLayer}
use Rattle.gr1_env.specs.Held.{all_regions}
use Rattle.gr1_env.specs.Solved.{counts_of, denials_of}
use Rattle.controller.specs.Made.{AreLayersOf}
use Rattle.counterstrategy.specs.Made.{AreLayersOf as AreLostLayersOf}
use Rattle.solve.specs.Budgets.{HoldsNothing, HoldsOneMoment}
use Rattle.solve.specs.Winners.{IsWonGame}
use Rattle.solve.specs.declared.solving.Opposed.{Opposed}
use Rattle.solve.specs.declared.solving.Opposed.TheVariants as opposed
use Rattle.solve.specs.declared.solving.Solved.{Solved}
use Rattle.solve.specs.declared.solving.Solved.TheVariants.{BySystem, ByEnvironment}

module _ {G R M : Type 0} where
  -- The environment wins: a counterstrategy can be made of these layers, whose numbers are those of the game.
  pub record AreEnvLayersOf (k : Kept R M) (layers : List (EnvLayer G R M)) (e : EnvLayerSets) : Type 0 where
    pub are : AreLostLayersOf k layers e
    pub last : IsLayerCount e (length layers)
    pub denials : denials_of layers ≡ denial_count k.game (length layers) (counts_of layers)

  -- the layers of the side that wins
  abbrev pub HoldsLayers : {ghosts : Ghosts G R M} → Kept R M → Solved G R M ghosts → Type 0
  HoldsLayers k (BySystem layers) = (l : LayerSets) × AreLayersOf k layers.z layers.goals.items l
  HoldsLayers k (ByEnvironment layers) = (e : EnvLayerSets) × AreEnvLayersOf k layers.layers.items e

  -- No budget ran out, and where nothing was held before, all that is held are iterates of one moment.
  pub record IsSolved {ghosts : Ghosts G R M} (old new : Kept R M) (solved : Solved G R M ghosts) : Type 0 where
    pub layers : HoldsLayers new solved
    pub free : new.jam ≡ None
    pub of_one_moment : HoldsNothing old → HoldsOneMoment new

  -- the system wins with this number, and nothing else is held; or the environment's layers are held
  abbrev pub IsOpposed : {ghosts : Ghosts G R M} → Kept R M → Kept R M → Opposed G R M ghosts → Type 0
  IsOpposed old new (opposed.BySystem k) = IsWonGame old.game k × Stays old new
  IsOpposed old new (opposed.ByEnvironment layers) = IsSolved old new (ByEnvironment layers)
