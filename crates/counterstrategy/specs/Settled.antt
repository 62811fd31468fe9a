-- What is looked at to remember a position: the regions of the layers, of the goals and of the assumptions.
use Rattle.std.specs.Prelude.{◌≡◌, ℕ, suc, ◌<◌, not, if◌then◌else◌, List, map, length, slice_get, Some}
use Rattle.spec_model.specs.Games.{GameData, State}
use Rattle.regions.specs.Kept.{Kept}
use Rattle.gr1_law.specs.Layers.{goal_sets, goal_set, assumption_sets, assumption_set}
use Rattle.gr1_law.specs.EnvLayers.{EnvLayerSets}
use Rattle.gr1_law.specs.Counter.{CounterMemory, next_assumption}
use Rattle.gr1_env.specs.declared.layers.EnvGoal.{EnvGoal}
use Rattle.gr1_env.specs.declared.layers.EnvLayer.{EnvLayer}
use Rattle.strategy_parts.specs.Owned.{RegionsAre}
use Rattle.counterstrategy.specs.declared.kit.Kit.{Kit}

-- what is remembered at a state of the goal's hold in the layer, by the assumption that was aimed at when it came
abbrev pub settled_at : GameData → State → (layer goal before : ℕ) → CounterMemory
settled_at g s layer goal before =
    record {
      denying = not (goal_set g goal s);
      layer = layer;
      goal = goal;
      before = before;
      index = if assumption_set g before s then next_assumption g before else before;
    }

module _ {G R M : Type 0} where
  -- the regions of the layers themselves, and of the holds of a layer
  abbrev pub tops : List (EnvLayer G R M) → List R
  tops ls = map (λ (l : EnvLayer G R M). l.z) ls

  abbrev pub holds_in : List (EnvGoal G R M) → List R
  holds_in goals = map (λ (e : EnvGoal G R M). e.y) goals

  -- they are held as the layers and the holds, one for each goal
  pub record LayersAre (k : Kept R M) (ls : List (EnvLayer G R M)) (e : EnvLayerSets) : Type 0 where
    pub layers : RegionsAre k (tops ls) (λ a. e.z (suc a))
    pub holds : (a : ℕ) (l : EnvLayer G R M) → slice_get ls a ≡ Some l → RegionsAre k (holds_in l.goals.items) (e.y (suc a))
    pub counted : (a : ℕ) (l : EnvLayer G R M) → slice_get ls a ≡ Some l → length l.goals.items ≡ length (goal_sets k.game)

  -- those of the goals and of the assumptions are held as their states
  pub record GoalsAre (k : Kept R M) (kit : Kit G R M) : Type 0 where
    pub goals : RegionsAre k kit.goals.items (goal_set k.game)
    pub goals_counted : length kit.goals.items ≡ length (goal_sets k.game)
    pub asms : RegionsAre k kit.asms.items (assumption_set k.game)
    pub asms_counted : length kit.asms.items ≡ length (assumption_sets k.game)

  -- they are, and there are those of this goal and of this assumption
  pub record AreThere (k : Kept R M) (kit : Kit G R M) (goal asm : ℕ) : Type 0 where
    pub are : GoalsAre k kit
    pub goal_in : goal < length kit.goals.items
    pub asm_in : asm < length kit.asms.items
