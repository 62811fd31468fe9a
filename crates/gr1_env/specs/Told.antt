-- What is told of the sets of one moment when a call halts, the moments that the solver goes through, and what regions stand for.
use Rattle.std.specs.Prelude.{◌≡◌, ℕ, suc, pred, ◌&&◌, ◌==◌, if◌then◌else◌, List, [], ◌∷◌, map, Some, None}
use Rattle.spec_model.specs.Games.{GameData}
use Rattle.spec_model.specs.Sets.{StateSet, rest}
use Rattle.regions.specs.declared.types.Halt.{Halt}
use Rattle.regions.specs.declared.types.Halt.TheVariants.{Budget, Memory}
use Rattle.regions.specs.Kept.{Kept, Meaning, States, Each, Call, All, NoStates, And, Or, Not, Holding, PreEnv, StartEnv, Jam, JamAdds}
use Rattle.gr1_law.specs.Layers.{goal_set, assumption_set, assumption_sets}
use Rattle.gr1_law.specs.EnvLayers.{delay, EnvLayerSets, IsLayerCount}
use Rattle.gr1_sys.specs.Moment.{IsGoal, IsAssumption}
use Rattle.gr1_env.specs.declared.givens.EnvSets.TheVariants.{Misses, Assumptions}
use Rattle.gr1_env.specs.Givens.{wanted}
use Rattle.gr1_env.specs.declared.layers.EnvLayer.{EnvLayer}
use Rattle.gr1_env.specs.Solution.{base_of, hold_on, layer_on}
use Rattle.gr1_env.specs.Held.{all_regions}
use Rattle.gr1_env.specs.Moment.{IsValueOfY, Moment, IsMoment, base_at, cover_at, IsIterate, value, IsNamed}

-- ---- what is told

abbrev pub IsOfMoment : GameData → Moment → Meaning → Type 0
IsOfMoment g m (States t) = IsNamed g m t
IsOfMoment g m _ = ⊥

abbrev pub IsIterateOfMoment : GameData → Moment → Meaning → Type 0
IsIterateOfMoment g m (States t) = IsIterate g m t
IsIterateOfMoment g m _ = ⊥

-- Only these calls are made: whether the first state is forced into a set is asked of the last layer, and from where the next is, of iterates.
abbrev pub AsksOfIterates : GameData → Moment → Call → List Meaning → Type 0
AsksOfIterates g m PreEnv asked = Each (IsIterateOfMoment g m) asked
AsksOfIterates g m StartEnv asked = (n : ℕ) × (IsLayerCount m.layers n × (asked ≡ States (m.layers.z n) ∷ []))
AsksOfIterates g m All asked = Unit {0}
AsksOfIterates g m NoStates asked = Unit {0}
AsksOfIterates g m And asked = Unit {0}
AsksOfIterates g m Or asked = Unit {0}
AsksOfIterates g m Not asked = Unit {0}
AsksOfIterates g m Holding asked = Unit {0}
AsksOfIterates g m _ asked = ⊥

module _ {R M : Type 0} where
  -- A budget that ran out is told, with what was held then: what was held at first, and of what was made only sets of this moment.
  pub record TellsMoment (g : GameData) (old new : Kept R M) (m : Moment) : Type 0 where
    pub jam : Jam
    pub told : new.jam ≡ Some jam
    pub adds : JamAdds old (IsOfMoment g m) jam
    pub asked : AsksOfIterates g m jam.call jam.arguments

  -- where a call halted at this moment
  abbrev pub TellsHalt : GameData → Kept R M → Kept R M → Moment → Halt → Type 0
  TellsHalt g old new m Budget = TellsMoment g old new m
  TellsHalt g old new m Memory = new.jam ≡ None

  -- where it halted at some moment
  abbrev pub TellsOneMoment : Kept R M → Kept R M → Halt → Type 0
  TellsOneMoment old new Budget = (m : Moment) × (IsMoment old.game m × TellsMoment old.game old new m)
  TellsOneMoment old new Memory = new.jam ≡ None

-- ---- finished layers

-- the moment of layers: each value is the hold itself
abbrev pub settled : EnvLayerSets → Moment
settled e = record { layers = e; value = e.y }

-- The regions of the layers stand for iterates of their moment.
pub record AreOfOneMoment {G R M : Type 0} (g : GameData) (k : Kept R M) (ls : List (EnvLayer G R M)) (sets : EnvLayerSets) : Type 0 where
  pub moment : IsMoment g (settled sets)
  pub iterates : Each (IsIterateOfMoment g (settled sets)) (map States (map k.set (all_regions ls)))

-- ---- the solver's moments

module _ (g : GameData) where
  -- what a goal's hold rests on above a layer
  abbrev pub base_for : (lower : StateSet) → ℕ → StateSet
  base_for lower j = base_of g lower (rest g (goal_set g j))

  -- the layers by number, and the holds above them
  abbrev pub layer_number : ℕ → StateSet
  layer_number a = layer_on g (wanted g Misses) (wanted g Assumptions) a

  abbrev pub hold_number : ℕ → ℕ → StateSet
  hold_number a j = hold_on g (base_for (layer_number a) j) (wanted g Assumptions)

  abbrev pub layers_for : EnvLayerSets
  layers_for =
      record {
        z = layer_number;
        y = λ a j. hold_number (pred a) j;
        x = λ a j i r. delay g (layer_number (pred a)) (hold_number (pred a) j) j i r;
      }

  -- the hold of one goal above the layer numbered a is made, and its value is y
  abbrev pub moment_at : (a j : ℕ) → StateSet → Moment
  moment_at a j y = record { layers = layers_for; value = λ b i. if b == suc a && i == j then y else hold_number (pred b) i }

module _ {R M : Type 0} where
  -- where a call halted while this hold was made
  abbrev pub TellsHold : GameData → Kept R M → Kept R M → (a j : ℕ) → Halt → Type 0
  TellsHold g old new a j Budget = (y : StateSet) × (IsValueOfY g (layer_number g a) j y × TellsMoment g old new (moment_at g a j y))
  TellsHold g old new a j Memory = new.jam ≡ None

  -- some hold above the layer numbered a, and above some layer
  abbrev pub TellsLayer : GameData → Kept R M → Kept R M → ℕ → Halt → Type 0
  TellsLayer g old new a Budget = (j : ℕ) × (IsGoal g j × TellsHold g old new a j Budget)
  TellsLayer g old new a Memory = new.jam ≡ None

  abbrev pub TellsLayers : GameData → Kept R M → Kept R M → Halt → Type 0
  TellsLayers g old new Budget = (a : ℕ) × TellsLayer g old new a Budget
  TellsLayers g old new Memory = new.jam ≡ None

-- ---- what regions stand for

-- The two sets are what the equations of a hold cover, and the states of the assumption.
pub record AreOfDelay (g : GameData) (m : Moment) (a j i : ℕ) (cover asm : StateSet) : Type 0 where
  pub goal_in : IsGoal g j
  pub index_in : IsAssumption g i
  pub cover_is : cover ≡ cover_at g m a j
  pub asm_is : asm ≡ assumption_set g i

-- The sets are what a hold rests on, its value of Y, and those of all assumptions.
pub record AreOfHold (g : GameData) (m : Moment) (a j : ℕ) (base y : StateSet) (asms : List StateSet) : Type 0 where
  pub goal_in : IsGoal g j
  pub base_is : base ≡ base_at g m a j
  pub value_is : y ≡ m.value (suc a) j
  pub asms_are : asms ≡ assumption_sets g

-- The sets are those at which each goal is false, and those of each assumption.
pub record AreGiven (g : GameData) (misses asms : List StateSet) : Type 0 where
  pub misses_are : misses ≡ wanted g Misses
  pub asms_are : asms ≡ wanted g Assumptions
