-- The environment's layers, as a solver holds them.
use Rattle.std.specs.Prelude.{◌≡◌, ℕ, zero, suc, ◌+◌, true, false, List, [], ◌∷◌, length, map, max, sum, get_or, slice_get, Some, None, Vec}
use Rattle.std.specs.Vec.{vec_len}
use Rattle.std.specs.declared.alloc.Global.{Global}
use Rattle.spec_model.specs.Steps.{below}
use Rattle.spec_model.specs.Sets.{StateSet, environment_forces}
use Rattle.regions.specs.Kept.{Kept, Item, Meaning, Stays, weight}
use Rattle.gr1_law.specs.Layers.{goal_sets, IsLeastNumber}
use Rattle.gr1_law.specs.EnvLayers.{EnvLayerSets, AreEnvLayers, IsLayerCount, AreDelayCounts, denial_count}
use Rattle.gr1_sys.specs.Held.{weight_as, SpendsAll}
use Rattle.gr1_env.specs.declared.layers.EnvGoal.{EnvGoal}
use Rattle.gr1_env.specs.declared.layers.EnvLayer.{EnvLayer}
use Rattle.gr1_env.specs.Held.{all_regions, HaveLayers}
use Rattle.gr1_env.specs.Solution.{layer_on}

-- ---- numbers

module _ {G R M : Type 0} where
  -- how many iterates there are for each assumption, of each hold
  abbrev pub goal_counts : List (EnvGoal G R M) → List (List ℕ)
  goal_counts goals = map (λ (e : EnvGoal G R M). map (λ (v : Vec R Global). vec_len v) e.x.items) goals

  abbrev pub layer_counts : List (EnvLayer G R M) → List (List (List ℕ))
  layer_counts ls = map (λ (l : EnvLayer G R M). goal_counts l.goals.items) ls

  -- those of a layer by its number from 1, and a goal
  abbrev pub counts_of : List (EnvLayer G R M) → ℕ → ℕ → List ℕ
  counts_of ls zero j = []
  counts_of ls (suc a) j = get_or (get_or (layer_counts ls) a []) j []

-- the greatest of the numbers that elements have, and 0 where there is none
abbrev pub greatest : {X : Type 0} → (X → ℕ) → List X → ℕ
greatest count [] = 0
greatest count (x ∷ xs) = max (count x) (greatest count xs)

module _ {G R M : Type 0} where
  -- how many iterates a hold has, and the most of the holds of a layer
  abbrev pub hold_count : EnvGoal G R M → ℕ
  hold_count e = sum (map (λ (v : Vec R Global). vec_len v) e.x.items)

  abbrev pub layer_count : EnvLayer G R M → ℕ
  layer_count l = greatest hold_count l.goals.items

  -- one more than the most iterates of one hold
  abbrev pub denials_of : List (EnvLayer G R M) → ℕ
  denials_of ls = 1 + greatest layer_count ls

-- ---- what the solver gives

module _ {G R M : Type 0} where
  -- The regions of the layers stand for these sets.
  pub record ShowsLayers (new : Kept R M) (ls : List (EnvLayer G R M)) (sets : EnvLayerSets) : Type 0 where
    pub layer : (a : ℕ) (l : EnvLayer G R M) → slice_get ls a ≡ Some l → new.set l.z ≡ sets.z (suc a)
    pub hold : (a j : ℕ) (l : EnvLayer G R M) (e : EnvGoal G R M) → slice_get ls a ≡ Some l → slice_get l.goals.items j ≡ Some e → new.set e.y ≡ sets.y (suc a) j
    pub delays : (a j i : ℕ) (l : EnvLayer G R M) (e : EnvGoal G R M) (v : Vec R Global) → slice_get ls a ≡ Some l → slice_get l.goals.items j ≡ Some e → slice_get e.x.items i ≡ Some v →
        map new.set v.items ≡ map (λ r. sets.x (suc a) j i (suc r)) (below (vec_len v))

  -- The environment wins: it forces the first state into the last layer. There are the layers from 1 to N; each has the hold
  -- of each goal, and each hold its iterates for each assumption, from rank 1 to the greatest. Their regions are held besides
  -- what was held, and no others.
  pub record WonByEnvironment (old new : Kept R M) (ls : List (EnvLayer G R M)) (sets : EnvLayerSets) : Type 0 where
    pub held : (w : Item R M → Meaning → ℕ) → weight new w ≡ weight_as (all_regions ls) (map new.set (all_regions ls)) w + weight old w
    pub jam : new.jam ≡ None
    pub layers : AreEnvLayers old.game sets
    pub last : IsLayerCount sets (length ls)
    pub forced : environment_forces old.game (sets.z (length ls)) None ≡ true
    pub goals : (a : ℕ) (l : EnvLayer G R M) → slice_get ls a ≡ Some l → length l.goals.items ≡ length (goal_sets old.game)
    pub counts : AreDelayCounts old.game sets (length ls) (counts_of ls)
    pub denials : denials_of ls ≡ denial_count old.game (length ls) (counts_of ls)
    pub shown : ShowsLayers new ls sets

module _ {R M : Type 0} where
  -- the environment doesn't force the first state into its last layer, and nothing more is held
  pub record IsLost (old new : Kept R M) : Type 0 where
    pub stays : Stays old new
    pub escapes : (sets : EnvLayerSets) (n : ℕ) → AreEnvLayers old.game sets → IsLayerCount sets n → environment_forces old.game (sets.z n) None ≡ false

  -- it was asked whether the first state is forced into the last layer: it is, and nothing changed; or it isn't, and the
  -- regions are spent
  abbrev pub IsForced : Kept R M → Kept R M → StateSet → Type 0
  IsForced old new last = Stays old new × (environment_forces old.game last None ≡ true)

  abbrev pub IsDropped : Kept R M → Kept R M → StateSet → List R → Type 0
  IsDropped old new last rs = SpendsAll old new rs × (environment_forces old.game last None ≡ false)

module _ {G R M : Type 0} where
  -- the layers were made, and the first state is forced into the last
  abbrev pub HasWon : Kept R M → Kept R M → (misses asms : List StateSet) → List (EnvLayer G R M) → Type 0
  HasWon old new misses asms ls = HaveLayers old.game old new misses asms ls × (environment_forces old.game (layer_on old.game misses asms (length ls)) None ≡ true)

module _ {R M : Type 0} where
  -- or it isn't
  pub record HasLost (old new : Kept R M) (misses asms : List StateSet) : Type 0 where
    pub stays : Stays old new
    pub count : ℕ
    pub last : IsLeastNumber (λ a. layer_on old.game misses asms a ≡ layer_on old.game misses asms (suc a)) count
    pub escapes : environment_forces old.game (layer_on old.game misses asms count) None ≡ false
