-- The regions of layers, in one list, and the sets that they stand for.
use Rattle.std.specs.Prelude.{◌≡◌, ℕ, suc, Bool, true, false, List, [], ◌∷◌, ◌++◌, map, length, None, Vec}
use Rattle.std.specs.Vec.{vec_len}
use Rattle.std.specs.declared.alloc.Global.{Global}
use Rattle.spec_model.specs.Games.{GameData}
use Rattle.spec_model.specs.Sets.{StateSet, no_states, either, pre_env}
use Rattle.regions.specs.Kept.{Kept, Region, States, HasRegion, MakesRegion, HoldsBesides, Replaces}
use Rattle.gr1_law.specs.Layers.{IsLeastNumber}
use Rattle.gr1_sys.specs.Held.{HasEach, MakesRegions}
use Rattle.gr1_env.specs.declared.layers.EnvGoal.{EnvGoal}
use Rattle.gr1_env.specs.declared.layers.EnvLayer.{EnvLayer}
use Rattle.gr1_env.specs.declared.givens.Given.{Given}
use Rattle.gr1_env.specs.declared.holds.Iteration.{Iteration}
use Rattle.gr1_env.specs.declared.holds.Iteration.TheVariants.{Settled, Next}
use Rattle.gr1_env.specs.Solution.{at, delay_on, cover_of, hold_value_on, hold_on, layer_over, layer_on, delay_sets}

-- ---- lists

-- what each element gives, with its number, one after the other
abbrev pub gather : {X Y : Type 0} → (ℕ → X → List Y) → List X → List Y
gather f [] = []
gather f (x ∷ xs) = f 0 x ++ gather (λ n. f (suc n)) xs

-- something holds of each element and its number
abbrev pub AllOf : {X : Type 0} → (ℕ → X → Type 0) → List X → Type 0
AllOf P [] = Unit {0}
AllOf P (x ∷ xs) = P 0 x × AllOf (λ n. P (suc n)) xs

-- the last element, or the one given where there is none
abbrev pub last_of : {X : Type 0} → X → List X → X
last_of none [] = none
last_of none (x ∷ xs) = last_of x xs

-- ---- regions

module _ {R : Type 0} where
  abbrev pub list_regions : List (Vec R Global) → List R
  list_regions xs = gather (λ i (v : Vec R Global). v.items) xs

module _ {G R M : Type 0} where
  abbrev pub hold_regions : EnvGoal G R M → List R
  hold_regions e = e.y ∷ list_regions e.x.items

  abbrev pub goal_regions : List (EnvGoal G R M) → List R
  goal_regions es = gather (λ j e. hold_regions e) es

  abbrev pub layer_regions : EnvLayer G R M → List R
  layer_regions l = l.z ∷ goal_regions l.goals.items

  abbrev pub all_regions : List (EnvLayer G R M) → List R
  all_regions ls = gather (λ a l. layer_regions l) ls

-- ---- what they stand for

module _ {R : Type 0} where
  abbrev pub list_sets : GameData → (cover : StateSet) → List StateSet → List (Vec R Global) → List StateSet
  list_sets g cover asms xs = gather (λ i (v : Vec R Global). delay_sets g cover (at asms i) (vec_len v)) xs

  -- each list of iterates ends with the first that equals the next
  abbrev pub AreLeast : GameData → (cover : StateSet) → List StateSet → List (Vec R Global) → Type 0
  AreLeast g cover asms xs = AllOf (λ i (v : Vec R Global). IsLeastNumber (λ r. delay_on g cover (at asms i) r ≡ delay_on g cover (at asms i) (suc r)) (vec_len v)) xs

module _ {R M : Type 0} where
  -- one iterate more was made; or it is the same as the last, and nothing changed
  abbrev pub Grows : Kept R M → Kept R M → (last value : StateSet) → List R → List R → Bool → Type 0
  Grows old new last value rs next true = (next ≡ rs) × (HoldsBesides old new [] × ((new.jam ≡ None) × (last ≡ value)))
  Grows old new last value rs next false = (r : R) × ((next ≡ rs ++ r ∷ []) × (MakesRegion old new r value × (last ≡ value → ⊥)))

  -- the iterates of one equation were made, up to the first that equals the next
  pub record HasDelays (g : GameData) (old new : Kept R M) (cover asm : StateSet) (rs : List R) : Type 0 where
    pub made : MakesRegions old new rs (delay_sets g cover asm (length rs))
    pub least : IsLeastNumber (λ r. delay_on g cover asm r ≡ delay_on g cover asm (suc r)) (length rs)

  -- so were those for each assumption
  pub record HaveDelays (g : GameData) (old new : Kept R M) (cover : StateSet) (asms : List StateSet) (xs : List (Vec R Global)) : Type 0 where
    pub made : MakesRegions old new (list_regions xs) (list_sets g cover asms xs)
    pub counted : length xs ≡ length asms
    pub least : AreLeast g cover asms xs

  -- with the value of the hold's equation
  pub record TurnsTo (g : GameData) (old new : Kept R M) (base y : StateSet) (asms : List StateSet) (xs : List (Vec R Global)) (next : R) : Type 0 where
    pub made : MakesRegions old new (next ∷ list_regions xs) (hold_value_on g base asms y ∷ list_sets g (cover_of g base y) asms xs)
    pub counted : length xs ≡ length asms
    pub least : AreLeast g (cover_of g base y) asms xs

  -- the set of the last region of the list with this number
  abbrev pub last_set : Kept R M → R → List (Vec R Global) → ℕ → StateSet
  last_set k none xs i = at (map (λ (v : Vec R Global). k.set (last_of none v.items)) xs) i

-- ---- holds

-- the sets of a hold and its iterates
abbrev pub hold_sets : {G R M : Type 0} → GameData → (base : StateSet) → List StateSet → EnvGoal G R M → List StateSet
hold_sets g base asms e = hold_on g base asms ∷ list_sets g (cover_of g base (hold_on g base asms)) asms e.x.items

module _ {G R M : Type 0} where
  -- The hold has iterates for each assumption, each list up to the first that equals the next.
  pub record IsWholeHold (g : GameData) (base : StateSet) (asms : List StateSet) (e : EnvGoal G R M) : Type 0 where
    pub counted : length e.x.items ≡ length asms
    pub least : AreLeast g (cover_of g base (hold_on g base asms)) asms e.x.items

  pub record HasHold (g : GameData) (old new : Kept R M) (base : StateSet) (asms : List StateSet) (e : EnvGoal G R M) : Type 0 where
    pub made : MakesRegions old new (hold_regions e) (hold_sets g base asms e)
    pub whole : IsWholeHold g base asms e

  -- One value of a hold was looked at: it equals the one that follows, and its iterates were made; or the next is in its place.
  abbrev pub Steps : GameData → Kept R M → Kept R M → (base : StateSet) → List StateSet → R → StateSet → Iteration G R M → Type 0
  Steps g old new base asms y set (Settled e) = (e.y ≡ y) × ((set ≡ hold_value_on g base asms set) × HaveDelays g old new (cover_of g base set) asms e.x.items)
  Steps g old new base asms y set (Next next) = Replaces old new (Region y) (States set) (Region next) (States (hold_value_on g base asms set)) × (set ≡ hold_value_on g base asms set → ⊥)

-- ---- layers

-- the sets of the holds of all goals, where from `forced` the next state is forced into the layer below
abbrev pub holds_sets : {G R M : Type 0} → GameData → (forced : StateSet) → (misses asms : List StateSet) → List (EnvGoal G R M) → List StateSet
holds_sets g forced misses asms goals = gather (λ j e. hold_sets g (either (at misses j) forced) asms e) goals

-- those of a layer above another
abbrev pub layer_sets : {G R M : Type 0} → GameData → (lower : StateSet) → (misses asms : List StateSet) → EnvLayer G R M → List StateSet
layer_sets g lower misses asms l = layer_over g lower misses asms ∷ holds_sets g (pre_env g lower) misses asms l.goals.items

-- those of all layers
abbrev pub all_sets : {G R M : Type 0} → GameData → (misses asms : List StateSet) → List (EnvLayer G R M) → List StateSet
all_sets g misses asms ls = gather (λ a l. layer_sets g (layer_on g misses asms a) misses asms l) ls

module _ {G R M : Type 0} where
  -- There is a hold for each goal, and all have what a hold has.
  pub record AreWholeHolds (g : GameData) (forced : StateSet) (misses asms : List StateSet) (goals : List (EnvGoal G R M)) : Type 0 where
    pub counted : length goals ≡ length misses
    pub whole : AllOf (λ j e. IsWholeHold g (either (at misses j) forced) asms e) goals

  pub record HaveHolds (g : GameData) (old new : Kept R M) (forced : StateSet) (misses asms : List StateSet) (goals : List (EnvGoal G R M)) : Type 0 where
    pub made : MakesRegions old new (goal_regions goals) (holds_sets g forced misses asms goals)
    pub whole : AreWholeHolds g forced misses asms goals

  -- a layer was made above another
  pub record HasLayer (g : GameData) (old new : Kept R M) (lower : StateSet) (misses asms : List StateSet) (l : EnvLayer G R M) : Type 0 where
    pub made : MakesRegions old new (layer_regions l) (layer_sets g lower misses asms l)
    pub whole : AreWholeHolds g (pre_env g lower) misses asms l.goals.items

  -- one layer more was made; or it has no more states than the last, and nothing changed
  abbrev pub GrowsLayers : GameData → Kept R M → Kept R M → (lower : StateSet) → (misses asms : List StateSet) → List (EnvLayer G R M) → List (EnvLayer G R M) → Bool → Type 0
  GrowsLayers g old new lower misses asms ls next true = (next ≡ ls) × (HoldsBesides old new [] × ((new.jam ≡ None) × (lower ≡ layer_over g lower misses asms)))
  GrowsLayers g old new lower misses asms ls next false =
      (l : EnvLayer G R M) × ((next ≡ ls ++ l ∷ []) × (HasLayer g old new lower misses asms l × (lower ≡ layer_over g lower misses asms → ⊥)))

  -- each layer has the hold of each goal above the layer before it
  abbrev pub AreWholeLayers : GameData → (misses asms : List StateSet) → List (EnvLayer G R M) → Type 0
  AreWholeLayers g misses asms ls = AllOf (λ a (l : EnvLayer G R M). AreWholeHolds g (pre_env g (layer_on g misses asms a)) misses asms l.goals.items) ls

  -- the layers were made, up to the first that equals the next
  pub record HaveLayers (g : GameData) (old new : Kept R M) (misses asms : List StateSet) (ls : List (EnvLayer G R M)) : Type 0 where
    pub made : MakesRegions old new (all_regions ls) (all_sets g misses asms ls)
    pub whole : AreWholeLayers g misses asms ls
    pub count : IsLeastNumber (λ a. layer_on g misses asms a ≡ layer_on g misses asms (suc a)) (length ls)

  -- the set of the hold with this number
  abbrev pub hold_set : Kept R M → List (EnvGoal G R M) → ℕ → StateSet
  hold_set k goals j = at (map (λ (e : EnvGoal G R M). k.set e.y) goals) j

  -- the region of the last layer, or the one given where there is none
  abbrev pub last_z : R → List (EnvLayer G R M) → R
  last_z none ls = last_of none (map (λ (l : EnvLayer G R M). l.z) ls)

  -- The regions that are made first are held: no states, and those for each goal and each assumption.
  pub record IsGiven (k : Kept R M) (given : Given G R M) : Type 0 where
    pub none : HasRegion k given.none
    pub empty : k.set given.none ≡ no_states
    pub misses : HasEach k given.misses.items
    pub asms : HasEach k given.asms.items
