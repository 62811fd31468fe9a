-- The regions of layers, in one list, and what is held as the sets that they stand for.
use Rattle.std.specs.Prelude.{◌≡◌, ℕ, zero, suc, ◌+◌, ◌≤◌, ◌<◌, Bool, true, false, List, [], ◌∷◌, ◌++◌, map, length, get_or, slice_index, None, Vec}
use Rattle.std.specs.Vec.{vec_len}
use Rattle.std.specs.declared.alloc.Global.{Global}
use Rattle.spec_model.specs.Games.{GameData}
use Rattle.spec_model.specs.Steps.{below}
use Rattle.spec_model.specs.Sets.{StateSet, no_states, both, either, rest, pre_sys}
use Rattle.regions.specs.Kept.{Kept, Item, Region, Meaning, States, HasRegion, HoldsBesides, weight}
use Rattle.gr1_law.specs.Layers.{goal_sets, goal_set, assumption_sets, union, IsLeastNumber}
use Rattle.gr1_sys.specs.declared.layers.SysLayer.{SysLayer}
use Rattle.gr1_sys.specs.declared.givens.Given.{Given}
use Rattle.gr1_sys.specs.Solution.{greatest_of, part_of, layer_of, following}

-- the value of a part's equation at a set: the next state is forced into the set and the assumption is false, or it is in the base
abbrev pub waiting : GameData → (base lapse : StateSet) → StateSet → StateSet
waiting g base lapse t = either (both (pre_sys g t) lapse) base

-- ---- lists of regions

module _ {R M : Type 0} where
  -- what regions weigh as sets
  unfoldable pub weight_as : List R → List StateSet → (Item R M → Meaning → ℕ) → ℕ
  weight_as [] ss w = 0
  weight_as (r ∷ rs) [] w = 0
  weight_as (r ∷ rs) (s ∷ ss) w = w (Region r) (States s) + weight_as rs ss w

  -- each region is held
  abbrev pub HasEach : Kept R M → List R → Type 0
  HasEach k [] = Unit {0}
  HasEach k (r ∷ rs) = HasRegion k r × HasEach k rs

  -- they are held together, each as what it stands for
  abbrev pub HasTogether : Kept R M → List R → Type 0
  HasTogether k rs = (w : Item R M → Meaning → ℕ) → weight_as rs (map k.set rs) w ≤ weight k w

  -- after a call that made these regions for these sets
  pub record MakesRegions (old new : Kept R M) (rs : List R) (ss : List StateSet) : Type 0 where
    pub held : (w : Item R M → Meaning → ℕ) → weight new w ≡ weight_as rs ss w + weight old w
    pub counted : length rs ≡ length ss
    pub jam : new.jam ≡ None

  -- order aside, new holds what old held but for the regions
  abbrev pub HoldsWithoutAll : Kept R M → Kept R M → List R → Type 0
  HoldsWithoutAll old new rs = (w : Item R M → Meaning → ℕ) → weight new w + weight_as rs (map old.set rs) w ≡ weight old w

  -- after a call that took the regions away
  pub record SpendsAll (old new : Kept R M) (rs : List R) : Type 0 where
    pub held : HoldsWithoutAll old new rs
    pub jam : new.jam ≡ old.jam

  -- the set of the region with this number
  abbrev pub set_at : Kept R M → List R → ℕ → StateSet
  set_at k rs i = get_or (map k.set rs) i no_states

  -- the part above a base for the assumption with this number
  abbrev pub part_at : Kept R M → R → List R → ℕ → StateSet
  part_at k base lapses i = greatest_of k.game (waiting k.game (k.set base) (set_at k lapses i))

-- ---- layers

-- a layer and its parts, as a list
abbrev pub layer_sets : (ℕ → StateSet) → ℕ → List StateSet
layer_sets part m = union part m ∷ map part (below m)

-- those of a rank of a goal, by the number of the rank from 0
abbrev pub rank_sets : GameData → StateSet → ℕ → ℕ → List StateSet
rank_sets g z j r = layer_sets (part_of g z (layer_of g z j r) j) (length (assumption_sets g))

-- the first lists, one after the other
abbrev pub flatten : (ℕ → List StateSet) → ℕ → List StateSet
flatten sets zero = []
flatten sets (suc n) = sets 0 ++ flatten (λ r. sets (suc r)) n

-- how many layers each goal has
abbrev pub ranks_of : {X : Type 0} → List (Vec X Global) → List ℕ
ranks_of goals = map vec_len goals

-- the sets of as many layers as each goal has
abbrev pub sets_of : {X : Type 0} → (ℕ → ℕ → List StateSet) → List (Vec X Global) → List StateSet
sets_of sets [] = []
sets_of sets (v ∷ vs) = flatten (sets 0) (vec_len v) ++ sets_of (λ j. sets (suc j)) vs

module _ {G R M : Type 0} where
  abbrev pub layer_regions : SysLayer G R M → List R
  layer_regions l = l.y ∷ l.x.items

  abbrev pub goal_regions : List (SysLayer G R M) → List R
  goal_regions [] = []
  goal_regions (l ∷ ls) = layer_regions l ++ goal_regions ls

  abbrev pub all_regions : List (Vec (SysLayer G R M) Global) → List R
  all_regions [] = []
  all_regions (v ∷ vs) = goal_regions v.items ++ all_regions vs

  -- each layer has so many parts
  abbrev pub HaveParts : ℕ → List (SysLayer G R M) → Type 0
  HaveParts m [] = Unit {0}
  HaveParts m (l ∷ ls) = (vec_len l.x ≡ m) × HaveParts m ls

  abbrev pub AllHaveParts : ℕ → List (Vec (SysLayer G R M) Global) → Type 0
  AllHaveParts m [] = Unit {0}
  AllHaveParts m (v ∷ vs) = HaveParts m v.items × AllHaveParts m vs

  -- the region of the last layer, or the one given where there is none
  abbrev pub last_region : R → List (SysLayer G R M) → R
  last_region none [] = none
  last_region none (l ∷ ls) = last_region l.y ls

  -- The regions that are made first are held: no states, the states of each goal, and those at which each assumption is false.
  pub record IsGiven (k : Kept R M) (given : Given G R M) : Type 0 where
    pub none : HasRegion k given.none
    pub empty : k.set given.none ≡ no_states
    pub goals : HasEach k given.goals.items
    pub goal_sets : map k.set given.goals.items ≡ goal_sets k.game
    pub lapses : HasEach k given.lapses.items
    pub lapse_sets : map k.set given.lapses.items ≡ map (rest k.game) (assumption_sets k.game)

-- ---- what the layers of goals are made for

-- the states at which some goal holds and the next state is forced into some set
abbrev pub Reaches : GameData → StateSet → Type 0
Reaches g t = (z : StateSet) × ((j : ℕ) × (t ≡ both (goal_set g j) (pre_sys g z)))

module _ {G R M : Type 0} where
  -- The layers with the next one; or the same layers, where the next one is the last.
  abbrev pub Grows : GameData → Kept R M → Kept R M → StateSet → ℕ → List (SysLayer G R M) → ℕ → List (SysLayer G R M) → Bool → Type 0
  Grows g k new z j ls n next true = (next ≡ ls) × (HoldsBesides k new [] × ((new.jam ≡ None) × (layer_of g z j n ≡ layer_of g z j (suc n))))
  Grows g k new z j ls n next false =
      (l : SysLayer G R M) × ((next ≡ ls ++ l ∷ []) × (MakesRegions k new (layer_regions l) (rank_sets g z j n) × ((vec_len l.x ≡ length (assumption_sets g)) × (layer_of g z j n ≡ layer_of g z j (suc n) → ⊥))))

  -- The first layers of a goal were made, and each so far differs from the next.
  pub record Climbs (g : GameData) (old new : Kept R M) (none : R) (z : StateSet) (j : ℕ) (ls : List (SysLayer G R M)) : Type 0 where
    pub made : MakesRegions old new (goal_regions ls) (flatten (rank_sets g z j) (length ls))
    pub last : new.set (last_region none ls) ≡ layer_of g z j (length ls)
    pub parts : HaveParts (length (assumption_sets g)) ls
    pub unsettled : (r : ℕ) → r < length ls → layer_of g z j r ≡ layer_of g z j (suc r) → ⊥

  -- The layers of a goal were made, those of all its ranks.
  pub record HasClimbed (g : GameData) (old new : Kept R M) (z : StateSet) (j : ℕ) (ls : List (SysLayer G R M)) : Type 0 where
    pub made : MakesRegions old new (goal_regions ls) (flatten (rank_sets g z j) (length ls))
    pub parts : HaveParts (length (assumption_sets g)) ls
    pub greatest : IsLeastNumber (λ r. layer_of g z j r ≡ layer_of g z j (suc r)) (length ls)

  -- So were those of the goals so far.
  pub record HaveClimbed (g : GameData) (old new : Kept R M) (z : StateSet) (goals : List (Vec (SysLayer G R M) Global)) : Type 0 where
    pub made : MakesRegions old new (all_regions goals) (sets_of (rank_sets g z) goals)
    pub parts : AllHaveParts (length (assumption_sets g)) goals
    pub greatest : (j : ℕ) → j < length goals → IsLeastNumber (λ r. layer_of g z j r ≡ layer_of g z j (suc r)) (slice_index (ranks_of goals) j)

  -- the set of the last layer of the goal with this number
  abbrev pub last_set : Kept R M → R → List (Vec (SysLayer G R M) Global) → ℕ → StateSet
  last_set k none goals j = get_or (map (λ (v : Vec (SysLayer G R M) Global). k.set (last_region none v.items)) goals) j no_states

  -- The layers for a value of Z were made, with the value that follows.
  pub record TurnsTo (old new : Kept R M) (z : StateSet) (goals : List (Vec (SysLayer G R M) Global)) (next : R) : Type 0 where
    pub made : MakesRegions old new (next ∷ all_regions goals) (following old.game z ∷ sets_of (rank_sets old.game z) goals)
    pub parts : AllHaveParts (length (assumption_sets old.game)) goals
    pub counted : length goals ≡ length (goal_sets old.game)
    pub greatest : (j : ℕ) → j < length goals → IsLeastNumber (λ r. layer_of old.game z j r ≡ layer_of old.game z j (suc r)) (slice_index (ranks_of goals) j)
