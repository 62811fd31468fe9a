-- The greatest ranks of goals, and K, where none of the layers is held but the last.
use Rattle.std.specs.Prelude.{◌≡◌, ◌↔◌, ℕ, suc, ◌+◌, ◌<◌, Bool, List, length, slice_index, None, IsTrue}
use Rattle.spec_model.specs.Games.{GameData}
use Rattle.spec_model.specs.Steps.{states_of}
use Rattle.spec_model.specs.Sets.{StateSet, both, pre_sys, IsGreatest}
use Rattle.regions.specs.Kept.{Kept, Item, Region, Meaning, States, MakesRegion, Replaces, weight}
use Rattle.gr1_law.specs.Layers.{goal_set, goal_sets, IsLeastNumber, round_count}
use Rattle.gr1_sys.specs.Solution.{layer_of, following}
use Rattle.gr1_sys.specs.Moment.{IsValueOfZ}

-- the last layer of a goal for a value of Z: as many layers as there are states suffice
abbrev pub last_layer : GameData → StateSet → ℕ → StateSet
last_layer g z j = layer_of g z j (length (states_of g))

-- the greatest rank of a goal: the first layer that equals the next
abbrev pub IsGreatestRank : GameData → StateSet → ℕ → ℕ → Type 0
IsGreatestRank g z j n = IsLeastNumber (λ r. layer_of g z j r ≡ layer_of g z j (suc r)) n

-- k is one more than the greatest ranks of so many goals together
pub record HaveRanks (g : GameData) (z : StateSet) (goals k : ℕ) : Type 0 where
  pub ranks : List ℕ
  pub counted : length ranks ≡ goals
  pub greatest : (j : ℕ) → j < goals → IsGreatestRank g z j (slice_index ranks j)
  pub rounds : k ≡ round_count ranks

-- the states at which a goal holds and the next state is forced into Z, and a layer of that goal
pub record AreOfLayer (g : GameData) (reach y z : StateSet) (j r : ℕ) : Type 0 where
  pub reach_is : reach ≡ both (goal_set g j) (pre_sys g z)
  pub layer_is : y ≡ layer_of g z j r

-- the states of a goal, and those from which the next is forced into Z
pub record AreOfGoal (g : GameData) (goal ready z : StateSet) (j : ℕ) : Type 0 where
  pub goal_is : goal ≡ goal_set g j
  pub ready_is : ready ≡ pre_sys g z

module _ {R M : Type 0} where
  -- the layer above is in the place of a layer, and whether they are the same
  pub record ClimbsTo (old new : Kept R M) (y next : R) (z : StateSet) (j r : ℕ) (settled : Bool) : Type 0 where
    pub replaced : Replaces old new (Region y) (States (old.set y)) (Region next) (States (layer_of old.game z j (suc r)))
    pub settles : IsTrue settled ↔ layer_of old.game z j r ≡ layer_of old.game z j (suc r)

  -- the states of two regions that both have are in the place of these two
  pub record Meets (old new : Kept R M) (a b r : R) : Type 0 where
    pub held : (w : Item R M → Meaning → ℕ) → weight new w + (w (Region a) (States (old.set a)) + w (Region b) (States (old.set b))) ≡ w (Region r) (States (both (old.set a) (old.set b))) + weight old w
    pub jam : new.jam ≡ None

  -- the states of a region that are in the last layer of a goal are in its place, and the goal's greatest rank comes to a number
  pub record MeetsGoal (old new : Kept R M) (a r : R) (z : StateSet) (j so_far k : ℕ) : Type 0 where
    pub replaced : Replaces old new (Region a) (States (old.set a)) (Region r) (States (both (old.set a) (last_layer old.game z j)))
    pub rank : ℕ
    pub greatest : IsGreatestRank old.game z j rank
    pub counted : k ≡ so_far + rank

  -- the value that follows was made, and k is one more than the greatest ranks of all goals
  pub record MakesFollowing (old new : Kept R M) (next : R) (z : StateSet) (k : ℕ) : Type 0 where
    pub made : MakesRegion old new next (following old.game z)
    pub ranks : HaveRanks old.game z (length (goal_sets old.game)) k

  -- the last layer of a goal was made, and n is its rank
  pub record MakesLast (old new : Kept R M) (y : R) (z : StateSet) (j n : ℕ) : Type 0 where
    pub made : MakesRegion old new y (last_layer old.game z j)
    pub greatest : IsGreatestRank old.game z j n

  -- the value of Z that follows is in the place of a value, and whether they are the same; k is one more than all greatest ranks
  pub record TurnsInto (old new : Kept R M) (z next : R) (k : ℕ) (settled : Bool) : Type 0 where
    pub replaced : Replaces old new (Region z) (States (old.set z)) (Region next) (States (following old.game (old.set z)))
    pub ranks : HaveRanks old.game (old.set z) (length (goal_sets old.game)) k
    pub settles : IsTrue settled ↔ old.set z ≡ following old.game (old.set z)

  -- the greatest set that equals the one that follows it was made, and k is one more than the greatest ranks for it
  pub record HasCounted (old new : Kept R M) (z : R) (k : ℕ) : Type 0 where
    pub set : StateSet
    pub made : MakesRegion old new z set
    pub greatest : IsGreatest (following old.game) set
    pub ranks : HaveRanks old.game set (length (goal_sets old.game)) k
    pub value : IsValueOfZ old.game set
