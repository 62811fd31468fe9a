-- The system's winning states and their layers, as sets given by equations, and the number of rounds that they make.
use Rattle.std.specs.Prelude.{◌≡◌, ◌↔◌, ℕ, zero, suc, ◌+◌, ◌<◌, List, [], ◌∷◌, length, map, get_or, slice_index, sum, IsTrue}
use Rattle.spec_model.specs.Games.{GameData, State}
use Rattle.spec_model.specs.Sets.{StateSet, no_states, all_states, both, either, rest, holding, pre_sys, IsPartOf, IsGreatest}

-- ---- goals and assumptions

-- where there is no goal, the single one is true in all states
abbrev pub or_all_states : GameData → List StateSet → List StateSet
or_all_states g [] = all_states g ∷ []
or_all_states g (a ∷ more) = a ∷ more

-- the states at which each recurring guarantee holds, in text order, and each recurring assumption
abbrev pub goal_sets : GameData → List StateSet
goal_sets g = or_all_states g (map (λ goal. holding g goal.holds) g.goals)

abbrev pub assumption_sets : GameData → List StateSet
assumption_sets g = or_all_states g (map (λ goal. holding g goal.holds) g.assume)

-- those of one of them, by its number from 0
abbrev pub goal_set : GameData → ℕ → StateSet
goal_set g j = get_or (goal_sets g) j no_states

abbrev pub assumption_set : GameData → ℕ → StateSet
assumption_set g i = get_or (assumption_sets g) i no_states

-- ---- layers

-- The layers of each goal: `y j r` is the layer of rank r of the goal numbered j, and `x j r i` the part of it whose
-- states can wait while the assumption numbered i is false. Goals and assumptions count from 0, ranks from 1.
pub record LayerSets : Type 0 where
  pub y : ℕ → ℕ → StateSet
  pub x : ℕ → ℕ → ℕ → StateSet

-- the states of some of the sets numbered below n
abbrev pub union : (ℕ → StateSet) → ℕ → StateSet
union sets zero = no_states
union sets (suc n) = either (union sets n) (sets n)

-- The value of a part's equation at a set: the goal holds and the next state is forced into z; or the next state is forced
-- into the layer below; or the assumption is false and the next state is forced into the set itself.
abbrev pub part_value : GameData → (z below : StateSet) → (j i : ℕ) → StateSet → StateSet
part_value g z below j i t =
    either (both (goal_set g j) (pre_sys g z)) (either (pre_sys g below) (both (rest g (assumption_set g i)) (pre_sys g t)))

-- the layers for one value of z: below the first is nothing, each part is the greatest set that its equation allows, and a
-- layer is the union of its parts
pub record AreLayers (g : GameData) (z : StateSet) (l : LayerSets) : Type 0 where
  pub none_first : (j : ℕ) → l.y j 0 ≡ no_states
  pub greatest : (j r i : ℕ) → IsGreatest (part_value g z (l.y j r) j i) (l.x j (suc r) i)
  pub joined : (j r : ℕ) → l.y j (suc r) ≡ union (l.x j (suc r)) (length (assumption_sets g))

-- the state is in some layer of each goal
abbrev pub HasRanks : GameData → LayerSets → State → Type 0
HasRanks g l s = (j : ℕ) → j < length (goal_sets g) → (r : ℕ) × IsTrue (l.y j r s)

-- Z with its layers: the greatest set that has exactly the states that are in some layer of each goal, where the layers are
-- those for the set itself
pub record IsWinning (g : GameData) (z : StateSet) (l : LayerSets) : Type 0 where
  pub layers : AreLayers g z l
  pub solves : (s : State) → IsTrue (z s) ↔ HasRanks g l s
  pub above : (t : StateSet) (l' : LayerSets) → AreLayers g t l' → ((s : State) → IsTrue (t s) → HasRanks g l' s) → IsPartOf t z

-- ---- numbers

-- the least number of which something holds
pub record IsLeastNumber (holds : ℕ → Type 0) (k : ℕ) : Type 0 where
  pub here : holds k
  pub none_before : (i : ℕ) → i < k → holds i → ⊥

-- the rank of a state for a goal: the first of the goal's layers that has it
abbrev pub IsRank : LayerSets → ℕ → State → ℕ → Type 0
IsRank l j s = IsLeastNumber (λ r. IsTrue (l.y j r s))

-- the greatest rank of each goal: the first layer that equals the next
pub record AreGreatestRanks (g : GameData) (l : LayerSets) (ranks : List ℕ) : Type 0 where
  pub counted : length ranks ≡ length (goal_sets g)
  pub each : (j : ℕ) → j < length ranks → IsLeastNumber (λ r. l.y j r ≡ l.y j (suc r)) (slice_index ranks j)

-- K: one more than the greatest ranks together
abbrev pub round_count : List ℕ → ℕ
round_count ranks = 1 + sum ranks
