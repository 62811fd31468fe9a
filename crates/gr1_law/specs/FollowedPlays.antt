-- A law of the environment's choices: what is remembered along a run of given inputs, and which sets the inputs lead into. The function
-- `answered_plays_are_followed` of src/counter_laws.rt proves it.
use Rattle.std.specs.Prelude.{◌≡◌, ℕ, suc, true, false, ◌<◌, ◌≤◌, List, Some, length, slice_index, IsTrue}
use Rattle.spec_model.specs.Values.{Assignment}
use Rattle.spec_model.specs.Rules.{Run}
use Rattle.spec_model.specs.Unrealizable.{NoteData}
use Rattle.spec_model.specs.Games.{GameData, State}
use Rattle.spec_model.specs.GameRuns.{state_at}
use Rattle.spec_model.specs.Steps.{Before, is_output, legal_output}
use Rattle.gr1_law.specs.Layers.{assumption_set}
use Rattle.gr1_law.specs.EnvLayers.{EnvLayerSets, denial_count}
use Rattle.gr1_law.specs.Counter.{CounterMemory, IsGiven, AnsweredPlay}
use Rattle.gr1_law.specs.CounterLaws.{IsLostWith}
use Rattle.gr1_law.specs.Trails.{FollowedTrail}

-- Of the number of the set that the input given at a position leads into. After a shift it is that of a lower layer. After a denial
-- it is at most the greatest rank for the assumption aimed at from there on, and where the one aimed at before fails, less than the
-- state's rank for that. It isn't 0 where some reply is legal.
pub record NumberFollows (g : GameData) (counts : ℕ → ℕ → List ℕ) (s : State) (k : CounterMemory) (rank r : ℕ) (x : Assignment) : Type 0 where
  pub below : k.denying ≡ false → r < k.layer
  pub at_most : k.denying ≡ true → r ≤ slice_index (counts k.layer k.goal) k.index
  pub lower : k.denying ≡ true → assumption_set g k.before s ≡ false → r < rank
  pub some : (y : Assignment) → IsTrue (is_output g y) → IsTrue (legal_output g (Some s) x y) → 1 ≤ r

-- What is remembered at the positions of a run of given inputs, at its last one with it, follows the assumptions that are aimed at, by
-- ranks that are at least 1 and at most the hold's greatest; after a denial the rank is at most the number of the set that the input
-- leads into.
pub record PlayIsFollowed (g : GameData) (e : EnvLayerSets) (n : ℕ) (counts : ℕ → ℕ → List ℕ) (h : Run) (notes : List NoteData) (k : CounterMemory) : Type 0 where
  pub memory : ℕ → CounterMemory
  pub rank : ℕ → ℕ
  pub trail : FollowedTrail g n (denial_count g n counts) counts h notes memory rank
  pub last : (t : ℕ) → suc t ≡ length h → memory t ≡ k
  pub rank_some : (t : ℕ) → t < length h → 1 ≤ rank t
  pub rank_most : (t : ℕ) → t < length h → rank t ≤ slice_index (counts (memory t).layer (memory t).goal) (memory t).before
  pub given : (t : ℕ) → t < length h → (r : ℕ) (x : Assignment) → IsGiven g e (Some (state_at g h t)) (memory t) r x → NumberFollows g counts (state_at g h t) (memory t) (rank t) r x
  pub reaches : (t : ℕ) → suc t < length h → (memory t).denying ≡ true → (r : ℕ) (x : Assignment) → IsGiven g e (Some (state_at g h t)) (memory t) r x → rank (suc t) ≤ r

abbrev pub AnsweredPlaysAreFollowed : GameData → Type 0
AnsweredPlaysAreFollowed g =
    (e : EnvLayerSets) (n : ℕ) (counts : ℕ → ℕ → List ℕ) → IsLostWith g e n counts →
    (h : Run) (notes : List NoteData) (b : Before) (k : CounterMemory) → AnsweredPlay g e h notes b k → PlayIsFollowed g e n counts h notes k
