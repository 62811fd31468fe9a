-- A goal's layers settle within as many ranks as there are states.
use Rattle.std.proofs.Common.{sym, ap, ◌∙◌, ◌≡◌, Bool, true, false, if◌then◌else◌, ℕ, zero, suc, ◌+◌, ◌*◌, ◌<◌, ◌≤◌, List, [], ◌∷◌, length, sum, slice_index, refl, subst, arith}
use Rattle.std.proofs.lemmas.List.Sums.{sum_by-cons}
use Rattle.spec_model.specs.Games.{GameData, State}
use Rattle.spec_model.specs.Steps.{states_of}
use Rattle.spec_model.specs.Sets.{StateSet, all_states, IsPartOf}
use Rattle.spec_model.specs.Counts.{count_in}
use Rattle.gr1_law.specs.Layers.{LayerSets, AreLayers, AreGreatestRanks, IsLeastNumber, goal_sets, round_count}
use Rattle.gr1_law.proofs.Chains as chains
use Rattle.gr1_law.proofs.Chains.{state_count}
use Rattle.gr1_law.proofs.Layering.{y_in_next, settled_from}
use Rattle.gr1_law.proofs.Winning.{layer_inside}

module _ (g : GameData) (z : StateSet) (l : LayerSets) (of_z : AreLayers g z l) (j : ℕ) where
  pub settles : (k : ℕ) × (k ≤ state_count g) × (l.y j k ≡ l.y j (suc k))
  settles = chains.settles g (l.y j) (y_in_next g z l of_z j) (layer_inside g z l of_z j)

  -- the layer with the number of states has every other
  pub in_full : (r : ℕ) → IsPartOf (l.y j r) (l.y j (state_count g))
  in_full = chains.in_full g (l.y j) (y_in_next g z l of_z j) (layer_inside g z l of_z j) (settled_from g z l of_z j)

  pub least_settled : (k : ℕ) → IsLeastNumber (λ r. l.y j r ≡ l.y j (suc r)) k → k ≤ state_count g
  least_settled = chains.least_settled g (l.y j) (y_in_next g z l of_z j) (layer_inside g z l of_z j)

  pub some_rank : (k : ℕ) × IsLeastNumber (λ r. l.y j r ≡ l.y j (suc r)) k
  some_rank = chains.some_least g (l.y j) (y_in_next g z l of_z j) (layer_inside g z l of_z j)

-- ---- the greatest ranks

-- the list of what a function gives for the numbers below n, beginning at one
pub listed : (ℕ → ℕ) → (from n : ℕ) → List ℕ
listed f from zero = []
listed f from (suc n) = f from ∷ listed f (suc from) n

pub length-listed : (f : ℕ → ℕ) (from n : ℕ) → length (listed f from n) ≡ n
unfolding listed
length-listed f from zero = refl
length-listed f from (suc n) = ap suc (length-listed f (suc from) n)

pub slice_index-listed : (f : ℕ → ℕ) (from n k : ℕ) → k < n → slice_index (listed f from n) k ≡ f (from + k)
unfolding listed
slice_index-listed f from zero k below = absurd (omega arith)
slice_index-listed f from (suc n) zero below = ap f (omega arith)
slice_index-listed f from (suc n) (suc k) below = slice_index-listed f (suc from) n k (omega arith) ∙ ap f (omega arith)

pub some_ranks : (g : GameData) (z : StateSet) (l : LayerSets) → AreLayers g z l → (ranks : List ℕ) × AreGreatestRanks g l ranks
some_ranks g z l of_z = (
  listed rank 0 goals,
  record {
    counted = length-listed rank 0 goals;
    each = λ j below.
        let is : slice_index (listed rank 0 goals) j ≡ rank j = slice_index-listed rank 0 goals j (omega (arith, below, length-listed rank 0 goals)) ∙ ap rank (omega arith) in
        subst (IsLeastNumber (λ r. l.y j r ≡ l.y j (suc r))) (sym is) (some_rank g z l of_z j).1;
  },
)
  where
    goals : ℕ
    goals = length (goal_sets g)

    rank : ℕ → ℕ
    rank j = (some_rank g z l of_z j).0

-- of one goal K is one more than its greatest rank
pub one_rank : (ranks : List ℕ) (n : ℕ) → length ranks ≡ 1 → slice_index ranks 0 ≡ n → round_count ranks ≡ suc n
one_rank [] n e first = absurd (omega arith)
one_rank (r ∷ []) n e first = let total = sum_by-cons (λ (n : ℕ). n) r [] in omega (arith, total, first)
one_rank (r ∷ q ∷ ranks) n e first = absurd (omega arith)

-- ---- the bound on K

pub sum-at_most : (xs : List ℕ) (most : ℕ) → ((k : ℕ) → k < length xs → slice_index xs k ≤ most) → sum xs ≤ length xs * most
sum-at_most [] most each = omega arith
sum-at_most (x ∷ xs) most each =
    let first : x ≤ most = each 0 (omega arith) in
    let rest = sum-at_most xs most (λ k below. each (suc k) (omega arith)) in
    let product : suc (length xs) * most ≡ most + length xs * most = grind arith in
    omega (arith, sum_by-cons (λ (n : ℕ). n) x xs, first, rest, product)

pub count_at_most-length : (a : StateSet) (ss : List State) → count_in a ss ≤ length ss
count_at_most-length a [] = omega arith
count_at_most-length a (s ∷ ss) = at (a s) (count_at_most-length a ss)
  where
    at : (p : Bool) → count_in a ss ≤ length ss → (if p then 1 else 0) + count_in a ss ≤ suc (length ss)
    at true few = omega arith
    at false few = omega arith

pub ranks_few : (g : GameData) (z : StateSet) (l : LayerSets) (ranks : List ℕ) → AreLayers g z l → AreGreatestRanks g l ranks → round_count ranks ≤ 1 + length (goal_sets g) * length (states_of g)
ranks_few g z l ranks of_z greatest =
    let each = λ (k : ℕ) (below : k < length ranks).
    let rank = least_settled g z l of_z k (slice_index ranks k) (greatest.each k below) in
    let rank' : slice_index ranks k ≤ length (states_of g) = omega (arith, rank, count_at_most-length (all_states g) (states_of g)) in rank'
    in
    omega (arith, subst (λ (n : ℕ). sum ranks ≤ n * length (states_of g)) greatest.counted (sum-at_most ranks (length (states_of g)) each))
