-- The numbers of the environment's layers: there is one N and one M, and both are few.
use Rattle.std.proofs.Common.{◌≡◌, ℕ, zero, suc, ◌+◌, ◌*◌, ◌<◌, ◌≤◌, ◌⊎◌, inl, inr, List, [], length, max, slice_index, sum, sym, ◌∙◌, ap, subst, arith}
use Rattle.std.proofs.Math.Nat.{mul-le-mul}
use Rattle.spec_model.specs.Games.{GameData}
use Rattle.spec_model.specs.Steps.{states_of}
use Rattle.spec_model.specs.Sets.{StateSet, all_states}
use Rattle.gr1_law.specs.Layers.{IsLeastNumber, goal_sets, assumption_sets}
use Rattle.gr1_law.specs.EnvLayers.{delay, EnvLayerSets, AreEnvLayers, IsLayerCount, AreDelayCounts, most, denial_count}
use Rattle.gr1_law.specs.EnvLaws.{DenialsAreTold, DenialsAreFew}
use Rattle.gr1_law.proofs.Chains.{state_count, some_least, least_settled}
use Rattle.gr1_law.proofs.Delays.{delay_in_next, delay-inside}
use Rattle.gr1_law.proofs.EnvLayering.{env_z-one, env_x-one, env_few, some_count}
use Rattle.gr1_law.proofs.Settling.{listed, length-listed, slice_index-listed, sum-at_most, count_at_most-length}
use Rattle.gr1_law.proofs.Solutions.{least-one, same_list}

-- ---- the greatest of several numbers

pub most-at_most : (f : ℕ → ℕ) (k bound : ℕ) → ((i : ℕ) → i < k → f i ≤ bound) → most f k ≤ bound
most-at_most f zero bound each = omega arith
most-at_most f (suc k) bound each = let earlier = most-at_most f k bound (λ i below. each i (omega arith)) in let last : f k ≤ bound = each k (omega arith) in omega (arith, earlier, last)

pub at_most-most : (f : ℕ → ℕ) (k i : ℕ) → i < k → f i ≤ most f k
at_most-most f zero i below = absurd (omega arith)
at_most-most f (suc k) i below = by_cases or_not (λ less. at_most-most f k i less)
  where
    or_not : (i < k) ⊎ (i ≡ k)
    or_not = grind arith

    by_cases : (i < k) ⊎ (i ≡ k) → (i < k → f i ≤ most f k) → f i ≤ max (most f k) (f k)
    by_cases (inl less) earlier = let below_most = earlier less in omega (arith, below_most)
    by_cases (inr same) earlier = let e : f i ≡ f k = ap f same in omega (arith, e)

pub most-same : (f f' : ℕ → ℕ) (k : ℕ) → ((i : ℕ) → i < k → f i ≡ f' i) → most f k ≡ most f' k
most-same f f' zero each = omega arith
most-same f f' (suc k) each = let earlier = most-same f f' k (λ i below. each i (omega arith)) in let last : f k ≡ f' k = each k (omega arith) in ap (λ n. max n (f k)) earlier ∙ ap (λ n. max (most f' k) n) last

-- ---- the greatest ranks

-- the least rank at which iterates that are told settle, whatever their names
pub told_least : (x d : ℕ → StateSet) → ((r : ℕ) → x r ≡ d r) → (k : ℕ) → IsLeastNumber (λ r. d r ≡ d (suc r)) k → IsLeastNumber (λ r. x r ≡ x (suc r)) k
told_least x d same k least =
    record {
      here = same k ∙ (least.here ∙ sym (same (suc k)));
      none_before = λ i less e. least.none_before i less (sym (same i) ∙ (e ∙ same (suc i)));
    }

module _ (g : GameData) (e : EnvLayerSets) (of : AreEnvLayers g e) where
  -- the greatest rank of a hold for an assumption
  rank : (a j i : ℕ) → (k : ℕ) × IsLeastNumber (λ r. e.x (suc a) j i r ≡ e.x (suc a) j i (suc r)) k
  rank a j i =
      let least = some_least g (delay g (e.z a) (e.y (suc a) j) j i) (delay_in_next g (e.z a) (e.y (suc a) j) j i) (delay-inside g (e.z a) (e.y (suc a) j) j i) in
      (least.0, told_least (e.x (suc a) j i) (delay g (e.z a) (e.y (suc a) j) j i) (of.delays a j i) least.0 least.1)

  rank_few : (a j i k : ℕ) → IsLeastNumber (λ r. e.x (suc a) j i r ≡ e.x (suc a) j i (suc r)) k → k ≤ state_count g
  rank_few a j i k least =
      least_settled g (delay g (e.z a) (e.y (suc a) j) j i) (delay_in_next g (e.z a) (e.y (suc a) j) j i) (delay-inside g (e.z a) (e.y (suc a) j) j i) k
      (told_least (delay g (e.z a) (e.y (suc a) j) j i) (e.x (suc a) j i) (λ r. sym (of.delays a j i r)) k least)

  ranks_of : ℕ → ℕ → List ℕ
  ranks_of zero j = []
  ranks_of (suc a) j = listed (λ i. (rank a j i).0) 0 (length (assumption_sets g))

  pub some_delay_counts : (n : ℕ) → (counts : ℕ → ℕ → List ℕ) × AreDelayCounts g e n counts
  unfolding ranks_of
  some_delay_counts n = (
    ranks_of,
    record {
      counted = λ a j below in_goals. length-listed (λ i. (rank a j i).0) 0 (length (assumption_sets g));
      each = λ a j i below in_goals in_assumptions.
          let is : slice_index (ranks_of (suc a) j) i ≡ (rank a j i).0 = slice_index-listed (λ i. (rank a j i).0) 0 (length (assumption_sets g)) i in_assumptions ∙ ap (λ i. (rank a j i).0) (omega arith) in
          subst (IsLeastNumber (λ r. e.x (suc a) j i r ≡ e.x (suc a) j i (suc r))) (sym is) (rank a j i).1;
    },
  )

  -- ---- the bounds

  module _ (n : ℕ) (counts : ℕ → ℕ → List ℕ) (are : AreDelayCounts g e n counts) where
    sum_few : (a j : ℕ) → a < n → j < length (goal_sets g) → sum (counts (suc a) j) ≤ length (assumption_sets g) * state_count g
    sum_few a j below in_goals =
        subst (λ (k : ℕ). sum (counts (suc a) j) ≤ k * state_count g) (are.counted a j below in_goals)
        (sum-at_most (counts (suc a) j) (state_count g) (λ i in_counts. rank_few a j i (slice_index (counts (suc a) j) i) (are.each a j i below in_goals (omega (arith, in_counts, are.counted a j below in_goals)))))

    pub denials_few : denial_count g n counts ≤ 1 + length (assumption_sets g) * length (states_of g)
    denials_few =
        let sums : most (λ a. most (λ j. sum (counts (suc a) j)) (length (goal_sets g))) n ≤ length (assumption_sets g) * state_count g =
        most-at_most _ n _ (λ a below. most-at_most _ (length (goal_sets g)) _ (λ j in_goals. sum_few a j below in_goals)) in
        let some : length (assumption_sets g) ≤ length (assumption_sets g) = omega arith in
        omega (arith, sums, mul-le-mul some (count_at_most-length (all_states g) (states_of g)))

-- ---- they are told

module _ (g : GameData) (e e' : EnvLayerSets) (of : AreEnvLayers g e) (of' : AreEnvLayers g e') where
  layers_one : (n n' : ℕ) → IsLayerCount e n → IsLayerCount e' n' → n ≡ n'
  layers_one n n' count count' = least-one (λ a. e'.z a ≡ e'.z (suc a)) n n' (told_least e'.z e.z (λ a. sym (env_z-one g e e' of of' a)) n count) count'

  module _ (n : ℕ) (counts counts' : ℕ → ℕ → List ℕ) (are : AreDelayCounts g e n counts) (are' : AreDelayCounts g e' n counts') where
    pub counts-one : (a j : ℕ) → a < n → j < length (goal_sets g) → counts (suc a) j ≡ counts' (suc a) j
    counts-one a j below in_goals =
        same_list (counts (suc a) j) (counts' (suc a) j) (are.counted a j below in_goals ∙ sym (are'.counted a j below in_goals)) (λ i in_counts.
        let in_assumptions : i < length (assumption_sets g) = omega (arith, in_counts, are.counted a j below in_goals) in
        least-one (λ r. e'.x (suc a) j i r ≡ e'.x (suc a) j i (suc r)) _ _
        (told_least (e'.x (suc a) j i) (e.x (suc a) j i) (λ r. sym (env_x-one g e e' of of' a j i r)) _ (are.each a j i below in_goals in_assumptions))
        (are'.each a j i below in_goals in_assumptions))

    pub denials-one : denial_count g n counts ≡ denial_count g n counts'
    denials-one = ap (λ k. 1 + k) (most-same _ _ n (λ a below. most-same _ _ (length (goal_sets g)) (λ j in_goals. ap sum (counts-one a j below in_goals))))

pub denials_told : (g : GameData) → DenialsAreTold g
denials_told g =
    record {
      some_layers = some_count g;
      same_layers = λ e e' n n' of of' count count'. layers_one g e e' of of' n n' count count';
      some_counts = λ e n of. some_delay_counts g e of n;
      same_counts = λ e e' n counts counts' of of' are are'. counts-one g e e' of of' n counts counts' are are';
      same_denials = λ e e' n counts counts' of of' are are'. denials-one g e e' of of' n counts counts' are are';
    }

pub env_numbers_few : (g : GameData) → DenialsAreFew g
env_numbers_few g e n counts of count are = (
  let few = env_few g e of n count in omega (arith, few, count_at_most-length (all_states g) (states_of g)),
  denials_few g e of n counts are,
)
