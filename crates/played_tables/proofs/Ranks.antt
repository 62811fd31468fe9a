-- Numbers of a table: those of a node are in range, and the greatest ranks are at most those of the layers.
use Rattle.std.proofs.Common.{◌≡◌, ℕ, zero, suc, ◌+◌, ◌<◌, ◌≤◌, ◌==◌, max, Bool, true, false, nat_le, if◌then◌else◌, List, [], ◌∷◌, length, map, sum, slice_index, Some, slice_get, refl, sym, ◌∙◌, ap, subst, arith}
use Rattle.std.proofs.lemmas.Bool.{and_from, eqb-true, le-leb}
use Rattle.std.proofs.lemmas.List.Sums.{sum_by-cons}
use Rattle.spec_model.specs.Games.{GameData, State}
use Rattle.spec_model.specs.Steps.{below}
use Rattle.spec_model.specs.Sets.{StateSet}
use Rattle.gr1_law.specs.Layers.{LayerSets, IsWinning, AreGreatestRanks, goal_sets, assumption_sets, round_count}
use Rattle.gr1_law.specs.Choice.{Memory, Standing}
use Rattle.gr1_law.proofs.Standing.{rank_some}
use Rattle.gr1_law.proofs.Trails.{rank_at_most}
use Rattle.strategy_tables.specs.Tables.{NodeData, SystemTable}
use Rattle.strategy_tables.specs.Rules.{rule_2, rule_5, greatest_rank, greatest_ranks}
use Rattle.strategy_tables.proofs.Numbers.{at_number, length-at_numbers}
use Rattle.played_tables.specs.Played.{IsNodeOf}

pub numbers_in : (g : GameData) (z : StateSet) (l : LayerSets) (w : IsWinning g z l) (v : NodeData) (m : Memory) → IsNodeOf v v.state m → Standing g l v.state m → rule_2 g v ≡ true
numbers_in g z l w v m is standing =
    let some = rank_some g z l w m.goal m.rank v.state standing.rank.here in
    let goal = is.goal in
    let asm = is.asm in
    let rank = is.rank in
    let rank_some : m.rank ≡ suc some.0 = some.1 in
    and_from _ _
    (and_from _ _ (and_from _ _ (le-leb 1 v.goal (omega (arith, goal))) (le-leb v.goal (length (goal_sets g)) (omega (arith, goal, standing.goal_in))))
    (and_from _ _ (le-leb 1 v.asm (omega (arith, asm))) (le-leb v.asm (length (assumption_sets g)) (omega (arith, asm, standing.index_in)))))
    (le-leb 1 v.rank (omega (arith, rank, rank_some)))

-- ---- sums

pub sum_most : (xs ys : List ℕ) → length xs ≡ length ys → ((i : ℕ) → i < length xs → slice_index xs i ≤ slice_index ys i) → sum xs ≤ sum ys
sum_most [] ys same each = omega arith
sum_most (x ∷ xs) [] same each = absurd (omega (arith, same))
sum_most (x ∷ xs) (y ∷ ys) same each =
    let here : x ≤ y = each 0 (omega arith) in
    let others = sum_most xs ys (omega (arith, same)) (λ i inner. each (suc i) (omega (arith, inner))) in
    omega (arith, here, others, sum_by-cons (λ (n : ℕ). n) x xs, sum_by-cons (λ (n : ℕ). n) y ys)

greatest_most : (nodes : List NodeData) (j most : ℕ) → ((i : ℕ) (v : NodeData) → slice_get nodes i ≡ Some v → v.goal ≡ j → v.rank ≤ most) → greatest_rank nodes j ≤ most
greatest_most [] j most each = omega arith
greatest_most (v ∷ vs) j most each = at (v.goal == j) refl (greatest_most vs j most (λ i w there. each (suc i) w there))
  where
    at : (b : Bool) → (v.goal == j) ≡ b → greatest_rank vs j ≤ most → max (if b then v.rank else 0) (greatest_rank vs j) ≤ most
    at true is others = let here = each 0 v refl (eqb-true v.goal j is) in omega (arith, here, others)
    at false is others = omega (arith, others)

pub k_most : (g : GameData) (z : StateSet) (l : LayerSets) (w : IsWinning g z l) (ranks : List ℕ) (greatest : AreGreatestRanks g l ranks) (t : SystemTable) →
    ((i : ℕ) (v : NodeData) → slice_get t.nodes i ≡ Some v → (m : Memory) × IsNodeOf v v.state m × Standing g l v.state m) → round_count ranks ≤ t.k → rule_5 g t ≡ true
k_most g z l w ranks greatest t each enough = le-leb (1 + sum (greatest_ranks g t.nodes)) t.k (omega (arith, enough, all))
  where
    n : ℕ
    n = length (goal_sets g)

    one : (j : ℕ) → greatest_rank t.nodes (suc j) ≤ slice_index ranks j
    one j = greatest_most t.nodes (suc j) (slice_index ranks j) (λ i v there goal.
        let at = each i v there in
        let same : at.0.goal ≡ j = let is = at.1.goal in omega (arith, is, goal) in
        let most = rank_at_most g z l w ranks greatest v.state at.0 at.2 in
        let rank = at.1.rank in
        let bound = ap (slice_index ranks) same in
        omega (arith, most, rank, bound))

    long : length (greatest_ranks g t.nodes) ≡ length ranks
    long = length-at_numbers (λ j. greatest_rank t.nodes (suc j)) (length (goal_sets g)) ∙ sym greatest.counted

    all : sum (greatest_ranks g t.nodes) ≤ sum ranks
    all = sum_most (greatest_ranks g t.nodes) ranks long (λ i inner.
        let here = at_number (λ j. greatest_rank t.nodes (suc j)) (length (goal_sets g)) i (omega (arith, inner, long, greatest.counted)) in
        let most = one i in
        omega (arith, here, most))
