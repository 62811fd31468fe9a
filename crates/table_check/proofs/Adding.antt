-- Greatest numbers of several, and their sums.
use Rattle.std.proofs.Common.{◌≡◌, ℕ, zero, suc, ◌+◌, ◌-◌, ◌^◌, ◌<◌, ◌≤◌, ◌≢◌, ◌==◌, ◌⊎◌, inl, inr, max, min, nat_le, nat_lt, if◌then◌else◌, Bool, true, false, List, [], ◌∷◌, length, map, get_or, slice_index, sum, refl, sym, ap, ◌∙◌, arith}
use Rattle.std.proofs.Math.ListN.{set}
use Rattle.std.proofs.lemmas.List.{get_or-set_same, get_or-set_other, ext_get_or}
use Rattle.std.proofs.lemmas.List.Sums.{sum_by-cons}
use Rattle.std.proofs.lemmas.Bool.{le-ltb, eq-eqb, ne_eqb}
use Rattle.std.proofs.lemmas.Bool.Decides.{nat_tests}
use Rattle.spec_model.specs.Games.{GameData}
use Rattle.spec_model.specs.Steps.{below}
use Rattle.gr1_law.specs.Layers.{goal_sets, assumption_sets}
use Rattle.strategy_tables.specs.Tables.{NodeData}
use Rattle.strategy_tables.specs.Rules.{greatest_rank, greatest_ranks, bound, bounds}
use Rattle.strategy_tables.proofs.Numbers.{at_number, length-at_numbers}
use Rattle.table_check.specs.Nodes.{capped}

-- ---- entries

-- an entry that is raised
pub raised : (s : List ℕ) (n v x i : ℕ) → 1 ≤ n → n ≤ length s → x ≡ slice_index s (n - 1) → slice_index (set s (n - 1) (max x v)) i ≡ max (slice_index s i) (if n == suc i then v else 0)
raised s n v x i some most is = by_place place
  where
    place : (n - 1 ≡ i) ⊎ (i ≢ n - 1)
    place = grind arith

    by_place : (n - 1 ≡ i) ⊎ (i ≢ n - 1) → slice_index (set s (n - 1) (max x v)) i ≡ max (slice_index s i) (if n == suc i then v else 0)
    by_place (inl same) =
        let here : n ≡ suc i = omega arith in
        ap (λ (j : ℕ). slice_index (set s (n - 1) (max x v)) j) (sym same)
        ∙ (get_or-set_same s (n - 1) (max x v) 0 (omega arith)
        ∙ (ap (λ (y : ℕ). max y v) (is ∙ ap (slice_index s) same)
        ∙ ap (λ (b : Bool). max (slice_index s i) (if b then v else 0)) (sym (eq-eqb n (suc i) here))))
    by_place (inr other) =
        let away : n ≢ suc i = λ e. other (omega (arith, e)) in
        let rest : slice_index s i ≡ max (slice_index s i) 0 = omega arith in
        get_or-set_other s (n - 1) i (max x v) 0 other
        ∙ (rest ∙ ap (λ (b : Bool). max (slice_index s i) (if b then v else 0)) (sym (ne_eqb n (suc i) away)))

-- and one whose number has none
pub not_raised : (s : List ℕ) (n v i : ℕ) → i < length s → ((1 ≤ n) → n ≤ length s → ⊥) → slice_index s i ≡ max (slice_index s i) (if n == suc i then v else 0)
not_raised s n v i inside out =
    let away : n ≢ suc i = λ e. out (omega (arith, e)) (omega (arith, e)) in
    let rest : slice_index s i ≡ max (slice_index s i) 0 = omega arith in
    rest ∙ ap (λ (b : Bool). max (slice_index s i) (if b then v else 0)) (sym (ne_eqb n (suc i) away))

-- two raises are one
pub raised_twice : (old w : ℕ) (a b : Bool) → max (max old (if a then capped w else 0)) (if b then 1 else 0) ≡ max old (capped (max (if a then w else 0) (if b then 1 else 0)))
raised_twice old w true true = omega arith
raised_twice old w true false = omega arith
raised_twice old w false true = omega arith
raised_twice old w false false = omega arith

pub capped-max : (old a b : ℕ) → max (max old (capped a)) (capped b) ≡ max old (capped (max a b))
capped-max old a b = omega arith

-- ---- sums

pub less_left : (s rest left : ℕ) → s < left → nat_lt rest (left - s) ≡ nat_lt (s + rest) left
less_left s rest left less = grind (arith, nat_tests)

pub none_left : (s rest left : ℕ) → left ≤ s → false ≡ nat_lt (s + rest) left
none_left s rest left over = sym (le-ltb (s + rest) left (omega arith))

pub one_more : (a b : ℕ) → nat_lt a b ≡ nat_le (1 + a) b
one_more a b = grind (arith, nat_tests)

-- a limit of 64 bits doesn't tell a sum from that of the capped numbers
pub capped_sum : (bs : List ℕ) (m : ℕ) → m < 2 ^ 64 → nat_lt (sum (map capped bs)) m ≡ nat_lt (sum bs) m
capped_sum bs m fits = at bs m fits
  where
    at : (bs : List ℕ) (m : ℕ) → m < 2 ^ 64 → nat_lt (sum (map capped bs)) m ≡ nat_lt (sum bs) m
    at [] m fits = refl
    at (b ∷ bs) m fits =
        ap (λ n. nat_lt n m) (sum_by-cons (λ (x : ℕ). x) (capped b) (map capped bs))
        ∙ (by_size (λ less. at bs (m - b) (omega (arith, fits))) size
        ∙ ap (λ n. nat_lt n m) (sym (sum_by-cons (λ (x : ℕ). x) b bs)))
      where
        size : (b < m) ⊎ (m ≤ b)
        size = grind arith

        by_size : (b < m → nat_lt (sum (map capped bs)) (m - b) ≡ nat_lt (sum bs) (m - b)) → (b < m) ⊎ (m ≤ b) → nat_lt (capped b + sum (map capped bs)) m ≡ nat_lt (b + sum bs) m
        by_size later (inl less) =
            let same : capped b ≡ b = omega arith in
            ap (λ n. nat_lt (n + sum (map capped bs)) m) same
            ∙ (sym (less_left b (sum (map capped bs)) m less)
            ∙ (later less
            ∙ less_left b (sum bs) m less))
        by_size later (inr over) =
            let past : m ≤ capped b = omega arith in
            sym (none_left (capped b) (sum (map capped bs)) m past) ∙ none_left b (sum bs) m over

-- ---- all entries

pub ranks_are : (g : GameData) (nodes : List NodeData) (s : List ℕ) → length s ≡ length (goal_sets g) → ((i : ℕ) → i < length s → slice_index s i ≡ greatest_rank nodes (suc i)) → s ≡ greatest_ranks g nodes
ranks_are g nodes s long each =
    let f = λ (j : ℕ). greatest_rank nodes (suc j) in
    ext_get_or 0 s (greatest_ranks g nodes) (long ∙ sym (length-at_numbers f (length (goal_sets g))))
    (λ i inside. each i inside ∙ sym (at_number f (length (goal_sets g)) i (omega (arith, inside, long))))

pub bounds_are : (g : GameData) (nodes : List NodeData) (layer goal : ℕ) (s : List ℕ) → length s ≡ length (assumption_sets g) → ((i : ℕ) → i < length s → slice_index s i ≡ capped (bound g nodes layer goal (suc i))) → s ≡ map capped (bounds g nodes layer goal)
bounds_are g nodes layer goal s long each =
    let f = λ (i : ℕ). bound g nodes layer goal (suc i) in
    ext_get_or 0 s (map capped (bounds g nodes layer goal)) (long ∙ sym (length-capped (bounds g nodes layer goal) ∙ length-at_numbers f (length (assumption_sets g))))
    (λ i inside. each i inside ∙ (ap capped (sym (at_number f (length (assumption_sets g)) i (omega (arith, inside, long)))) ∙ sym (capped_at (bounds g nodes layer goal) i)))
  where
    length-capped : (xs : List ℕ) → length (map capped xs) ≡ length xs
    length-capped [] = refl
    length-capped (x ∷ xs) = ap suc (length-capped xs)

    capped_at : (xs : List ℕ) (i : ℕ) → slice_index (map capped xs) i ≡ capped (slice_index xs i)
    capped_at [] i = refl
    capped_at (x ∷ xs) zero = refl
    capped_at (x ∷ xs) (suc i) = capped_at xs i
