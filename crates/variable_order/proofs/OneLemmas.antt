-- There is one number of parts under an order, and a climb makes it smaller and ends at one order.
use Rattle.std.proofs.Common.{◌≡◌, ◌⊎◌, inl, inr, ℕ, suc, ◌<◌, ◌≤◌, List, [], ◌∷◌, map, length, refl, sym, ◌∙◌, ap, subst, arith}
use Rattle.std.specs.List.{AllByRecursion, Contains, remove}
use Rattle.std.proofs.lemmas.Bool.{cases_lt}
use Rattle.std.proofs.lemmas.List.Sorted.{Contains-permutation, IsPermutation-remove, length_permutation}
use Rattle.spec_model.specs.Diagrams.{Diagram, Function, value, IsReduced}
use Rattle.spec_model.proofs.Diagrams.{same_function}
use Rattle.bdd_reorder.specs.Counting.{AreDifferent, HaveParts}
use Rattle.bdd_reorder.proofs.ElementLemmas.{contains_first, contains_later, first_or_later}
use Rattle.variable_order.specs.Sizes.{HasNodes}
use Rattle.variable_order.specs.Climbing.{moved, IsBefore, HasAtLeast, IsBest, IsFirstBest, Reaches, starts, next, IsClimb}

-- different diagrams of a list are at most as many as it has
different_within : (xs ys : List Diagram) → AreDifferent xs → ((d : Diagram) → Contains xs d → Contains ys d) → length xs ≤ length ys
different_within [] ys different within = omega arith
different_within (x ∷ xs) ys different within =
    let there = within x (contains_first x xs) in
    let shuffled = IsPermutation-remove ys there.0 x there.1 (sym there.2) in
    let rest : length xs ≤ length (remove ys there.0) = different_within xs (remove ys there.0) different.1 (λ d in_xs.
    elim (first_or_later x d (remove ys there.0) (Contains-permutation ys (x ∷ remove ys there.0) d shuffled (within d (contains_later x d xs in_xs)))) [
      | inl same ↦ absurd (different.0 (subst (Contains xs) (sym same) in_xs))
      | inr later ↦ later
    ]) in
    let one_less = length_permutation ys (x ∷ remove ys there.0) shuffled in
    omega (arith, rest, one_less)

one_count : (ds : List Diagram) (n m : ℕ) → HaveParts ds n → HaveParts ds m → n ≡ m
one_count ds n m first second =
    let less = different_within first.parts second.parts first.different (λ d there. (second.are_parts d).1 ((first.are_parts d).0 there)) in
    let more = different_within second.parts first.parts second.different (λ d there. (first.are_parts d).1 ((second.are_parts d).0 there)) in
    omega (arith, less, more, first.counted, second.counted)

abbrev first_of : List Function → Function → Function
first_of [] f = f
first_of (g ∷ gs) f = g

abbrev rest_of : List Function → List Function
rest_of [] = []
rest_of (g ∷ gs) = gs

-- reduced diagrams of the same functions are the same
same_diagrams : (ds es : List Diagram) → AllByRecursion IsReduced ds → AllByRecursion IsReduced es → map value ds ≡ map value es → ds ≡ es
same_diagrams [] [] first second same = refl
same_diagrams [] (e ∷ es) first second same = absurd (let longer = ap length same in omega (arith, longer))
same_diagrams (d ∷ ds) [] first second same = absurd (let longer = ap length same in omega (arith, longer))
same_diagrams (d ∷ ds) (e ∷ es) first second same =
    let head : d ≡ e = same_function d e first.0 second.0 (ap (λ (fs : List Function). first_of fs (value d)) same) in
    let tail : ds ≡ es = same_diagrams ds es first.1 second.1 (ap rest_of same) in
    ap (λ (x : Diagram). x ∷ ds) head ∙ ap (λ (xs : List Diagram). e ∷ xs) tail

pub one_number : (widths order : List ℕ) (fs : List Function) (n m : ℕ) → HasNodes widths fs order n → HasNodes widths fs order m → n ≡ m
one_number widths order fs n m first second =
    let same : first.ds ≡ second.ds = same_diagrams first.ds second.ds first.have.reduced second.have.reduced (first.are ∙ sym second.are) in
    one_count second.ds n m (subst (λ (ds : List Diagram). HaveParts ds n) same first.have) second.have

module _ (fixed : ℕ) (widths start : List ℕ) (fs : List Function) (n : ℕ) (size : HasNodes widths fs start n) where
  down : {last : List ℕ} {k : ℕ} → Reaches fixed widths fs start n last k → HasNodes widths fs last k × (((last ≡ start) × (k ≡ n)) ⊎ (k < n))
  down starts = (size, inl (refl, refl))
  down (next m i j before best) =
      (best.first.size, inr (let less = best.first.fewer in elim (down before).1 [ inl same ↦ (let is = same.1 in omega (arith, less, is)) | inr more ↦ omega (arith, less, more) ]))

  pub goes_down : (last : List ℕ) (k : ℕ) → IsClimb fixed widths fs start n last k → HasNodes widths fs last k × (((last ≡ start) × (k ≡ n)) ⊎ (k < n))
  goes_down last k climb = down climb.reached

-- ---- a climb ends at one order

before_or_not : (i j k l : ℕ) → IsBefore i j k l ⊎ (((i ≡ k) × (j ≡ l)) ⊎ IsBefore k l i j)
before_or_not i j k l = elim (cases_lt i k) [
  | inl less ↦ inl (inl less)
  | inr rest ↦ elim (cases_lt k i) [
    | inl more ↦ inr (inr (inl more))
    | inr same ↦ elim (cases_lt j l) [
      | inl less ↦ inl (inr (omega (arith, rest, same), less))
      | inr last ↦ elim (cases_lt l j) [
        | inl more ↦ inr (inr (inr (omega (arith, rest, same), more)))
        | inr least ↦ inr (inl (omega (arith, rest, same), omega (arith, last, least)))
      ]
    ]
  ]
]

module _ (fixed : ℕ) (widths : List ℕ) (fs : List Function) where
  not_fewer : (order : List ℕ) (n m i j : ℕ) → HasAtLeast fixed widths fs order n i j → HasNodes widths fs (moved order i j) m → n ≤ m
  not_fewer order n m i j least size =
      let same = one_number widths (moved order i j) fs least.0 m least.1 size in
      let more = least.2 in
      omega (arith, same, more)

  module _ (order : List ℕ) (n m i j m' i' j' : ℕ) (a : IsFirstBest fixed widths fs order n m i j) (b : IsFirstBest fixed widths fs order n m' i' j') where
    no_more : m ≤ m'
    no_more = not_fewer order m m' i' j' (a.least i' j' b.first.move) b.first.size

    not_before : IsBefore i j i' j' → ⊥
    not_before earlier = let more = not_fewer order (suc m') m i j (b.first.first i j a.first.move earlier) a.first.size in let least = no_more in absurd (omega (arith, more, least))

  same_move : (order : List ℕ) (n m i j m' i' j' : ℕ) → IsFirstBest fixed widths fs order n m i j → IsFirstBest fixed widths fs order n m' i' j' → (m ≡ m') × ((i ≡ i') × (j ≡ j'))
  same_move order n m i j m' i' j' a b = (
    (let less = no_more order n m i j m' i' j' a b in let more = no_more order n m' i' j' m i j b a in omega (arith, less, more)),
    elim (before_or_not i j i' j') [
      | inl earlier ↦ absurd (not_before order n m i j m' i' j' a b earlier)
      | inr (inl same) ↦ same
      | inr (inr later) ↦ absurd (not_before order n m' i' j' m i j b a later)
    ],
  )

  -- the moves that are left
  data Goes : List ℕ → ℕ → List ℕ → ℕ → Type 0 where
    ends : {order : List ℕ} {n : ℕ} → IsBest fixed widths fs order n → Goes order n order n
    goes : {order last : List ℕ} {n k : ℕ} (m i j : ℕ) → IsFirstBest fixed widths fs order n m i j → Goes (moved order i j) m last k → Goes order n last k

  all_left : {start : List ℕ} {n : ℕ} {order last : List ℕ} {k m : ℕ} → Reaches fixed widths fs start n order k → Goes order k last m → Goes start n last m
  all_left starts left = left
  all_left (next m i j before best) left = all_left before (goes m i j best left)

  no_way : (order : List ℕ) (n m i j : ℕ) → IsBest fixed widths fs order n → IsFirstBest fixed widths fs order n m i j → ⊥
  no_way order n m i j best step =
      let more = not_fewer order n m i j (best i j step.first.move) step.first.size in
      let less = step.first.fewer in
      absurd (omega (arith, more, less))

  same_left : (order other : List ℕ) (m i j m' i' j' l : ℕ) → (m ≡ m') × ((i ≡ i') × (j ≡ j')) → Goes (moved order i' j') m' other l → Goes (moved order i j) m other l
  same_left order other m i j m' i' j' l same left =
      subst (λ (p : ℕ). Goes (moved order i j) p other l) (sym same.0)
      (subst (λ (p : ℕ). Goes (moved order i p) m' other l) (sym same.1.1) (subst (λ (p : ℕ). Goes (moved order p j') m' other l) (sym same.1.0) left))

  one_end : (order : List ℕ) (n : ℕ) {last other : List ℕ} {k l : ℕ} → Goes order n last k → Goes order n other l → (last ≡ other) × (k ≡ l)
  one_end order n (ends best) (ends best') = (refl, refl)
  one_end order n (ends best) (goes m i j step left) = absurd (no_way order n m i j best step)
  one_end order n (goes m i j step left) (ends best) = absurd (no_way order n m i j best step)
  one_end order n (goes m i j step left) (goes m' i' j' step' left') =
      one_end (moved order i j) m left (same_left order _ m i j m' i' j' _ (same_move order n m i j m' i' j' step step') left')

  pub one_climb : (start : List ℕ) (n : ℕ) (last other : List ℕ) (k l : ℕ) → IsClimb fixed widths fs start n last k → IsClimb fixed widths fs start n other l → (last ≡ other) × (k ≡ l)
  one_climb start n last other k l a b = one_end start n (all_left a.reached (ends a.best)) (all_left b.reached (ends b.best))
