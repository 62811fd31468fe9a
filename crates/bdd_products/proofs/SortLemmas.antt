-- Functions in another order are together the same, and places with one more.
use Rattle.std.proofs.Common.{◌≡◌, inl, inr, ℕ, ◌+◌, ◌<◌, Bool, true, false, ◌&&◌, List, [], ◌∷◌, ◌++◌, length, take, get_or, slice_index, IsPermutation, refl, sym, ◌∙◌, ap, subst, arith}
use Rattle.std.specs.List.{Contains}
use Rattle.std.proofs.lemmas.Bool.{false≢true}
use Rattle.std.proofs.lemmas.List.{map-append}
use Rattle.std.proofs.lemmas.List.Sorted.{Contains-permutation, IsPermutation-sym}
use Rattle.spec_model.specs.Diagrams.{Bits, Function}
use Rattle.bdd_bits.specs.Contents.{Contents, function_at}
use Rattle.bit_compile.proofs.CyclesLemmas.{take_next}
use Rattle.bit_compile.proofs.Filled.{contains_first, contains_later, first_or_later}
use Rattle.bdd_sets.specs.Members.{all_true, functions_at}
use Rattle.bdd_products.specs.Products.{members_in}

both_true : (a b : Bool) → (a && b) ≡ true → (a ≡ true) × (b ≡ true)
both_true true b e = (refl, e)
both_true false b e = absurd (false≢true e)

from_both : (a b : Bool) → a ≡ true → b ≡ true → (a && b) ≡ true
from_both true b one two = two
from_both false b one two = absurd (false≢true one)

all_in : (fs : List Function) (s : Bits) → all_true fs s ≡ true → (f : Function) → Contains fs f → f s ≡ true
all_in [] s all f there = absurd (let below = there.1 in omega (arith, below))
all_in (g ∷ fs) s all f there = let both = both_true (g s) (all_true fs s) all in elim (first_or_later g f fs there) [
  | inl same ↦ subst (λ (h : Function). h s ≡ true) same both.0
  | inr later ↦ all_in fs s both.1 f later
]

from_all : (fs : List Function) (s : Bits) → ((f : Function) → Contains fs f → f s ≡ true) → all_true fs s ≡ true
from_all [] s each = refl
from_all (g ∷ fs) s each = from_both (g s) (all_true fs s) (each g (contains_first g fs)) (from_all fs s (λ f there. each f (contains_later g f fs there)))

same_truth : (a b : Bool) → (a ≡ true → b ≡ true) → (b ≡ true → a ≡ true) → a ≡ b
same_truth true b to from = sym (to refl)
same_truth false true to from = from refl
same_truth false false to from = refl

pub all_true-permutation : (fs gs : List Function) → IsPermutation fs gs → all_true gs ≡ all_true fs
all_true-permutation fs gs moved = λ i s.
    same_truth (all_true gs s) (all_true fs s)
    (λ all. from_all fs s (λ f there. all_in gs s all f (Contains-permutation fs gs f moved there)))
    (λ all. from_all gs s (λ f there. all_in fs s all f (Contains-permutation gs fs f (IsPermutation-sym fs gs moved) there))) i

-- one place more
pub members_more : (c : Contents) (members : List ℕ) (places : List (ℕ × ℕ)) (i : ℕ) (p : ℕ × ℕ) → i < length places → p ≡ get_or places i p → functions_at c (members_in members (take i places)) ++ function_at c (slice_index members p.1) ∷ [] ≡ functions_at c (members_in members (take (i + 1) places))
members_more c members places i p below is =
    let next = take_next places i p below is in
    let one = map-append (λ (q : ℕ × ℕ). slice_index members q.1) (take i places) (p ∷ []) in
    sym (ap (λ (ps : List (ℕ × ℕ)). functions_at c (members_in members ps)) next ∙ (ap (functions_at c) one ∙ map-append (function_at c) (members_in members (take i places)) (slice_index members p.1 ∷ [])))
