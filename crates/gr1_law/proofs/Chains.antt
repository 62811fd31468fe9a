-- A chain of sets of states that rises settles within as many steps as there are states.
use Rattle.std.proofs.Common.{sym, ap, ◌∙◌, nat_le, ◌≡◌, Bool, true, false, if◌then◌else◌, List, [], ◌∷◌, refl, ℕ, zero, suc, ◌+◌, ◌-◌, ◌<◌, ◌≤◌, ◌⊎◌, inl, inr, subst, arith, IsTrue}
use Rattle.std.proofs.lemmas.Bool.{false≢true}
use Rattle.spec_model.specs.Games.{GameData, State}
use Rattle.spec_model.specs.Steps.{states_of}
use Rattle.spec_model.specs.Sets.{StateSet, all_states, IsPartOf}
use Rattle.spec_model.specs.Counts.{count_in}
use Rattle.spec_model.proofs.SetLaws.{same_set}
use Rattle.gr1_law.specs.Layers.{IsLeastNumber}
use borrow.Author.Tests.{leb-true, le-leb}
use Rattle.gr1_law.proofs.Searching.{least_of}

-- how many states there are
abbrev pub state_count : GameData → ℕ
state_count g = count_in (all_states g) (states_of g)

pub count_at_most : (a b : StateSet) → IsPartOf a b → (ss : List State) → count_in a ss ≤ count_in b ss
count_at_most a b part [] = omega arith
count_at_most a b part (s ∷ ss) = at (a s) (b s) (part s) (count_at_most a b part ss)
  where
    at : (p q : Bool) → (p ≡ true → q ≡ true) → count_in a ss ≤ count_in b ss → (if p then 1 else 0) + count_in a ss ≤ (if q then 1 else 0) + count_in b ss
    at true true h below = omega arith
    at true false h below = absurd (false≢true (h refl))
    at false true h below = omega arith
    at false false h below = omega arith

module _ (g : GameData) (chain : ℕ → StateSet) (rises : (r : ℕ) → IsPartOf (chain r) (chain (suc r))) (inside : (r : ℕ) → IsPartOf (chain r) (all_states g)) where
  abbrev size : ℕ → ℕ
  size r = count_in (chain r) (states_of g)

  pub in_later : (more r : ℕ) → IsPartOf (chain r) (chain (more + r))
  in_later zero r = subst (λ (n : ℕ). IsPartOf (chain r) (chain n)) (omega arith) (λ s e. e)
  in_later (suc more) r = subst (λ (n : ℕ). IsPartOf (chain r) (chain n)) (omega arith) (λ s e. rises (more + r) s (in_later more r s e))

  grows_or_settles : (r : ℕ) → (size r < size (suc r)) ⊎ (chain r ≡ chain (suc r))
  grows_or_settles r = by_cases or_not
    where
      or_not : (size r < size (suc r)) ⊎ (size (suc r) ≤ size r)
      or_not = grind arith

      by_cases : (size r < size (suc r)) ⊎ (size (suc r) ≤ size r) → (size r < size (suc r)) ⊎ (chain r ≡ chain (suc r))
      by_cases (inl more) = inl more
      by_cases (inr enough) = inr (same_set g (chain r) (chain (suc r)) (rises r) (inside (suc r)) enough)

  -- up to a number some set has settled, or there are as many states
  settles_or_many : (r : ℕ) → ((k : ℕ) × (k < r) × (chain k ≡ chain (suc k))) ⊎ (r ≤ size r)
  settles_or_many zero = inr (omega arith)
  settles_or_many (suc r) =
      elim (settles_or_many r) [
        | inl settled ↦ inl (settled.0, omega (arith, settled.1), settled.2)
        | inr many ↦ elim (grows_or_settles r) [ inl more ↦ inr (omega arith) | inr same ↦ inl (r, omega arith, same) ]
      ]

  size_at_most : (r : ℕ) → size r ≤ state_count g
  size_at_most r = count_at_most (chain r) (all_states g) (inside r) (states_of g)

  pub settles : (k : ℕ) × (k ≤ state_count g) × (chain k ≡ chain (suc k))
  settles =
      elim (settles_or_many (suc (state_count g))) [
        | inl settled ↦ (settled.0, omega (arith, settled.1), settled.2)
        | inr many ↦ absurd (omega (arith, many, size_at_most (suc (state_count g))))
      ]

  pub least_settled : (k : ℕ) → IsLeastNumber (λ r. chain r ≡ chain (suc r)) k → k ≤ state_count g
  least_settled k least = let settled = settles in let no_less : settled.0 < k → ⊥ = λ less. least.none_before settled.0 less settled.2 in grind (arith, no_less, settled.1)

  -- the first set that equals the next is found by counting
  no_growth : ℕ → Bool
  no_growth r = nat_le (size (suc r)) (size r)

  settled_where : (r : ℕ) → no_growth r ≡ true → chain r ≡ chain (suc r)
  unfolding no_growth
  settled_where r e = same_set g (chain r) (chain (suc r)) (rises r) (inside (suc r)) (leb-true (size (suc r)) (size r) e)

  where_settled : (r : ℕ) → chain r ≡ chain (suc r) → no_growth r ≡ true
  unfolding no_growth
  where_settled r same = le-leb (size (suc r)) (size r) (let e : size r ≡ size (suc r) = ap (λ (t : StateSet). count_in t (states_of g)) same in omega arith)

  pub some_least : (k : ℕ) × IsLeastNumber (λ r. chain r ≡ chain (suc r)) k
  some_least =
      let settled = settles in
      let least = least_of no_growth settled.0 (where_settled settled.0 settled.2) in
      (least.0, record { here = settled_where least.0 least.1.here; none_before = λ i less same. least.1.none_before i less (where_settled i same) })

  -- where a set that equals the next is followed by its equals, it has every other
  module _ (stays : (r : ℕ) → chain r ≡ chain (suc r) → chain (suc r) ≡ chain (suc (suc r))) where
    pub settled_after : (k r : ℕ) → chain r ≡ chain (suc r) → chain r ≡ chain (r + k)
    settled_after zero r same = ap chain (omega arith)
    settled_after (suc k) r same = same ∙ (settled_after k (suc r) (stays r same) ∙ ap chain (omega arith))

    pub in_settled : (k r : ℕ) → chain k ≡ chain (suc k) → IsPartOf (chain r) (chain k)
    in_settled k r settled s e = by_cases or_not
      where
        or_not : (r ≤ k) ⊎ (k < r)
        or_not = grind arith

        by_cases : (r ≤ k) ⊎ (k < r) → IsTrue (chain k s)
        by_cases (inl lower) = let e' : (k - r) + r ≡ k = omega arith in subst (λ (n : ℕ). IsTrue (chain n s)) e' (in_later (k - r) r s e)
        by_cases (inr higher) =
            let e' : k + (r - k) ≡ r = omega arith in
            subst (λ (t : StateSet). IsTrue (t s)) (sym (settled_after (r - k) k settled)) (subst (λ (n : ℕ). IsTrue (chain n s)) (sym e') e)

    -- so the set with the number of states has every other
    pub in_full : (r : ℕ) → IsPartOf (chain r) (chain (state_count g))
    in_full r s e =
        let settled = settles in
        let e' : (state_count g - settled.0) + settled.0 ≡ state_count g = omega (arith, settled.1) in
        subst (λ (n : ℕ). IsTrue (chain n s)) e' (in_later (state_count g - settled.0) settled.0 s (in_settled settled.0 r settled.2 s e))
