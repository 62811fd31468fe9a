-- The iterates of an equation reach its greatest set within as many turns as there are states, and so do those from none up.
use Rattle.std.proofs.Common.{◌≡◌, ℕ, zero, suc, ◌+◌, ◌<◌, ◌≤◌, ◌-◌, Bool, true, false, List, [], ◌∷◌, length, if◌then◌else◌, sym, ◌∙◌, ap, subst, arith, ◌⊎◌, inl, inr, IsTrue}
use Rattle.spec_model.specs.Games.{GameData, State}
use Rattle.spec_model.specs.Steps.{states_of}
use Rattle.spec_model.specs.Sets.{StateSet, no_states, all_states, IsPartOf, IsGreatest}
use Rattle.spec_model.specs.Counts.{count_in}
use Rattle.spec_model.proofs.SetLaws.{same_set}
use Rattle.spec_model.proofs.Fixpoints.{IsFalling, IsRising, falling-first, falling-next, falling-last, rising-first, rising-next}
use Rattle.gr1_sys.specs.Solution.{iterate, greatest_of}

pub count_at_most : (a : StateSet) (ss : List State) → count_in a ss ≤ length ss
count_at_most a [] = omega arith
count_at_most a (s ∷ ss) = let rest = count_at_most a ss in by_state (a s) rest
  where
    by_state : (b : Bool) → count_in a ss ≤ length ss → (if b then 1 else 0) + count_in a ss ≤ length (s ∷ ss)
    by_state true rest = omega arith
    by_state false rest = omega arith

less_or_not : (a b : ℕ) → (a < b) ⊎ (b ≤ a)
less_or_not a b = grind arith

module _ (g : GameData) (value : StateSet → StateSet) (grows : (t u : StateSet) → IsPartOf t u → IsPartOf (value t) (value u)) (inside : (t : StateSet) → IsPartOf (value t) (all_states g)) where
  abbrev count : StateSet → ℕ
  count z = count_in z (states_of g)

  abbrev turns : ℕ
  turns = length (states_of g)

  -- ---- down

  pub iterate-falls : (n : ℕ) → IsFalling g value (iterate g value n)
  iterate-falls zero = falling-first g value grows inside
  iterate-falls (suc n) = falling-next g value grows inside (iterate g value n) (iterate-falls n)

  -- it is settled, or has lost as many states as turns
  fewer_each_turn : (n : ℕ) → (iterate g value n ≡ value (iterate g value n)) ⊎ (count (iterate g value n) + n ≤ length (states_of g))
  fewer_each_turn zero = inr (let bound = count_at_most (all_states g) (states_of g) in omega arith)
  fewer_each_turn (suc n) = by_turn (fewer_each_turn n) (less_or_not (count (value (iterate g value n))) (count (iterate g value n)))
    where
      falls : IsFalling g value (iterate g value n)
      falls = iterate-falls n

      by_turn : (iterate g value n ≡ value (iterate g value n)) ⊎ (count (iterate g value n) + n ≤ length (states_of g)) →
          (count (value (iterate g value n)) < count (iterate g value n)) ⊎ (count (iterate g value n) ≤ count (value (iterate g value n))) →
          (value (iterate g value n) ≡ value (value (iterate g value n))) ⊎ (count (value (iterate g value n)) + suc n ≤ length (states_of g))
      by_turn (inl settled) _ = inl (ap value settled)
      by_turn (inr lost) (inl less) = inr (omega arith)
      by_turn (inr lost) (inr enough) = inl (ap value (sym (same_set g (value (iterate g value n)) (iterate g value n) falls.falls falls.proper enough)))

  pub greatest_of-greatest : IsGreatest value (greatest_of g value)
  unfolding greatest_of
  greatest_of-greatest = by_turns (fewer_each_turn (length (states_of g)))
    where
      falls : IsFalling g value (iterate g value turns)
      falls = iterate-falls turns

      by_turns : (iterate g value turns ≡ value (iterate g value turns)) ⊎ (count (iterate g value turns) + turns ≤ turns) → IsGreatest value (iterate g value turns)
      by_turns (inl settled) = falling-last g value grows inside (iterate g value turns) falls settled
      by_turns (inr none) = falling-last g value grows inside (iterate g value turns) falls (sym (same_set g (value (iterate g value turns)) (iterate g value turns) falls.falls falls.proper (omega arith)))

  -- ---- up

  module _ (up : ℕ → StateSet) (first : up 0 ≡ no_states) (next : (n : ℕ) → up (suc n) ≡ value (up n)) where
    pub up-rises : (n : ℕ) → IsRising g value (up n)
    up-rises zero = subst (IsRising g value) (sym first) (rising-first g value grows inside)
    up-rises (suc n) = subst (IsRising g value) (sym (next n)) (rising-next g value grows inside (up n) (up-rises n))

    proper : (n : ℕ) → IsPartOf (up n) (all_states g)
    proper n s e = inside (up n) s ((up-rises n).rises s e)

    more_each_turn : (n : ℕ) → (up n ≡ value (up n)) ⊎ (n ≤ count (up n))
    more_each_turn zero = inr (omega arith)
    more_each_turn (suc n) = by_turn (more_each_turn n) (less_or_not (count (up n)) (count (value (up n))))
      where
        same : up n ≡ value (up n) → up (suc n) ≡ value (up (suc n))
        same settled = next n ∙ ap value (settled ∙ sym (next n))

        by_turn : (up n ≡ value (up n)) ⊎ (n ≤ count (up n)) → (count (up n) < count (value (up n))) ⊎ (count (value (up n)) ≤ count (up n)) →
            (up (suc n) ≡ value (up (suc n))) ⊎ (suc n ≤ count (up (suc n)))
        by_turn (inl settled) _ = inl (same settled)
        by_turn (inr gained) (inl more) = inr (subst (λ z. suc n ≤ count z) (sym (next n)) (omega arith))
        by_turn (inr gained) (inr enough) = inl (same (same_set g (up n) (value (up n)) (up-rises n).rises (inside (up n)) enough))

    pub settled_last : up (length (states_of g)) ≡ value (up (length (states_of g)))
    settled_last = by_turns (more_each_turn (length (states_of g)))
      where
        by_turns : (up turns ≡ value (up turns)) ⊎ (turns ≤ count (up turns)) → up turns ≡ value (up turns)
        by_turns (inl settled) = settled
        by_turns (inr all) = same_set g (up turns) (value (up turns)) (up-rises turns).rises (inside (up turns)) (let bound = count_at_most (value (up turns)) (states_of g) in omega arith)

    -- once settled, nothing changes
    pub up-settled : (n k : ℕ) → up n ≡ value (up n) → up (k + n) ≡ up n
    up-settled n zero settled = ap up (omega arith)
    up-settled n (suc k) settled = let more : suc k + n ≡ suc (k + n) = omega arith in ap up more ∙ (next (k + n) ∙ (ap value (up-settled n k settled) ∙ sym settled))

    -- so where it is settled it is the last
    pub up-last : (n : ℕ) → up n ≡ value (up n) → up n ≡ up turns
    up-last n settled = by_order (less_or_not n turns)
      where
        by_order : (n < turns) ⊎ (turns ≤ n) → up n ≡ up turns
        by_order (inl before) = by_gap (turns - n) (omega arith)
          where
            by_gap : (k : ℕ) → turns ≡ k + n → up n ≡ up turns
            by_gap k e = sym (up-settled n k settled) ∙ ap up (sym e)
        by_order (inr after) = by_gap (n - turns) (omega arith)
          where
            by_gap : (k : ℕ) → n ≡ k + turns → up n ≡ up turns
            by_gap k e = ap up e ∙ up-settled turns k settled_last

    -- and each is part of the last
    pub up-part : (n k : ℕ) → IsPartOf (up n) (up (k + n))
    up-part n zero s e = subst (λ (t : StateSet). IsTrue (t s)) (ap up (omega arith)) e
    up-part n (suc k) s e = let more : suc k + n ≡ suc (k + n) = omega arith in subst (λ (t : StateSet). IsTrue (t s)) (sym (ap up more ∙ next (k + n))) ((up-rises (k + n)).rises s (up-part n k s e))

    pub up-in_last : (n : ℕ) → IsPartOf (up n) (up turns)
    up-in_last n = by_order (less_or_not n turns)
      where
        by_order : (n < turns) ⊎ (turns ≤ n) → IsPartOf (up n) (up turns)
        by_order (inl before) = by_gap (turns - n) (omega arith)
          where
            by_gap : (k : ℕ) → turns ≡ k + n → IsPartOf (up n) (up turns)
            by_gap k e s h = subst (λ m. IsTrue (up m s)) (sym e) (up-part n k s h)
        by_order (inr after) = by_gap (n - turns) (omega arith)
          where
            by_gap : (k : ℕ) → n ≡ k + turns → IsPartOf (up n) (up turns)
            by_gap k e s h = subst (λ (t : StateSet). IsTrue (t s)) (ap up e ∙ up-settled turns k settled_last) h
