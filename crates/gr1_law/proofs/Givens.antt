-- The number of the set that a given input leads into: it is at most the last that differs from those before it, and not 0 where a reply
-- is legal.
use Rattle.std.proofs.Common.{◌≡◌, ℕ, zero, suc, ◌<◌, ◌≤◌, inl, inr, Bool, true, false, not, ◌||◌, if◌then◌else◌, List, [], ◌∷◌, length, slice_index, refl, sym, ◌∙◌, ap, subst, arith, IsTrue}
use Rattle.std.specs.List.{list_any, list_all}
use Rattle.std.proofs.lemmas.Bool.{and_parts, and_from, or_cases, false≢true}
use Rattle.spec_model.specs.Values.{Assignment}
use Rattle.spec_model.specs.Games.{GameData, State, inputs_of, outputs_of}
use Rattle.spec_model.specs.Steps.{Before, is_output, legal_output, reached}
use Rattle.spec_model.specs.Sets.{StateSet, input_into, environment_forces, IsPartOf}
use Rattle.gr1_law.specs.Layers.{goal_sets, assumption_sets}
use Rattle.gr1_law.specs.EnvLayers.{EnvLayerSets, delay}
use Rattle.gr1_law.specs.Counter.{CounterMemory, targets, IsGiven}
use Rattle.gr1_law.specs.CounterLaws.{IsLostWith}
use Rattle.gr1_law.proofs.Chains.{in_settled}
use Rattle.gr1_law.proofs.Delays.{delay_in_next, delay-inside, delay_stays}
use Rattle.gr1_law.proofs.CounterSteps.{CounterReady, iterate_some, given_leads}

any_grows : {X : Type 0} (p q : X → Bool) → ((x : X) → p x ≡ true → q x ≡ true) → (xs : List X) → list_any p xs ≡ true → list_any q xs ≡ true
any_grows p q grows [] e = absurd (false≢true e)
any_grows p q grows (x ∷ xs) e = elim (or_cases _ _ e) [ inl here ↦ ap (λ b. b || list_any q xs) (grows x here) | inr later ↦ from_right (q x) (any_grows p q grows xs later) ]
  where
    from_right : (a : Bool) {b : Bool} → b ≡ true → (a || b) ≡ true
    from_right true e = refl
    from_right false e = e

all_grow : {X : Type 0} (p q : X → Bool) → ((x : X) → p x ≡ true → q x ≡ true) → (xs : List X) → list_all p xs ≡ true → list_all q xs ≡ true
all_grow p q grows [] e = refl
all_grow p q grows (x ∷ xs) e = let parts = and_parts (p x) (list_all p xs) e in and_from _ _ (grows x parts.0) (all_grow p q grows xs parts.1)

implied : (a b c : Bool) → (b ≡ true → c ≡ true) → (not a || b) ≡ true → (not a || c) ≡ true
implied true b c grows e = grows e
implied false b c grows e = refl

-- what is forced into a set is forced into a greater one
environment_forces_grows : (g : GameData) (t u : StateSet) → IsPartOf t u → (b : Before) → environment_forces g t b ≡ true → environment_forces g u b ≡ true
environment_forces_grows g t u part b =
    any_grows (input_into g t b) (input_into g u b) (λ x e.
    let legal = and_parts _ _ e in
    and_from _ _ legal.0 (all_grow _ _ (λ y. implied (legal_output g b x y) _ _ (part (reached g b x y))) (outputs_of g) legal.1)) (inputs_of g)

at_most : (n r : ℕ) → (n < r → ⊥) → r ≤ n
at_most n r not_below = grind (arith, not_below)

module _ (g : GameData) (e : EnvLayerSets) (n : ℕ) (counts : ℕ → ℕ → List ℕ) (lost : IsLostWith g e n counts) where
  -- each iterate of a hold is part of the last
  in_last : (low j i q : ℕ) → low < n → j < length (goal_sets g) → i < length (assumption_sets g) → IsPartOf (e.x (suc low) j i q) (e.x (suc low) j i (slice_index (counts (suc low) j) i))
  in_last low j i q low_in j_in i_in s here =
      let count = slice_index (counts (suc low) j) i in
      let is : (r : ℕ) → e.x (suc low) j i r ≡ delay g (e.z low) (e.y (suc low) j) j i r = lost.layers.delays low j i in
      let settled = (lost.delays.each low j i low_in j_in i_in).here in
      subst (λ (t : StateSet). IsTrue (t s)) (sym (is count))
      (in_settled g (delay g (e.z low) (e.y (suc low) j) j i) (delay_in_next g (e.z low) (e.y (suc low) j) j i) (delay-inside g (e.z low) (e.y (suc low) j) j i) (delay_stays g (e.z low) (e.y (suc low) j) j i) count q
      (sym (is count) ∙ (settled ∙ is (suc count))) s (subst (λ (t : StateSet). IsTrue (t s)) (is q) here))

  module _ (b : Before) (k : CounterMemory) (ready : CounterReady g e n b k) (r : ℕ) (x : Assignment) (given : IsGiven g e b k r x) where
    none_lower : (q : ℕ) (d : Bool) → k.denying ≡ d → environment_forces g ((if d then e.x k.layer k.goal k.index else e.z) q) b ≡ true → r ≤ q
    none_lower q d denying forced = at_most q r (λ less. given.number.none_before q less (subst (λ d. environment_forces g ((if d then e.x k.layer k.goal k.index else e.z) q) b ≡ true) (sym denying) forced))

    pub given_layer : k.denying ≡ false → r ≤ n
    given_layer off = by_ready ready
      where
        by_ready : CounterReady g e n b k → r ≤ n
        by_ready (CounterReady.into_layer denying a forced few) = let most = none_lower a false off forced in omega (arith, few, most)
        by_ready (CounterReady.into_hold denying low layer few goal_in index_in q forced) = absurd (false≢true (sym off ∙ denying))

    pub given_iterate : k.denying ≡ true → r ≤ slice_index (counts k.layer k.goal) k.index
    given_iterate on = by_ready ready
      where
        by_ready : CounterReady g e n b k → r ≤ slice_index (counts k.layer k.goal) k.index
        by_ready (CounterReady.into_layer denying a forced few) = absurd (false≢true (sym denying ∙ on))
        by_ready (CounterReady.into_hold denying low layer few goal_in index_in q forced) =
            let last = slice_index (counts (suc low) k.goal) k.index in
            let above : environment_forces g (e.x k.layer k.goal k.index last) b ≡ true =
            subst (λ a. environment_forces g (e.x a k.goal k.index last) b ≡ true) (sym layer)
            (environment_forces_grows g (e.x (suc low) k.goal k.index q) (e.x (suc low) k.goal k.index last) (in_last low k.goal k.index q (omega (arith, layer, few)) goal_in index_in) b
            (subst (λ a. environment_forces g (e.x a k.goal k.index q) b ≡ true) layer forced)) in
            subst (λ a. r ≤ slice_index (counts a k.goal) k.index) (sym layer) (none_lower last true on above)

    -- layer 0 and a hold's first iterate have no states
    none_first : (s : State) → IsTrue (targets e k 0 s) → ⊥
    none_first s here = by_ready ready
      where
        by_ready : CounterReady g e n b k → ⊥
        by_ready (CounterReady.into_layer denying a forced few) =
            let inside : IsTrue (e.z 0 s) = subst (λ d. IsTrue ((if d then e.x k.layer k.goal k.index else e.z) 0 s)) denying here in
            false≢true (subst (λ (t : StateSet). IsTrue (t s)) lost.layers.none_first inside)
        by_ready (CounterReady.into_hold denying low layer few goal_in index_in q forced) =
            let inside : IsTrue (e.x k.layer k.goal k.index 0 s) = subst (λ d. IsTrue ((if d then e.x k.layer k.goal k.index else e.z) 0 s)) denying here in
            let some = iterate_some g e lost.layers k.layer low layer k.goal k.index 0 s inside in
            let no_zero : suc some.0 ≡ 0 = some.1 in
            omega (arith, no_zero)

    pub given_some : (y : Assignment) → is_output g y ≡ true → legal_output g b x y ≡ true → 1 ≤ r
    given_some y output legal = at_least r (given_leads g e lost.layers n b k r x given y output legal)
      where
        at_least : (q : ℕ) → IsTrue (targets e k q (reached g b x y)) → 1 ≤ q
        at_least zero here = absurd (none_first (reached g b x y) here)
        at_least (suc q) here = omega arith
