-- The layers as functions are those that the equations ask for, and Z is the greatest set that equals what follows it.
use Rattle.std.proofs.Common.{◌≡◌, ℕ, zero, suc, ◌<◌, ◌-◌, List, [], ◌∷◌, map, Bool, true, false, ◌||◌, length, refl, sym, ◌∙◌, ap, subst, arith, ◌⊎◌, inl, inr, IsTrue}
use Rattle.std.proofs.lemmas.Bool.{and_parts, and_from, or_cases, false≢true}
use Rattle.spec_model.specs.Games.{GameData, State}
use Rattle.spec_model.specs.Steps.{states_of}
use Rattle.spec_model.specs.Sets.{StateSet, all_states, both, either, rest, holding, pre_sys, IsPartOf, IsGreatest}
use Rattle.spec_model.specs.Counts.{count_in}
use Rattle.spec_model.proofs.SetLaws.{pre_sys_grows, pre_sys-inside}
use Rattle.spec_model.proofs.Fixpoints.{greatest-one, rising-more}
use Rattle.gr1_law.specs.Layers.{LayerSets, goal_sets, assumption_sets, or_all_states, goal_set, assumption_set, union, part_value, AreLayers, HasRanks, IsWinning}
use Rattle.gr1_sys.specs.Solution.{part_of, layer_of, meet, following}
use Rattle.gr1_sys.specs.Layered.{layers_for}
use Rattle.gr1_sys.proofs.Greatest.{greatest_of-greatest, count_at_most, up-rises, up-in_last, up-last}

-- ---- growth

pub both_grows : (a b c d : StateSet) → IsPartOf a c → IsPartOf b d → IsPartOf (both a b) (both c d)
both_grows a b c d first second s e = let parts = and_parts (a s) (b s) e in and_from _ _ (first s parts.0) (second s parts.1)

or_left : (b c : Bool) → b ≡ true → (b || c) ≡ true
or_left b c e = ap (λ d. d || c) e

or_right : (b c : Bool) → c ≡ true → (b || c) ≡ true
or_right true c e = refl
or_right false c e = e

pub either_grows : (a b c d : StateSet) → IsPartOf a c → IsPartOf b d → IsPartOf (either a b) (either c d)
either_grows a b c d first second s e = elim (or_cases (a s) (b s) e) [ inl l ↦ or_left (c s) (d s) (first s l) | inr r ↦ or_right (c s) (d s) (second s r) ]

pub either_inside : (a b c : StateSet) → IsPartOf a c → IsPartOf b c → IsPartOf (either a b) c
either_inside a b c first second s e = elim (or_cases (a s) (b s) e) [ inl l ↦ first s l | inr r ↦ second s r ]

pub union_grows : (f h : ℕ → StateSet) → ((i : ℕ) → IsPartOf (f i) (h i)) → (n : ℕ) → IsPartOf (union f n) (union h n)
union_grows f h part zero = λ s e. e
union_grows f h part (suc n) = either_grows (union f n) (f n) (union h n) (h n) (union_grows f h part n) (part n)

pub union_inside : (f : ℕ → StateSet) (c : StateSet) → ((i : ℕ) → IsPartOf (f i) c) → (n : ℕ) → IsPartOf (union f n) c
union_inside f c part zero = λ s e. absurd (false≢true e)
union_inside f c part (suc n) = either_inside (union f n) (f n) c (union_inside f c part n) (part n)

pub union_same : (f h : ℕ → StateSet) → ((i : ℕ) → f i ≡ h i) → (n : ℕ) → union f n ≡ union h n
union_same f h same n = let one : f ≡ h = λ k i. same i k in ap (λ (f : ℕ → StateSet). union f n) one

module _ (g : GameData) where
  pub meet_grows : (f h : ℕ → StateSet) → ((i : ℕ) → IsPartOf (f i) (h i)) → (n : ℕ) → IsPartOf (meet g f n) (meet g h n)
  meet_grows f h part zero = λ s e. e
  meet_grows f h part (suc n) = both_grows (meet g f n) (f n) (meet g h n) (h n) (meet_grows f h part n) (part n)

  pub meet_inside : (f : ℕ → StateSet) (n : ℕ) → IsPartOf (meet g f n) (all_states g)
  meet_inside f zero s e = e
  meet_inside f (suc n) s e = meet_inside f n s (and_parts (meet g f n s) (f n s) e).0

  less_or_last : (j n : ℕ) → j < suc n → (j < n) ⊎ (j ≡ n)
  less_or_last j n below = grind (arith, below)

  pub meet-each : (f : ℕ → StateSet) (n j : ℕ) → j < n → IsPartOf (meet g f n) (f j)
  meet-each f zero j below s e = absurd (omega arith)
  meet-each f (suc n) j below s e = at (less_or_last j n below) (and_parts (meet g f n s) (f n s) e) (λ earlier. meet-each f n j earlier s)
    where
      at : (j < n) ⊎ (j ≡ n) → (meet g f n s ≡ true) × (f n s ≡ true) → (j < n → meet g f n s ≡ true → f j s ≡ true) → f j s ≡ true
      at (inl earlier) parts rest = rest earlier parts.0
      at (inr last) parts rest = subst (λ m. f m s ≡ true) (sym last) parts.1

  -- a state that each set has is in what they have in common
  pub meet-from : (f : ℕ → StateSet) (n : ℕ) (s : State) → IsTrue (all_states g s) → ((j : ℕ) → j < n → IsTrue (f j s)) → IsTrue (meet g f n s)
  meet-from f zero s inside each = inside
  meet-from f (suc n) s inside each = and_from _ _ (meet-from f n s inside (λ j below. each j (omega arith))) (each n (omega arith))

  pub part_value-grows : (z y below above : StateSet) (j i : ℕ) (t u : StateSet) → IsPartOf z y → IsPartOf below above → IsPartOf t u → IsPartOf (part_value g z below j i t) (part_value g y above j i u)
  part_value-grows z y below above j i t u of_z of_below of_t =
      either_grows _ _ _ _ (both_grows (goal_set g j) (pre_sys g z) (goal_set g j) (pre_sys g y) (λ s e. e) (pre_sys_grows g z y of_z))
      (either_grows _ _ _ _ (pre_sys_grows g below above of_below)
      (both_grows (rest g (assumption_set g i)) (pre_sys g t) (rest g (assumption_set g i)) (pre_sys g u) (λ s e. e) (pre_sys_grows g t u of_t)))

  pub part_value-inside : (z below : StateSet) (j i : ℕ) (t : StateSet) → IsPartOf (part_value g z below j i t) (all_states g)
  part_value-inside z below j i t =
      either_inside (both (goal_set g j) (pre_sys g z)) (either (pre_sys g below) (both (rest g (assumption_set g i)) (pre_sys g t))) (all_states g)
      (λ s e. pre_sys-inside g z s (and_parts (goal_set g j s) (pre_sys g z s) e).1)
      (either_inside (pre_sys g below) (both (rest g (assumption_set g i)) (pre_sys g t)) (all_states g) (pre_sys-inside g below)
      (λ s e. pre_sys-inside g t s (and_parts (rest g (assumption_set g i) s) (pre_sys g t s) e).1))

  same_part : (t : StateSet) → IsPartOf t t
  same_part t s e = e

  pub part_of-greatest : (z below : StateSet) (j i : ℕ) → IsGreatest (part_value g z below j i) (part_of g z below j i)
  part_of-greatest z below j i = greatest_of-greatest g (part_value g z below j i) (λ t u part. part_value-grows z z below below j i t u (same_part z) (same_part below) part) (part_value-inside z below j i)

  part_of-grows : (z y below above : StateSet) (j i : ℕ) → IsPartOf z y → IsPartOf below above → IsPartOf (part_of g z below j i) (part_of g y above j i)
  part_of-grows z y below above j i of_z of_below =
      (part_of-greatest y above j i).above (part_of g z below j i) (λ s e.
      part_value-grows z y below above j i (part_of g z below j i) (part_of g z below j i) of_z of_below (same_part (part_of g z below j i)) s
      (subst (λ (t : StateSet). IsTrue (t s)) (part_of-greatest z below j i).solves e))

  part_of-inside : (z below : StateSet) (j i : ℕ) → IsPartOf (part_of g z below j i) (all_states g)
  part_of-inside z below j i s e = part_value-inside z below j i (part_of g z below j i) s (subst (λ (t : StateSet). IsTrue (t s)) (part_of-greatest z below j i).solves e)

  -- ---- the layers of one goal

  -- the next layer, by the one below
  abbrev pub next_layer : StateSet → ℕ → StateSet → StateSet
  next_layer z j below = union (part_of g z below j) (length (assumption_sets g))

  pub next_layer-grows : (z : StateSet) (j : ℕ) (t u : StateSet) → IsPartOf t u → IsPartOf (next_layer z j t) (next_layer z j u)
  next_layer-grows z j t u part = union_grows (part_of g z t j) (part_of g z u j) (λ i. part_of-grows z z t u j i (same_part z) part) (length (assumption_sets g))

  pub next_layer-inside : (z : StateSet) (j : ℕ) (t : StateSet) → IsPartOf (next_layer z j t) (all_states g)
  next_layer-inside z j t = union_inside (part_of g z t j) (all_states g) (part_of-inside z t j) (length (assumption_sets g))

  layer_of-grows : (z y : StateSet) (j r : ℕ) → IsPartOf z y → IsPartOf (layer_of g z j r) (layer_of g y j r)
  layer_of-grows z y j zero part = λ s e. e
  layer_of-grows z y j (suc r) part =
      union_grows (part_of g z (layer_of g z j r) j) (part_of g y (layer_of g y j r) j)
      (λ i. part_of-grows z y (layer_of g z j r) (layer_of g y j r) j i part (layer_of-grows z y j r part)) (length (assumption_sets g))

  -- where a layer equals the next it is the last
  pub layer_of-last : (z : StateSet) (j r : ℕ) → layer_of g z j r ≡ layer_of g z j (suc r) → layer_of g z j r ≡ layer_of g z j (length (states_of g))
  layer_of-last z j r = up-last g (next_layer z j) (next_layer-grows z j) (next_layer-inside z j) (layer_of g z j) refl (λ n. refl) r

  -- where it differs from the next, fewer states are left outside of the next
  pub layer_of-more : (z : StateSet) (j r : ℕ) → (layer_of g z j r ≡ layer_of g z j (suc r) → ⊥) →
      length (states_of g) - count_in (layer_of g z j (suc r)) (states_of g) < length (states_of g) - count_in (layer_of g z j r) (states_of g)
  layer_of-more z j r differs =
      let more = rising-more g (next_layer z j) (next_layer-grows z j) (next_layer-inside z j) (layer_of g z j r)
      (up-rises g (next_layer z j) (next_layer-grows z j) (next_layer-inside z j) (layer_of g z j) refl (λ n. refl) r) differs in
      let bound = count_at_most (layer_of g z j (suc r)) (states_of g) in
      omega (arith, more, bound)

  layer_of-in_last : (z : StateSet) (j r : ℕ) → IsPartOf (layer_of g z j r) (layer_of g z j (length (states_of g)))
  layer_of-in_last z j r = up-in_last g (next_layer z j) (next_layer-grows z j) (next_layer-inside z j) (layer_of g z j) refl (λ n. refl) r

  -- ---- all layers

  pub are_layers : (z : StateSet) → AreLayers g z (layers_for g z)
  are_layers z =
      record {
        none_first = λ j. refl;
        greatest = λ j r i. part_of-greatest z (layer_of g z j r) j i;
        joined = λ j r. refl;
      }

  -- there is one layer of each rank
  pub layers_one : (z : StateSet) (l : LayerSets) → AreLayers g z l → (j r : ℕ) → l.y j r ≡ layer_of g z j r
  layers_one z l are j zero = are.none_first j
  layers_one z l are j (suc r) = are.joined j r ∙ union_same (l.x j (suc r)) (part_of g z (layer_of g z j r) j) (same (layers_one z l are j r)) (length (assumption_sets g))
    where
      same : l.y j r ≡ layer_of g z j r → (i : ℕ) → l.x j (suc r) i ≡ part_of g z (layer_of g z j r) j i
      same below_is i =
          greatest-one (part_value g z (layer_of g z j r) j i) (l.x j (suc r) i) (part_of g z (layer_of g z j r) j i)
          (subst (λ below. IsGreatest (part_value g z below j i) (l.x j (suc r) i)) below_is (are.greatest j r i))
          (part_of-greatest z (layer_of g z j r) j i)

  -- ---- Z

  pub following-grows : (t u : StateSet) → IsPartOf t u → IsPartOf (following g t) (following g u)
  following-grows t u part =
      meet_grows (λ j. layer_of g t j (length (states_of g))) (λ j. layer_of g u j (length (states_of g)))
      (λ j. layer_of-grows t u j (length (states_of g)) part) (length (goal_sets g))

  pub following-inside : (t : StateSet) → IsPartOf (following g t) (all_states g)
  following-inside t = meet_inside (λ j. layer_of g t j (length (states_of g))) (length (goal_sets g))

  -- a state that is in some layer of each goal is one of the set that follows
  ranks_follow : (z : StateSet) (l : LayerSets) → AreLayers g z l → (s : State) → IsTrue (all_states g s) → HasRanks g l s → IsTrue (following g z s)
  ranks_follow z l are s inside has =
      meet-from (λ j. layer_of g z j (length (states_of g))) (length (goal_sets g)) s inside (λ j below.
      let here = has j below in
      layer_of-in_last z j here.0 s (subst (λ (t : StateSet). IsTrue (t s)) (layers_one z l are j here.0) here.1))

  -- and the reverse
  follow_ranks : (z : StateSet) (s : State) → IsTrue (following g z s) → HasRanks g (layers_for g z) s
  follow_ranks z s e j below = (length (states_of g), meet-each (λ j. layer_of g z j (length (states_of g))) (length (goal_sets g)) j below s e)

  layer_of-inside : (z : StateSet) (j r : ℕ) → IsPartOf (layer_of g z j r) (all_states g)
  layer_of-inside z j zero = λ s e. absurd (false≢true e)
  layer_of-inside z j (suc r) = next_layer-inside z j (layer_of g z j r)

  pub some_goal : (sets : List StateSet) → 0 < length (or_all_states g sets)
  some_goal [] = omega arith
  some_goal (a ∷ more) = omega arith

  -- there is a goal, so a state that is in some layer of each is a state of the game
  ranked_inside : (t : StateSet) (l : LayerSets) → AreLayers g t l → (s : State) → HasRanks g l s → IsTrue (all_states g s)
  ranked_inside t l are s has =
      let here = has 0 (some_goal (map (λ goal. holding g goal.holds) g.goals)) in
      layer_of-inside t 0 here.0 s (subst (λ (t : StateSet). IsTrue (t s)) (layers_one t l are 0 here.0) here.1)

  -- the greatest set that equals the one that follows it is Z
  pub is_winning : (z : StateSet) → IsGreatest (following g) z → IsWinning g z (layers_for g z)
  is_winning z greatest =
      record {
        layers = are_layers z;
        solves = λ s. (
          λ here. follow_ranks z s (subst (λ (t : StateSet). IsTrue (t s)) greatest.solves here),
          λ has. subst (λ (t : StateSet). IsTrue (t s)) (sym greatest.solves) (ranks_follow z (layers_for g z) (are_layers z) s (ranked_inside z (layers_for g z) (are_layers z) s has) has),
        );
        above = λ t l are has. greatest.above t (λ s here. ranks_follow t l are s (ranked_inside t l are s (has s here)) (has s here));
      }
