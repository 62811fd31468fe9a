-- From each position of an answered play an input is given, and what is remembered after the reply tells of the new state.
use Rattle.std.proofs.Common.{◌≡◌, ℕ, zero, suc, ◌+◌, ◌<◌, ◌≤◌, ◌==◌, inl, inr, Bool, true, false, not, ◌||◌, if◌then◌else◌, length, Some, refl, sym, ◌∙◌, ap, subst, arith, IsTrue}
use Rattle.std.proofs.lemmas.Bool.{and_parts, or_cases, false≢true}
use borrow.Author.Tests.{eqb-true, eqb-false}
use Rattle.spec_model.specs.Values.{Assignment}
use Rattle.spec_model.specs.Moves.{is_env, domains_of}
use Rattle.spec_model.specs.Games.{GameData, State, inputs_of, outputs_of}
use Rattle.spec_model.specs.Steps.{Before, is_input, is_output, legal_input, legal_output, reached}
use Rattle.spec_model.specs.Sets.{StateSet, rest, pre_env, environment_forces, input_into, IsPartOf}
use Rattle.spec_model.proofs.AllStates.{at_assignment}
use Rattle.spec_model.proofs.Listed.{inputs_fit}
use Rattle.spec_model.proofs.SetLaws.{pre_env_grows}
use Rattle.gr1_law.specs.Layers.{IsLeastNumber, goal_sets, goal_set, assumption_sets, assumption_set}
use Rattle.gr1_law.specs.EnvLayers.{delay, IsHold, EnvLayerSets, AreEnvLayers}
use Rattle.gr1_law.specs.Counter.{CounterMemory, next_assumption, targets, IsGiven, IsNoted}
use Rattle.gr1_law.proofs.Chains.{state_count}
use Rattle.gr1_law.proofs.Searching.{all-every, least_of, some-found, find-passes, find-every}
use Rattle.gr1_law.proofs.Standing.{some_goal}
use Rattle.gr1_law.proofs.Delays.{InDelay, in_delay, delay_in_last}
use Rattle.gr1_law.proofs.EnvLayering.{in_a_hold}
use Rattle.gr1_law.proofs.SidesDual.{of_rest}

pub next_assumption_in : (g : GameData) (i : ℕ) → i < length (assumption_sets g) → next_assumption g i < length (assumption_sets g)
next_assumption_in g i below = at (suc i == length (assumption_sets g)) refl
  where
    at : (b : Bool) → (suc i == length (assumption_sets g)) ≡ b → (if b then 0 else suc i) < length (assumption_sets g)
    at true e = let end = eqb-true (suc i) (length (assumption_sets g)) e in omega arith
    at false e = let inner = eqb-false (suc i) (length (assumption_sets g)) e in grind (arith, inner, below)

-- ---- before a move, and at a position

-- Where the next state can be forced: into a layer, or after a denial into an iterate of its hold.
pub data CounterReady (g : GameData) (e : EnvLayerSets) (n : ℕ) (b : Before) (k : CounterMemory) : Type 0 where
  into_layer : k.denying ≡ false → (a : ℕ) → environment_forces g (e.z a) b ≡ true → a ≤ n → CounterReady g e n b k
  into_hold : k.denying ≡ true → (low : ℕ) → k.layer ≡ suc low → k.layer ≤ n → k.goal < length (goal_sets g) → k.index < length (assumption_sets g) →
      (r : ℕ) → environment_forces g (e.x k.layer k.goal k.index r) b ≡ true → CounterReady g e n b k

-- what is remembered tells of the state: it has a rank in the goal's hold for the assumption aimed at when it came
pub record CounterStands (g : GameData) (e : EnvLayerSets) (n : ℕ) (s : State) (k : CounterMemory) : Type 0 where
  pub low : ℕ
  pub layer : k.layer ≡ suc low
  pub few : k.layer ≤ n
  pub goal_in : k.goal < length (goal_sets g)
  pub before_in : k.before < length (assumption_sets g)
  pub rank : ℕ
  pub ranked : IsLeastNumber (λ r. IsTrue (e.x k.layer k.goal k.before r s)) rank
  pub denying : k.denying ≡ not (goal_set g k.goal s)
  pub index : k.index ≡ (if assumption_set g k.before s then next_assumption g k.before else k.before)

-- where the next state can be forced from a position: where the goal holds into the layer below; else, where the assumption
-- aimed at fails, into a lower iterate for it, or into some iterate for the next
pub data CounterStep (g : GameData) (e : EnvLayerSets) (s : State) (k : CounterMemory) (low rank : ℕ) : Type 0 where
  shift : k.denying ≡ false → environment_forces g (e.z low) (Some s) ≡ true → CounterStep g e s k low rank
  missed : k.denying ≡ true → k.index ≡ k.before → (r : ℕ) → suc r ≡ rank → environment_forces g (e.x k.layer k.goal k.index r) (Some s) ≡ true → CounterStep g e s k low rank
  met : k.denying ≡ true → assumption_set g k.before s ≡ true → k.index ≡ next_assumption g k.before → (r : ℕ) → environment_forces g (e.x k.layer k.goal k.index r) (Some s) ≡ true → CounterStep g e s k low rank

module _ (g : GameData) (e : EnvLayerSets) (of : AreEnvLayers g e) where
  -- the sets of a layer above the first
  pub delays_at : (layer low : ℕ) → layer ≡ suc low → (j i r : ℕ) → e.x layer j i r ≡ delay g (e.z low) (e.y layer j) j i r
  delays_at layer low is j i r = subst (λ (a : ℕ). e.x a j i r ≡ delay g (e.z low) (e.y a j) j i r) (sym is) (of.delays low j i r)

  pub held_at : (layer low : ℕ) → layer ≡ suc low → (j : ℕ) → IsHold g (e.z low) j (e.y layer j)
  held_at layer low is j = subst (λ (a : ℕ). IsHold g (e.z low) j (e.y a j)) (sym is) (of.held low j)

  -- an iterate that has a state isn't the first, and a layer that has one isn't that numbered 0
  pub iterate_some : (layer low : ℕ) → layer ≡ suc low → (j i r : ℕ) (s : State) → IsTrue (e.x layer j i r s) → (r0 : ℕ) × (suc r0 ≡ r) × InDelay g (e.z low) (e.y layer j) j i (delay g (e.z low) (e.y layer j) j i r0) s
  iterate_some layer low is j i r s here = at r (subst (λ (t : StateSet). IsTrue (t s)) (delays_at layer low is j i r) here)
    where
      at : (q : ℕ) → IsTrue (delay g (e.z low) (e.y layer j) j i q s) → (r0 : ℕ) × (suc r0 ≡ q) × InDelay g (e.z low) (e.y layer j) j i (delay g (e.z low) (e.y layer j) j i r0) s
      at zero inside = absurd (false≢true inside)
      at (suc q) inside = (q, refl, in_delay g (e.z low) (e.y layer j) j i (delay g (e.z low) (e.y layer j) j i q) s inside)

  layer_some : (a : ℕ) (s : State) → IsTrue (e.z a s) → (low : ℕ) × (a ≡ suc low)
  layer_some zero s here = absurd (false≢true (subst (λ (t : StateSet). IsTrue (t s)) of.none_first here))
  layer_some (suc a) s here = (a, refl)

  -- the hold is part of the last iterate for each assumption
  hold_in_iterate : (layer low : ℕ) → layer ≡ suc low → (j i : ℕ) → i < length (assumption_sets g) → IsPartOf (e.y layer j) (e.x layer j i (state_count g))
  hold_in_iterate layer low is j i below s here =
      let rank = ((held_at layer low is j).solves s).0 here i below in
      subst (λ (t : StateSet). IsTrue (t s)) (sym (delays_at layer low is j i (state_count g))) (delay_in_last g (e.z low) (e.y layer j) j i rank.0 s rank.1)

  module _ (n : ℕ) where
    -- ---- from a position

    module _ (s : State) (k : CounterMemory) (stands : CounterStands g e n s k) where
      why : (r0 : ℕ) × (suc r0 ≡ stands.rank) × InDelay g (e.z stands.low) (e.y k.layer k.goal) k.goal k.before (delay g (e.z stands.low) (e.y k.layer k.goal) k.goal k.before r0) s
      why = iterate_some k.layer stands.low stands.layer k.goal k.before stands.rank s stands.ranked.here

      forced : (t : StateSet) → IsTrue (pre_env g t s) → environment_forces g t (Some s) ≡ true
      forced t inside = (and_parts _ _ inside).1

      pub counter_step : CounterStep g e s k stands.low stands.rank
      counter_step = by_goal (goal_set g k.goal s) refl
        where
          by_met : (d : Bool) → k.denying ≡ true → assumption_set g k.before s ≡ d → k.index ≡ (if d then next_assumption g k.before else k.before) → CounterStep g e s k stands.low stands.rank
          by_met true denying holds aims =
              let index_in = subst (λ (i : ℕ). i < length (assumption_sets g)) (sym aims) (next_assumption_in g k.before stands.before_in) in
              CounterStep.met denying holds aims (state_count g)
              (forced (e.x k.layer k.goal k.index (state_count g)) (pre_env_grows g (e.y k.layer k.goal) (e.x k.layer k.goal k.index (state_count g)) (hold_in_iterate k.layer stands.low stands.layer k.goal k.index index_in) s why.2.stays))
          by_met false denying fails aims =
              CounterStep.missed denying aims why.0 why.1
              (subst (λ (i : ℕ). environment_forces g (e.x k.layer k.goal i why.0) (Some s) ≡ true) (sym aims)
              (subst (λ (t : StateSet). environment_forces g t (Some s) ≡ true) (sym (delays_at k.layer stands.low stands.layer k.goal k.before why.0))
              (elim (or_cases (assumption_set g k.before s) (pre_env g (delay g (e.z stands.low) (e.y k.layer k.goal) k.goal k.before why.0) s) why.2.met) [
                | inl holds ↦ absurd (false≢true (sym fails ∙ holds))
                | inr on ↦ forced (delay g (e.z stands.low) (e.y k.layer k.goal) k.goal k.before why.0) on
              ])))

          by_goal : (d : Bool) → goal_set g k.goal s ≡ d → CounterStep g e s k stands.low stands.rank
          by_goal true holds =
              CounterStep.shift (stands.denying ∙ ap not holds)
              (elim (or_cases (rest g (goal_set g k.goal) s) (pre_env g (e.z stands.low) s) why.2.denied) [
                | inl fails ↦ absurd (of_rest g (goal_set g k.goal) s fails holds)
                | inr down ↦ forced (e.z stands.low) down
              ])
          by_goal false fails = by_met (assumption_set g k.before s) (stands.denying ∙ ap not fails) refl stands.index

      pub ready_after : CounterReady g e n (Some s) k
      ready_after = by_step counter_step
        where
          by_step : CounterStep g e s k stands.low stands.rank → CounterReady g e n (Some s) k
          by_step (CounterStep.shift denying down) = CounterReady.into_layer denying stands.low down (omega (arith, stands.few, stands.layer))
          by_step (CounterStep.missed denying aims r same on) = CounterReady.into_hold denying stands.low stands.layer stands.few stands.goal_in (subst (λ (i : ℕ). i < length (assumption_sets g)) (sym aims) stands.before_in) r on
          by_step (CounterStep.met denying holds aims r on) =
              CounterReady.into_hold denying stands.low stands.layer stands.few stands.goal_in (subst (λ (i : ℕ). i < length (assumption_sets g)) (sym aims) (next_assumption_in g k.before stands.before_in)) r on

    -- ---- the next input

    module _ (b : Before) (k : CounterMemory) (ready : CounterReady g e n b k) where
      pub some_target : (a : ℕ) × (environment_forces g (targets e k a) b ≡ true)
      some_target = by_ready ready
        where
          by_ready : CounterReady g e n b k → (a : ℕ) × (environment_forces g (targets e k a) b ≡ true)
          by_ready (CounterReady.into_layer denying a forced few) =
              (a, subst (λ (d : Bool). environment_forces g ((if d then e.x k.layer k.goal k.index else e.z) a) b ≡ true) (sym denying) forced)
          by_ready (CounterReady.into_hold denying low layer few goal_in index_in r forced) =
              (r, subst (λ (d : Bool). environment_forces g ((if d then e.x k.layer k.goal k.index else e.z) r) b ≡ true) (sym denying) forced)

      pub input_exists : (r : ℕ) × (x : Assignment) × IsGiven g e b k r x
      input_exists =
          let least = least_of (λ r. environment_forces g (targets e k r) b) some_target.0 some_target.1 in
          let found = some-found (input_into g (targets e k least.0) b) (inputs_of g) least.1.here in
          (least.0, found.0, record { number = least.1; input = found.1 })

    module _ (b : Before) (k : CounterMemory) (r : ℕ) (x : Assignment) (given : IsGiven g e b k r x) where
      passes : input_into g (targets e k r) b x ≡ true
      passes = find-passes (input_into g (targets e k r) b) (inputs_of g) x given.input

      pub given_input : is_input g x ≡ true
      given_input = find-every (λ x. is_input g x ≡ true) (input_into g (targets e k r) b) (inputs_of g) x (inputs_fit g) given.input

      pub given_legal : legal_input g b x ≡ true
      given_legal = (and_parts _ _ passes).0

      -- each legal reply leads where the input is to lead
      pub given_leads : (y : Assignment) → is_output g y ≡ true → legal_output g b x y ≡ true → IsTrue (targets e k r (reached g b x y))
      given_leads y output legal =
          implied (legal_output g b x y) (targets e k r (reached g b x y)) legal
          (at_assignment (domains_of (λ o. not (is_env o)) g.variables) (λ y. (not (legal_output g b x y) || targets e k r (reached g b x y)) ≡ true)
          (all-every (λ y. not (legal_output g b x y) || targets e k r (reached g b x y)) (outputs_of g) (and_parts _ _ passes).1) y output)
        where
          implied : (a c : Bool) → a ≡ true → (not a || c) ≡ true → c ≡ true
          implied true c here all = all
          implied false c here all = absurd (false≢true here)

    -- ---- after the reply

    module _ (b : Before) (k : CounterMemory) (r : ℕ) (x : Assignment) (given : IsGiven g e b k r x) (s : State) (led : IsTrue (targets e k r s)) where
      in_layer : k.denying ≡ false → IsTrue (e.z r s)
      in_layer denying = subst (λ (d : Bool). IsTrue ((if d then e.x k.layer k.goal k.index else e.z) r s)) denying led

      pub in_iterate : k.denying ≡ true → IsTrue (e.x k.layer k.goal k.index r s)
      in_iterate denying = subst (λ (d : Bool). IsTrue ((if d then e.x k.layer k.goal k.index else e.z) r s)) denying led

      -- what is remembered is determined by the layer, the goal and the assumption
      noted_with : (layer goal before : ℕ) → CounterMemory
      noted_with layer goal before =
          record {
            denying = not (goal_set g goal s);
            layer = layer;
            goal = goal;
            before = before;
            index = if assumption_set g before s then next_assumption g before else before;
          }

      noted_again : k.denying ≡ true → IsNoted g e k s (noted_with k.layer k.goal k.index)
      unfolding noted_with
      noted_again denying = record { stays = λ e'. (refl, refl, refl); anew = λ e'. absurd (false≢true (sym e' ∙ denying)); denying = refl; index = refl }

      noted_anew : k.denying ≡ false → (layer goal : ℕ) → IsLeastNumber (λ a. IsTrue (e.z a s)) layer → IsLeastNumber (λ j. IsTrue (e.y layer j s)) goal → IsNoted g e k s (noted_with layer goal 0)
      unfolding noted_with
      noted_anew denying layer goal first above = record { stays = λ e'. absurd (false≢true (sym denying ∙ e')); anew = λ e'. (first, above, refl); denying = refl; index = refl }

      -- a state of a layer above the first is in some hold, and in that of a first goal
      first_goal : (layer : ℕ) → IsTrue (e.z layer s) → (goal : ℕ) × IsLeastNumber (λ j. IsTrue (e.y layer j s)) goal
      first_goal layer here =
          let low = layer_some layer s here in
          let hold = in_a_hold g e of low.0 s (subst (λ (a : ℕ). IsTrue (e.z a s)) low.1 here) in
          least_of (λ j. e.y layer j s) hold.0 (subst (λ (a : ℕ). IsTrue (e.y a hold.0 s)) (sym low.1) hold.2)

      pub note_exists : (k' : CounterMemory) × IsNoted g e k s k'
      note_exists = by_denying k.denying refl
        where
          by_denying : (d : Bool) → k.denying ≡ d → (k' : CounterMemory) × IsNoted g e k s k'
          by_denying true denying = (noted_with k.layer k.goal k.index, noted_again denying)
          by_denying false denying =
              let layer = least_of (λ a. e.z a s) r (in_layer denying) in
              let goal = first_goal layer.0 layer.1.here in
              (noted_with layer.0 goal.0 0, noted_anew denying layer.0 goal.0 layer.1 goal.1)

      module _ (ready : CounterReady g e n b k) (k' : CounterMemory) (noted : IsNoted g e k s k') where
        pub stands_next : CounterStands g e n s k'
        stands_next = by_ready ready
          where
            by_ready : CounterReady g e n b k → CounterStands g e n s k'
            by_ready (CounterReady.into_layer denying a forced few) =
                let anew = noted.anew denying in
                let low = layer_some k'.layer s anew.0.here in
                let hold = in_a_hold g e of low.0 s (subst (λ (a : ℕ). IsTrue (e.z a s)) low.1 anew.0.here) in
                let no_later : hold.0 < k'.goal → ⊥ = λ less. anew.1.none_before hold.0 less (subst (λ (a : ℕ). IsTrue (e.y a hold.0 s)) (sym low.1) hold.2) in
                let number_low : a < r → ⊥ = λ less. given.number.none_before a less (subst (λ (d : Bool). environment_forces g ((if d then e.x k.layer k.goal k.index else e.z) a) b ≡ true) (sym denying) forced) in
                let layer_low : r < k'.layer → ⊥ = λ less. anew.0.none_before r less (in_layer denying) in
                let delayed = ((held_at k'.layer low.0 low.1 k'.goal).solves s).0 anew.1.here k'.before (subst (λ (i : ℕ). i < length (assumption_sets g)) (sym anew.2) (some_goal g _)) in
                let rank = least_of (λ r. e.x k'.layer k'.goal k'.before r s) delayed.0 (subst (λ (t : StateSet). IsTrue (t s)) (sym (delays_at k'.layer low.0 low.1 k'.goal k'.before delayed.0)) delayed.1) in
                record {
                  low = low.0;
                  layer = low.1;
                  few = grind (arith, number_low, layer_low, few);
                  goal_in = grind (arith, no_later, hold.1);
                  before_in = subst (λ (i : ℕ). i < length (assumption_sets g)) (sym anew.2) (some_goal g _);
                  rank = rank.0;
                  ranked = rank.1;
                  denying = noted.denying;
                  index = noted.index;
                }
            by_ready (CounterReady.into_hold denying low layer few goal_in index_in q forced) =
                let same = noted.stays denying in
                let here : IsTrue (e.x k'.layer k'.goal k'.before r s) =
                subst (λ (a : ℕ). IsTrue (e.x a k'.goal k'.before r s)) (sym same.0)
                (subst (λ (j : ℕ). IsTrue (e.x k.layer j k'.before r s)) (sym same.1)
                (subst (λ (i : ℕ). IsTrue (e.x k.layer k.goal i r s)) (sym same.2) (in_iterate denying))) in
                let rank = least_of (λ r. e.x k'.layer k'.goal k'.before r s) r here in
                record {
                  low = low;
                  layer = same.0 ∙ layer;
                  few = omega (arith, few, same.0);
                  goal_in = omega (arith, goal_in, same.1);
                  before_in = omega (arith, index_in, same.2);
                  rank = rank.0;
                  ranked = rank.1;
                  denying = noted.denying;
                  index = noted.index;
                }
