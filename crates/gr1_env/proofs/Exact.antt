-- The layers of the solver are those of the definitions.
use Rattle.std.proofs.Common.{◌≡◌, ℕ, zero, suc, ◌<◌, ◌&&◌, ◌||◌, Bool, true, false, List, length, IsTrue, ap, sym, ◌∙◌, refl, subst, arith}
use Rattle.std.proofs.lemmas.List.{get_or-map}
use Rattle.spec_model.specs.Games.{GameData, State}
use Rattle.spec_model.specs.Steps.{states_of}
use Rattle.spec_model.specs.Sets.{StateSet, no_states, either, rest, pre_env}
use Rattle.gr1_law.specs.Layers.{goal_sets, goal_set, assumption_set, union}
use Rattle.gr1_law.specs.EnvLayers.{delay, HasDelays, IsHold, AreEnvLayers}
use Rattle.gr1_law.proofs.Holds.{delayed_inside}
use Rattle.gr1_sys.proofs.Lists.{length_map}
use Rattle.gr1_sys.proofs.Winning.{meet-each, meet-from}
use Rattle.gr1_env.specs.declared.givens.EnvSets.TheVariants.{Misses, Assumptions}
use Rattle.gr1_env.specs.Givens.{wanted}
use Rattle.gr1_env.specs.Told.{base_for, layer_number, hold_number, layers_for}
use Rattle.gr1_env.specs.Solution.{at, rising, delay_on, last_delay_on, cover_of, hold_value_on, hold_on, hold_over}
use Rattle.gr1_env.proofs.Rising.{delay_on-in_last}
use Rattle.gr1_env.proofs.Holding.{cover_of-inside, hold_on-greatest}
use Rattle.gr1_env.proofs.Joining.{union-same}

turned : (p a h b : Bool) → ((p || a) && (h && b)) ≡ (b && (h && (a || p)))
turned true true true true = refl
turned true true true false = refl
turned true true false true = refl
turned true true false false = refl
turned true false true true = refl
turned true false true false = refl
turned true false false true = refl
turned true false false false = refl
turned false true true true = refl
turned false true true false = refl
turned false true false true = refl
turned false true false false = refl
turned false false true true = refl
turned false false true false = refl
turned false false false true = refl
turned false false false false = refl

module _ (g : GameData) where
  -- the sets that the solver makes first
  abbrev misses : List StateSet
  misses = wanted g Misses

  abbrev asms : List StateSet
  asms = wanted g Assumptions

  pub misses_counted : length (wanted g Misses) ≡ length (goal_sets g)
  misses_counted = length_map (rest g) (goal_sets g)

  pub miss_at : (j : ℕ) → j < length (goal_sets g) → at (wanted g Misses) j ≡ rest g (goal_set g j)
  miss_at j before = get_or-map (rest g) (goal_sets g) j no_states no_states before

  module _ (lower : StateSet) (j : ℕ) where
    pub delay_is : (y : StateSet) (i r : ℕ) → delay_on g (cover_of g (base_for g lower j) y) (assumption_set g i) r ≡ delay g lower y j i r
    delay_is y i zero = refl
    delay_is y i (suc r) =
        ap (rising g (cover_of g (base_for g lower j) y) (assumption_set g i)) (delay_is y i r) ∙
        (λ k s. turned (pre_env g (delay g lower y j i r) s) (assumption_set g i s) (pre_env g y s) (rest g (goal_set g j) s || pre_env g lower s) k)

    of_value : (y : StateSet) (s : State) → IsTrue (hold_value_on g (base_for g lower j) asms y s) → HasDelays g lower y j s
    unfolding last_delay_on
    of_value y s e i below =
        (length (states_of g), subst (λ (t : StateSet). IsTrue (t s)) (delay_is y i (length (states_of g))) (meet-each g (λ i. last_delay_on g (cover_of g (base_for g lower j) y) (at asms i)) (length asms) i below s e))

    to_value : (y : StateSet) (s : State) → HasDelays g lower y j s → IsTrue (hold_value_on g (base_for g lower j) asms y s)
    to_value y s has =
        meet-from g (λ i. last_delay_on g (cover_of g (base_for g lower j) y) (at asms i)) (length asms) s (delayed_inside g lower y j s has) (λ i below.
        let rank = has i below in
        delay_on-in_last g (cover_of g (base_for g lower j) y) (assumption_set g i) (cover_of-inside g (base_for g lower j) y) rank.0 s (subst (λ (t : StateSet). IsTrue (t s)) (sym (delay_is y i rank.0)) rank.1))

    pub is_hold : IsHold g lower j (hold_on g (base_for g lower j) asms)
    is_hold =
        let greatest = hold_on-greatest g (base_for g lower j) asms in
        record {
          solves = λ s. (
            (λ e. of_value (hold_on g (base_for g lower j) asms) s (subst (λ (t : StateSet). IsTrue (t s)) greatest.solves e)),
            λ has. subst (λ (t : StateSet). IsTrue (t s)) (sym greatest.solves) (to_value (hold_on g (base_for g lower j) asms) s has),
          );
          above = λ t delayed. greatest.above t (λ s e. to_value t s (delayed s e));
        }

  -- ---- the layers

  pub base_is : (a j : ℕ) → j < length (goal_sets g) → either (at (wanted g Misses) j) (pre_env g (layer_number g a)) ≡ base_for g (layer_number g a) j
  base_is a j before = ap (λ t. either t (pre_env g (layer_number g a))) (miss_at j before)

  pub layers_for-layers : AreEnvLayers g (layers_for g)
  layers_for-layers =
      record {
        none_first = refl;
        held = λ a j. is_hold (layer_number g a) j;
        delays = λ a j i r. refl;
        joined = λ a. union-same (hold_over g (layer_number g a) (wanted g Misses) (wanted g Assumptions)) (hold_number g a) (length (wanted g Misses)) (λ j before. ap (λ t. hold_on g t (wanted g Assumptions)) (base_is a j (omega (arith, before, misses_counted)))) ∙ ap (union (hold_number g a)) misses_counted;
      }
