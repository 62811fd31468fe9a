-- The iterates of a hold's equation: they grow, settle, and are part of each set that has its own value.
use Rattle.std.proofs.Common.{◌≡◌, ℕ, zero, suc, true, ◌&&◌, ◌||◌, inl, inr, ap, IsTrue}
use Rattle.std.proofs.lemmas.Bool.{and_parts, and_from, or_cases, or_left, or_right, false≢true}
use Rattle.spec_model.specs.Games.{GameData, State}
use Rattle.spec_model.specs.Sets.{StateSet, all_states, rest, pre_env, IsPartOf}
use Rattle.spec_model.specs.Counts.{IsLeast}
use Rattle.spec_model.proofs.SetLaws.{pre_env_grows}
use Rattle.spec_model.proofs.Duality.{parts_agree}
use Rattle.gr1_law.specs.Layers.{goal_set, assumption_set}
use Rattle.gr1_law.specs.EnvLayers.{delay_value, delay}
use Rattle.gr1_law.proofs.Chains.{state_count, in_full}

-- ---- the equation

-- what holds of a state in the value: the goal is false or the next state is forced into the layer below, it is forced into
-- the hold, and the assumption is true or it is forced into the set
pub record InDelay (g : GameData) (lower hold : StateSet) (j i : ℕ) (t : StateSet) (s : State) : Type 0 where
  pub denied : (rest g (goal_set g j) s || pre_env g lower s) ≡ true
  pub stays : pre_env g hold s ≡ true
  pub met : (assumption_set g i s || pre_env g t s) ≡ true

pub in_delay : (g : GameData) (lower hold : StateSet) (j i : ℕ) (t : StateSet) (s : State) → IsTrue (delay_value g lower hold j i t s) → InDelay g lower hold j i t s
in_delay g lower hold j i t s e =
    let first = and_parts (rest g (goal_set g j) s || pre_env g lower s) (pre_env g hold s && (assumption_set g i s || pre_env g t s)) e in
    let second = and_parts (pre_env g hold s) (assumption_set g i s || pre_env g t s) first.1 in
    record { denied = first.0; stays = second.0; met = second.1 }

pub to_delay : (g : GameData) (lower hold : StateSet) (j i : ℕ) (t : StateSet) (s : State) → InDelay g lower hold j i t s → IsTrue (delay_value g lower hold j i t s)
to_delay g lower hold j i t s why = and_from _ _ why.denied (and_from _ _ why.stays why.met)

or_grows : (g : GameData) (a t u : StateSet) (s : State) → IsPartOf t u → (a s || pre_env g t s) ≡ true → (a s || pre_env g u s) ≡ true
or_grows g a t u s part e =
    elim (or_cases (a s) (pre_env g t s) e) [
      | inl here ↦ or_left (a s) (pre_env g u s) here
      | inr forced ↦ or_right (a s) (pre_env g u s) (pre_env_grows g t u part s forced)
    ]

pub delay_value_grows : (g : GameData) (lower lower' hold hold' : StateSet) (j i : ℕ) (t t' : StateSet) → IsPartOf lower lower' → IsPartOf hold hold' → IsPartOf t t' →
    IsPartOf (delay_value g lower hold j i t) (delay_value g lower' hold' j i t')
delay_value_grows g lower lower' hold hold' j i t t' in_lower in_hold in_t s e =
    let why = in_delay g lower hold j i t s e in
    to_delay g lower' hold' j i t' s (record {
      denied = or_grows g (rest g (goal_set g j)) lower lower' s in_lower why.denied;
      stays = pre_env_grows g hold hold' in_hold s why.stays;
      met = or_grows g (assumption_set g i) t t' s in_t why.met;
    })

pub delay_value-inside : (g : GameData) (lower hold : StateSet) (j i : ℕ) (t : StateSet) → IsPartOf (delay_value g lower hold j i t) (all_states g)
delay_value-inside g lower hold j i t s e = (and_parts _ _ (in_delay g lower hold j i t s e).stays).0

-- ---- the iterates

pub delay_grows : (g : GameData) (lower lower' hold hold' : StateSet) (j i : ℕ) → IsPartOf lower lower' → IsPartOf hold hold' → (r : ℕ) →
    IsPartOf (delay g lower hold j i r) (delay g lower' hold' j i r)
delay_grows g lower lower' hold hold' j i in_lower in_hold zero s e = absurd (false≢true e)
delay_grows g lower lower' hold hold' j i in_lower in_hold (suc r) s e =
    delay_value_grows g lower lower' hold hold' j i (delay g lower hold j i r) (delay g lower' hold' j i r) in_lower in_hold (delay_grows g lower lower' hold hold' j i in_lower in_hold r) s e

module _ (g : GameData) (lower hold : StateSet) (j i : ℕ) where
  pub delay-inside : (r : ℕ) → IsPartOf (delay g lower hold j i r) (all_states g)
  delay-inside zero s e = absurd (false≢true e)
  delay-inside (suc r) s e = delay_value-inside g lower hold j i (delay g lower hold j i r) s e

  pub delay_in_next : (r : ℕ) → IsPartOf (delay g lower hold j i r) (delay g lower hold j i (suc r))
  delay_in_next zero s e = absurd (false≢true e)
  delay_in_next (suc r) s e = delay_value_grows g lower lower hold hold j i (delay g lower hold j i r) (delay g lower hold j i (suc r)) (λ s e. e) (λ s e. e) (delay_in_next r) s e

  pub delay_stays : (r : ℕ) → delay g lower hold j i r ≡ delay g lower hold j i (suc r) → delay g lower hold j i (suc r) ≡ delay g lower hold j i (suc (suc r))
  delay_stays r same = ap (delay_value g lower hold j i) same

  -- each is part of every set that its value is part of
  pub delay_below : (t : StateSet) → IsPartOf (delay_value g lower hold j i t) t → (r : ℕ) → IsPartOf (delay g lower hold j i r) t
  delay_below t part zero s e = absurd (false≢true e)
  delay_below t part (suc r) s e = part s (delay_value_grows g lower lower hold hold j i (delay g lower hold j i r) t (λ s e. e) (λ s e. e) (delay_below t part r) s e)

  -- ---- the last iterate

  abbrev pub last_delay : StateSet
  last_delay = delay g lower hold j i (state_count g)

  pub delay_in_last : (r : ℕ) → IsPartOf (delay g lower hold j i r) last_delay
  delay_in_last = in_full g (delay g lower hold j i) delay_in_next delay-inside delay_stays

  pub last_delay-solves : last_delay ≡ delay_value g lower hold j i last_delay
  last_delay-solves = parts_agree _ _ (delay_in_next (state_count g)) (delay_in_last (suc (state_count g)))

  pub last_delay-least : IsLeast (delay_value g lower hold j i) last_delay
  last_delay-least = record { solves = last_delay-solves; below = λ t part. delay_below t part (state_count g) }
