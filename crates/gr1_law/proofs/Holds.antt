-- The hold of a goal above a layer: there is one, and it grows with the layer.
use Rattle.std.proofs.Common.{◌≡◌, ◌↔◌, ℕ, ◌<◌, length, sym, subst, IsTrue}
use Rattle.spec_model.specs.Games.{GameData, State}
use Rattle.spec_model.specs.Sets.{StateSet, all_states, IsPartOf, IsGreatest}
use Rattle.spec_model.specs.Counts.{IsLeast}
use Rattle.spec_model.proofs.Duality.{parts_agree}
use Rattle.gr1_law.specs.Layers.{assumption_sets}
use Rattle.gr1_law.specs.EnvLayers.{delay_value, delay, HasDelays, IsHold}
use Rattle.gr1_law.specs.EnvLaws.{HoldIsTold}
use Rattle.gr1_law.proofs.Chains.{state_count}
use Rattle.gr1_law.proofs.Greatest.{greatest_of, greatest_of-greatest}
use Rattle.gr1_law.proofs.Layering.{asm_count}
use Rattle.gr1_law.proofs.Solutions.{common, common-inside, of_common, in_common}
use Rattle.gr1_law.proofs.Standing.{some_goal}
use Rattle.gr1_law.proofs.Delays.{delay_grows, delay-inside, delay_below, last_delay, delay_in_last, last_delay-solves}

-- ---- states with delays

pub delays_grow : (g : GameData) (lower lower' hold hold' : StateSet) (j : ℕ) → IsPartOf lower lower' → IsPartOf hold hold' → (s : State) → HasDelays g lower hold j s → HasDelays g lower' hold' j s
delays_grow g lower lower' hold hold' j in_lower in_hold s has i below = let rank = has i below in (rank.0, delay_grows g lower lower' hold hold' j i in_lower in_hold rank.0 s rank.1)

-- such a state is a state, since there is an assumption
pub delayed_inside : (g : GameData) (lower hold : StateSet) (j : ℕ) (s : State) → HasDelays g lower hold j s → IsTrue (all_states g s)
delayed_inside g lower hold j s has = let rank = has 0 (some_goal g _) in delay-inside g lower hold j 0 rank.0 s rank.1

pub hold_inside : (g : GameData) (lower : StateSet) (j : ℕ) (hold : StateSet) → IsHold g lower j hold → IsPartOf hold (all_states g)
hold_inside g lower j hold held s e = delayed_inside g lower hold j s ((held.solves s).0 e)

-- ---- holds grow with the layer below

pub hold_grows : (g : GameData) (lower lower' : StateSet) (j : ℕ) (hold hold' : StateSet) → IsHold g lower j hold → IsHold g lower' j hold' → IsPartOf lower lower' → IsPartOf hold hold'
hold_grows g lower lower' j hold hold' held held' part = held'.above hold (λ s e. delays_grow g lower lower' hold hold j part (λ s e. e) s ((held.solves s).0 e))

pub hold_one : (g : GameData) (lower : StateSet) (j : ℕ) (hold hold' : StateSet) → IsHold g lower j hold → IsHold g lower j hold' → hold ≡ hold'
hold_one g lower j hold hold' held held' = parts_agree hold hold' (hold_grows g lower lower j hold hold' held held' (λ s e. e)) (hold_grows g lower lower j hold' hold held' held (λ s e. e))

-- ---- there is one

module _ (g : GameData) (lower : StateSet) (j : ℕ) where
  -- the value of a hold's equation: the states in the last iterate for each assumption
  pub hold_value : StateSet → StateSet
  hold_value y = common g (λ i. last_delay g lower y j i) (asm_count g)

  pub hold_value-inside : (y : StateSet) → IsPartOf (hold_value y) (all_states g)
  unfolding hold_value
  hold_value-inside y = common-inside g _ (asm_count g)

  pub of_hold_value : (y : StateSet) (s : State) → IsTrue (hold_value y s) → HasDelays g lower y j s
  unfolding hold_value
  of_hold_value y s e i below = (state_count g, of_common g (λ i. last_delay g lower y j i) (asm_count g) s e i below)

  pub to_hold_value : (y : StateSet) (s : State) → HasDelays g lower y j s → IsTrue (hold_value y s)
  unfolding hold_value
  to_hold_value y s has =
      in_common g (λ i. last_delay g lower y j i) (asm_count g) s (delayed_inside g lower y j s has) (λ i below. let rank = has i below in delay_in_last g lower y j i rank.0 s rank.1)

  pub hold_value-grows : (t u : StateSet) → IsPartOf t u → IsPartOf (hold_value t) (hold_value u)
  hold_value-grows t u part s e = to_hold_value u s (delays_grow g lower lower t u j (λ s e. e) part s (of_hold_value t s e))

  -- the greatest set that equals its own value is the hold, and the hold is that set
  pub hold_of_greatest : (y : StateSet) → IsGreatest hold_value y → IsHold g lower j y
  hold_of_greatest y greatest =
      record {
        solves = λ s. (
          (λ e. of_hold_value y s (subst (λ (t : StateSet). IsTrue (t s)) greatest.solves e)),
          λ has. subst (λ (t : StateSet). IsTrue (t s)) (sym greatest.solves) (to_hold_value y s has),
        );
        above = λ t delayed. greatest.above t (λ s e. to_hold_value t s (delayed s e));
      }

  pub greatest_of_hold : (y : StateSet) → IsHold g lower j y → IsGreatest hold_value y
  greatest_of_hold y held =
      record {
        solves = parts_agree _ _ (λ s e. to_hold_value y s ((held.solves s).0 e)) (λ s e. (held.solves s).1 (of_hold_value y s e));
        above = λ t part. held.above t (λ s e. of_hold_value t s (part s e));
      }

  pub hold_of : StateSet
  hold_of = greatest_of g hold_value

  pub hold_of-hold : IsHold g lower j hold_of
  unfolding hold_of
  hold_of-hold = hold_of_greatest (greatest_of g hold_value) (greatest_of-greatest g hold_value hold_value-grows hold_value-inside)

  -- ---- it is told by least sets

  module _ (hold : StateSet) (x : ℕ → StateSet) (held : IsHold g lower j hold) (least : (i : ℕ) → IsLeast (delay_value g lower hold j i) (x i)) where
    delay_in_least : (i r : ℕ) → IsPartOf (delay g lower hold j i r) (x i)
    delay_in_least i = delay_below g lower hold j i (x i) (λ s e. subst (λ (t : StateSet). IsTrue (t s)) (sym (least i).solves) e)

    least_in_last : (i : ℕ) → IsPartOf (x i) (last_delay g lower hold j i)
    least_in_last i = (least i).below (last_delay g lower hold j i) (λ s e. subst (λ (t : StateSet). IsTrue (t s)) (sym (last_delay-solves g lower hold j i)) e)

    pub hold-least : (s : State) → IsTrue (hold s) ↔ ((i : ℕ) → i < length (assumption_sets g) → IsTrue (x i s))
    hold-least s = (
      (λ e i below. let rank = (held.solves s).0 e i below in delay_in_least i rank.0 s rank.1),
      λ each. (held.solves s).1 (λ i below. (state_count g, least_in_last i s (each i below))),
    )

  pub hold_told : HoldIsTold g lower j
  hold_told = record { some = (hold_of, hold_of-hold); same = hold_one g lower j; least = hold-least }
