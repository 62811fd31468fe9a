-- The equation of a layer's part, at the regions that stand for its sets.
use Rattle.std.proofs.Common.{◌≡◌, ℕ, ◌<◌, ◌&&◌, ◌||◌, Bool, true, false, [], ◌∷◌, refl, sym, ◌∙◌, ap, subst}
use Rattle.std.proofs.lemmas.Bool.{and_parts}
use Rattle.spec_model.specs.Games.{GameData}
use Rattle.spec_model.specs.Steps.{states_of}
use Rattle.spec_model.specs.Sets.{StateSet, all_states, no_states, both, either, rest, pre_sys, IsPartOf}
use Rattle.spec_model.specs.Counts.{count_in}
use Rattle.spec_model.proofs.SetLaws.{pre_sys_grows, pre_sys-inside}
use Rattle.spec_model.proofs.Fixpoints.{IsFalling, falling-first, falling-next, falling-last, falling-fewer, greatest-one}
use Rattle.regions.specs.Kept.{Kept, Region, States, HasRegion, MakesRegion, Replaces, IsExact, IsSameGame}
use Rattle.regions.proofs.Holding.{set_stays, replaced_is}
use Rattle.gr1_law.specs.Layers.{goal_set, assumption_set, part_value}
use Rattle.gr1_sys.specs.Solution.{greatest_of}
use Rattle.gr1_sys.specs.Held.{waiting}
use Rattle.gr1_sys.proofs.Greatest.{greatest_of-greatest}
use Rattle.gr1_sys.proofs.Winning.{both_grows, either_grows, either_inside}

module _ (g : GameData) (base lapse : StateSet) (proper : IsPartOf base (all_states g)) where
  waiting-grows : (t u : StateSet) → IsPartOf t u → IsPartOf (waiting g base lapse t) (waiting g base lapse u)
  waiting-grows t u part = either_grows _ _ _ _ (both_grows (pre_sys g t) lapse (pre_sys g u) lapse (pre_sys_grows g t u part) (λ s e. e)) (λ s e. e)

  waiting-inside : (t : StateSet) → IsPartOf (waiting g base lapse t) (all_states g)
  waiting-inside t = either_inside (both (pre_sys g t) lapse) base (all_states g) (λ s e. pre_sys-inside g t s (and_parts (pre_sys g t s) (lapse s) e).0) proper

  pub waiting-first : IsFalling g (waiting g base lapse) (all_states g)
  waiting-first = falling-first g (waiting g base lapse) waiting-grows waiting-inside

  pub waiting-next : (x : StateSet) → IsFalling g (waiting g base lapse) x → IsFalling g (waiting g base lapse) (waiting g base lapse x)
  waiting-next = falling-next g (waiting g base lapse) waiting-grows waiting-inside

  pub waiting-fewer : (x : StateSet) → IsFalling g (waiting g base lapse) x → (x ≡ waiting g base lapse x → ⊥) → count_in (waiting g base lapse x) (states_of g) < count_in x (states_of g)
  waiting-fewer = falling-fewer g (waiting g base lapse) waiting-grows waiting-inside

  pub waiting-last : (x : StateSet) → IsFalling g (waiting g base lapse) x → x ≡ waiting g base lapse x → x ≡ greatest_of g (waiting g base lapse)
  waiting-last x falling settled =
      greatest-one (waiting g base lapse) x (greatest_of g (waiting g base lapse)) (falling-last g (waiting g base lapse) waiting-grows waiting-inside x falling settled)
      (greatest_of-greatest g (waiting g base lapse) waiting-grows waiting-inside)

  -- where the assumption is never false
  pub waiting-never : lapse ≡ no_states → either base lapse ≡ greatest_of g (waiting g base lapse)
  waiting-never never =
      let same : (t : StateSet) → waiting g base lapse t ≡ base = λ t. ap (λ l. either (both (pre_sys g t) l) base) never ∙ (λ i s. off (pre_sys g t s) (base s) i) in
      let falling = subst (IsFalling g (waiting g base lapse)) (same (all_states g)) (waiting-next (all_states g) waiting-first) in
      ap (either base) never ∙ (λ i s. alone (base s) i) ∙ waiting-last base falling (sym (same base))
    where
      off : (p b : Bool) → ((p && false) || b) ≡ b
      off true b = refl
      off false b = refl

      alone : (b : Bool) → (b || false) ≡ b
      alone true = refl
      alone false = refl

-- it is the equation of the layers
pub waiting_is : (g : GameData) (z below : StateSet) (j i : ℕ) →
    waiting g (either (pre_sys g below) (both (goal_set g j) (pre_sys g z))) (rest g (assumption_set g i)) ≡ part_value g z below j i
waiting_is g z below j i = λ k t s. turned (pre_sys g t s) (rest g (assumption_set g i) s) (pre_sys g below s) (goal_set g j s && pre_sys g z s) k
  where
    turned : (p l b r : Bool) → ((p && l) || (b || r)) ≡ (r || (b || (l && p)))
    turned true true true true = refl
    turned true true true false = refl
    turned true true false true = refl
    turned true true false false = refl
    turned true false true true = refl
    turned true false true false = refl
    turned true false false true = refl
    turned true false false false = refl
    turned false true true true = refl
    turned false true true false = refl
    turned false true false true = refl
    turned false true false false = refl
    turned false false true true = refl
    turned false false true false = refl
    turned false false false true = refl
    turned false false false false = refl

-- ---- one turn

module _ {R M : Type 0} where
  pub turned : (first k new : Kept R M) (x next base lapse : R) → IsExact k → IsExact new → MakesRegion first k x (k.set x) → IsSameGame first k →
      HasRegion first base → HasRegion first lapse →
      Replaces k new (Region x) (States (k.set x)) (Region next) (States (waiting k.game (k.set base) (k.set lapse) (k.set x))) →
      (new.set next ≡ waiting first.game (first.set base) (first.set lapse) (k.set x)) × MakesRegion first new next (new.set next)
  turned first k new x next base lapse exact exact_new made same has_base has_lapse replaced =
      let base_is = set_stays first k base ((Region x, States (k.set x)) ∷ []) exact has_base made.held in
      let lapse_is = set_stays first k lapse ((Region x, States (k.set x)) ∷ []) exact has_lapse made.held in
      replaced_is first k new x next (waiting first.game (first.set base) (first.set lapse) (k.set x)) exact_new made
      (subst (λ h. Replaces k new (Region x) (States (k.set x)) (Region next) (States (waiting h (first.set base) (first.set lapse) (k.set x)))) same.game
      (subst (λ t. Replaces k new (Region x) (States (k.set x)) (Region next) (States (waiting k.game (first.set base) t (k.set x)))) lapse_is
      (subst (λ t. Replaces k new (Region x) (States (k.set x)) (Region next) (States (waiting k.game t (k.set lapse) (k.set x)))) base_is replaced)))

  -- whether it stayed, likewise
  pub still : (first k : Kept R M) (x base lapse : R) → IsExact k → MakesRegion first k x (k.set x) → IsSameGame first k → HasRegion first base → HasRegion first lapse →
      waiting k.game (k.set base) (k.set lapse) (k.set x) ≡ waiting first.game (first.set base) (first.set lapse) (k.set x)
  still first k x base lapse exact made same has_base has_lapse =
      let base_is = set_stays first k base ((Region x, States (k.set x)) ∷ []) exact has_base made.held in
      let lapse_is = set_stays first k lapse ((Region x, States (k.set x)) ∷ []) exact has_lapse made.held in
      ap (λ h. waiting h (k.set base) (k.set lapse) (k.set x)) same.game ∙ (ap (λ t. waiting first.game t (k.set lapse) (k.set x)) base_is ∙ ap (λ t. waiting first.game (first.set base) t (k.set x)) lapse_is)
