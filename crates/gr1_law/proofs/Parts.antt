-- What a part's equation has of a state, and how it grows.
use Rattle.std.proofs.Common.{◌≡◌, ℕ, zero, suc, ◌<◌, true, ◌&&◌, ◌||◌, ◌⊎◌, inl, inr, subst, arith, IsTrue}
use Rattle.std.proofs.lemmas.Bool.{and_parts, and_from, or_cases, or_left, or_right, false≢true}
use Rattle.spec_model.specs.Games.{GameData, State}
use Rattle.spec_model.specs.Sets.{StateSet, all_states, rest, pre_sys, IsPartOf}
use Rattle.spec_model.proofs.SetLaws.{pre_sys_grows, pre_sys-inside}
use Rattle.gr1_law.specs.Layers.{goal_set, assumption_set, union, part_value}

-- ---- unions

earlier_or_last : (i n : ℕ) → i < suc n → (i < n) ⊎ (i ≡ n)
earlier_or_last i n below = grind arith

pub in_union : (sets : ℕ → StateSet) (n i : ℕ) (s : State) → i < n → IsTrue (sets i s) → IsTrue (union sets n s)
in_union sets zero i s below e = absurd (omega arith)
in_union sets (suc n) i s below e =
    elim (earlier_or_last i n below) [
      | inl less ↦ or_left (union sets n s) (sets n s) (in_union sets n i s less e)
      | inr is ↦ or_right (union sets n s) (sets n s) (subst (λ (k : ℕ). IsTrue (sets k s)) is e)
    ]

pub of_union : (sets : ℕ → StateSet) (n : ℕ) (s : State) → IsTrue (union sets n s) → (i : ℕ) × (i < n) × IsTrue (sets i s)
of_union sets zero s e = absurd (false≢true e)
of_union sets (suc n) s e =
    elim (or_cases (union sets n s) (sets n s) e) [
      | inl earlier ↦ let found = of_union sets n s earlier in (found.0, omega (arith, found.1), found.2)
      | inr last ↦ (n, omega arith, last)
    ]

pub union_grows : (sets sets' : ℕ → StateSet) → ((i : ℕ) → IsPartOf (sets i) (sets' i)) → (n : ℕ) → IsPartOf (union sets n) (union sets' n)
union_grows sets sets' grows n s e = let found = of_union sets n s e in in_union sets' n found.0 s found.1 (grows found.0 s found.2)

-- ---- the equation

-- why a state is in the value: the goal holds and the next state is forced into z; or the next state is forced into the
-- layer below; or the assumption is false and the next state is forced into the set itself
pub data InPart (g : GameData) (z below : StateSet) (j i : ℕ) (t : StateSet) (s : State) : Type 0 where
  met : goal_set g j s ≡ true → pre_sys g z s ≡ true → InPart g z below j i t s
  lower : pre_sys g below s ≡ true → InPart g z below j i t s
  waiting : rest g (assumption_set g i) s ≡ true → pre_sys g t s ≡ true → InPart g z below j i t s

pub in_part : (g : GameData) (z below : StateSet) (j i : ℕ) (t : StateSet) (s : State) → IsTrue (part_value g z below j i t s) → InPart g z below j i t s
in_part g z below j i t s e =
    elim (or_cases (goal_set g j s && pre_sys g z s) (pre_sys g below s || (rest g (assumption_set g i) s && pre_sys g t s)) e) [
      | inl reached ↦ let parts = and_parts (goal_set g j s) (pre_sys g z s) reached in InPart.met parts.0 parts.1
      | inr other ↦
          elim (or_cases (pre_sys g below s) (rest g (assumption_set g i) s && pre_sys g t s) other) [
            | inl down ↦ InPart.lower down
            | inr stay ↦ let parts = and_parts (rest g (assumption_set g i) s) (pre_sys g t s) stay in InPart.waiting parts.0 parts.1
          ]
    ]

pub to_part : (g : GameData) (z below : StateSet) (j i : ℕ) (t : StateSet) (s : State) → InPart g z below j i t s → IsTrue (part_value g z below j i t s)
to_part g z below j i t s (InPart.met holds forced) = or_left (goal_set g j s && pre_sys g z s) _ (and_from _ _ holds forced)
to_part g z below j i t s (InPart.lower forced) = or_right (goal_set g j s && pre_sys g z s) _ (or_left (pre_sys g below s) _ forced)
to_part g z below j i t s (InPart.waiting fails forced) = or_right (goal_set g j s && pre_sys g z s) _ (or_right (pre_sys g below s) _ (and_from _ _ fails forced))

pub part_value_grows : (g : GameData) (z z' below below' : StateSet) (j i : ℕ) (t t' : StateSet) → IsPartOf z z' → IsPartOf below below' → IsPartOf t t' →
    IsPartOf (part_value g z below j i t) (part_value g z' below' j i t')
part_value_grows g z z' below below' j i t t' in_z in_below in_t s e = by_cases (in_part g z below j i t s e)
  where
    by_cases : InPart g z below j i t s → IsTrue (part_value g z' below' j i t' s)
    by_cases (InPart.met holds forced) = to_part g z' below' j i t' s (InPart.met holds (pre_sys_grows g z z' in_z s forced))
    by_cases (InPart.lower forced) = to_part g z' below' j i t' s (InPart.lower (pre_sys_grows g below below' in_below s forced))
    by_cases (InPart.waiting fails forced) = to_part g z' below' j i t' s (InPart.waiting fails (pre_sys_grows g t t' in_t s forced))

pub part_value-inside : (g : GameData) (z below : StateSet) (j i : ℕ) (t : StateSet) → IsPartOf (part_value g z below j i t) (all_states g)
part_value-inside g z below j i t s e = by_cases (in_part g z below j i t s e)
  where
    by_cases : InPart g z below j i t s → IsTrue (all_states g s)
    by_cases (InPart.met holds forced) = pre_sys-inside g z s forced
    by_cases (InPart.lower forced) = pre_sys-inside g below s forced
    by_cases (InPart.waiting fails forced) = pre_sys-inside g t s forced
