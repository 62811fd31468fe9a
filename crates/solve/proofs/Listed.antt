-- Lists that weigh the same, however meanings are weighed, list the same sets of states.
use Rattle.std.proofs.Common.{◌≡◌, ◌⊎◌, inl, inr, ℕ, zero, suc, ◌+◌, ◌<◌, ◌≤◌, Bool, true, false, ◌&&◌, List, [], ◌∷◌, ◌++◌, length, cond, refl, sym, ◌∙◌, ap, subst, arith}
use Rattle.std.specs.List.{Contains, list_all}
use Rattle.std.specs.Bool.{beq}
use Rattle.std.proofs.lemmas.Bool.{and_parts, and_from, false≢true}
use Rattle.bit_compile.proofs.Filled.{contains_first, contains_later}
use Rattle.spec_model.specs.Games.{GameData, State}
use Rattle.spec_model.specs.Steps.{is_state, states_of}
use Rattle.spec_model.specs.Sets.{StateSet, all_states, both}
use Rattle.spec_model.proofs.AllStates.{Every, at_state}
use Rattle.regions.specs.Kept.{Meaning, States, Outputs, Inputs, Each, weigh}

-- ---- elements

-- what holds of each holds of one that is there
pub each_at : (P : Meaning → Type 0) (ms : List Meaning) (m : Meaning) → Each P ms → Contains ms m → P m
each_at P [] m all there = absurd (let below = there.1 in omega (arith, below))
each_at P (x ∷ ms) m all (zero, below, is) = subst P is all.0
each_at P (x ∷ ms) m all (suc k, below, is) = each_at P ms m all.1 (k, omega (arith, below), is)

-- ---- sets of states

same_bool : (a b : Bool) → beq a b ≡ true → a ≡ b
same_bool true true e = refl
same_bool true false e = absurd (false≢true e)
same_bool false true e = absurd (false≢true e)
same_bool false false e = refl

same_itself : (a : Bool) → beq a a ≡ true
same_itself true = refl
same_itself false = refl

all_every : (p : State → Bool) (ss : List State) → list_all p ss ≡ true → Every (λ s. p s ≡ true) ss
all_every p [] e = tt
all_every p (s ∷ ss) e = let parts = and_parts (p s) (list_all p ss) e in (parts.0, all_every p ss parts.1)

every_all : (p : State → Bool) → ((s : State) → p s ≡ true) → (ss : List State) → list_all p ss ≡ true
every_all p each [] = refl
every_all p each (s ∷ ss) = and_from (p s) (list_all p ss) (each s) (every_all p each ss)

module _ (g : GameData) where
  abbrev same_sets : StateSet → StateSet → Bool
  same_sets s t = list_all (λ u. beq (s u) (t u)) (states_of g)

  pub sets_told : (s t : StateSet) → same_sets s t ≡ true → both (all_states g) s ≡ both (all_states g) t
  sets_told s t e = λ i u. at u (is_state g u) refl i
    where
      at : (u : State) (b : Bool) → is_state g u ≡ b → both (all_states g) s u ≡ both (all_states g) t u
      at u true is =
          let one : s u ≡ t u = same_bool (s u) (t u) (at_state g (λ u. beq (s u) (t u) ≡ true) (all_every (λ u. beq (s u) (t u)) (states_of g) e) u is) in
          ap (λ b. is_state g u && b) one
      at u false is = ap (λ b. b && s u) is ∙ sym (ap (λ b. b && t u) is)

  sets_themselves : (s : StateSet) → same_sets s s ≡ true
  sets_themselves s = every_all (λ u. beq (s u) (s u)) (λ u. same_itself (s u)) (states_of g)

  -- ---- meanings

  abbrev same_meanings : Meaning → Meaning → Bool
  same_meanings (States s) (States t) = same_sets s t
  same_meanings (Outputs when s) (Outputs when' t) = same_sets s t
  same_meanings (Inputs when s) (Inputs when' t) = same_sets s t
  same_meanings _ _ = false

  -- they are of one kind, and their sets have the same states of the game
  abbrev pub IsAlike : Meaning → Meaning → Type 0
  IsAlike (States s) (States t) = both (all_states g) s ≡ both (all_states g) t
  IsAlike (Outputs when s) (Outputs when' t) = both (all_states g) s ≡ both (all_states g) t
  IsAlike (Inputs when s) (Inputs when' t) = both (all_states g) s ≡ both (all_states g) t
  IsAlike _ _ = ⊥

  meanings_told : (x y : Meaning) → same_meanings x y ≡ true → IsAlike x y
  meanings_told (States s) (States t) e = sets_told s t e
  meanings_told (States s) (Outputs when t) e = absurd (false≢true e)
  meanings_told (States s) (Inputs when t) e = absurd (false≢true e)
  meanings_told (Outputs when s) (States t) e = absurd (false≢true e)
  meanings_told (Outputs when s) (Outputs when' t) e = sets_told s t e
  meanings_told (Outputs when s) (Inputs when' t) e = absurd (false≢true e)
  meanings_told (Inputs when s) (States t) e = absurd (false≢true e)
  meanings_told (Inputs when s) (Outputs when' t) e = absurd (false≢true e)
  meanings_told (Inputs when s) (Inputs when' t) e = sets_told s t e

  meanings_themselves : (x : Meaning) → same_meanings x x ≡ true
  meanings_themselves (States s) = sets_themselves s
  meanings_themselves (Outputs when s) = sets_themselves s
  meanings_themselves (Inputs when s) = sets_themselves s

  -- ---- by weights

  -- what is like x weighs one
  abbrev pub likeness : Meaning → Meaning → ℕ
  likeness x y = cond (same_meanings x y) 1 0

  pub weighs_itself : (x : Meaning) → likeness x x ≡ 1
  weighs_itself x = ap (λ b. cond b 1 0) (meanings_themselves x)

  there_weighs : (x : Meaning) (ms : List Meaning) → Contains ms x → 1 ≤ weigh (likeness x) ms
  there_weighs x [] there = absurd (let below = there.1 in omega (arith, below))
  there_weighs x (m ∷ ms) (zero, below, is) =
      let one : likeness x m ≡ 1 = subst (λ (y : Meaning). likeness x y ≡ 1) (sym is) (weighs_itself x) in
      omega (arith, one)
  there_weighs x (m ∷ ms) (suc k, below, is) = let rest = there_weighs x ms (k, omega (arith, below), is) in omega (arith, rest)

  pub weight_there : (x : Meaning) (ms : List Meaning) → 1 ≤ weigh (likeness x) ms → (y : Meaning) × Contains ms y × IsAlike x y
  weight_there x [] some = absurd (omega (arith, some))
  weight_there x (m ∷ ms) some = at (same_meanings x m) refl (weight_there x ms)
    where
      at : (b : Bool) → same_meanings x m ≡ b → (1 ≤ weigh (likeness x) ms → (y : Meaning) × Contains ms y × IsAlike x y) → (y : Meaning) × Contains (m ∷ ms) y × IsAlike x y
      at true is rest = (m, contains_first m ms, meanings_told x m is)
      at false is rest =
          let none : likeness x m ≡ 0 = ap (λ b. cond b 1 0) is in
          let found = rest (omega (arith, some, none)) in
          (found.0, contains_later m found.0 ms found.1, found.2)

  -- what one list has, one that weighs the same has
  pub listed_alike : (xs ys : List Meaning) → ((w : Meaning → ℕ) → weigh w xs ≡ weigh w ys) → (x : Meaning) → Contains xs x → (y : Meaning) × Contains ys y × IsAlike x y
  listed_alike xs ys same x there =
      let some = there_weighs x xs there in
      weight_there x ys (let sums = same (likeness x) in omega (arith, some, sums))

pub weigh-append : (w : Meaning → ℕ) (xs ys : List Meaning) → weigh w (xs ++ ys) ≡ weigh w xs + weigh w ys
weigh-append w [] ys = omega arith
weigh-append w (x ∷ xs) ys = let rest = weigh-append w xs ys in omega (arith, rest)
