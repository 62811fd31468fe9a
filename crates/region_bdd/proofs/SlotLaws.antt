-- Slots and their roots, as slots are taken, freed and marked.
use Rattle.std.proofs.Common.{◌≡◌, ℕ, zero, suc, ◌+◌, ◌<◌, ◌≤◌, List, [], ◌∷◌, ◌++◌, length, map, Some, get_or, slice_get, slice_set, refl, sym, ◌∙◌, ap, subst, arith, inl, inr}
use Rattle.spec_model.specs.Games.{GameData}
use Rattle.bdd_store.specs.State.{State, roots_at}
use Rattle.bdd_bits.specs.Contents.{Contents, function_at}
use Rattle.region_bdd.specs.declared.slots.Content.{Content}
use Rattle.region_bdd.specs.declared.slots.Content.TheVariants.{Region, Outputs, Inputs}
use Rattle.region_bdd.specs.declared.slots.Slot.{Slot}
use Rattle.region_bdd.specs.declared.slots.Slot.TheVariants.{Free, Taken, Spent}
use Rattle.bdd_sets.proofs.ListLemmas.{one_itself}
use Rattle.region_bdd.specs.Slots.{Nothing, Set, OutputsInto, InputsInto, shown_in, shown_of, shown_once, HasContent, TakesSlot, FreesSlot, MarksSpent, TakesPlace, ClearsPlace, roots_within, roots_of_slot, roots_of_slots}
use Rattle.region_bdd.specs.Object.{ShownFits, AllFit, NoneSpent}

-- ---- lists

pub map-set : {X Y : Type 0} (f : X → Y) (xs : List X) (i : ℕ) (x : X) → map f (slice_set xs i x) ≡ slice_set (map f xs) i (f x)
map-set f [] i x = refl
map-set f (y ∷ xs) zero x = refl
map-set f (y ∷ xs) (suc i) x = ap (λ r. f y ∷ r) (map-set f xs i x)

pub set_twice : {X : Type 0} (xs : List X) (i : ℕ) (x y : X) → slice_set (slice_set xs i x) i y ≡ slice_set xs i y
set_twice [] i x y = refl
set_twice (z ∷ xs) zero x y = refl
set_twice (z ∷ xs) (suc i) x y = ap (λ r. z ∷ r) (set_twice xs i x y)

pub map-push : {X Y : Type 0} (f : X → Y) (xs : List X) (x : X) → map f (xs ++ x ∷ []) ≡ map f xs ++ f x ∷ []
map-push f [] x = refl
map-push f (y ∷ xs) x = ap (λ r. f y ∷ r) (map-push f xs x)

pub map-get : {X Y : Type 0} (f : X → Y) (xs : List X) (i : ℕ) (x : X) → slice_get xs i ≡ Some x → slice_get (map f xs) i ≡ Some (f x)
map-get f [] i x e = absurd (cc (e))
map-get f (y ∷ xs) zero x e = (let same : y ≡ x = cc (e) in ap (λ z. Some (f z)) same)
map-get f (y ∷ xs) (suc i) x e = map-get f xs i x e

map-long : {X Y : Type 0} (f : X → Y) (xs : List X) → length (map f xs) ≡ length xs
map-long f [] = refl
map-long f (x ∷ xs) = ap suc (map-long f xs)

pub place_of : {X : Type 0} (xs : List X) (i : ℕ) (x : X) → slice_get xs i ≡ Some x → i < length xs
place_of [] i x e = absurd (cc (e))
place_of (y ∷ xs) zero x e = omega arith
place_of (y ∷ xs) (suc i) x e = let more = place_of xs i x e in omega (arith, more)

pub get_here : {X : Type 0} (xs : List X) (i : ℕ) (x d : X) → slice_get xs i ≡ Some x → get_or xs i d ≡ x
get_here [] i x d e = absurd (cc (e))
get_here (y ∷ xs) zero x d e = cc (e)
get_here (y ∷ xs) (suc i) x d e = get_here xs i x d e

-- ---- what slots show

module _ (c : Contents) where
  pub takes_place : (old new : List Slot) (i : ℕ) (content : Content) → TakesSlot old new i (Taken content) → TakesPlace (map (shown_of c) old) (map (shown_of c) new) i (shown_in c content)
  takes_place old new i content (inl free) = inl (map-get (shown_of c) old i (Free free.0) free.1, ap (map (shown_of c)) free.2 ∙ map-set (shown_of c) old i (Taken content))
  takes_place old new i content (inr last) = inr (last.0 ∙ sym (map-long (shown_of c) old), ap (map (shown_of c)) last.1 ∙ map-push (shown_of c) old (Taken content))

  pub clears_place : (old new : List Slot) (i : ℕ) → FreesSlot old new i → ClearsPlace (map (shown_of c) old) (map (shown_of c) new) i
  clears_place old new i freed = ap (map (shown_of c)) freed.1 ∙ map-set (shown_of c) old i (Free freed.0)

  pub marks_place : (old new : List Slot) (i : ℕ) → MarksSpent old new i → ClearsPlace (map (shown_of c) old) (map (shown_of c) new) i
  marks_place old new i marked = ap (map (shown_of c)) marked.2 ∙ map-set (shown_of c) old i (Spent marked.0)

  -- what a slot that is marked showed once it shows on
  pub once_marked : (old new : List Slot) (i : ℕ) → MarksSpent old new i → map (shown_once c) new ≡ map (shown_once c) old
  once_marked old new i marked = ap (map (shown_once c)) marked.2 ∙ (map-set (shown_once c) old i (Spent marked.0) ∙ same old i marked.0 marked.1)
    where
      same : (slots : List Slot) (i : ℕ) (content : Content) → HasContent slots i content → slice_set (map (shown_once c) slots) i (shown_in c content) ≡ map (shown_once c) slots
      same [] i content e = refl
      same (slot ∷ slots) zero content e = (let is : slot ≡ Taken content = cc (e) in ap (λ s. s ∷ map (shown_once c) slots) (sym (ap (shown_once c) is)))
      same (slot ∷ slots) (suc i) content e = ap (λ r. shown_once c slot ∷ r) (same slots i content e)

  -- where nothing is spent, slots show what they showed once
  pub once_open : (slots : List Slot) → NoneSpent slots → map (shown_once c) slots ≡ map (shown_of c) slots
  once_open [] unspent = refl
  once_open (Free next ∷ slots) unspent = ap (λ r. Nothing ∷ r) (once_open slots unspent)
  once_open (Taken content ∷ slots) unspent = ap (λ r. shown_in c content ∷ r) (once_open slots unspent)
  once_open (Spent content ∷ slots) unspent = absurd unspent

-- ---- roots

pub roots-set : (n : ℕ) (slots : List Slot) (i : ℕ) (slot was : Slot) → slice_get slots i ≡ Some was → roots_of_slots n (slice_set slots i slot) + roots_of_slot n was ≡ roots_of_slots n slots + roots_of_slot n slot
roots-set n [] i slot was e = absurd (cc (e))
roots-set n (s ∷ slots) zero slot was e = (let same : s ≡ was = cc (e) in let is = ap (roots_of_slot n) same in omega (arith, is))
roots-set n (s ∷ slots) (suc i) slot was e = let more = roots-set n slots i slot was e in omega (arith, more)

pub roots-push : (n : ℕ) (slots : List Slot) (slot : Slot) → roots_of_slots n (slots ++ slot ∷ []) ≡ roots_of_slots n slots + roots_of_slot n slot
roots-push n [] slot = omega arith
roots-push n (s ∷ slots) slot = let more = roots-push n slots slot in omega (arith, more)

pub roots_taken : (n : ℕ) (old new : List Slot) (i : ℕ) (content : Content) → TakesSlot old new i (Taken content) → roots_of_slots n new ≡ roots_within n content + roots_of_slots n old
roots_taken n old new i content (inl free) = let set = roots-set n old i (Taken content) (Free free.0) free.1 in let is = ap (roots_of_slots n) free.2 in omega (arith, set, is)
roots_taken n old new i content (inr last) = let push = roots-push n old (Taken content) in let is = ap (roots_of_slots n) last.1 in omega (arith, push, is)

pub roots_freed : (n : ℕ) (old new : List Slot) (i : ℕ) (content : Content) → HasContent old i content → FreesSlot old new i → roots_of_slots n new + roots_within n content ≡ roots_of_slots n old
roots_freed n old new i content here freed = let set = roots-set n old i (Free freed.0) (Taken content) here in let is = ap (roots_of_slots n) freed.1 in omega (arith, set, is)

pub roots_marked : (n : ℕ) (old new : List Slot) (i : ℕ) → MarksSpent old new i → roots_of_slots n new ≡ roots_of_slots n old
roots_marked n old new i marked = let set = roots-set n old i (Spent marked.0) (Taken marked.0) marked.1 in let is = ap (roots_of_slots n) marked.2 in omega (arith, set, is)

-- a slot's roots are among those of all
pub roots_among : (n : ℕ) (slots : List Slot) (i : ℕ) (slot : Slot) → slice_get slots i ≡ Some slot → roots_of_slot n slot ≤ roots_of_slots n slots
roots_among n [] i slot e = absurd (cc (e))
roots_among n (s ∷ slots) zero slot e = (let same : s ≡ slot = cc (e) in let is = ap (roots_of_slot n) same in omega (arith, is))
roots_among n (s ∷ slots) (suc i) slot e = let more = roots_among n slots i slot e in omega (arith, more)

-- ---- the same functions

module _ (c c' : Contents) where
  same_within : (content : Content) → ((n : ℕ) → 0 < roots_within n content → function_at c' n ≡ function_at c n) → shown_in c' content ≡ shown_in c content
  same_within (Region root) same = ap Set (same root (let one = one_itself root in omega (arith, one)))
  same_within (Outputs when root) same = ap (OutputsInto when) (same root (let one = one_itself root in omega (arith, one)))
  same_within (Inputs when root leads) same =
      ap (λ f. InputsInto when f (function_at c' leads)) (same root (let one = one_itself root in omega (arith, one)))
      ∙ ap (InputsInto when (function_at c root)) (same leads (let one = one_itself leads in omega (arith, one)))

  pub shown_same : (slots : List Slot) → ((n : ℕ) → 0 < roots_of_slots n slots → function_at c' n ≡ function_at c n) → map (shown_of c') slots ≡ map (shown_of c) slots
  shown_same [] same = refl
  shown_same (Free next ∷ slots) same = ap (λ r. Nothing ∷ r) (shown_same slots (λ n some. same n (omega (arith, some))))
  shown_same (Spent content ∷ slots) same = ap (λ r. Nothing ∷ r) (shown_same slots (λ n some. same n (omega (arith, some))))
  shown_same (Taken content ∷ slots) same =
      let first = same_within content (λ n some. same n (omega (arith, some))) in
      let rest = shown_same slots (λ n some. same n (omega (arith, some))) in
      ap (λ s. s ∷ map (shown_of c') slots) first ∙ ap (λ r. shown_in c content ∷ r) rest

  pub once_same : (slots : List Slot) → ((n : ℕ) → 0 < roots_of_slots n slots → function_at c' n ≡ function_at c n) → map (shown_once c') slots ≡ map (shown_once c) slots
  once_same [] same = refl
  once_same (Free next ∷ slots) same = ap (λ r. Nothing ∷ r) (once_same slots (λ n some. same n (omega (arith, some))))
  once_same (Spent content ∷ slots) same =
      let first = same_within content (λ n some. same n (omega (arith, some))) in
      let rest = once_same slots (λ n some. same n (omega (arith, some))) in
      ap (λ s. s ∷ map (shown_once c') slots) first ∙ ap (λ r. shown_in c content ∷ r) rest
  once_same (Taken content ∷ slots) same =
      let first = same_within content (λ n some. same n (omega (arith, some))) in
      let rest = once_same slots (λ n some. same n (omega (arith, some))) in
      ap (λ s. s ∷ map (shown_once c') slots) first ∙ ap (λ r. shown_in c content ∷ r) rest

  pub fit_same : (g : GameData) (slots : List Slot) → ((n : ℕ) → 0 < roots_of_slots n slots → function_at c' n ≡ function_at c n) → AllFit g c slots → AllFit g c' slots
  fit_same g [] same fit = tt
  fit_same g (Free next ∷ slots) same fit = (tt, fit_same g slots (λ n some. same n (omega (arith, some))) fit.1)
  fit_same g (Spent content ∷ slots) same fit = (tt, fit_same g slots (λ n some. same n (omega (arith, some))) fit.1)
  fit_same g (Taken content ∷ slots) same fit =
      (subst (ShownFits g) (sym (same_within content (λ n some. same n (omega (arith, some))))) fit.0, fit_same g slots (λ n some. same n (omega (arith, some))) fit.1)

-- ---- what fits

module _ (g : GameData) (c : Contents) where
  fit-set : (slots : List Slot) (i : ℕ) (slot : Slot) → AllFit g c slots → ShownFits g (shown_of c slot) → AllFit g c (slice_set slots i slot)
  fit-set [] i slot fit here = tt
  fit-set (s ∷ slots) zero slot fit here = (here, fit.1)
  fit-set (s ∷ slots) (suc i) slot fit here = (fit.0, fit-set slots i slot fit.1 here)

  fit-push : (slots : List Slot) (slot : Slot) → AllFit g c slots → ShownFits g (shown_of c slot) → AllFit g c (slots ++ slot ∷ [])
  fit-push [] slot fit here = (here, tt)
  fit-push (s ∷ slots) slot fit here = (fit.0, fit-push slots slot fit.1 here)

  pub fit_taken : (old new : List Slot) (i : ℕ) (content : Content) → TakesSlot old new i (Taken content) → AllFit g c old → ShownFits g (shown_in c content) → AllFit g c new
  fit_taken old new i content (inl free) fit here = subst (AllFit g c) (sym free.2) (fit-set old i (Taken content) fit here)
  fit_taken old new i content (inr last) fit here = subst (AllFit g c) (sym last.1) (fit-push old (Taken content) fit here)

  pub fit_freed : (old new : List Slot) (i : ℕ) → FreesSlot old new i → AllFit g c old → AllFit g c new
  fit_freed old new i freed fit = subst (AllFit g c) (sym freed.1) (fit-set old i (Free freed.0) fit tt)

  pub fit_marked : (old new : List Slot) (i : ℕ) → MarksSpent old new i → AllFit g c old → AllFit g c new
  fit_marked old new i marked fit = subst (AllFit g c) (sym marked.2) (fit-set old i (Spent marked.0) fit tt)

  pub fit_here : (slots : List Slot) (i : ℕ) (content : Content) → HasContent slots i content → AllFit g c slots → ShownFits g (shown_in c content)
  fit_here [] i content e fit = absurd (cc (e))
  fit_here (s ∷ slots) zero content e fit = (let same : s ≡ Taken content = cc (e) in subst (λ (s : Slot). ShownFits g (shown_of c s)) same fit.0)
  fit_here (s ∷ slots) (suc i) content e fit = fit_here slots i content e fit.1

open-set : (slots : List Slot) (i : ℕ) (slot : Slot) → NoneSpent slots → NoneSpent (slot ∷ []) → NoneSpent (slice_set slots i slot)
open-set [] i slot unspent here = tt
open-set (Free next ∷ slots) zero slot unspent here = with_first slot slots unspent here
  where
    with_first : (slot : Slot) (slots : List Slot) → NoneSpent slots → NoneSpent (slot ∷ []) → NoneSpent (slot ∷ slots)
    with_first (Free next) slots unspent here = unspent
    with_first (Taken content) slots unspent here = unspent
    with_first (Spent content) slots unspent here = absurd here
open-set (Taken content ∷ slots) zero slot unspent here = with_first slot slots unspent here
  where
    with_first : (slot : Slot) (slots : List Slot) → NoneSpent slots → NoneSpent (slot ∷ []) → NoneSpent (slot ∷ slots)
    with_first (Free next) slots unspent here = unspent
    with_first (Taken content) slots unspent here = unspent
    with_first (Spent content) slots unspent here = absurd here
open-set (Spent content ∷ slots) i slot unspent here = absurd unspent
open-set (Free next ∷ slots) (suc i) slot unspent here = open-set slots i slot unspent here
open-set (Taken content ∷ slots) (suc i) slot unspent here = open-set slots i slot unspent here

open-push : (slots : List Slot) (slot : Slot) → NoneSpent slots → NoneSpent (slot ∷ []) → NoneSpent (slots ++ slot ∷ [])
open-push [] slot unspent here = here
open-push (Free next ∷ slots) slot unspent here = open-push slots slot unspent here
open-push (Taken content ∷ slots) slot unspent here = open-push slots slot unspent here
open-push (Spent content ∷ slots) slot unspent here = absurd unspent

pub open_taken : (old new : List Slot) (i : ℕ) (content : Content) → TakesSlot old new i (Taken content) → NoneSpent old → NoneSpent new
open_taken old new i content (inl free) unspent = subst NoneSpent (sym free.2) (open-set old i (Taken content) unspent tt)
open_taken old new i content (inr last) unspent = subst NoneSpent (sym last.1) (open-push old (Taken content) unspent tt)

pub open_freed : (old new : List Slot) (i : ℕ) → FreesSlot old new i → NoneSpent old → NoneSpent new
open_freed old new i freed unspent = subst NoneSpent (sym freed.1) (open-set old i (Free freed.0) unspent tt)

-- ---- slots that are given back, one after the other

module _ (first l : State) (all held rest : List Slot) (slot : Slot) (left : (n : ℕ) → roots_at l n + roots_of_slots n all ≡ roots_at first n + roots_of_slots n held) (popped : held ≡ rest ++ slot ∷ []) where
  pub slot_counted : ((n : ℕ) → roots_of_slots n all ≤ roots_at first n) → (n : ℕ) → roots_of_slot n slot ≤ roots_at l n
  slot_counted counted n =
      let here = left n in
      let enough = counted n in
      let push = roots-push n rest slot in
      let same = ap (roots_of_slots n) popped in
      omega (arith, here, enough, push, same)

  pub slot_popped : (new : State) → ((n : ℕ) → roots_at l n ≡ roots_at new n + roots_of_slot n slot) → (n : ℕ) → roots_at new n + roots_of_slots n all ≡ roots_at first n + roots_of_slots n rest
  slot_popped new back n =
      let here = left n in
      let one = back n in
      let push = roots-push n rest slot in
      let same = ap (roots_of_slots n) popped in
      omega (arith, here, one, push, same)

pub all_given : (first l : State) (all held : List Slot) → ((n : ℕ) → roots_at l n + roots_of_slots n all ≡ roots_at first n + roots_of_slots n held) → held ≡ [] → (n : ℕ) → roots_at first n ≡ roots_at l n + roots_of_slots n all
all_given first l all held left none n = let here = left n in let same = ap (roots_of_slots n) none in omega (arith, here, same)
