-- What slots hold, weighed slot by slot.
use Rattle.std.proofs.Common.{◌≡◌, ℕ, zero, suc, ◌+◌, ◌-◌, ◌<◌, ◌≤◌, Bool, true, false, if◌then◌else◌, List, [], ◌∷◌, ◌++◌, length, Option, Some, slice_get, slice_set, refl, sym, ◌∙◌, ap, subst, arith, ◌==◌, zero-add, inl, inr}
use borrow.Author.Tests.{eqb-true, eq-eqb}
use Rattle.spec_model.specs.Diagrams.{Function}
use Rattle.spec_model.specs.Games.{GameData}
use Rattle.spec_model.specs.Sets.{StateSet, no_states}
use Rattle.game_values.specs.declared.seen.At.TheVariants.{Now}
use Rattle.regions.specs.Kept.{Item, Region as RegionItem, Move, Meaning, States, Outputs as OutputMoves, Inputs as InputMoves, weigh, weight, meaning_of, IsHeld, IsExact, Jam}
use Rattle.regions.specs.declared.types.When.TheVariants.{First, Later}
use Rattle.bdd_sets.specs.StateBits.{set_at}
use Rattle.region_bdd.specs.declared.slots.BddRegion.{BddRegion}
use Rattle.region_bdd.specs.declared.slots.BddMove.{BddMove}
use Rattle.region_bdd.specs.Slots.{Shown, Nothing, Set, OutputsInto, InputsInto, shown_meaning, set_of, shown_at, items_from, kept_in, TakesPlace, ClearsPlace}

abbrev pub Weights : Type 0
Weights = Item BddRegion BddMove → Meaning → ℕ

module _ (g : GameData) where
  -- what the content of slot n weighs
  abbrev pub slot_weighs : ℕ → Shown → Weights → ℕ
  slot_weighs n Nothing w = 0
  slot_weighs n (Set p) w = w (RegionItem (record { slot = n })) (shown_meaning g (Set p))
  slot_weighs n (OutputsInto when p) w = w (Move (record { slot = n })) (shown_meaning g (OutputsInto when p))
  slot_weighs n (InputsInto when p leads) w = w (Move (record { slot = n })) (shown_meaning g (InputsInto when p leads))

  -- what the slots weigh, numbered from n
  abbrev pub slots_weigh : ℕ → List Shown → Weights → ℕ
  slots_weigh n [] w = 0
  slots_weigh n (slot ∷ slots) w = slot_weighs n slot w + slots_weigh (suc n) slots w

  slots-push : (n : ℕ) (slots : List Shown) (slot : Shown) (w : Weights) → slots_weigh n (slots ++ slot ∷ []) w ≡ slots_weigh n slots w + slot_weighs (n + length slots) slot w
  slots-push n [] slot w = let e : n + 0 ≡ n = omega arith in subst (λ k. slot_weighs n slot w + 0 ≡ 0 + slot_weighs k slot w) (sym e) (omega arith)
  slots-push n (s ∷ slots) slot w =
      let e : suc n + length slots ≡ n + suc (length slots) = omega arith in
      let more = slots-push (suc n) slots slot w in
      let more' : slots_weigh (suc n) (slots ++ slot ∷ []) w ≡ slots_weigh (suc n) slots w + slot_weighs (n + suc (length slots)) slot w = subst (λ k. slots_weigh (suc n) (slots ++ slot ∷ []) w ≡ slots_weigh (suc n) slots w + slot_weighs k slot w) e more in
      omega (arith, more')

  slots-set : (n : ℕ) (slots : List Shown) (i : ℕ) (slot : Shown) → i < length slots → (w : Weights) → slots_weigh n (slice_set slots i slot) w + slot_weighs (n + i) (shown_at slots i) w ≡ slots_weigh n slots w + slot_weighs (n + i) slot w
  slots-set n [] i slot below w = absurd (omega arith)
  slots-set n (s ∷ slots) zero slot below w = let e : n + 0 ≡ n = omega arith in subst (λ k. (slot_weighs n slot w + slots_weigh (suc n) slots w) + slot_weighs k s w ≡ (slot_weighs n s w + slots_weigh (suc n) slots w) + slot_weighs k slot w) (sym e) (omega arith)
  slots-set n (s ∷ slots) (suc i) slot below w =
      let e : suc n + i ≡ n + suc i = omega arith in
      let more = slots-set (suc n) slots i slot (omega arith) w in
      let more' : slots_weigh (suc n) (slice_set slots i slot) w + slot_weighs (n + suc i) (shown_at slots i) w ≡ slots_weigh (suc n) slots w + slot_weighs (n + suc i) slot w = subst (λ k. slots_weigh (suc n) (slice_set slots i slot) w + slot_weighs k (shown_at slots i) w ≡ slots_weigh (suc n) slots w + slot_weighs k slot w) e more in
      omega (arith, more')

  content_here : (slots : List Shown) (i : ℕ) (slot : Shown) → slice_get slots i ≡ Some slot → (shown_at slots i ≡ slot) × (i < length slots)
  content_here [] i slot e = cc (e)
  content_here (s ∷ slots) zero slot e = (cc (e), omega arith)
  content_here (s ∷ slots) (suc i) slot e = let more = content_here slots i slot e in (more.0, (let less = more.1 in omega (arith, less)))

  -- ---- one slot alone

  slots-none : (n : ℕ) (slots : List Shown) (w : Weights) → ((k : ℕ) (s : Shown) → n ≤ k → slot_weighs k s w ≡ 0) → slots_weigh n slots w ≡ 0
  slots-none n [] w nothing = refl
  slots-none n (s ∷ slots) w nothing = let here = nothing n s (omega arith) in let more = slots-none (suc n) slots w (λ k s above. nothing k s (omega arith)) in omega (arith, here, more)

  -- by weights that count one slot alone, all weighs what its content does
  slots-one : (n j : ℕ) (slots : List Shown) (w : Weights) → ((k : ℕ) (s : Shown) → (k ≡ n + j → ⊥) → slot_weighs k s w ≡ 0) → slots_weigh n slots w ≡ slot_weighs (n + j) (shown_at slots j) w
  slots-one n j [] w elsewhere = refl
  slots-one n zero (s ∷ slots) w elsewhere =
      let more = slots-none (suc n) slots w (λ k s above. elsewhere k s (λ e. absurd (omega (arith, e)))) in
      let e : n + 0 ≡ n = omega arith in
      subst (λ k. slot_weighs n s w + slots_weigh (suc n) slots w ≡ slot_weighs k s w) (sym e) (omega (arith, more))
  slots-one n (suc j) (s ∷ slots) w elsewhere =
      let e : suc n + j ≡ n + suc j = omega arith in
      let more = slots-one (suc n) j slots w (λ k s other. elsewhere k s (λ is. other (omega (arith, is)))) in
      let more' : slots_weigh (suc n) slots w ≡ slot_weighs (n + suc j) (shown_at slots j) w = subst (λ k. slots_weigh (suc n) slots w ≡ slot_weighs k (shown_at slots j) w) e more in
      let here = elsewhere n s (λ is. absurd (omega (arith, is))) in
      omega (arith, more', here)

  -- weights that count the region in a slot, or the moves in it
  abbrev region_alone : ℕ → (Meaning → ℕ) → Weights
  region_alone k f (RegionItem r) m = if r.slot == k then f m else 0
  region_alone k f (Move r) m = 0

  abbrev moves_alone : ℕ → (Meaning → ℕ) → Weights
  moves_alone k f (RegionItem r) m = 0
  moves_alone k f (Move r) m = if r.slot == k then f m else 0

  off : (k j : ℕ) (n : ℕ) → (j ≡ k → ⊥) → (if j == k then n else 0) ≡ 0
  off k j n other = at (j == k) refl
    where
      at : (b : Bool) → (j == k) ≡ b → (if b then n else 0) ≡ 0
      at true e = absurd (other (eqb-true j k e))
      at false e = refl

  region_elsewhere : (k : ℕ) (f : Meaning → ℕ) (j : ℕ) (s : Shown) → (j ≡ k → ⊥) → slot_weighs j s (region_alone k f) ≡ 0
  region_elsewhere k f j Nothing other = refl
  region_elsewhere k f j (Set p) other = off k j (f (shown_meaning g (Set p))) other
  region_elsewhere k f j (OutputsInto when p) other = refl
  region_elsewhere k f j (InputsInto when p leads) other = refl

  moves_elsewhere : (k : ℕ) (f : Meaning → ℕ) (j : ℕ) (s : Shown) → (j ≡ k → ⊥) → slot_weighs j s (moves_alone k f) ≡ 0
  moves_elsewhere k f j Nothing other = refl
  moves_elsewhere k f j (Set p) other = refl
  moves_elsewhere k f j (OutputsInto when p) other = off k j (f (shown_meaning g (OutputsInto when p))) other
  moves_elsewhere k f j (InputsInto when p leads) other = off k j (f (shown_meaning g (InputsInto when p leads))) other

  itself : (k n : ℕ) → (if k == k then n else 0) ≡ n
  itself k n = ap (λ b. if b then n else 0) (eq-eqb k k refl)

module _ (g : GameData) (bound : ℕ) (jam : Option Jam) where
  -- what is held weighs what the slots do: the meaning of an item is read in the whole list
  from_slots : (whole : List Shown) (n : ℕ) (slots : List Shown) → ((i : ℕ) → i < length slots → shown_at whole (n + i) ≡ shown_at slots i) → (w : Weights) →
      weigh (λ i. w i (meaning_of (kept_in g bound jam whole) i)) (items_from n slots) ≡ slots_weigh g n slots w
  from_slots whole n [] reads w = refl
  from_slots whole n (slot ∷ slots) reads w =
      let here : shown_at whole n ≡ slot = (let e : n ≡ n + 0 = omega arith in ap (shown_at whole) e ∙ reads 0 (omega arith)) in
      at slot here (from_slots whole (suc n) slots (λ i below. let e : suc n + i ≡ n + suc i = omega arith in ap (shown_at whole) e ∙ reads (suc i) (omega arith)) w)
    where
      at : (slot : Shown) → shown_at whole n ≡ slot → weigh (λ i. w i (meaning_of (kept_in g bound jam whole) i)) (items_from (suc n) slots) ≡ slots_weigh g (suc n) slots w →
          weigh (λ i. w i (meaning_of (kept_in g bound jam whole) i)) (items_from n (slot ∷ slots)) ≡ slots_weigh g n (slot ∷ slots) w
      at Nothing here more = more ∙ sym (zero-add (slots_weigh g (suc n) slots w))
      at (Set p) here more = ap (λ c. w (RegionItem (record { slot = n })) (States (set_of (shown_meaning g c))) + weigh (λ i. w i (meaning_of (kept_in g bound jam whole) i)) (items_from (suc n) slots)) here ∙ ap (λ k. w (RegionItem (record { slot = n })) (shown_meaning g (Set p)) + k) more
      at (OutputsInto when p) here more = ap (λ c. w (Move (record { slot = n })) (shown_meaning g c) + weigh (λ i. w i (meaning_of (kept_in g bound jam whole) i)) (items_from (suc n) slots)) here ∙ ap (λ k. w (Move (record { slot = n })) (shown_meaning g (OutputsInto when p)) + k) more
      at (InputsInto when p leads) here more = ap (λ c. w (Move (record { slot = n })) (shown_meaning g c) + weigh (λ i. w i (meaning_of (kept_in g bound jam whole) i)) (items_from (suc n) slots)) here ∙ ap (λ k. w (Move (record { slot = n })) (shown_meaning g (InputsInto when p leads)) + k) more

  pub weight_is : (slots : List Shown) (w : Weights) → weight (kept_in g bound jam slots) w ≡ slots_weigh g 0 slots w
  unfolding weight
  weight_is slots w = from_slots slots 0 slots (λ i below. let e : 0 + i ≡ i = omega arith in ap (shown_at slots) e) w

  -- a content that is kept weighs what it does in its slot
  pub takes : (old new : List Shown) (i : ℕ) (content : Shown) → TakesPlace old new i content → (w : Weights) → weight (kept_in g bound jam new) w ≡ slot_weighs g i content w + weight (kept_in g bound jam old) w
  takes old new i content (inl free) w =
      let here = content_here g old i Nothing free.0 in
      let zero_is : 0 + i ≡ i = zero-add i in
      let set = slots-set g 0 old i content here.1 w in
      let set' : slots_weigh g 0 (slice_set old i content) w + slot_weighs g i (shown_at old i) w ≡ slots_weigh g 0 old w + slot_weighs g i content w = subst (λ k. slots_weigh g 0 (slice_set old i content) w + slot_weighs g k (shown_at old i) w ≡ slots_weigh g 0 old w + slot_weighs g k content w) zero_is set in
      let nothing : slot_weighs g i (shown_at old i) w ≡ 0 = ap (λ s. slot_weighs g i s w) here.0 in
      let new_is : slots_weigh g 0 new w ≡ slots_weigh g 0 (slice_set old i content) w = ap (λ s. slots_weigh g 0 s w) free.1 in
      omega (arith, weight_is new w, weight_is old w, set', nothing, new_is)
  takes old new i content (inr last) w =
      let push = slots-push g 0 old content w in
      let place : 0 + length old ≡ i = zero-add (length old) ∙ sym last.0 in
      let push' : slots_weigh g 0 (old ++ content ∷ []) w ≡ slots_weigh g 0 old w + slot_weighs g i content w = subst (λ k. slots_weigh g 0 (old ++ content ∷ []) w ≡ slots_weigh g 0 old w + slot_weighs g k content w) place push in
      let new_is : slots_weigh g 0 new w ≡ slots_weigh g 0 (old ++ content ∷ []) w = ap (λ s. slots_weigh g 0 s w) last.1 in
      omega (arith, weight_is new w, weight_is old w, push', new_is)

  -- a place that is cleared weighed what its content does
  pub clears : (old new : List Shown) (i : ℕ) → i < length old → ClearsPlace old new i → (w : Weights) → weight (kept_in g bound jam new) w + slot_weighs g i (shown_at old i) w ≡ weight (kept_in g bound jam old) w
  clears old new i below clear w =
      let zero_is : 0 + i ≡ i = zero-add i in
      let set = slots-set g 0 old i Nothing below w in
      let set' : slots_weigh g 0 (slice_set old i Nothing) w + slot_weighs g i (shown_at old i) w ≡ slots_weigh g 0 old w + 0 = subst (λ k. slots_weigh g 0 (slice_set old i Nothing) w + slot_weighs g k (shown_at old i) w ≡ slots_weigh g 0 old w + 0) zero_is set in
      let new_is : slots_weigh g 0 new w ≡ slots_weigh g 0 (slice_set old i Nothing) w = ap (λ s. slots_weigh g 0 s w) clear in
      omega (arith, weight_is new w, weight_is old w, set', new_is)

  one_slot : (slots : List Shown) (k : ℕ) (w : Weights) → ((j : ℕ) (s : Shown) → (j ≡ k → ⊥) → slot_weighs g j s w ≡ 0) → weight (kept_in g bound jam slots) w ≡ slot_weighs g k (shown_at slots k) w
  one_slot slots k w elsewhere =
      let e : 0 + k ≡ k = zero-add k in
      weight_is slots w ∙ (slots-one g 0 k slots w (λ j s other. elsewhere j s (λ is. other (is ∙ sym e))) ∙ ap (λ j. slot_weighs g j (shown_at slots k) w) e)

abbrev pub IsMoves : Shown → Type 0
IsMoves (OutputsInto when p) = Unit {0}
IsMoves (InputsInto when p leads) = Unit {0}
IsMoves _ = ⊥

-- ---- meanings that no weight tells apart

compare : (p q : Bool) → (if q then 1 else 0) ≤ (if p then 1 else 0) → (if q then 0 else 1) ≤ (if p then 0 else 1) → p ≡ q
compare true true h k = refl
compare false false h k = refl
compare true false h k = absurd (omega (arith, h, k))
compare false true h k = absurd (omega (arith, h, k))

-- a meaning is its kind and its set
abbrev states_in : Meaning → StateSet
states_in (States s) = s
states_in (OutputMoves when s) = s
states_in (InputMoves when s) = s

abbrev kind_of : Meaning → ℕ
kind_of (States s) = 0
kind_of (OutputMoves First s) = 1
kind_of (OutputMoves Later s) = 2
kind_of (InputMoves First s) = 3
kind_of (InputMoves Later s) = 4

abbrev meaning_with : ℕ → StateSet → Meaning
meaning_with zero s = States s
meaning_with (suc zero) s = OutputMoves First s
meaning_with (suc (suc zero)) s = OutputMoves Later s
meaning_with (suc (suc (suc zero))) s = InputMoves First s
meaning_with (suc (suc (suc (suc n)))) s = InputMoves Later s

with_both : (m : Meaning) → meaning_with (kind_of m) (states_in m) ≡ m
with_both (States s) = refl
with_both (OutputMoves First s) = refl
with_both (OutputMoves Later s) = refl
with_both (InputMoves First s) = refl
with_both (InputMoves Later s) = refl

no_less : 1 ≤ 0 → ⊥
no_less h = absurd (omega (arith, h))

same_kind : (a m : Meaning) → ((f : Meaning → ℕ) → f m ≤ f a) → kind_of a ≡ kind_of m
same_kind a m heavy =
    let least = heavy kind_of in
    let most = heavy (λ n. 4 - kind_of n) in
    let small = kind_below a in
    let small' = kind_below m in
    omega (arith, least, most, small, small')
  where
    kind_below : (m : Meaning) → kind_of m ≤ 4
    kind_below (States s) = omega arith
    kind_below (OutputMoves First s) = omega arith
    kind_below (OutputMoves Later s) = omega arith
    kind_below (InputMoves First s) = omega arith
    kind_below (InputMoves Later s) = omega arith

pub same_meaning : (a m : Meaning) → ((f : Meaning → ℕ) → f m ≤ f a) → a ≡ m
same_meaning a m heavy =
    let sets : states_in a ≡ states_in m = λ i s. compare (states_in a s) (states_in m s) (heavy (λ n. if states_in n s then 1 else 0)) (heavy (λ n. if states_in n s then 0 else 1)) i in
    sym (with_both a) ∙ (ap (λ k. meaning_with k (states_in a)) (same_kind a m heavy) ∙ (ap (meaning_with (kind_of m)) sets ∙ with_both m))

module _ (g : GameData) (bound : ℕ) (jam : Option Jam) where
  -- a held region's slot has its function
  pub region_content : (slots : List Shown) (r : BddRegion) → IsHeld (kept_in g bound jam slots) (RegionItem r) → (f : Function) × (shown_at slots r.slot ≡ Set f)
  region_content slots r held = at (shown_at slots r.slot) refl
    where
      counted : 1 ≤ slot_weighs g r.slot (shown_at slots r.slot) (region_alone g r.slot (λ m. 1))
      counted = let h = held (λ i. region_alone g r.slot (λ m. 1) i (States no_states)) in let one = itself g r.slot 1 in omega (arith, h, one, one_slot g bound jam slots r.slot (λ i m. region_alone g r.slot (λ m. 1) i (States no_states)) (λ j s other. elsewhere j s other), same_here (shown_at slots r.slot))
        where
          elsewhere : (j : ℕ) (s : Shown) → (j ≡ r.slot → ⊥) → slot_weighs g j s (λ i m. region_alone g r.slot (λ m. 1) i (States no_states)) ≡ 0
          elsewhere j Nothing other = refl
          elsewhere j (Set p) other = off g r.slot j 1 other
          elsewhere j (OutputsInto when p) other = refl
          elsewhere j (InputsInto when p leads) other = refl

          same_here : (s : Shown) → slot_weighs g r.slot s (λ i m. region_alone g r.slot (λ m. 1) i (States no_states)) ≡ slot_weighs g r.slot s (region_alone g r.slot (λ m. 1))
          same_here Nothing = refl
          same_here (Set p) = refl
          same_here (OutputsInto when p) = refl
          same_here (InputsInto when p leads) = refl

      at : (s : Shown) → shown_at slots r.slot ≡ s → (f : Function) × (shown_at slots r.slot ≡ Set f)
      at (Set p) e = (p, e)
      at Nothing e = absurd (no_less (subst (λ c. 1 ≤ slot_weighs g r.slot c (region_alone g r.slot (λ m. 1))) e counted))
      at (OutputsInto when p) e = absurd (no_less (subst (λ c. 1 ≤ slot_weighs g r.slot c (region_alone g r.slot (λ m. 1))) e counted))
      at (InputsInto when p leads) e = absurd (no_less (subst (λ c. 1 ≤ slot_weighs g r.slot c (region_alone g r.slot (λ m. 1))) e counted))

  -- what is held stands for one thing
  pub exact_slots : (slots : List Shown) → IsExact (kept_in g bound jam slots)
  exact_slots slots (RegionItem r) m held = at (shown_at slots r.slot) refl
    where
      heavy : (f : Meaning → ℕ) → f m ≤ slot_weighs g r.slot (shown_at slots r.slot) (region_alone g r.slot f)
      heavy f = let h = held (region_alone g r.slot f) in let one = itself g r.slot (f m) in omega (arith, h, one, one_slot g bound jam slots r.slot (region_alone g r.slot f) (region_elsewhere g r.slot f))

      at : (s : Shown) → shown_at slots r.slot ≡ s → States (set_of (shown_meaning g (shown_at slots r.slot))) ≡ m
      at (Set p) e =
          ap (λ c. States (set_of (shown_meaning g c))) e
          ∙ same_meaning (States (set_at g Now p)) m (λ f. let h = subst (λ c. f m ≤ slot_weighs g r.slot c (region_alone g r.slot f)) e (heavy f) in let one = itself g r.slot (f (States (set_at g Now p))) in omega (arith, h, one))
      at Nothing e = absurd (no_less (subst (λ c. 1 ≤ slot_weighs g r.slot c (region_alone g r.slot (λ m. 1))) e (heavy (λ m. 1))))
      at (OutputsInto when p) e = absurd (no_less (subst (λ c. 1 ≤ slot_weighs g r.slot c (region_alone g r.slot (λ m. 1))) e (heavy (λ m. 1))))
      at (InputsInto when p leads) e = absurd (no_less (subst (λ c. 1 ≤ slot_weighs g r.slot c (region_alone g r.slot (λ m. 1))) e (heavy (λ m. 1))))
  exact_slots slots (Move r) m held = at (shown_at slots r.slot) refl
    where
      heavy : (f : Meaning → ℕ) → f m ≤ slot_weighs g r.slot (shown_at slots r.slot) (moves_alone g r.slot f)
      heavy f = let h = held (moves_alone g r.slot f) in let one = itself g r.slot (f m) in omega (arith, h, one, one_slot g bound jam slots r.slot (moves_alone g r.slot f) (moves_elsewhere g r.slot f))

      at : (s : Shown) → shown_at slots r.slot ≡ s → shown_meaning g (shown_at slots r.slot) ≡ m
      at (OutputsInto when p) e =
          ap (shown_meaning g) e
          ∙ same_meaning (shown_meaning g (OutputsInto when p)) m (λ f. let h = subst (λ c. f m ≤ slot_weighs g r.slot c (moves_alone g r.slot f)) e (heavy f) in let one = itself g r.slot (f (shown_meaning g (OutputsInto when p))) in omega (arith, h, one))
      at (InputsInto when p leads) e =
          ap (shown_meaning g) e
          ∙ same_meaning (shown_meaning g (InputsInto when p leads)) m (λ f. let h = subst (λ c. f m ≤ slot_weighs g r.slot c (moves_alone g r.slot f)) e (heavy f) in let one = itself g r.slot (f (shown_meaning g (InputsInto when p leads))) in omega (arith, h, one))
      at Nothing e = absurd (no_less (subst (λ c. 1 ≤ slot_weighs g r.slot c (moves_alone g r.slot (λ m. 1))) e (heavy (λ m. 1))))
      at (Set p) e = absurd (no_less (subst (λ c. 1 ≤ slot_weighs g r.slot c (moves_alone g r.slot (λ m. 1))) e (heavy (λ m. 1))))

  -- a held move's slot has its function
  pub move_content : (slots : List Shown) (m : BddMove) → IsHeld (kept_in g bound jam slots) (Move m) → (content : Shown) × (shown_at slots m.slot ≡ content) × IsMoves content
  move_content slots m held = at (shown_at slots m.slot) refl
    where
      elsewhere : (j : ℕ) (s : Shown) → (j ≡ m.slot → ⊥) → slot_weighs g j s (λ i n. moves_alone g m.slot (λ n. 1) i (States no_states)) ≡ 0
      elsewhere j Nothing other = refl
      elsewhere j (Set p) other = refl
      elsewhere j (OutputsInto when p) other = off g m.slot j 1 other
      elsewhere j (InputsInto when p leads) other = off g m.slot j 1 other

      counted : 1 ≤ slot_weighs g m.slot (shown_at slots m.slot) (λ i n. moves_alone g m.slot (λ n. 1) i (States no_states))
      counted = let h = held (λ i. moves_alone g m.slot (λ n. 1) i (States no_states)) in let one = itself g m.slot 1 in omega (arith, h, one, one_slot g bound jam slots m.slot (λ i n. moves_alone g m.slot (λ n. 1) i (States no_states)) elsewhere)

      at : (s : Shown) → shown_at slots m.slot ≡ s → (content : Shown) × (shown_at slots m.slot ≡ content) × IsMoves content
      at (OutputsInto when p) e = (OutputsInto when p, e, tt)
      at (InputsInto when p leads) e = (InputsInto when p leads, e, tt)
      at Nothing e = absurd (no_less (subst (λ c. 1 ≤ slot_weighs g m.slot c (λ i n. moves_alone g m.slot (λ n. 1) i (States no_states))) e counted))
      at (Set p) e = absurd (no_less (subst (λ c. 1 ≤ slot_weighs g m.slot c (λ i n. moves_alone g m.slot (λ n. 1) i (States no_states))) e counted))
