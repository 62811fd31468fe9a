-- What slots hold, weighed slot by slot.
use Rattle.std.proofs.Common.{◌≡◌, ℕ, zero, suc, ◌+◌, ◌-◌, ◌<◌, ◌≤◌, Bool, true, false, if◌then◌else◌, List, [], ◌∷◌, ◌++◌, length, Some, slice_get, slice_set, refl, sym, ◌∙◌, ap, subst, arith, ◌==◌, zero-add, inl, inr}
use borrow.Author.Tests.{eqb-true, eq-eqb}
use Rattle.spec_model.specs.Games.{GameData}
use Rattle.spec_model.specs.Sets.{StateSet, no_states}
use Rattle.regions.specs.Kept.{Item, Region as RegionItem, Move, Meaning, States, Outputs as OutputMoves, Inputs as InputMoves, weigh, weight, meaning_of, IsHeld, IsExact}
use Rattle.regions.specs.declared.types.When.TheVariants.{First, Later}
use Rattle.region_rows.specs.declared.row.Row.{Row}
use Rattle.region_rows.specs.declared.slots.Slot.{Slot}
use Rattle.region_rows.specs.declared.slots.Slot.TheVariants.{Free, Region, Outputs, Inputs}
use Rattle.region_rows.specs.declared.slots.RowRegion.{RowRegion}
use Rattle.region_rows.specs.declared.slots.RowMove.{RowMove}
use Rattle.region_rows.specs.Slots.{marked, content_meaning, set_of, content_at, items_from, kept_in, TakesSlot, FreesSlot}

abbrev pub Weights : Type 0
Weights = Item RowRegion RowMove → Meaning → ℕ

module _ (g : GameData) where
  -- what the content of slot n weighs
  abbrev pub slot_weighs : ℕ → Slot → Weights → ℕ
  slot_weighs n (Free next) w = 0
  slot_weighs n (Region row) w = w (RegionItem (record { slot = n })) (content_meaning g (Region row))
  slot_weighs n (Outputs when row) w = w (Move (record { slot = n })) (content_meaning g (Outputs when row))
  slot_weighs n (Inputs when row) w = w (Move (record { slot = n })) (content_meaning g (Inputs when row))

  -- what the slots weigh, numbered from n
  abbrev pub slots_weigh : ℕ → List Slot → Weights → ℕ
  slots_weigh n [] w = 0
  slots_weigh n (slot ∷ slots) w = slot_weighs n slot w + slots_weigh (suc n) slots w

  -- what is held weighs what the slots do: the meaning of an item is read in the whole list
  from_slots : (whole : List Slot) (n : ℕ) (slots : List Slot) → ((i : ℕ) → i < length slots → content_at whole (n + i) ≡ content_at slots i) → (w : Weights) →
      weigh (λ i. w i (meaning_of (kept_in g whole) i)) (items_from n slots) ≡ slots_weigh n slots w
  from_slots whole n [] reads w = refl
  from_slots whole n (slot ∷ slots) reads w =
      let here : content_at whole n ≡ slot = (let e : n ≡ n + 0 = omega arith in ap (content_at whole) e ∙ reads 0 (omega arith)) in
      at slot here (from_slots whole (suc n) slots (λ i below. let e : suc n + i ≡ n + suc i = omega arith in ap (content_at whole) e ∙ reads (suc i) (omega arith)) w)
    where
      at : (slot : Slot) → content_at whole n ≡ slot → weigh (λ i. w i (meaning_of (kept_in g whole) i)) (items_from (suc n) slots) ≡ slots_weigh (suc n) slots w →
          weigh (λ i. w i (meaning_of (kept_in g whole) i)) (items_from n (slot ∷ slots)) ≡ slots_weigh n (slot ∷ slots) w
      at (Free next) here more = more ∙ sym (zero-add (slots_weigh (suc n) slots w))
      at (Region row) here more = ap (λ c. w (RegionItem (record { slot = n })) (States (set_of (content_meaning g c))) + weigh (λ i. w i (meaning_of (kept_in g whole) i)) (items_from (suc n) slots)) here ∙ ap (λ k. w (RegionItem (record { slot = n })) (content_meaning g (Region row)) + k) more
      at (Outputs when row) here more = ap (λ c. w (Move (record { slot = n })) (content_meaning g c) + weigh (λ i. w i (meaning_of (kept_in g whole) i)) (items_from (suc n) slots)) here ∙ ap (λ k. w (Move (record { slot = n })) (content_meaning g (Outputs when row)) + k) more
      at (Inputs when row) here more = ap (λ c. w (Move (record { slot = n })) (content_meaning g c) + weigh (λ i. w i (meaning_of (kept_in g whole) i)) (items_from (suc n) slots)) here ∙ ap (λ k. w (Move (record { slot = n })) (content_meaning g (Inputs when row)) + k) more

  pub weight_is : (slots : List Slot) (w : Weights) → weight (kept_in g slots) w ≡ slots_weigh 0 slots w
  unfolding weight
  weight_is slots w = from_slots slots 0 slots (λ i below. let e : 0 + i ≡ i = omega arith in ap (content_at slots) e) w

  slots-push : (n : ℕ) (slots : List Slot) (slot : Slot) (w : Weights) → slots_weigh n (slots ++ slot ∷ []) w ≡ slots_weigh n slots w + slot_weighs (n + length slots) slot w
  slots-push n [] slot w = let e : n + 0 ≡ n = omega arith in subst (λ k. slot_weighs n slot w + 0 ≡ 0 + slot_weighs k slot w) (sym e) (omega arith)
  slots-push n (s ∷ slots) slot w =
      let e : suc n + length slots ≡ n + suc (length slots) = omega arith in
      let more = slots-push (suc n) slots slot w in
      let more' : slots_weigh (suc n) (slots ++ slot ∷ []) w ≡ slots_weigh (suc n) slots w + slot_weighs (n + suc (length slots)) slot w = subst (λ k. slots_weigh (suc n) (slots ++ slot ∷ []) w ≡ slots_weigh (suc n) slots w + slot_weighs k slot w) e more in
      omega (arith, more')

  slots-set : (n : ℕ) (slots : List Slot) (i : ℕ) (slot : Slot) → i < length slots → (w : Weights) → slots_weigh n (slice_set slots i slot) w + slot_weighs (n + i) (content_at slots i) w ≡ slots_weigh n slots w + slot_weighs (n + i) slot w
  slots-set n [] i slot below w = absurd (omega arith)
  slots-set n (s ∷ slots) zero slot below w = let e : n + 0 ≡ n = omega arith in subst (λ k. (slot_weighs n slot w + slots_weigh (suc n) slots w) + slot_weighs k s w ≡ (slot_weighs n s w + slots_weigh (suc n) slots w) + slot_weighs k slot w) (sym e) (omega arith)
  slots-set n (s ∷ slots) (suc i) slot below w =
      let e : suc n + i ≡ n + suc i = omega arith in
      let more = slots-set (suc n) slots i slot (omega arith) w in
      let more' : slots_weigh (suc n) (slice_set slots i slot) w + slot_weighs (n + suc i) (content_at slots i) w ≡ slots_weigh (suc n) slots w + slot_weighs (n + suc i) slot w = subst (λ k. slots_weigh (suc n) (slice_set slots i slot) w + slot_weighs k (content_at slots i) w ≡ slots_weigh (suc n) slots w + slot_weighs k slot w) e more in
      omega (arith, more')

  content_here : (slots : List Slot) (i : ℕ) (slot : Slot) → slice_get slots i ≡ Some slot → (content_at slots i ≡ slot) × (i < length slots)
  content_here [] i slot e = cc (e)
  content_here (s ∷ slots) zero slot e = (cc (e), omega arith)
  content_here (s ∷ slots) (suc i) slot e = let more = content_here slots i slot e in (more.0, (let less = more.1 in omega (arith, less)))

  -- a content that is kept weighs what it does in its slot
  pub takes : (old new : List Slot) (i : ℕ) (content : Slot) → TakesSlot old new i content → (w : Weights) → weight (kept_in g new) w ≡ slot_weighs i content w + weight (kept_in g old) w
  takes old new i content (inl free) w =
      let here = content_here old i (Free free.0) free.1 in
      let zero_is : 0 + i ≡ i = zero-add i in
      let set = slots-set 0 old i content here.1 w in
      let set' : slots_weigh 0 (slice_set old i content) w + slot_weighs i (content_at old i) w ≡ slots_weigh 0 old w + slot_weighs i content w = subst (λ k. slots_weigh 0 (slice_set old i content) w + slot_weighs k (content_at old i) w ≡ slots_weigh 0 old w + slot_weighs k content w) zero_is set in
      let nothing : slot_weighs i (content_at old i) w ≡ 0 = ap (λ s. slot_weighs i s w) here.0 in
      let new_is : slots_weigh 0 new w ≡ slots_weigh 0 (slice_set old i content) w = ap (λ s. slots_weigh 0 s w) free.2 in
      omega (arith, weight_is new w, weight_is old w, set', nothing, new_is)
  takes old new i content (inr last) w =
      let push = slots-push 0 old content w in
      let place : 0 + length old ≡ i = zero-add (length old) ∙ sym last.0 in
      let push' : slots_weigh 0 (old ++ content ∷ []) w ≡ slots_weigh 0 old w + slot_weighs i content w = subst (λ k. slots_weigh 0 (old ++ content ∷ []) w ≡ slots_weigh 0 old w + slot_weighs k content w) place push in
      let new_is : slots_weigh 0 new w ≡ slots_weigh 0 (old ++ content ∷ []) w = ap (λ s. slots_weigh 0 s w) last.1 in
      omega (arith, weight_is new w, weight_is old w, push', new_is)

  -- a slot that is freed weighed what its content does
  pub frees : (old new : List Slot) (i : ℕ) → i < length old → FreesSlot old new i → (w : Weights) → weight (kept_in g new) w + slot_weighs i (content_at old i) w ≡ weight (kept_in g old) w
  frees old new i below free w =
      let zero_is : 0 + i ≡ i = zero-add i in
      let set = slots-set 0 old i (Free free.0) below w in
      let set' : slots_weigh 0 (slice_set old i (Free free.0)) w + slot_weighs i (content_at old i) w ≡ slots_weigh 0 old w + 0 = subst (λ k. slots_weigh 0 (slice_set old i (Free free.0)) w + slot_weighs k (content_at old i) w ≡ slots_weigh 0 old w + 0) zero_is set in
      let new_is : slots_weigh 0 new w ≡ slots_weigh 0 (slice_set old i (Free free.0)) w = ap (λ s. slots_weigh 0 s w) free.1 in
      omega (arith, weight_is new w, weight_is old w, set', new_is)

  -- ---- one slot alone

  slots-none : (n : ℕ) (slots : List Slot) (w : Weights) → ((k : ℕ) (s : Slot) → n ≤ k → slot_weighs k s w ≡ 0) → slots_weigh n slots w ≡ 0
  slots-none n [] w nothing = refl
  slots-none n (s ∷ slots) w nothing = let here = nothing n s (omega arith) in let more = slots-none (suc n) slots w (λ k s above. nothing k s (omega arith)) in omega (arith, here, more)

  -- by weights that count one slot alone, all weighs what its content does
  slots-one : (n j : ℕ) (slots : List Slot) (w : Weights) → ((k : ℕ) (s : Slot) → (k ≡ n + j → ⊥) → slot_weighs k s w ≡ 0) → slots_weigh n slots w ≡ slot_weighs (n + j) (content_at slots j) w
  slots-one n j [] w elsewhere = refl
  slots-one n zero (s ∷ slots) w elsewhere =
      let more = slots-none (suc n) slots w (λ k s above. elsewhere k s (λ e. absurd (omega (arith, e)))) in
      let e : n + 0 ≡ n = omega arith in
      subst (λ k. slot_weighs n s w + slots_weigh (suc n) slots w ≡ slot_weighs k s w) (sym e) (omega (arith, more))
  slots-one n (suc j) (s ∷ slots) w elsewhere =
      let e : suc n + j ≡ n + suc j = omega arith in
      let more = slots-one (suc n) j slots w (λ k s other. elsewhere k s (λ is. other (omega (arith, is)))) in
      let more' : slots_weigh (suc n) slots w ≡ slot_weighs (n + suc j) (content_at slots j) w = subst (λ k. slots_weigh (suc n) slots w ≡ slot_weighs k (content_at slots j) w) e more in
      let here = elsewhere n s (λ is. absurd (omega (arith, is))) in
      omega (arith, more', here)

  -- weights that count the region in a slot, or the moves in it
  abbrev region_alone : ℕ → (Meaning → ℕ) → Weights
  region_alone k f (RegionItem r) m = if r.slot == k then f m else 0
  region_alone k f (Move r) m = 0

  abbrev moves_alone : ℕ → (Meaning → ℕ) → Weights
  moves_alone k f (RegionItem r) m = 0
  moves_alone k f (Move r) m = if r.slot == k then f m else 0

  off : (k j : ℕ) (n : ℕ) → (j ≡ k → ⊥) → (if j == k then n else 0) ≡ 0
  off k j n other = at (j == k) refl
    where
      at : (b : Bool) → (j == k) ≡ b → (if b then n else 0) ≡ 0
      at true e = absurd (other (eqb-true j k e))
      at false e = refl

  region_elsewhere : (k : ℕ) (f : Meaning → ℕ) (j : ℕ) (s : Slot) → (j ≡ k → ⊥) → slot_weighs j s (region_alone k f) ≡ 0
  region_elsewhere k f j (Free next) other = refl
  region_elsewhere k f j (Region row) other = off k j (f (content_meaning g (Region row))) other
  region_elsewhere k f j (Outputs when row) other = refl
  region_elsewhere k f j (Inputs when row) other = refl

  moves_elsewhere : (k : ℕ) (f : Meaning → ℕ) (j : ℕ) (s : Slot) → (j ≡ k → ⊥) → slot_weighs j s (moves_alone k f) ≡ 0
  moves_elsewhere k f j (Free next) other = refl
  moves_elsewhere k f j (Region row) other = refl
  moves_elsewhere k f j (Outputs when row) other = off k j (f (content_meaning g (Outputs when row))) other
  moves_elsewhere k f j (Inputs when row) other = off k j (f (content_meaning g (Inputs when row))) other

  one_slot : (slots : List Slot) (k : ℕ) (w : Weights) → ((j : ℕ) (s : Slot) → (j ≡ k → ⊥) → slot_weighs j s w ≡ 0) → weight (kept_in g slots) w ≡ slot_weighs k (content_at slots k) w
  one_slot slots k w elsewhere =
      let e : 0 + k ≡ k = zero-add k in
      weight_is slots w ∙ (slots-one 0 k slots w (λ j s other. elsewhere j s (λ is. other (is ∙ sym e))) ∙ ap (λ j. slot_weighs j (content_at slots k) w) e)

  itself : (k n : ℕ) → (if k == k then n else 0) ≡ n
  itself k n = ap (λ b. if b then n else 0) (eq-eqb k k refl)

abbrev pub IsMoves : Slot → Type 0
IsMoves (Outputs when row) = Unit {0}
IsMoves (Inputs when row) = Unit {0}
IsMoves _ = ⊥

-- ---- meanings that no weight tells apart

compare : (p q : Bool) → (if q then 1 else 0) ≤ (if p then 1 else 0) → (if q then 0 else 1) ≤ (if p then 0 else 1) → p ≡ q
compare true true h k = refl
compare false false h k = refl
compare true false h k = absurd (omega (arith, h, k))
compare false true h k = absurd (omega (arith, h, k))

-- a meaning is its kind and its set
abbrev states_in : Meaning → StateSet
states_in (States s) = s
states_in (OutputMoves when s) = s
states_in (InputMoves when s) = s

abbrev kind_of : Meaning → ℕ
kind_of (States s) = 0
kind_of (OutputMoves First s) = 1
kind_of (OutputMoves Later s) = 2
kind_of (InputMoves First s) = 3
kind_of (InputMoves Later s) = 4

abbrev meaning_with : ℕ → StateSet → Meaning
meaning_with zero s = States s
meaning_with (suc zero) s = OutputMoves First s
meaning_with (suc (suc zero)) s = OutputMoves Later s
meaning_with (suc (suc (suc zero))) s = InputMoves First s
meaning_with (suc (suc (suc (suc n)))) s = InputMoves Later s

with_both : (m : Meaning) → meaning_with (kind_of m) (states_in m) ≡ m
with_both (States s) = refl
with_both (OutputMoves First s) = refl
with_both (OutputMoves Later s) = refl
with_both (InputMoves First s) = refl
with_both (InputMoves Later s) = refl

no_less : 1 ≤ 0 → ⊥
no_less h = absurd (omega (arith, h))

same_kind : (a m : Meaning) → ((f : Meaning → ℕ) → f m ≤ f a) → kind_of a ≡ kind_of m
same_kind a m heavy =
    let least = heavy kind_of in
    let most = heavy (λ n. 4 - kind_of n) in
    let small = kind_below a in
    let small' = kind_below m in
    omega (arith, least, most, small, small')
  where
    kind_below : (m : Meaning) → kind_of m ≤ 4
    kind_below (States s) = omega arith
    kind_below (OutputMoves First s) = omega arith
    kind_below (OutputMoves Later s) = omega arith
    kind_below (InputMoves First s) = omega arith
    kind_below (InputMoves Later s) = omega arith

pub same_meaning : (a m : Meaning) → ((f : Meaning → ℕ) → f m ≤ f a) → a ≡ m
same_meaning a m heavy =
    let sets : states_in a ≡ states_in m = λ i s. compare (states_in a s) (states_in m s) (heavy (λ n. if states_in n s then 1 else 0)) (heavy (λ n. if states_in n s then 0 else 1)) i in
    sym (with_both a) ∙ (ap (λ k. meaning_with k (states_in a)) (same_kind a m heavy) ∙ (ap (meaning_with (kind_of m)) sets ∙ with_both m))

module _ (g : GameData) where
  -- a held region's slot has its row
  pub region_content : (slots : List Slot) (r : RowRegion) → IsHeld (kept_in g slots) (RegionItem r) → (row : Row) × (content_at slots r.slot ≡ Region row)
  region_content slots r held = at (content_at slots r.slot) refl
    where
      counted : 1 ≤ slot_weighs g r.slot (content_at slots r.slot) (region_alone g r.slot (λ m. 1))
      counted = let h = held (λ i. region_alone g r.slot (λ m. 1) i (States no_states)) in let one = itself g r.slot 1 in omega (arith, h, one, one_slot g slots r.slot (λ i m. region_alone g r.slot (λ m. 1) i (States no_states)) (λ j s other. elsewhere j s other), same_here (content_at slots r.slot))
        where
          elsewhere : (j : ℕ) (s : Slot) → (j ≡ r.slot → ⊥) → slot_weighs g j s (λ i m. region_alone g r.slot (λ m. 1) i (States no_states)) ≡ 0
          elsewhere j (Free next) other = refl
          elsewhere j (Region row) other = off g r.slot j 1 other
          elsewhere j (Outputs when row) other = refl
          elsewhere j (Inputs when row) other = refl

          same_here : (s : Slot) → slot_weighs g r.slot s (λ i m. region_alone g r.slot (λ m. 1) i (States no_states)) ≡ slot_weighs g r.slot s (region_alone g r.slot (λ m. 1))
          same_here (Free next) = refl
          same_here (Region row) = refl
          same_here (Outputs when row) = refl
          same_here (Inputs when row) = refl

      at : (s : Slot) → content_at slots r.slot ≡ s → (row : Row) × (content_at slots r.slot ≡ Region row)
      at (Region row) e = (row, e)
      at (Free next) e = absurd (no_less (subst (λ c. 1 ≤ slot_weighs g r.slot c (region_alone g r.slot (λ m. 1))) e counted))
      at (Outputs when row) e = absurd (no_less (subst (λ c. 1 ≤ slot_weighs g r.slot c (region_alone g r.slot (λ m. 1))) e counted))
      at (Inputs when row) e = absurd (no_less (subst (λ c. 1 ≤ slot_weighs g r.slot c (region_alone g r.slot (λ m. 1))) e counted))

  -- what is held stands for one thing
  pub exact_slots : (slots : List Slot) → IsExact (kept_in g slots)
  exact_slots slots (RegionItem r) m held = at (content_at slots r.slot) refl
    where
      heavy : (f : Meaning → ℕ) → f m ≤ slot_weighs g r.slot (content_at slots r.slot) (region_alone g r.slot f)
      heavy f = let h = held (region_alone g r.slot f) in let one = itself g r.slot (f m) in omega (arith, h, one, one_slot g slots r.slot (region_alone g r.slot f) (region_elsewhere g r.slot f))

      at : (s : Slot) → content_at slots r.slot ≡ s → States (set_of (content_meaning g (content_at slots r.slot))) ≡ m
      at (Region row) e =
          ap (λ c. States (set_of (content_meaning g c))) e
          ∙ same_meaning (States (marked g row)) m (λ f. let h = subst (λ c. f m ≤ slot_weighs g r.slot c (region_alone g r.slot f)) e (heavy f) in let one = itself g r.slot (f (States (marked g row))) in omega (arith, h, one))
      at (Free next) e = absurd (no_less (subst (λ c. 1 ≤ slot_weighs g r.slot c (region_alone g r.slot (λ m. 1))) e (heavy (λ m. 1))))
      at (Outputs when row) e = absurd (no_less (subst (λ c. 1 ≤ slot_weighs g r.slot c (region_alone g r.slot (λ m. 1))) e (heavy (λ m. 1))))
      at (Inputs when row) e = absurd (no_less (subst (λ c. 1 ≤ slot_weighs g r.slot c (region_alone g r.slot (λ m. 1))) e (heavy (λ m. 1))))
  exact_slots slots (Move r) m held = at (content_at slots r.slot) refl
    where
      heavy : (f : Meaning → ℕ) → f m ≤ slot_weighs g r.slot (content_at slots r.slot) (moves_alone g r.slot f)
      heavy f = let h = held (moves_alone g r.slot f) in let one = itself g r.slot (f m) in omega (arith, h, one, one_slot g slots r.slot (moves_alone g r.slot f) (moves_elsewhere g r.slot f))

      at : (s : Slot) → content_at slots r.slot ≡ s → content_meaning g (content_at slots r.slot) ≡ m
      at (Outputs when row) e =
          ap (content_meaning g) e
          ∙ same_meaning (content_meaning g (Outputs when row)) m (λ f. let h = subst (λ c. f m ≤ slot_weighs g r.slot c (moves_alone g r.slot f)) e (heavy f) in let one = itself g r.slot (f (content_meaning g (Outputs when row))) in omega (arith, h, one))
      at (Inputs when row) e =
          ap (content_meaning g) e
          ∙ same_meaning (content_meaning g (Inputs when row)) m (λ f. let h = subst (λ c. f m ≤ slot_weighs g r.slot c (moves_alone g r.slot f)) e (heavy f) in let one = itself g r.slot (f (content_meaning g (Inputs when row))) in omega (arith, h, one))
      at (Free next) e = absurd (no_less (subst (λ c. 1 ≤ slot_weighs g r.slot c (moves_alone g r.slot (λ m. 1))) e (heavy (λ m. 1))))
      at (Region row) e = absurd (no_less (subst (λ c. 1 ≤ slot_weighs g r.slot c (moves_alone g r.slot (λ m. 1))) e (heavy (λ m. 1))))

  -- a held move's slot has its row
  pub move_content : (slots : List Slot) (m : RowMove) → IsHeld (kept_in g slots) (Move m) → (content : Slot) × (content_at slots m.slot ≡ content) × IsMoves content
  move_content slots m held = at (content_at slots m.slot) refl
    where
      elsewhere : (j : ℕ) (s : Slot) → (j ≡ m.slot → ⊥) → slot_weighs g j s (λ i n. moves_alone g m.slot (λ n. 1) i (States no_states)) ≡ 0
      elsewhere j (Free next) other = refl
      elsewhere j (Region row) other = refl
      elsewhere j (Outputs when row) other = off g m.slot j 1 other
      elsewhere j (Inputs when row) other = off g m.slot j 1 other

      counted : 1 ≤ slot_weighs g m.slot (content_at slots m.slot) (λ i n. moves_alone g m.slot (λ n. 1) i (States no_states))
      counted = let h = held (λ i. moves_alone g m.slot (λ n. 1) i (States no_states)) in let one = itself g m.slot 1 in omega (arith, h, one, one_slot g slots m.slot (λ i n. moves_alone g m.slot (λ n. 1) i (States no_states)) elsewhere)

      at : (s : Slot) → content_at slots m.slot ≡ s → (content : Slot) × (content_at slots m.slot ≡ content) × IsMoves content
      at (Outputs when row) e = (Outputs when row, e, tt)
      at (Inputs when row) e = (Inputs when row, e, tt)
      at (Free next) e = absurd (no_less (subst (λ c. 1 ≤ slot_weighs g m.slot c (λ i n. moves_alone g m.slot (λ n. 1) i (States no_states))) e counted))
      at (Region row) e = absurd (no_less (subst (λ c. 1 ≤ slot_weighs g m.slot c (λ i n. moves_alone g m.slot (λ n. 1) i (States no_states))) e counted))
