-- Seats that were met, and one more.
use Rattle.std.proofs.Common.{◌≡◌, ◌⊎◌, inl, inr, ℕ, zero, suc, ◌+◌, ◌<◌, ◌≤◌, ◌&&◌, ◌==◌, Bool, true, false, List, [], ◌∷◌, ◌++◌, length, slice_get, Some, refl, sym, ◌∙◌, ap, subst, arith}
use Rattle.std.proofs.lemmas.Bool.{and_parts, and_from, eqb-true, eq-eqb, false≢true}
use Rattle.std.proofs.lemmas.List.{length_push}
use Rattle.std.proofs.lemmas.Option.{slice_get_within}
use Rattle.spec_model.specs.declared.value.Value.{Value}
use Rattle.spec_model.specs.Values.{same_value}
use Rattle.strategy_tables.specs.Tables.{same_values}
use Rattle.strategy_tables.proofs.Finding.{same_values-true}
use Rattle.spec_model.proofs.Listed.{same_value-refl}
use Rattle.controller.specs.declared.spot.Spot.{Spot}
use Rattle.strategy_check.specs.Seats.{SeatData, is_seat, IsAbsent, AllDiffer, IsPlace, IsNumbered, CountsUp}

-- ---- the same seat

same_values-refl : (vs : List Value) → same_values vs vs ≡ true
same_values-refl [] = refl
same_values-refl (v ∷ vs) = and_from _ _ (same_value-refl v) (same_values-refl vs)

-- lists of unequal length differ
pub same_values-long : (vs ws : List Value) → (length vs ≡ length ws → ⊥) → same_values vs ws ≡ false
same_values-long [] [] other = absurd (other refl)
same_values-long [] (w ∷ ws) other = refl
same_values-long (v ∷ vs) [] other = refl
same_values-long (v ∷ vs) (w ∷ ws) other = after (same_value v w) (same_values-long vs ws (λ e. other (ap suc e)))
  where
    after : (b : Bool) {c : Bool} → c ≡ false → (b && c) ≡ false
    after true e = e
    after false e = refl

seat : List Value → (goal rank index : ℕ) → SeatData
seat values goal rank index = record { values = values; spot = record { goal = goal; rank = rank; index = index } }

pub seat_by_parts : (v w : SeatData) → v.values ≡ w.values → v.spot.goal ≡ w.spot.goal → v.spot.rank ≡ w.spot.rank → v.spot.index ≡ w.spot.index → v ≡ w
unfolding seat
seat_by_parts v w values goal rank index =
    ap (λ (vs : List Value). seat vs v.spot.goal v.spot.rank v.spot.index) values
    ∙ (ap (λ n. seat w.values n v.spot.rank v.spot.index) goal
    ∙ (ap (λ n. seat w.values w.spot.goal n v.spot.index) rank
    ∙ ap (λ n. seat w.values w.spot.goal w.spot.rank n) index))

pub is_seat-true : (v : SeatData) (values : List Value) (spot : Spot) → is_seat v values spot ≡ true → v ≡ record { values = values; spot = spot }
is_seat-true v values spot is =
    let a = and_parts (same_values v.values values && (v.spot.goal == spot.goal) && (v.spot.rank == spot.rank)) (v.spot.index == spot.index) is in
    let b = and_parts (same_values v.values values && (v.spot.goal == spot.goal)) (v.spot.rank == spot.rank) a.0 in
    let c = and_parts (same_values v.values values) (v.spot.goal == spot.goal) b.0 in
    seat_by_parts v (record { values = values; spot = spot }) (same_values-true v.values values c.0) (eqb-true v.spot.goal spot.goal c.1) (eqb-true v.spot.rank spot.rank b.1) (eqb-true v.spot.index spot.index a.1)

pub is_seat-refl : (v : SeatData) → is_seat v v.values v.spot ≡ true
is_seat-refl v = and_from _ _ (and_from _ _ (and_from _ _ (same_values-refl v.values) (eq-eqb v.spot.goal v.spot.goal refl)) (eq-eqb v.spot.rank v.spot.rank refl)) (eq-eqb v.spot.index v.spot.index refl)

-- ---- one more

pub behind_all : {X : Type 0} (xs : List X) (x : X) (n : ℕ) (v : X) → slice_get (xs ++ x ∷ []) n ≡ Some v → (slice_get xs n ≡ Some v) ⊎ ((n ≡ length xs) × (x ≡ v))
behind_all [] x zero v is = inr (refl, cc (is))
behind_all [] x (suc n) v is = absurd (cc)
behind_all (y ∷ xs) x zero v is = inl is
behind_all (y ∷ xs) x (suc n) v is =
    elim (behind_all xs x n v is) [
      | inl before ↦ inl before
      | inr last ↦ inr (ap suc last.0, last.1)
    ]

pub still_there : {X : Type 0} (xs ys : List X) (n : ℕ) (v : X) → slice_get xs n ≡ Some v → slice_get (xs ++ ys) n ≡ Some v
still_there [] ys n v is = absurd (cc)
still_there (x ∷ xs) ys zero v is = is
still_there (x ∷ xs) ys (suc n) v is = still_there xs ys n v is

pub last_there : {X : Type 0} (xs : List X) (x : X) → slice_get (xs ++ x ∷ []) (length xs) ≡ Some x
last_there [] x = refl
last_there (y ∷ xs) x = last_there xs x

pub one_differs : (seats : List SeatData) (v : SeatData) → AllDiffer seats → IsAbsent seats v → AllDiffer (seats ++ v ∷ [])
one_differs seats v differ absent i j u at_i at_j =
    by_places (behind_all seats v i u at_i) (behind_all seats v j u at_j)
  where
    by_places : (slice_get seats i ≡ Some u) ⊎ ((i ≡ length seats) × (v ≡ u)) → (slice_get seats j ≡ Some u) ⊎ ((j ≡ length seats) × (v ≡ u)) → i ≡ j
    by_places (inl here) (inl there) = differ i j u here there
    by_places (inl here) (inr last) = absurd (absent i (here ∙ ap Some (sym last.1)))
    by_places (inr last) (inl there) = absurd (absent j (there ∙ ap Some (sym last.1)))
    by_places (inr one) (inr other) = one.0 ∙ sym other.0

-- ---- what is known of a number

pub numbered_there : (old new : List SeatData) (v : SeatData) (n : ℕ) → IsNumbered old new v n → slice_get new n ≡ Some v
numbered_there old new v n (inl was) = subst (λ (seats : List SeatData). slice_get seats n ≡ Some v) (sym was.0) was.2
numbered_there old new v n (inr made) =
    subst (λ (seats : List SeatData). slice_get seats n ≡ Some v) (sym made.0)
    (subst (λ (n : ℕ). slice_get (old ++ v ∷ []) n ≡ Some v) (sym made.1) (last_there old v))

pub numbered_counts : (old new : List SeatData) (v : SeatData) (n : ℕ) → IsNumbered old new v n → CountsUp (length old) (n ∷ []) (length new)
numbered_counts old new v n (inl was) = inl (was.1, ap (λ (seats : List SeatData). length seats) (sym was.0))
numbered_counts old new v n (inr made) = inr (made.1, (let long = ap (λ (seats : List SeatData). length seats) made.0 in let one = length_push old v in omega (arith, long, one)))

pub counts_on : (a : ℕ) (xs : List ℕ) (b : ℕ) (ys : List ℕ) (c : ℕ) → CountsUp a xs b → CountsUp b ys c → CountsUp a (xs ++ ys) c
counts_on a [] b ys c first then = subst (λ (n : ℕ). CountsUp n ys c) (sym first) then
counts_on a (n ∷ xs) b ys c (inl known) then = inl (known.0, counts_on a xs b ys c known.1 then)
counts_on a (n ∷ xs) b ys c (inr next) then = inr (next.0, counts_on (suc a) xs b ys c next.1 then)

-- ---- places

-- it is at none of the first places
abbrev pub IsNotBefore : List SeatData → SeatData → ℕ → Type 0
IsNotBefore seats v n = (i : ℕ) → i < n → slice_get seats i ≡ Some v → ⊥

pub not_before_more : (seats : List SeatData) (values : List Value) (spot : Spot) (n : ℕ) (u : SeatData) → slice_get seats n ≡ Some u → is_seat u values spot ≡ false →
    IsNotBefore seats (record { values = values; spot = spot }) n → IsNotBefore seats (record { values = values; spot = spot }) (n + 1)
not_before_more seats values spot n u here other before i below there =
    elim (le_split i n (omega arith)) [
      | inl less ↦ before i less there
      | inr last ↦
          let v : SeatData = record { values = values; spot = spot } in
          let same : u ≡ v = some_same u v (sym here ∙ (ap (λ k. slice_get seats k) (sym last) ∙ there)) in
          false≢true (sym other ∙ (ap (λ (w : SeatData). is_seat w values spot) same ∙ is_seat-refl v))
    ]
  where
    le_split : (i n : ℕ) → i ≤ n → (i < n) ⊎ (i ≡ n)
    le_split zero zero below = inr refl
    le_split zero (suc n) below = inl (omega arith)
    le_split (suc i) zero below = absurd (omega arith)
    le_split (suc i) (suc n) below =
        elim (le_split i n (omega arith)) [
          | inl less ↦ inl (omega arith)
          | inr last ↦ inr (ap suc last)
        ]

    some_same : (u v : SeatData) → Some u ≡ Some v → u ≡ v
    some_same u v is = cc (is)

-- the place at which it was found
pub place_here : (seats : List SeatData) (values : List Value) (spot : Spot) (n : ℕ) (u : SeatData) → n < length seats → slice_get seats n ≡ Some u → is_seat u values spot ≡ true → IsPlace seats (record { values = values; spot = spot }) n
place_here seats values spot n u below here is =
    record {
      within = omega arith;
      here = λ _. here ∙ ap Some (is_seat-true u values spot is);
      absent = λ past. absurd (omega arith);
    }

-- it was found at none
pub place_past : (seats : List SeatData) (v : SeatData) (n : ℕ) → n ≡ length seats → IsNotBefore seats v n → IsPlace seats v n
place_past seats v n all before =
    record {
      within = omega arith;
      here = λ below. absurd (omega arith);
      absent = λ past i there. let inside = slice_get_within seats i v there in before i (omega (arith, inside)) there;
    }
