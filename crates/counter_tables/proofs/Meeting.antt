-- Seats that were met, and one more.
use Rattle.std.proofs.Common.{◌≡◌, ◌⊎◌, inl, inr, ℕ, zero, suc, ◌+◌, ◌<◌, ◌≤◌, ◌&&◌, ◌==◌, Bool, true, false, List, [], ◌∷◌, ◌++◌, length, slice_get, Some, refl, sym, ◌∙◌, ap, subst, arith}
use Rattle.std.proofs.lemmas.Bool.{and_parts, and_from, eqb-true, eq-eqb, false≢true}
use Rattle.std.proofs.lemmas.List.{length_push}
use Rattle.std.proofs.lemmas.Option.{slice_get_within}
use Rattle.spec_model.specs.declared.value.Value.{Value}
use Rattle.spec_model.specs.Values.{Assignment, same_value}
use Rattle.strategy_tables.specs.Tables.{same_values}
use Rattle.strategy_tables.proofs.Finding.{same_values-true}
use Rattle.spec_model.proofs.Listed.{same_value-refl}
use Rattle.counterstrategy.specs.declared.spot.EnvSpot.{EnvSpot}
use Rattle.counter_tables.specs.Seats.{SeatData, is_seat, IsSeatOf, IsAbsent, IsPlace, AllDiffer, IsNumbered, CountsUp}

-- ---- the same seat

if_false : (b : Bool) {c : Bool} → c ≡ false → (b && c) ≡ false
if_false true e = e
if_false false e = refl

-- lists of unequal length differ
pub same_values-long : (vs ws : List Value) → (length vs ≡ length ws → ⊥) → same_values vs ws ≡ false
same_values-long [] [] other = absurd (other refl)
same_values-long [] (w ∷ ws) other = refl
same_values-long (v ∷ vs) [] other = refl
same_values-long (v ∷ vs) (w ∷ ws) other = if_false (same_value v w) (same_values-long vs ws (λ e. other (ap suc e)))

same_values-refl : (vs : List Value) → same_values vs vs ≡ true
same_values-refl [] = refl
same_values-refl (v ∷ vs) = and_from _ _ (same_value-refl v) (same_values-refl vs)

spot_of : (layer goal asm rank : ℕ) → EnvSpot
spot_of layer goal asm rank = record { layer = layer; goal = goal; asm = asm; rank = rank }

pub spot_by_parts : (p q : EnvSpot) → p.layer ≡ q.layer → p.goal ≡ q.goal → p.asm ≡ q.asm → p.rank ≡ q.rank → p ≡ q
unfolding spot_of
spot_by_parts p q layer goal asm rank =
    ap (λ n. spot_of n p.goal p.asm p.rank) layer
    ∙ (ap (λ n. spot_of q.layer n p.asm p.rank) goal
    ∙ (ap (λ n. spot_of q.layer q.goal n p.rank) asm
    ∙ ap (λ n. spot_of q.layer q.goal q.asm n) rank))

pub is_seat-true : (v : SeatData) (values : List Value) (spot : EnvSpot) → is_seat v values spot ≡ true → IsSeatOf v values spot
is_seat-true v values spot is =
    let a = and_parts (same_values v.values values) _ is in
    let b = and_parts (v.spot.layer == spot.layer) _ a.1 in
    let c = and_parts (v.spot.goal == spot.goal) _ b.1 in
    let d = and_parts (v.spot.asm == spot.asm) _ c.1 in
    record {
      values_are = same_values-true v.values values a.0;
      spot_is = spot_by_parts v.spot spot (eqb-true v.spot.layer spot.layer b.0) (eqb-true v.spot.goal spot.goal c.0) (eqb-true v.spot.asm spot.asm d.0) (eqb-true v.spot.rank spot.rank d.1);
    }

pub is_seat-at : (v : SeatData) (values : List Value) (spot : EnvSpot) → IsSeatOf v values spot → is_seat v values spot ≡ true
is_seat-at v values spot at =
    let same = subst (λ (vs : List Value). same_values v.values vs ≡ true) at.values_are (same_values-refl v.values) in
    let layer = eq-eqb v.spot.layer spot.layer (ap (λ (q : EnvSpot). q.layer) at.spot_is) in
    let goal = eq-eqb v.spot.goal spot.goal (ap (λ (q : EnvSpot). q.goal) at.spot_is) in
    let asm = eq-eqb v.spot.asm spot.asm (ap (λ (q : EnvSpot). q.asm) at.spot_is) in
    let rank = eq-eqb v.spot.rank spot.rank (ap (λ (q : EnvSpot). q.rank) at.spot_is) in
    and_from _ _ same (and_from _ _ layer (and_from _ _ goal (and_from _ _ asm rank)))

seat : List Value → EnvSpot → Assignment → SeatData
seat values spot reply = record { values = values; spot = spot; reply = reply }

pub seat_by_parts : (v w : SeatData) → v.values ≡ w.values → v.spot ≡ w.spot → v.reply ≡ w.reply → v ≡ w
unfolding seat
seat_by_parts v w values spot reply =
    ap (λ (vs : List Value). seat vs v.spot v.reply) values ∙ (ap (λ (q : EnvSpot). seat w.values q v.reply) spot ∙ ap (λ (x : Assignment). seat w.values w.spot x) reply)

-- ---- one more

pub behind_all : {X : Type 0} (xs : List X) (x : X) (n : ℕ) (v : X) → slice_get (xs ++ x ∷ []) n ≡ Some v → (slice_get xs n ≡ Some v) ⊎ ((n ≡ length xs) × (x ≡ v))
behind_all [] x zero v is = inr (refl, cc (is))
behind_all [] x (suc n) v is = absurd (cc)
behind_all (y ∷ xs) x zero v is = inl is
behind_all (y ∷ xs) x (suc n) v is =
    elim (behind_all xs x n v is) [
      | inl before ↦ inl before
      | inr last ↦ inr (ap suc last.0, last.1)
    ]

pub still_there : {X : Type 0} (xs ys : List X) (n : ℕ) (v : X) → slice_get xs n ≡ Some v → slice_get (xs ++ ys) n ≡ Some v
still_there [] ys n v is = absurd (cc)
still_there (x ∷ xs) ys zero v is = is
still_there (x ∷ xs) ys (suc n) v is = still_there xs ys n v is

pub last_there : {X : Type 0} (xs : List X) (x : X) → slice_get (xs ++ x ∷ []) (length xs) ≡ Some x
last_there [] x = refl
last_there (y ∷ xs) x = last_there xs x

pub one_differs : (seats : List SeatData) (v : SeatData) → AllDiffer seats → IsAbsent seats v.values v.spot → AllDiffer (seats ++ v ∷ [])
one_differs seats v differ absent i j u w at_i at_j same =
    by_places (behind_all seats v i u at_i) (behind_all seats v j w at_j)
  where
    by_places : (slice_get seats i ≡ Some u) ⊎ ((i ≡ length seats) × (v ≡ u)) → (slice_get seats j ≡ Some w) ⊎ ((j ≡ length seats) × (v ≡ w)) → i ≡ j
    by_places (inl here) (inl there) = differ i j u w here there same
    by_places (inl here) (inr last) =
        absurd (absent i u here (record { values_are = same.values_are ∙ ap (λ (q : SeatData). q.values) (sym last.1); spot_is = same.spot_is ∙ ap (λ (q : SeatData). q.spot) (sym last.1) }))
    by_places (inr last) (inl there) =
        absurd (absent j w there (record { values_are = sym same.values_are ∙ ap (λ (q : SeatData). q.values) (sym last.1); spot_is = sym same.spot_is ∙ ap (λ (q : SeatData). q.spot) (sym last.1) }))
    by_places (inr one) (inr other) = one.0 ∙ sym other.0

-- ---- what is known of a number

-- the seat itself was met, with its reply, or it is added
abbrev pub IsCounted : (old new : List SeatData) → SeatData → ℕ → Type 0
IsCounted old new v n = ((new ≡ old) × (slice_get old n ≡ Some v)) ⊎ ((new ≡ old ++ v ∷ []) × (n ≡ length old) × IsAbsent old v.values v.spot)

-- where what agrees with it is the seat itself
pub counted : (old new : List SeatData) (v : SeatData) (n : ℕ) → ((u : SeatData) → slice_get old n ≡ Some u → IsSeatOf u v.values v.spot → u ≡ v) → IsNumbered old new v n → IsCounted old new v n
counted old new v n one (inl was) = inl (was.0, was.2 ∙ ap Some (one was.1 was.2 was.3))
counted old new v n one (inr made) = inr made

pub counted_there : (old new : List SeatData) (v : SeatData) (n : ℕ) → IsCounted old new v n → slice_get new n ≡ Some v
counted_there old new v n (inl was) = subst (λ (seats : List SeatData). slice_get seats n ≡ Some v) (sym was.0) was.1
counted_there old new v n (inr made) =
    subst (λ (seats : List SeatData). slice_get seats n ≡ Some v) (sym made.0)
    (subst (λ (n : ℕ). slice_get (old ++ v ∷ []) n ≡ Some v) (sym made.1) (last_there old v))

pub counted_counts : (old new : List SeatData) (v : SeatData) (n : ℕ) → IsCounted old new v n → CountsUp (length old) (n ∷ []) (length new)
counted_counts old new v n (inl was) = inl (slice_get_within old n v was.1, ap (λ (seats : List SeatData). length seats) (sym was.0))
counted_counts old new v n (inr made) = inr (made.1, (let long = ap (λ (seats : List SeatData). length seats) made.0 in let one = length_push old v in omega (arith, long, one)))

pub counts_on : (a : ℕ) (xs : List ℕ) (b : ℕ) (ys : List ℕ) (c : ℕ) → CountsUp a xs b → CountsUp b ys c → CountsUp a (xs ++ ys) c
counts_on a [] b ys c first then = subst (λ (n : ℕ). CountsUp n ys c) (sym first) then
counts_on a (n ∷ xs) b ys c (inl known) then = inl (known.0, counts_on a xs b ys c known.1 then)
counts_on a (n ∷ xs) b ys c (inr next) then = inr (next.0, counts_on (suc a) xs b ys c next.1 then)

-- ---- places

-- it is at none of the first places
abbrev pub IsNotBefore : List SeatData → List Value → EnvSpot → ℕ → Type 0
IsNotBefore seats values spot n = (i : ℕ) (v : SeatData) → i < n → slice_get seats i ≡ Some v → IsSeatOf v values spot → ⊥

pub not_before_more : (seats : List SeatData) (values : List Value) (spot : EnvSpot) (n : ℕ) (u : SeatData) → slice_get seats n ≡ Some u → is_seat u values spot ≡ false → IsNotBefore seats values spot n → IsNotBefore seats values spot (n + 1)
not_before_more seats values spot n u here other before i v below there at =
    elim (le_split i n (omega arith)) [
      | inl less ↦ before i v less there at
      | inr last ↦
          let same : u ≡ v = some_same u v (sym here ∙ (ap (λ k. slice_get seats k) (sym last) ∙ there)) in
          false≢true (sym other ∙ is_seat-at u values spot (subst (λ (w : SeatData). IsSeatOf w values spot) (sym same) at))
    ]
  where
    le_split : (i n : ℕ) → i ≤ n → (i < n) ⊎ (i ≡ n)
    le_split zero zero below = inr refl
    le_split zero (suc n) below = inl (omega arith)
    le_split (suc i) zero below = absurd (omega arith)
    le_split (suc i) (suc n) below =
        elim (le_split i n (omega arith)) [
          | inl less ↦ inl (omega arith)
          | inr last ↦ inr (ap suc last)
        ]

    some_same : (u v : SeatData) → Some u ≡ Some v → u ≡ v
    some_same u v is = cc (is)

-- the place at which it was found
pub place_here : (seats : List SeatData) (values : List Value) (spot : EnvSpot) (n : ℕ) (u : SeatData) → n < length seats → slice_get seats n ≡ Some u → is_seat u values spot ≡ true → IsPlace seats values spot n
place_here seats values spot n u below here is =
    record {
      within = omega arith;
      here = λ _. (u, here, is_seat-true u values spot is);
      absent = λ past. absurd (omega arith);
    }

-- it was found at none
pub place_past : (seats : List SeatData) (values : List Value) (spot : EnvSpot) (n : ℕ) → n ≡ length seats → IsNotBefore seats values spot n → IsPlace seats values spot n
place_past seats values spot n all before =
    record {
      within = omega arith;
      here = λ below. absurd (omega arith);
      absent = λ past i v there at. let inside = slice_get_within seats i v there in before i v (omega (arith, inside)) there at;
    }

-- ---- the number of a seat

pub number_known : (seats : List SeatData) (v : SeatData) (n : ℕ) → IsPlace seats v.values v.spot n → n < length seats → IsNumbered seats seats v n
number_known seats v n place below = let here = place.here below in inl (refl, here.0, here.1, here.2)

pub number_added : (old new : List SeatData) (v : SeatData) (n : ℕ) → IsPlace old v.values v.spot n → length old ≤ n → new ≡ old ++ v ∷ [] → IsNumbered old new v n
number_added old new v n place past added = let within = place.within in inr (added, omega (arith, within), place.absent past)
