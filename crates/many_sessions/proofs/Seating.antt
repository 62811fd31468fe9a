-- One seat of many is another.
use Rattle.std.proofs.Common.{◌≡◌, ◌≢◌, ℕ, ◌+◌, ◌-◌, ◌<◌, ◌≤◌, Bool, true, false, ◌==◌, cond, List, length, get_or, set, refl, sym, ap, subst, ◌∙◌, arith, length-set}
use Rattle.std.proofs.lemmas.Bool.Decides.{nat_tests}
use Rattle.std.proofs.lemmas.List.{get_or-set_other}
use Rattle.std.proofs.lemmas.Grind.{get_or-set_at}
use Rattle.spec_model.specs.Games.{GameData}
use Rattle.gr1_law.specs.Layers.{LayerSets}
use Rattle.many_sessions.specs.declared.seat.Seat.{Seat}
use Rattle.many_sessions.specs.Numbered.{IsSession}
use Rattle.many_sessions.specs.Solo.{Session}
use Rattle.many_sessions.specs.Terms.{changed}
use Rattle.many_sessions.specs.Seats.{IsSeatOf, AreSeatsOf}

module _ (g : GameData) (l : LayerSets) (seats : List Seat) (sessions : ℕ → Session) (n : ℕ) (t : Session) where
  -- the seat of a session is another, and so is the session
  pub seats_set : (i : ℕ) (seat : Seat) → n ≡ i + 1 → i < length seats → AreSeatsOf g l seats sessions → IsSeatOf g l seat t → AreSeatsOf g l (set seats i seat) (changed sessions n t)
  seats_set i seat numbered below are is j there d = by_number (n == j + 1) refl
    where
      by_number : (b : Bool) → (n == j + 1) ≡ b → IsSeatOf g l (get_or (set seats i seat) j d) (cond b t (sessions (j + 1)))
      by_number true e =
          let same : j ≡ i = (let at : n ≡ j + 1 = grind (arith, nat_tests) in omega (arith, at)) in
          subst (λ (u : Seat). IsSeatOf g l u t) (sym (get_or-set_at seats i j seat d same below)) is
      by_number false e =
          let other : j ≢ i = λ same. (let at : n ≡ j + 1 = omega (arith, same) in absurd (let never : (n == j + 1) ≡ true = grind (arith, nat_tests) in cc)) in
          let within : j < length seats = omega (arith, there, length-set seats i seat) in
          subst (λ (u : Seat). IsSeatOf g l u (sessions (j + 1))) (sym (get_or-set_other seats i j seat d other)) (are j within d)

  -- a session that is changed to what it is
  pub seats_same : sessions n ≡ t → AreSeatsOf g l seats sessions → AreSeatsOf g l seats (changed sessions n t)
  seats_same is are j there d = by_number (n == j + 1) refl
    where
      by_number : (b : Bool) → (n == j + 1) ≡ b → IsSeatOf g l (get_or seats j d) (cond b t (sessions (j + 1)))
      by_number true e =
          let at : n ≡ j + 1 = grind (arith, nat_tests) in
          subst (λ (u : Session). IsSeatOf g l (get_or seats j d) u) (sym (ap sessions at) ∙ is) (are j there d)
      by_number false e = are j there d
