-- What the calls make of rows, as regions and moves.
use Rattle.std.proofs.Common.{◌≡◌, ℕ, zero, suc, ◌<◌, Bool, true, false, not, ◌&&◌, ◌||◌, List, [], ◌∷◌, length, map, Some, slice_get, refl, sym, ◌∙◌, ap, subst, arith}
use Rattle.std.proofs.Math.Bool.{and-true, and-false}
use Rattle.std.specs.List.{list_all, list_any}
use Rattle.spec_model.specs.Games.{GameData, State}
use Rattle.spec_model.specs.Steps.{is_state, below, states_of, IsClosed}
use Rattle.spec_model.specs.Sets.{StateSet, all_states, no_states, both, either, rest, pre_sys, pre_env, system_forces, environment_forces}
use Rattle.regions.specs.Kept.{Region as RegionItem, Move, Meaning, States, IsHeld, Makes, Spends}
use Rattle.region_rows.specs.declared.row.Row.{Row}
use Rattle.region_rows.specs.declared.slots.Slot.{Slot}
use Rattle.region_rows.specs.declared.slots.Slot.TheVariants.{Free, Region, Outputs, Inputs}
use Rattle.region_rows.specs.declared.slots.RowRegion.{RowRegion}
use Rattle.region_rows.specs.declared.slots.RowMove.{RowMove}
use Rattle.regions.specs.declared.types.When.{When}
use Rattle.region_rows.specs.Rows.{bit_of, Shows}
use Rattle.game_states.specs.Numbers.{number_of_state}
use Rattle.region_rows.specs.Slots.{marked, content_meaning, set_of, content_at, kept_in, HasRow, TakesSlot, FreesSlot}
use Rattle.region_rows.specs.Held.{Weights, IsMoves, takes, frees, region_content, move_content, slot_weighs}
use Rattle.game_states.specs.Tables.{moves_of}
use Rattle.region_rows.specs.Into.{system_into, environment_into}
use Rattle.region_rows.proofs.IntoLaws.{marked-map, marked-below, system_is, environment_is}
use Rattle.region_rows.specs.Finds.{LeadsToStates}
use Rattle.game_states.proofs.StateNumbers.{number_below}
use Rattle.spec_model.specs.WellMade.{WellMade}
use Rattle.game_states.proofs.StateNumbers.{number-of}
use Rattle.game_states.proofs.LineLaws.{there, state_fits}

module _ (g : GameData) where
  -- ---- what is kept and what is freed

  pub makes_region : (old new : List Slot) (r : RowRegion) (row : Row) (s : StateSet) → TakesSlot old new r.slot (Region row) → marked g row ≡ s → Makes (kept_in g old) (kept_in g new) (RegionItem r) (States s)
  makes_region old new r row s taken is = record { held = λ w. let t = takes g old new r.slot (Region row) taken w in let e = ap (λ c. w (RegionItem r) (States c)) is in omega (arith, t, e); jam = refl }

  pub makes_outputs : (old new : List Slot) (m : RowMove) (when : When) (row : Row) (meaning : Meaning) → TakesSlot old new m.slot (Outputs when row) → content_meaning g (Outputs when row) ≡ meaning → Makes (kept_in g old) (kept_in g new) (Move m) meaning
  makes_outputs old new m when row meaning taken is = record { held = λ w. let t = takes g old new m.slot (Outputs when row) taken w in let e = ap (w (Move m)) is in omega (arith, t, e); jam = refl }

  pub makes_inputs : (old new : List Slot) (m : RowMove) (when : When) (row : Row) (meaning : Meaning) → TakesSlot old new m.slot (Inputs when row) → content_meaning g (Inputs when row) ≡ meaning → Makes (kept_in g old) (kept_in g new) (Move m) meaning
  makes_inputs old new m when row meaning taken is = record { held = λ w. let t = takes g old new m.slot (Inputs when row) taken w in let e = ap (w (Move m)) is in omega (arith, t, e); jam = refl }

  get-content : (slots : List Slot) (i : ℕ) (c : Slot) → content_at slots i ≡ c → (c ≡ Free 0 → ⊥) → slice_get slots i ≡ Some c
  get-content [] i c e other = absurd (other (sym e))
  get-content (s ∷ slots) zero c e other = ap Some e
  get-content (s ∷ slots) (suc i) c e other = get-content slots i c e other

  place_of : (slots : List Slot) (i : ℕ) (c : Slot) → slice_get slots i ≡ Some c → i < length slots
  place_of [] i c e = cc (e)
  place_of (s ∷ slots) zero c e = omega arith
  place_of (s ∷ slots) (suc i) c e = let more = place_of slots i c e in omega (arith, more)

  -- a held region has its row, and stands for what the row marks
  pub has_row : (slots : List Slot) (r : RowRegion) → IsHeld (kept_in g slots) (RegionItem r) → HasRow slots r.slot
  has_row slots r held = let is = region_content g slots r held in (is.0, get-content slots r.slot (Region is.0) is.1 (λ e. cc (e)))

  content_of : (slots : List Slot) (i : ℕ) (c : Slot) → slice_get slots i ≡ Some c → content_at slots i ≡ c
  content_of [] i c e = cc (e)
  content_of (s ∷ slots) zero c e = cc (e)
  content_of (s ∷ slots) (suc i) c e = content_of slots i c e

  pub set-row : (slots : List Slot) (r : RowRegion) (row : Row) → slice_get slots r.slot ≡ Some (Region row) → (kept_in g slots).set r ≡ marked g row
  set-row slots r row e = ap (λ c. set_of (content_meaning g c)) (content_of slots r.slot (Region row) e)

  pub held_place : (slots : List Slot) (r : RowRegion) → IsHeld (kept_in g slots) (RegionItem r) → r.slot < length slots
  held_place slots r held = let is = has_row slots r held in place_of slots r.slot (Region is.0) is.1

  pub spends_region : (old new : List Slot) (r : RowRegion) → IsHeld (kept_in g old) (RegionItem r) → FreesSlot old new r.slot → Spends (kept_in g old) (kept_in g new) (RegionItem r)
  spends_region old new r held freed =
      let is = region_content g old r held in
      record {
        held = λ w.
            let f = frees g old new r.slot (held_place old r held) freed w in
            let weighs : slot_weighs g r.slot (content_at old r.slot) w ≡ w (RegionItem r) (States (set_of (content_meaning g (content_at old r.slot)))) = ap (λ c. slot_weighs g r.slot c w) is.1 ∙ ap (λ c. w (RegionItem r) (States (set_of (content_meaning g c)))) (sym is.1) in
            omega (arith, f, weighs);
        jam = refl;
      }

  pub held_move_place : (slots : List Slot) (m : RowMove) → IsHeld (kept_in g slots) (Move m) → m.slot < length slots
  held_move_place slots m held = let is = move_content g slots m held in by_content is.0 is.1 is.2
    where
      by_content : (c : Slot) → content_at slots m.slot ≡ c → IsMoves c → m.slot < length slots
      by_content (Outputs when row) e kind = place_of slots m.slot (Outputs when row) (get-content slots m.slot (Outputs when row) e (λ e. cc (e)))
      by_content (Inputs when row) e kind = place_of slots m.slot (Inputs when row) (get-content slots m.slot (Inputs when row) e (λ e. cc (e)))
      by_content (Free next) e kind = absurd kind
      by_content (Region row) e kind = absurd kind

  pub spends_move : (old new : List Slot) (m : RowMove) → IsHeld (kept_in g old) (Move m) → FreesSlot old new m.slot → Spends (kept_in g old) (kept_in g new) (Move m)
  spends_move old new m held freed =
      let is = move_content g old m held in
      record {
        held = λ w. let f = frees g old new m.slot (held_move_place old m held) freed w in omega (arith, f, weighs is.0 is.1 is.2 w);
        jam = refl;
      }
    where
      weighs : (c : Slot) → content_at old m.slot ≡ c → IsMoves c → (w : Weights) → slot_weighs g m.slot (content_at old m.slot) w ≡ w (Move m) (content_meaning g (content_at old m.slot))
      weighs (Outputs when row) e kind w = ap (λ c. slot_weighs g m.slot c w) e ∙ ap (λ c. w (Move m) (content_meaning g c)) (sym e)
      weighs (Inputs when row) e kind w = ap (λ c. slot_weighs g m.slot c w) e ∙ ap (λ c. w (Move m) (content_meaning g c)) (sym e)
      weighs (Free next) e kind w = absurd kind
      weighs (Region row) e kind w = absurd kind

  -- ---- the sets that the calls make

  module _ (row : Row) (n : ℕ) (count : n ≡ length (states_of g)) where
    pub all_is : Shows row (map (λ k. true) (below n)) → marked g row ≡ all_states g
    all_is e = λ i s. (marked-below g row (λ k. true) n count e s ∙ and-true (is_state g s)) i

    pub none_is : Shows row (map (λ k. false) (below n)) → marked g row ≡ no_states
    none_is e = λ i s. (marked-below g row (λ k. false) n count e s ∙ and-false (is_state g s)) i

    pub copy_is : (a : Row) → Shows row (map (λ k. bit_of a k) (below n)) → marked g row ≡ marked g a
    copy_is a e = λ i s. marked-below g row (bit_of a) n count e s i

    pub both_is : (a b : Row) → Shows row (map (λ k. bit_of a k && bit_of b k) (below n)) → marked g row ≡ both (marked g a) (marked g b)
    both_is a b e = λ i s. (marked-below g row (λ k. bit_of a k && bit_of b k) n count e s ∙ with_state (is_state g s) (bit_of a (number_of_state g s)) (bit_of b (number_of_state g s))) i
      where
        with_state : (c p q : Bool) → (c && (p && q)) ≡ ((c && p) && (c && q))
        with_state true p q = refl
        with_state false p q = refl

    pub either_is : (a b : Row) → Shows row (map (λ k. bit_of a k || bit_of b k) (below n)) → marked g row ≡ either (marked g a) (marked g b)
    either_is a b e = λ i s. (marked-below g row (λ k. bit_of a k || bit_of b k) n count e s ∙ with_state (is_state g s) (bit_of a (number_of_state g s)) (bit_of b (number_of_state g s))) i
      where
        with_state : (c p q : Bool) → (c && (p || q)) ≡ ((c && p) || (c && q))
        with_state true p q = refl
        with_state false p q = refl

    pub rest_is : (a : Row) → Shows row (map (λ k. not (bit_of a k)) (below n)) → marked g row ≡ rest g (marked g a)
    rest_is a e = λ i s. (marked-below g row (λ k. not (bit_of a k)) n count e s ∙ with_state (is_state g s) (bit_of a (number_of_state g s))) i
      where
        with_state : (c p : Bool) → (c && not p) ≡ (c && not (c && p))
        with_state true p = refl
        with_state false p = refl

  map-map : {X Y Z : Type 0} (f : Y → Z) (h : X → Y) (xs : List X) → map f (map h xs) ≡ map (λ x. f (h x)) xs
  map-map f h [] = refl
  map-map f h (x ∷ xs) = ap (λ r. f (h x) ∷ r) (map-map f h xs)

  module _ (closed : IsClosed g) (row t : Row) where
    later_leads : (s : State) → is_state g s ≡ true → LeadsToStates g (Some s)
    later_leads s here x y ex ey = closed.later s x y here ex ey

    with_state : (c p q : Bool) → (c ≡ true → p ≡ q) → (c && p) ≡ (c && q)
    with_state true p q e = e refl
    with_state false p q e = refl

    pub pre_sys_is : Shows row (map (list_all (system_into (bit_of t))) (map (λ s. moves_of g (Some s)) (states_of g))) → marked g row ≡ pre_sys g (marked g t)
    pre_sys_is e = λ i s.
        (marked-map g row (λ s. list_all (system_into (bit_of t)) (moves_of g (Some s))) (subst (Shows row) (map-map (list_all (system_into (bit_of t))) (λ s. moves_of g (Some s)) (states_of g)) e) s
        ∙ with_state (is_state g s) (list_all (system_into (bit_of t)) (moves_of g (Some s))) (system_forces g (marked g t) (Some s)) (λ here. system_is g (Some s) t (later_leads s here))) i

    pub pre_env_is : Shows row (map (list_any (environment_into (bit_of t))) (map (λ s. moves_of g (Some s)) (states_of g))) → marked g row ≡ pre_env g (marked g t)
    pre_env_is e = λ i s.
        (marked-map g row (λ s. list_any (environment_into (bit_of t)) (moves_of g (Some s))) (subst (Shows row) (map-map (list_any (environment_into (bit_of t))) (λ s. moves_of g (Some s)) (states_of g)) e) s
        ∙ with_state (is_state g s) (list_any (environment_into (bit_of t)) (moves_of g (Some s))) (environment_forces g (marked g t) (Some s)) (λ here. environment_is g (Some s) t (later_leads s here))) i

-- rows mark one set exactly where they have the same numbers
pub same-marked : (g : GameData) → WellMade g → (a b : Row) (n : ℕ) → n ≡ length (states_of g) → marked g a ≡ marked g b → (k : ℕ) → k < n → bit_of a k ≡ bit_of b k
same-marked g made a b n count e k h =
    let s = there (states_of g) k (subst (λ m. k < m) count h) in
    let here = state_fits g k s.0 s.1 in
    let number = number-of g made k s.0 s.1 in
    let at : marked g a s.0 ≡ marked g b s.0 = ap (λ (t : StateSet). t s.0) e in
    let bits : bit_of a (number_of_state g s.0) ≡ bit_of b (number_of_state g s.0) = sym (ap (λ c. c && bit_of a (number_of_state g s.0)) here) ∙ (at ∙ ap (λ c. c && bit_of b (number_of_state g s.0)) here) in
    sym (ap (bit_of a) number) ∙ (bits ∙ ap (bit_of b) number)

pub marked-same : (g : GameData) (a b : Row) (n : ℕ) → n ≡ length (states_of g) → ((k : ℕ) → k < n → bit_of a k ≡ bit_of b k) → marked g a ≡ marked g b
marked-same g a b n count same = λ i s. at s (is_state g s) refl i
  where
    at : (s : State) (c : Bool) → is_state g s ≡ c → (c && bit_of a (number_of_state g s)) ≡ (c && bit_of b (number_of_state g s))
    at s true here = same (number_of_state g s) (subst (λ m. number_of_state g s < m) (sym count) (number_below g s here))
    at s false here = refl
