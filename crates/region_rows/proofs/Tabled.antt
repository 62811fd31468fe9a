-- The tables of the moves from each state.
use Rattle.std.proofs.Common.{◌≡◌, ℕ, ◌<◌, Some, option_map, map, length, slice_get, get_or, ap, ◌∙◌, sym}
use Rattle.std.proofs.lemmas.List.{length-map}
use Rattle.std.proofs.lemmas.Option.{slice_get-map}
use Rattle.spec_model.specs.GameViews.{game_data}
use Rattle.spec_model.specs.Games.{State}
use Rattle.spec_model.specs.Steps.{states_of}
use Rattle.region_rows.specs.declared.rows.RegionRows.{RegionRows}
use Rattle.game_states.specs.Tables.{moves_of}
use Rattle.game_states.proofs.StateValues.{get-map-at}

-- there is one for each state
pub length-later : (self : RegionRows) → length self.later.items ≡ length (states_of (game_data self.numbered.game))
length-later self = sym (length-map self.later.items (λ v. map (option_map (λ a. a.items)) v.items)) ∙ (ap length self.later_moves ∙ length-map (states_of (game_data self.numbered.game)) (λ s. moves_of (game_data self.numbered.game) (Some s)))

-- the moves in the table of a state
pub at_state : (self : RegionRows) (p : ℕ) (v : _) → p < length self.later.items → v ≡ get_or self.later.items p v → (s : State) → slice_get (states_of (game_data self.numbered.game)) p ≡ Some s →
    map (option_map (λ a. a.items)) v.items ≡ moves_of (game_data self.numbered.game) (Some s)
at_state self p v below is s e =
    let g = game_data self.numbered.game in
    let at : Some (map (option_map (λ a. a.items)) v.items) ≡ Some (moves_of g (Some s)) = sym (get-map-at (λ v. map (option_map (λ a. a.items)) v.items) self.later.items p v below is) ∙ (ap (λ l. slice_get l p) self.later_moves ∙ (slice_get-map (λ s. moves_of g (Some s)) (states_of g) p ∙ ap (option_map (λ s. moves_of g (Some s))) e)) in
    cc (at)
