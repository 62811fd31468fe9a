use Rattle.std.proofs.Common.{◌≡◌, ℕ, ◌<◌, List, Option, Some, IfOk, option_map, map, length, slice_get, sym, ap, ◌∙◌, subst, refl, arith}
use Rattle.std.proofs.lemmas.List.{length-map}
use Rattle.spec_model.specs.GameViews.{game_data}
use Rattle.spec_model.specs.Games.{next_hidden}
use Rattle.spec_model.specs.Steps.{states_of}
use Rattle.game_states.specs.Numbers.{as_values, hidden_choices}
use Rattle.game_states.specs.Seen.{SeenData}
use Rattle.game_states.specs.Tables.{moves_from, moves_of}
use Rattle.game_states.proofs.ChoicePlaces.{hidden_among, place_below}
use Rattle.game_states.proofs.LineLaws.{length-seen, seen_here, next_fit, state_fits}
use Rattle.game_states.proofs.TableLaws.{moves_are}
use Rattle.game_states.proofs.numbered.Numbered.moves_after.Goals as goal

pub moves-requires-clause-place : goal.moves-requires-clause-place
moves-requires-clause-place c =
    let self = c.args.self.now in
    let g = game_data self.game in
    let below : c.args.from < length self.seen.items = omega (arith, c.requires, length-seen g self.seen.items self.states_seen) in
    let here = seen_here g self.seen.items self.states_seen c.args.from c.index.result.now below c.index.ensures in
    let next : c.index.result.now.next.items ≡ next_hidden g here.0 = ap (λ (d : SeenData). d.next) here.2 in
    let fit = next_fit g self.made here.0 (state_fits g c.args.from here.0 here.1) in
    let less = place_below (hidden_choices g) (as_values (next_hidden g here.0)) (hidden_among g.hidden (next_hidden g here.0) fit) in
    let is = (rw (c.deref.ensures.value, c.deref-2.ensures.value, self.hidden_listed, next) at c.place_of_numbers-place.ensures) in
    let long : length self.hidden.items ≡ length (hidden_choices g) = sym (length-map self.hidden.items (λ c. c.items)) ∙ ap length self.hidden_listed in
    rw (is, long) less

pub returns : goal.returns
returns c =
    let self = c.args.self.now in
    let g = game_data self.game in
    let below : c.args.from < length self.seen.items = omega (arith, c.requires, length-seen g self.seen.items self.states_seen) in
    let here = seen_here g self.seen.items self.states_seen c.args.from c.index.result.now below c.index.ensures in
    let next : c.index.result.now.next.items ≡ next_hidden g here.0 = ap (λ (d : SeenData). d.next) here.2 in
    let fit = next_fit g self.made here.0 (state_fits g c.args.from here.0 here.1) in
    let is = (rw (c.deref.ensures.value, c.deref-2.ensures.value, self.hidden_listed, next) at c.place_of_numbers-place.ensures) in
    let same : moves_from g (Some c.args.from) c.place_of_numbers-place.result ≡ moves_of g (slice_get (states_of g) c.args.from) =
    ap (moves_from g (Some c.args.from)) is ∙ (moves_are g self.made (Some c.args.from) (Some here.0) here.1 (next_hidden g here.0) fit (λ x y. refl) ∙ ap (moves_of g) (sym here.1)) in
    subst (λ (w : List (Option (List (Option ℕ)))). IfOk c.moves.result (λ v. map (option_map (λ a. a.items)) v.items ≡ w)) same c.moves.ensures
