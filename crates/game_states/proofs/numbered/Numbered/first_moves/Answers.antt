use Rattle.std.proofs.Common.{◌≡◌, ℕ, List, Option, None, IfOk, option_map, map, length, sym, ap, ◌∙◌, subst, refl}
use Rattle.std.proofs.lemmas.List.{length-map}
use Rattle.spec_model.specs.GameViews.{game_data}
use Rattle.spec_model.specs.Games.{first_hidden}
use Rattle.spec_model.proofs.Closed.{firsts_fit}
use Rattle.game_states.specs.Numbers.{as_values, hidden_choices}
use Rattle.game_states.specs.Tables.{moves_from, moves_of}
use Rattle.game_states.proofs.ChoicePlaces.{hidden_among, place_below}
use Rattle.game_states.proofs.TableLaws.{moves_are}
use Rattle.game_states.proofs.numbered.Numbered.first_moves.Goals as goal

pub moves-requires-clause-place : goal.moves-requires-clause-place
moves-requires-clause-place c =
    let self = c.args.self.now in
    let g = game_data self.game in
    let fit = firsts_fit _ g.hidden self.made.hidden in
    let below = place_below (hidden_choices g) (as_values (first_hidden g)) (hidden_among g.hidden (first_hidden g) fit) in
    let is = (rw (c.deref-2.ensures.value, c.deref-3.ensures.value, self.hidden_listed, c.in_ok-firsts.ensures, c.deref.ensures.value) at c.place_of_numbers-place.ensures) in
    let long : length self.hidden.items ≡ length (hidden_choices g) = sym (length-map self.hidden.items (λ c. c.items)) ∙ ap length self.hidden_listed in
    rw (is, long) below

pub returns : goal.returns
returns c =
    let self = c.args.self.now in
    let g = game_data self.game in
    let fit = firsts_fit _ g.hidden self.made.hidden in
    let is = (rw (c.deref-2.ensures.value, c.deref-3.ensures.value, self.hidden_listed, c.in_ok-firsts.ensures, c.deref.ensures.value) at c.place_of_numbers-place.ensures) in
    let same : moves_from g None c.place_of_numbers-place.result ≡ moves_of g None = ap (moves_from g None) is ∙ moves_are g self.made None None refl (first_hidden g) fit (λ x y. refl) in
    subst (λ (w : List (Option (List (Option ℕ)))). IfOk c.moves.result (λ v. map (option_map (λ a. a.items)) v.items ≡ w)) same c.moves.ensures
