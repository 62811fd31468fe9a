use Rattle.std.proofs.Common.{◌≡◌, List, not, IfOk, map, sym, ap, ◌∙◌, subst}
use Rattle.spec_model.specs.declared.value.Value.{Value}
use Rattle.spec_model.specs.GameViews.{game_data}
use Rattle.spec_model.specs.Moves.{is_env, domains_of}
use Rattle.game_states.specs.Numbers.{choices}
use Rattle.game_states.proofs.ChoicePlaces.{assignments_are_choices}
use Rattle.game_states.proofs.moves.all_outputs.Goals as goal

pub returns : goal.returns
returns c =
    let ds = domains_of (λ o. not (is_env o)) (game_data c.args.game.now).variables in
    subst (λ (w : List (List Value)). IfOk c.choices_of.result (λ all. map (λ c. c.items) all.items ≡ w)) (ap (λ l. choices (map (λ c. c.items) l)) c.deref-2.ensures.value ∙ (ap choices (rw c.deref.ensures.value at c.in_ok-options.ensures) ∙ sym (assignments_are_choices ds))) c.choices_of.ensures
