use Rattle.std.proofs.Common.{◌≡◌, List, IfOk, map, sym, ap, ◌∙◌, subst}
use Rattle.spec_model.specs.declared.value.Value.{Value}
use Rattle.spec_model.specs.GameViews.{game_data}
use Rattle.game_states.specs.Numbers.{choices}
use Rattle.game_states.proofs.ChoicePlaces.{hidden_are_choices}
use Rattle.game_states.proofs.make.all_hidden.Goals as goal

pub returns : goal.returns
returns c =
    subst (λ (w : List (List Value)). IfOk c.choices_of.result (λ all. map (λ c. c.items) all.items ≡ w)) (ap (λ l. choices (map (λ c. c.items) l)) c.deref-2.ensures.value ∙ (ap choices (rw c.deref.ensures.value at c.in_ok-options.ensures) ∙ sym (hidden_are_choices (game_data c.args.game.now).hidden))) c.choices_of.ensures
