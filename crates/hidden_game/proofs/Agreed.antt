-- The game of a well-typed specification agrees with it.
use Rattle.std.proofs.Common.{◌≡◌, ◌&&◌, option_map, refl, sym, ap}
use Rattle.spec_model.specs.Syntax.{Specification}
use Rattle.spec_model.specs.Moves.{rules_of}
use Rattle.spec_model.specs.Steps.{is_input, is_output}
use Rattle.spec_model.specs.GameRules.{rules_of_game}
use Rattle.spec_model.specs.FirstBroken.{line_label}
use Rattle.spec_model.specs.Agreement.{Agrees}
use Rattle.spec_model.specs.WellTyped.{WellTyped}
use Rattle.hidden_game.specs.GameOf.{game_of}
use Rattle.hidden_game.proofs.Known.{operators_ordered, lines_known}
use Rattle.hidden_game.proofs.MadeGames.{typed_games_made, lines_rise}
use Rattle.hidden_game.proofs.Agreeing.{inputs_agree, outputs_agree}
use Rattle.hidden_game.proofs.Goals.{assumptions_agree, guarantees_agree}
use Rattle.hidden_game.proofs.Breaking.{breaks_agree, answers_agree}
use Rattle.hidden_game.proofs.StateCounts.{states_few}

module _ (s : Specification) (typed : WellTyped s) where
  rules_agree : rules_of_game (game_of s) ≡ rules_of s
  rules_agree =
      let ordered = operators_ordered s typed in
      let made = typed_games_made s typed in
      let known = lines_known s typed in
      λ i.
      record {
        legal_input = λ h x. is_input (game_of s) x && sym (inputs_agree s ordered made known h x) i;
        legal_output = λ h x y. is_output (game_of s) y && sym (outputs_agree s ordered made known h x y) i;
        assumptions = sym (assumptions_agree s typed) i;
        guarantees = sym (guarantees_agree s typed) i;
      }

  pub game_agrees : Agrees s (game_of s)
  game_agrees =
      let ordered = operators_ordered s typed in
      let made = typed_games_made s typed in
      let known = lines_known s typed in
      record {
        variables = refl;
        rules = rules_agree;
        broken = λ h x. ap (option_map line_label) (breaks_agree s ordered made known (lines_rise s typed) h x);
        broken_output = λ h x y. ap (option_map line_label) (answers_agree s ordered made known (lines_rise s typed) h x y);
        few_states = states_few s typed;
      }
