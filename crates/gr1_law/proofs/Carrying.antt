-- What the laws on chosen plays say of a specification that the game agrees with.
use Rattle.std.proofs.Common.{◌≡◌, ℕ, ◌&&◌, true, List, ◌∙◌, sym, ap, subst, IsTrue}
use Rattle.std.proofs.lemmas.Bool.{and_parts, and_from}
use Rattle.spec_model.specs.Values.{Assignment}
use Rattle.spec_model.specs.Syntax.{Specification}
use Rattle.spec_model.specs.Plays.{IsPlay}
use Rattle.spec_model.specs.Rules.{Run, Rules}
use Rattle.spec_model.specs.Moves.{legal_input, legal_output}
use Rattle.spec_model.specs.Realizable.{Kept, IsRealizable}
use Rattle.spec_model.specs.Games.{GameData}
use Rattle.spec_model.specs.GameRules.{last_state}
use Rattle.spec_model.specs.Steps.{Before, is_input, is_output, legal_input as legal_input_from, legal_output as legal_output_from}
use Rattle.spec_model.specs.Sets.{StateSet}
use Rattle.spec_model.specs.WellMade.{WellMade}
use Rattle.spec_model.specs.Agreement.{Agrees}
use Rattle.gr1_law.specs.Layers.{LayerSets, round_count}
use Rattle.gr1_law.specs.Choice.{Memory, IsChosen, ChosenPlay}
use Rattle.gr1_law.specs.Laws.{ChosenPlayKeeps}
use Rattle.gr1_law.specs.Specifications.{IsWonWith, SpecificationIsRealizable, ChosenPlaysKeepTheSpecification}
use Rattle.gr1_law.proofs.Trails.{played}
use Rattle.gr1_law.proofs.Choosing.{chosen_output, chosen_legal}
use Rattle.gr1_law.proofs.Keeping as keeping

module _ (s : Specification) (g : GameData) (agrees : Agrees s g) where
  -- the moves that are legal from the last state are those that the specification allows
  pub inputs_agree : (h : Run) (b : Before) → b ≡ last_state g h → (x : Assignment) → (is_input g x && legal_input_from g b x) ≡ legal_input s h x
  inputs_agree h b last x = ap (λ (b : Before). is_input g x && legal_input_from g b x) last ∙ ap (λ (r : Rules). r.legal_input h x) agrees.rules

  pub outputs_agree : (h : Run) (b : Before) → b ≡ last_state g h → (x y : Assignment) → (is_output g y && legal_output_from g b x y) ≡ legal_output s h x y
  outputs_agree h b last x y = ap (λ (b : Before). is_output g y && legal_output_from g b x y) last ∙ ap (λ (r : Rules). r.legal_output h x y) agrees.rules

  module _ (made : WellMade g) where
    pub realizable : SpecificationIsRealizable s g
    realizable z l ranks won = subst (λ (r : Rules). IsRealizable r (round_count ranks)) agrees.rules (keeping.realizable g made z l ranks won.winning won.greatest won.forced)

    module _ (z : StateSet) (l : LayerSets) (ranks : List ℕ) (won : IsWonWith g z l ranks) (h : Run) (b : Before) (m : Memory) (play : ChosenPlay g l h b m) where
      keeps : ChosenPlayKeeps g z l (round_count ranks) h b m
      keeps = keeping.play_keeps g made z l ranks won.winning won.greatest won.forced h b m play

      next : (x : Assignment) → legal_input s h x ≡ true → (y : Assignment) × (m' : Memory) × IsChosen g l b m x y m' × IsTrue (legal_output s h x y)
      next x legal =
          let parts = and_parts (is_input g x) (legal_input_from g b x) (inputs_agree h b keeps.state x ∙ legal) in
          let chosen = keeps.goes_on x parts.0 parts.1 in
          let ready = (played g z l won.winning ranks won.greatest h b m won.forced play).ready in
          let output = chosen_output g z l won.winning ranks won.greatest b m x chosen.0 chosen.1 ready chosen.2 in
          let legal' = chosen_legal g z l won.winning ranks won.greatest b m x chosen.0 chosen.1 ready chosen.2 in
          (chosen.0, chosen.1, chosen.2, sym (outputs_agree h b keeps.state x chosen.0) ∙ and_from _ _ output legal')

    pub play_keeps : ChosenPlaysKeepTheSpecification s g
    play_keeps z l ranks won h b m play =
        let of_game = keeps z l ranks won h b m play in
        record {
          legal = subst (λ (r : Rules). IsPlay r h) agrees.rules of_game.legal;
          state = of_game.state;
          kept = subst (λ (r : Rules). Kept r (round_count ranks) h) agrees.rules of_game.kept;
          goes_on = next z l ranks won h b m play;
        }
