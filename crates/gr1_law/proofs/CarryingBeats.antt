-- What the laws on answered plays say of a specification that the game agrees with.
use Rattle.std.proofs.Common.{◌≡◌, ℕ, true, List, [], ◌∷◌, ◌++◌, Some, ◌∙◌, sym, subst}
use Rattle.std.proofs.lemmas.Bool.{and_parts, and_from}
use Rattle.spec_model.specs.Values.{Assignment}
use Rattle.spec_model.specs.Syntax.{Specification}
use Rattle.spec_model.specs.Plays.{IsPlay}
use Rattle.spec_model.specs.Rules.{Run, Rules, after}
use Rattle.spec_model.specs.Unrealizable.{NoteData, Beaten}
use Rattle.spec_model.specs.Moves.{legal_input, legal_output}
use Rattle.spec_model.specs.Games.{GameData}
use Rattle.spec_model.specs.Steps.{Before, is_output, reached, legal_output as legal_output_from}
use Rattle.spec_model.specs.WellMade.{WellMade}
use Rattle.spec_model.specs.Agreement.{Agrees}
use Rattle.gr1_law.specs.EnvLayers.{EnvLayerSets, denial_count}
use Rattle.gr1_law.specs.Counter.{CounterMemory, IsGiven, note_of, AnsweredPlay}
use Rattle.gr1_law.specs.CounterLaws.{LabelsDiffer, IsLostWith, AnsweredPlayBeats}
use Rattle.gr1_law.specs.Specifications.{AnsweredPlaysBeatTheSpecification}
use Rattle.gr1_law.proofs.Carrying.{inputs_agree, outputs_agree}
use Rattle.gr1_law.proofs.CounterBeats as game

module _ (s : Specification) (g : GameData) (agrees : Agrees s g) (made : WellMade g) (differ : LabelsDiffer g) where
  module _ (e : EnvLayerSets) (n : ℕ) (counts : ℕ → ℕ → List ℕ) (lost : IsLostWith g e n counts) (h : Run) (notes : List NoteData) (b : Before) (k : CounterMemory) (play : AnsweredPlay g e h notes b k) where
    beats : AnsweredPlayBeats g e n (denial_count g n counts) h notes b k
    beats = game.play_beats g made differ e n counts lost h notes b k play

    allowed : (r : ℕ) (x : Assignment) → IsGiven g e b k r x → legal_input s h x ≡ true
    allowed r x given = let parts = beats.input r x given in sym (inputs_agree s g agrees h b beats.state x) ∙ and_from _ _ parts.0 parts.1

    goes_on : (r : ℕ) (x y : Assignment) → IsGiven g e b k r x → legal_output s h x y ≡ true → (k' : CounterMemory) × AnsweredPlay g e (after h x y) (notes ++ note_of g k' ∷ []) (Some (reached g b x y)) k'
    goes_on r x y given legal =
        let parts = and_parts (is_output g y) (legal_output_from g b x y) (outputs_agree s g agrees h b beats.state x y ∙ legal) in
        let reply = beats.answered r x y given parts.0 parts.1 in
        (reply.0, AnsweredPlay.more h notes b k r x y reply.0 play given parts.0 parts.1 reply.1)

  pub play_beats : AnsweredPlaysBeatTheSpecification s g
  play_beats e n counts lost h notes b k play =
      let of_game = beats e n counts lost h notes b k play in
      record {
        legal = subst (λ (r : Rules). IsPlay r h) agrees.rules of_game.legal;
        state = of_game.state;
        beaten = subst (λ (r : Rules). Beaten r n (denial_count g n counts) h notes) agrees.rules of_game.beaten;
        goes_on = of_game.goes_on;
        input = allowed e n counts lost h notes b k play;
        answered = goes_on e n counts lost h notes b k play;
      }
