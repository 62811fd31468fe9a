-- What the kept diagrams of a game's moves have to tell, for what players force to be told by them.
use Rattle.std.specs.Prelude.{◌≡◌, true, ◌&&◌}
use Rattle.spec_model.specs.Values.{Assignment}
use Rattle.spec_model.specs.Games.{GameData}
use Rattle.spec_model.specs.Steps.{Before, is_state, is_output, reached, legal_input, assumptions_hold, guarantees_hold, IsClosed}
use Rattle.regions.specs.declared.types.When.{When}
use Rattle.bdd_sets.specs.MoveFunctions.{MoveFunctions}
use Rattle.bdd_sets.specs.ToldMoves.{TellsMoves, IsOfNext, follows}
pub use Rattle.bdd_sets.specs.MoveBits.{AreLevelsOf}

-- the functions are those of the game's lines at this time, and say besides that the next bits are a state's
pub record FitMoves (g : GameData) (when : When) (m : MoveFunctions) : Type 0 where
  pub inputs : TellsMoves g when m.inputs (λ b s. assumptions_hold g b s && follows g b s)
  pub inputs_next : IsOfNext g m.inputs
  pub outputs : TellsMoves g when m.outputs (guarantees_hold g)
  pub outputs_next : IsOfNext g m.outputs
  pub update : TellsMoves g when m.update (follows g)

-- what holds of one output after an input holds of each: assumptions read no output that comes with them
abbrev pub AssumeNothingOfReplies : GameData → Type 0
AssumeNothingOfReplies g = (b : Before) (x y : Assignment) → is_state g (reached g b x y) ≡ true → assumptions_hold g b (reached g b x y) ≡ legal_input g b x

-- moves lead from states to states, and each input has some output
pub record HasMoves (g : GameData) : Type 0 where
  pub closed : IsClosed g
  pub alike : AssumeNothingOfReplies g
  pub some_output : (y : Assignment) × (is_output g y ≡ true)
