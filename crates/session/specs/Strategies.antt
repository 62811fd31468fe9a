-- The system's strategy in a talk: the plays of a specification that it stands for.
use Rattle.std.specs.Prelude.{◌≡◌, ℕ}
use Rattle.spec_model.specs.Syntax.{Specification}
use Rattle.spec_model.specs.Rules.{Run}
use Rattle.spec_model.specs.Agreement.{Agrees}
use Rattle.spec_model.specs.Steps.{Before}
use Rattle.spec_model.specs.Sets.{StateSet}
use Rattle.regions.specs.Kept.{Kept}
use Rattle.gr1_law.specs.Layers.{LayerSets, round_count}
use Rattle.gr1_law.specs.Choice.{Memory}
use Rattle.gr1_sys.specs.Held.{ranks_of}
use Rattle.controller.specs.declared.controller.Controller.{Controller}
use Rattle.controller.specs.Objects.{game_of as game_played, StandsFor}
use Rattle.session.specs.RunTerms.{RunState}

module _ {G R M : Type 0} where
  -- K, by the layers that it was made for
  abbrev pub rounds_of : Controller G R M → ℕ
  rounds_of c = round_count (ranks_of c.layers.items)

  module _ (kept : G → Kept R M) where
    -- its game agrees with the specification
    abbrev pub IsOf : Controller G R M → Specification → Type 0
    IsOf c s = Agrees s (game_played kept c)

    -- It stands for this play of the specification, where it remembers the last state and what was chosen; k is its number of
    -- rounds.
    pub record PlaysFor (c : Controller G R M) (s : Specification) (k : ℕ) (h : Run) : Type 0 where
      pub is_of : IsOf c s
      pub rounds : k ≡ rounds_of c
      pub z : StateSet
      pub layers : LayerSets
      pub before : Before
      pub memory : Memory
      pub stands : StandsFor kept c z layers h before memory

    -- likewise of a state of the talk
    abbrev pub plays_for : Controller G R M → Specification → RunState → Type 0
    plays_for c s st = PlaysFor c s st.rounds st.play
