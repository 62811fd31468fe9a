-- Functions that tell where recurring goals hold.
use Rattle.std.specs.Prelude.{◌≡◌, true, List, [], ◌∷◌}
use Rattle.std.specs.List.{Contains}
use Rattle.spec_model.specs.Syntax.{Formula}
use Rattle.spec_model.specs.Diagrams.{Function, Bits}
use Rattle.spec_model.specs.Meaning.{holds_at}
use Rattle.spec_model.specs.Games.{GameData, GoalData, State, step_reading}
use Rattle.spec_model.specs.Steps.{is_state}
use Rattle.game_values.specs.declared.seen.At.TheVariants.{Now}
use Rattle.bit_compile.specs.Named.{IsNamedOf}
use Rattle.bdd_sets.specs.StateBits.{HasState}

-- the function says of each state whether the formula holds there
abbrev pub TellsFormula : GameData → Formula → Function → Type 0
TellsFormula g e f = (s : State) (b : Bits) → is_state g s ≡ true → HasState g Now s b → f b ≡ holds_at (step_reading g s s) e 0

-- each goal has its function
abbrev pub TellGoals : GameData → List GoalData → List Function → Type 0
TellGoals g [] [] = Unit {0}
TellGoals g (goal ∷ goals) (f ∷ fs) = TellsFormula g goal.holds f × TellGoals g goals fs
TellGoals g _ _ = ⊥

-- what the formula of one of these goals is made of
abbrev pub IsOfGoals : GameData → List GoalData → Function → Type 0
IsOfGoals g goals f = (goal : GoalData) × Contains goals goal × IsNamedOf g goal.holds f
