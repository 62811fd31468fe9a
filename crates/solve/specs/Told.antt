-- What a full object tells: it holds sets of one moment of its game, and its call asks of these.
use Rattle.std.specs.Prelude.{◌≡◌, List, [], ◌∷◌}
use Rattle.std.specs.List.{Contains}
use Rattle.spec_model.specs.Games.{GameData}
use Rattle.spec_model.specs.Sets.{StateSet, all_states, both}
use Rattle.regions.specs.Kept.{Meaning, States, Outputs, Inputs, Call, PreSys, PreEnv, OutMoves, InMoves, StartSys, StartEnv, Jam}
use Rattle.solve.specs.Crowded.{Moment, IsMomentOf, IsIterate, IsNamedState}

-- a set with the same states of the game is one of these
abbrev pub IsLike : GameData → (StateSet → Type 0) → StateSet → Type 0
IsLike g P t = (s : StateSet) × P s × (both (all_states g) t ≡ both (all_states g) s)

-- a set that is named, or moves into an iterate
abbrev pub IsMeant : GameData → Moment → Meaning → Type 0
IsMeant g m (States t) = IsLike g (IsNamedState g m) t
IsMeant g m (Outputs when t) = IsLike g (IsIterate g m) t
IsMeant g m (Inputs when t) = IsLike g (IsIterate g m) t

-- if they are one set, this holds of it
abbrev pub IfOneSet : (StateSet → Type 0) → List Meaning → Type 0
IfOneSet P (States t ∷ []) = P t
IfOneSet P arguments = Unit {0}

-- what asks of a set asks of an iterate
abbrev pub AsksOfIterates : GameData → Moment → Call → List Meaning → Type 0
AsksOfIterates g m PreSys arguments = IfOneSet (IsLike g (IsIterate g m)) arguments
AsksOfIterates g m PreEnv arguments = IfOneSet (IsLike g (IsIterate g m)) arguments
AsksOfIterates g m (OutMoves when) arguments = IfOneSet (IsLike g (IsIterate g m)) arguments
AsksOfIterates g m (InMoves when) arguments = IfOneSet (IsLike g (IsIterate g m)) arguments
AsksOfIterates g m StartSys arguments = IfOneSet (IsLike g (IsIterate g m)) arguments
AsksOfIterates g m StartEnv arguments = IfOneSet (IsLike g (IsIterate g m)) arguments
AsksOfIterates g m asked arguments = Unit {0}

-- All that was held, and what was asked, is of one moment.
pub record IsOfOneMoment (g : GameData) (jam : Jam) : Type 0 where
  pub moment : Moment
  pub is : IsMomentOf g moment
  pub held : (m : Meaning) → Contains jam.held m → IsMeant g moment m
  pub asked : AsksOfIterates g moment jam.call jam.arguments
