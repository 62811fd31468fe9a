-- What a budget is filled with where a call of the object ran out of it.
use Rattle.std.specs.Prelude.{◌≡◌, ◌⊎◌, ◌<◌, ℕ, List, [], ◌∷◌, Option, Some, None}
use Rattle.std.specs.List.{Contains}
use Rattle.spec_model.specs.Diagrams.{Diagram, Function, value}
use Rattle.spec_model.specs.Games.{GameData}
use Rattle.spec_model.specs.Sets.{StateSet}
use Rattle.game_values.specs.declared.seen.At.TheVariants.{Now, Next}
use Rattle.regions.specs.declared.types.When.{When}
use Rattle.regions.specs.Kept.{Meaning, States, Outputs, Inputs, Call, PreSys, PreEnv, OutMoves, InMoves, StartSys, StartEnv, Jam}
use Rattle.bdd_bits.specs.Contents.{Contents}
use Rattle.bdd_ops.specs.Unfinished.{negated}
use Rattle.bit_compile.specs.Domains.{state_domains, level_count}
use Rattle.bit_compile.specs.Filling.{FillTogether, IsFilledBy}
use Rattle.bdd_sets.specs.declared.moves.NextLevels.{NextLevels}
use Rattle.bdd_sets.specs.StateBits.{Tells}
use Rattle.bdd_sets.specs.MoveFunctions.{reply_of}
use Rattle.bdd_sets.specs.MoveBits.{AreLevelsOf}
use Rattle.bdd_sets.specs.NamedMoves.{joined_lists}
use Rattle.bdd_sets.specs.NamedGame.{IsOfGame, IsOfSet, lines_of}
use Rattle.region_bdd.specs.Bound.{bound_of}

-- ---- what a jam lists

-- the function is true where every legal output leads into the set
pub record LeadsInto (g : GameData) (when : When) (t : StateSet) (f : Function) : Type 0 where
  pub levels : NextLevels
  pub levels_are : AreLevelsOf g levels
  pub next : Function
  pub tells : Tells g Next next t
  pub is : f ≡ negated (reply_of (joined_lists (lines_of g levels.to.items when)) levels.reply.items (negated next))

-- the function is a diagram's that is kept for it: a set's at the present bits, of moves that give outputs their target's at the
-- next bits, and of moves that give inputs their target's at the present bits and where every legal output leads there
abbrev pub StandsFor : GameData → Meaning → Function → Type 0
StandsFor g (States t) f = Tells g Now f t
StandsFor g (Outputs when t) f = Tells g Next f t
StandsFor g (Inputs when t) f = Tells g Now f t ⊎ LeadsInto g when t f

-- one of these diagrams has a function that passes
abbrev pub HasOne : List Diagram → (Function → Type 0) → Type 0
HasOne ds P = (d : Diagram) × Contains ds d × P (value d)

-- the diagrams that are kept for it are among these
abbrev pub HasDiagrams : GameData → List Diagram → Meaning → Type 0
HasDiagrams g ds (States t) = HasOne ds (λ f. Tells g Now f t)
HasDiagrams g ds (Outputs when t) = HasOne ds (λ f. Tells g Next f t)
HasDiagrams g ds (Inputs when t) = HasOne ds (λ f. Tells g Now f t) × HasOne ds (LeadsInto g when t)

-- ---- what fills the budget

-- they are one set, for which this holds
abbrev pub IsOneSet : (StateSet → Type 0) → List Meaning → Type 0
IsOneSet P (States t ∷ []) = P t
IsOneSet P arguments = ⊥

-- what is named by the formula of a call at its arguments: those that ask of a set take the formulas of that set
abbrev pub IsOfCall : GameData → Call → List Meaning → Function → Type 0
IsOfCall g PreSys arguments f = IsOneSet (λ t. IsOfSet g t f) arguments
IsOfCall g PreEnv arguments f = IsOneSet (λ t. IsOfSet g t f) arguments
IsOfCall g (OutMoves when) arguments f = IsOneSet (λ t. IsOfSet g t f) arguments
IsOfCall g (InMoves when) arguments f = IsOneSet (λ t. IsOfSet g t f) arguments
IsOfCall g StartSys arguments f = IsOneSet (λ t. IsOfSet g t f) arguments
IsOfCall g StartEnv arguments f = IsOneSet (λ t. IsOfSet g t f) arguments
IsOfCall g asked arguments f = ⊥

-- what the jam lists, what the game's own formulas name, and what the refused call's does
abbrev pub IsHeldAt : GameData → Jam → Function → Type 0
IsHeldAt g jam f = ((m : Meaning) × Contains jam.held m × StandsFor g m f) ⊎ (IsOfGame g f ⊎ IsOfCall g jam.call jam.arguments f)

-- All that the jam lists, some named sets of the game's own formulas and of the refused call's formula at its arguments, and
-- one operation's unfinished results on such sets have together exactly as many different parts as the budget.
pub record FillsBudget (g : GameData) (budget : ℕ) (jam : Jam) : Type 0 where
  pub sets : List Diagram
  pub lists : (m : Meaning) → Contains jam.held m → HasDiagrams g sets m
  pub fill : FillTogether (level_count (state_domains g)) budget (IsHeldAt g jam) sets

-- so it is where a budget is shown
abbrev pub FillsIn : GameData → Contents → Jam → Type 0
FillsIn g c jam = 0 < bound_of c → ∥ FillsBudget g (bound_of c) jam ∥₁

-- while the object tells it
abbrev pub IsJammed : GameData → Contents → Option Jam → Type 0
IsJammed g c None = Unit {0}
IsJammed g c (Some jam) = FillsIn g c jam

-- ---- before there is an object

-- the budget is below the game's need, and its own formulas alone fill it
pub record IsTooSmall (need : ℕ) (g : GameData) (budget : ℕ) : Type 0 where
  pub few : budget < need
  pub filled : IsFilledBy (level_count (state_domains g)) budget (IsOfGame g)
