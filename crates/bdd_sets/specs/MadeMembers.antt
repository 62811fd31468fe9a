-- What making the diagrams of lines, and the members of moves, gives and leaves.
use Rattle.std.specs.Prelude.{◌≡◌, ◌⊎◌, ℕ, ◌+◌, List, Result, IfOk, OnErr}
use Rattle.std.specs.List.{Contains}
use Rattle.spec_model.specs.Syntax.{Formula}
use Rattle.spec_model.specs.Diagrams.{Function}
use Rattle.spec_model.specs.Games.{GameData}
use Rattle.regions.specs.declared.types.When.{When}
use Rattle.regions.specs.declared.types.Halt.{Halt}
use Rattle.bdd_store.specs.State.{roots_at, SameRoots}
use Rattle.bdd_bits.specs.Contents.{Contents}
use Rattle.bdd_bits.specs.Calls.{KeepsRoots}
use Rattle.bit_compile.specs.Crowding.{HasCause}
use Rattle.bit_compile.specs.Named.{IsNamedOf}
use Rattle.bdd_sets.specs.declared.moves.Members.{Members}
use Rattle.bdd_sets.specs.Members.{move_functions, lists_at}
use Rattle.bdd_sets.specs.Forcing.{FitMoves}
use Rattle.bdd_sets.specs.LineScenes.{roots_of_members}
use Rattle.bdd_sets.specs.NamedGame.{lines_of, IsOfGame}

-- the functions of several lines, what the functions of some of them are made of, or one of others
abbrev pub IsOfLines : GameData → List Function → List (ℕ × Formula) → Function → Type 0
IsOfLines g fs lines f = Contains fs f ⊎ ((l : ℕ × Formula) × Contains lines l × IsNamedOf g l.1 f)

-- the result is members that are the lines of the game's moves and so fit them, or a refusal that leaves what is kept; what
-- fills the budget then is of the game's formulas
pub record MakesMembers (g : GameData) (to : List ℕ) (when : When) (old new : Contents) (result : Result Members Halt) : Type 0 where
  pub fit : IfOk result (λ m. FitMoves g when (move_functions new m))
  pub lines : IfOk result (λ m. lists_at new m ≡ lines_of g to when)
  pub added : IfOk result (λ m. (n : ℕ) → roots_at new.state n ≡ roots_at old.state n + roots_of_members n m)
  pub refused : OnErr result (SameRoots old.state new.state)
  pub keeps : KeepsRoots old new
  pub cause : HasCause old new result (IsOfGame g)
