-- What making a part of the object's own diagrams gives and leaves.
use Rattle.std.specs.Prelude.{◌≡◌, ℕ, ◌+◌, false, Result, List, map, Vec, IfOk, OnErr}
use Rattle.std.specs.declared.alloc.Global.{Global}
use Rattle.spec_model.specs.Diagrams.{Function}
use Rattle.spec_model.specs.Values.{DomainData}
use Rattle.spec_model.specs.Games.{GameData, GoalData}
use Rattle.game_values.specs.declared.seen.At.TheVariants.{Now}
use Rattle.regions.specs.declared.types.Halt.{Halt}
use Rattle.regions.specs.declared.types.When.{When}
use Rattle.regions.specs.declared.types.When.TheVariants.{First, Later}
use Rattle.bdd_store.specs.State.{roots_at, SameRoots}
use Rattle.bdd_bits.specs.Contents.{Contents, function_at}
use Rattle.bdd_bits.specs.Calls.{KeepsRoots}
use Rattle.bit_compile.specs.Crowding.{HasCause}
use Rattle.bit_compile.specs.Compiled.{compiled, proper}
use Rattle.bdd_sets.specs.declared.moves.Members.{Members}
use Rattle.bdd_sets.specs.Members.{functions_at, move_functions, lists_at}
use Rattle.bdd_sets.specs.Lists.{one_at, times_in}
use Rattle.bdd_sets.specs.LineScenes.{roots_of_members}
use Rattle.bdd_sets.specs.NamedGame.{lines_of}
use Rattle.bdd_sets.specs.Goals.{TellGoals}
use Rattle.bdd_sets.specs.Forcing.{FitMoves}
use Rattle.region_bdd.specs.declared.own.Own.{Own}
use Rattle.region_bdd.specs.Object.{OwnFits, OwnIsNamed, own_functions}

-- the result has these roots, which are kept besides, and fits; or it is a refusal that leaves what is kept, and `Budget`
-- comes only where what is kept and what is named fill it
pub record MakesPart {V : Type 0} (times : ℕ → V → ℕ) (Fits : Contents → V → Type 0) (IsNamed : Function → Type 0) (old new : Contents) (result : Result V Halt) : Type 0 where
  pub fit : IfOk result (λ v. Fits new v)
  pub added : IfOk result (λ v. (n : ℕ) → roots_at new.state n ≡ roots_at old.state n + times n v)
  pub refused : OnErr result (SameRoots old.state new.state)
  pub keeps : KeepsRoots old new
  pub cause : HasCause old new result IsNamed

-- the roots of two parts, and what fits both
abbrev pub in_both : {V W : Type 0} → (ℕ → V → ℕ) → (ℕ → W → ℕ) → ℕ → V × W → ℕ
in_both first second n p = first n p.0 + second n p.1

abbrev pub FitBoth : {V W : Type 0} → (Contents → V → Type 0) → (Contents → W → Type 0) → Contents → V × W → Type 0
FitBoth FitFirst FitSecond c p = FitFirst c p.0 × FitSecond c p.1

-- ---- the parts

-- all states, and no state
abbrev pub FitProper : List DomainData → Contents → ℕ → Type 0
FitProper ds c root = function_at c root ≡ proper ds Now

abbrev pub FitNothing : Contents → ℕ → Type 0
FitNothing c root = function_at c root ≡ (λ b. false)

abbrev pub times_in_sets : ℕ → ℕ × ℕ → ℕ
times_in_sets = in_both one_at one_at

abbrev pub FitSets : List DomainData → Contents → ℕ × ℕ → Type 0
FitSets ds = FitBoth (FitProper ds) FitNothing

-- the recurring assumptions, and the recurring guarantees
abbrev pub listed_times : ℕ → Vec ℕ Global → ℕ
listed_times n roots = times_in n roots.items

abbrev pub FitGoals : GameData → List GoalData → Contents → Vec ℕ Global → Type 0
FitGoals g goals c roots = TellGoals g goals (functions_at c roots.items) × (functions_at c roots.items ≡ map (λ goal. compiled g goal.holds) goals)

abbrev pub times_in_goals : ℕ → Vec ℕ Global × Vec ℕ Global → ℕ
times_in_goals = in_both listed_times listed_times

abbrev pub FitAllGoals : GameData → Contents → Vec ℕ Global × Vec ℕ Global → Type 0
FitAllGoals g = FitBoth (FitGoals g g.assume) (FitGoals g g.goals)

-- the lines of first moves, and those of later ones
abbrev pub FitLines : GameData → (to : List ℕ) → When → Contents → Members → Type 0
FitLines g to when c m = FitMoves g when (move_functions c m) × (lists_at c m ≡ lines_of g to when)

abbrev pub times_in_lines : ℕ → Members × Members → ℕ
times_in_lines = in_both roots_of_members roots_of_members

abbrev pub FitAllLines : GameData → (to : List ℕ) → Contents → Members × Members → Type 0
FitAllLines g to = FitBoth (FitLines g to First) (FitLines g to Later)

-- the goals, and the lines
abbrev pub times_in_formulas : ℕ → (Vec ℕ Global × Vec ℕ Global) × (Members × Members) → ℕ
times_in_formulas = in_both times_in_goals times_in_lines

abbrev pub FitFormulas : GameData → (to : List ℕ) → Contents → (Vec ℕ Global × Vec ℕ Global) × (Members × Members) → Type 0
FitFormulas g to = FitBoth (FitAllGoals g) (FitAllLines g to)

-- the object's own diagrams
abbrev pub FitOwn : GameData → (to : List ℕ) → Contents → Own → Type 0
FitOwn g to c own = OwnFits g (own_functions c own) × OwnIsNamed g to c own
