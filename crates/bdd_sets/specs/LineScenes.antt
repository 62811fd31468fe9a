-- The lines of a game where their diagrams are made: whose they are, and the lists of roots that are made of them.
use Rattle.std.specs.Prelude.{◌≡◌, ℕ, ◌+◌, Bool, true, List, ◌++◌, map, Vec, Result, Ok}
use Rattle.std.specs.List.{list_all}
use Rattle.std.specs.declared.alloc.Global.{Global}
use Rattle.spec_model.specs.Syntax.{Formula}
use Rattle.spec_model.specs.declared.expr.Expr.{Expr}
use Rattle.spec_model.specs.Views.{formula}
use Rattle.spec_model.specs.Games.{GameData, State}
use Rattle.spec_model.specs.GameViews.{game_data}
use Rattle.spec_model.specs.Steps.{Before, assumptions_hold, guarantees_hold}
use Rattle.spec_model.specs.WellMade.{WellMade, scope_of, is_step_formula}
use Rattle.spec_model.specs.Diagrams.{Function}
use Rattle.regions.specs.declared.types.Halt.{Halt}
use Rattle.bdd_bits.specs.Contents.{Contents}
use Rattle.bit_compile.specs.Domains.{state_domains}
use Rattle.bdd_sets.specs.declared.lines.Side.{Side}
use Rattle.bdd_sets.specs.declared.lines.Side.TheVariants.{Assumptions, Guarantees}
use Rattle.bdd_sets.specs.declared.lines.LineScene.{LineScene}
use Rattle.bdd_sets.specs.declared.moves.Members.{Members}
use Rattle.bdd_sets.specs.MoveBits.{LeadsToNext}
use Rattle.bdd_sets.specs.NextOrders.{FitsNext}
use Rattle.bdd_sets.specs.Lists.{times_in, MakesList}

-- ---- what lines are compiled in

abbrev pub game_seen : LineScene → GameData
game_seen s = game_data s.game.now

-- the game is well made, and the bits and the levels are its own
pub record IsLineScene (s : LineScene) : Type 0 where
  pub made : WellMade (game_seen s)
  pub codes : s.codes.now ≡ state_domains (game_seen s)
  pub to : LeadsToNext (game_seen s) s.to.now

-- the store is one for the bits of the scene's game
abbrev pub FitsScene : Contents → LineScene → Type 0
FitsScene c s = FitsNext (game_seen s) s.to.now c

-- ---- lines

-- the lines that the program's stand for
abbrev pub line_data : List (ℕ × Expr) → List (ℕ × Formula)
line_data lines = map (λ l. (l.0, formula l.1)) lines

-- each is a Boolean formula over a state and the next one
abbrev pub AreStepLines : GameData → List (ℕ × Formula) → Type 0
AreStepLines g lines = list_all (λ l. is_step_formula (scope_of g) l.1) lines ≡ true

-- whether the lines that are judged at a move hold there
abbrev pub lines_hold : GameData → Side → Before → State → Bool
lines_hold g Assumptions = assumptions_hold g
lines_hold g Guarantees = guarantees_hold g

-- ---- lists of roots that grow

-- the list was made since some time
abbrev pub IsMade : Contents → Vec ℕ Global → Type 0
IsMade c roots = (base : Contents) × (fs : List Function) × MakesList base c (Ok roots) fs

-- since whatever time the list was made, it has these functions more, or nothing is left of it
abbrev pub Appends : (old new : Contents) → Vec ℕ Global → Result (Vec ℕ Global) Halt → List Function → Type 0
Appends old new so_far result more = (base : Contents) (fs : List Function) → MakesList base old (Ok so_far) fs → MakesList base new result (fs ++ more)

-- ---- the members of moves

-- how often they have the root
abbrev pub roots_of_members : ℕ → Members → ℕ
roots_of_members n m = times_in n m.inputs.items + (times_in n m.outputs.items + times_in n m.update.items)
