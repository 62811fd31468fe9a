-- What is known where it is asked what formulas name.
use Rattle.std.specs.Prelude.{◌≡◌, ℕ, Bool, List, map, length}
use Rattle.std.specs.Borrow.{Bor}
use Rattle.spec_model.specs.declared.expr.Expr.{Expr}
use Rattle.spec_model.specs.Syntax.{Formula, Formulas}
use Rattle.spec_model.specs.Views.{formula}
use Rattle.spec_model.specs.Games.{GameData}
use Rattle.spec_model.specs.GameViews.{game_data}
use Rattle.spec_model.specs.Steps.{below}
use Rattle.spec_model.specs.WellMade.{WellMade}
use Rattle.game_values.specs.declared.seen.At.{At}
use Rattle.bit_compile.specs.Domains.{state_domains}
use Rattle.bit_compile.specs.Compiled.{place_of}
use Rattle.line_functions.specs.declared.names.Asked.{Asked}
use Rattle.line_functions.specs.declared.slots.Marks.{Marks}
use Rattle.line_functions.specs.declared.making.Scene.{Scene}
use Rattle.line_functions.specs.Names.{names, some_names, marks_of}

-- they are the slots of the game's variables
pub record ArePlaces (g : GameData) (places : List ℕ) : Type 0 where
  pub are : places ≡ map (place_of g) (below (length g.variables))

-- ---- what is asked

abbrev pub game_asked : Asked → GameData
game_asked a = game_data a.game.now

abbrev pub IsAsked : Asked → Type 0
IsAsked a = ArePlaces (game_asked a) a.places.now

abbrev pub names_asked : Asked → At → Formula → Bool
names_asked a at e = names (game_asked a) a.slot a.time a.marks.now at e

abbrev pub some_names_asked : Asked → At → Formulas → Bool
some_names_asked a at es = some_names (game_asked a) a.slot a.time a.marks.now at es

-- ---- what answers

-- the slots of the game's variables, and for each slot which tables' entries name it
pub record AreMarks (g : GameData) (m : Marks) : Type 0 where
  pub places : ArePlaces g m.places.items
  pub tables : map (λ t. t.items) m.tables.items ≡ map (marks_of g) (below (length (state_domains g)))

abbrev pub game_seen : Scene → GameData
game_seen s = game_data s.game.now

-- the game is well made, and the bits and the marks are its own
pub record IsScene (s : Scene) : Type 0 where
  pub made : WellMade (game_seen s)
  pub codes : s.codes.now ≡ state_domains (game_seen s)
  pub marks : AreMarks (game_seen s) s.marks.now

-- ---- formulas

abbrev pub formulas_seen : List (Bor Expr) → List Formula
formulas_seen es = map (λ e. formula e.now) es
