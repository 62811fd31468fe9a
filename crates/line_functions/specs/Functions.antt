-- The functions of a game's lines and goals, and what may be held where their diagrams are made.
use Rattle.std.specs.Prelude.{◌⊎◌, List, ◌∷◌, map}
use Rattle.std.specs.List.{Contains}
use Rattle.spec_model.specs.Syntax.{Formula}
use Rattle.spec_model.specs.Values.{DomainData}
use Rattle.spec_model.specs.Games.{GameData}
use Rattle.spec_model.specs.Diagrams.{Function}
use Rattle.bit_compile.specs.Domains.{state_domains}
use Rattle.bit_compile.specs.declared.folds.Fold.TheVariants.{All}
use Rattle.bit_compile.specs.Compiled.{compiled, all_of, has_some_value}
use Rattle.bit_compile.specs.Named.{IsFirstOf, IsOfSlot, IsNamedOf}
use Rattle.bdd_sets.specs.NamedGame.{formulas_of}
use Rattle.line_functions.specs.declared.slots.TimedSlot.{TimedSlot}
use Rattle.line_functions.specs.Names.{named_in}

-- ---- functions

-- the slot has the code of some value at this time
abbrev pub has_value : List DomainData → TimedSlot → Function
has_value ds s = has_some_value ds s.at s.slot

-- where the formula is true, and for each slot that it names, where that has the code of some value
abbrev pub members_of : GameData → Formula → List Function
members_of g e = compiled g e ∷ map (has_value (state_domains g)) (named_in g e)

-- A line's function is true where its formula is, as it is written, and where each hidden table and each variable that it names,
-- itself or through the atoms of its tables, has the code of some value at the time at which it is named.
abbrev pub line_function : GameData → Formula → Function
line_function g e = all_of (members_of g e)

-- Those of the initial lines and of the lines that are judged at each position, of monitors' lines too, and of the recurring
-- goals; of each kind those of the assumptions come first.
abbrev pub functions_of : GameData → List Function
functions_of g = map (line_function g) (formulas_of g)

-- ---- what they are made of

-- a part of the formula, the codes of the values of a slot that it names, or the first several members of the conjunction
abbrev pub IsOfLine : GameData → Formula → Function → Type 0
IsOfLine g e f = IsNamedOf g e f ⊎ (((s : TimedSlot) × Contains (named_in g e) s × IsOfSlot (state_domains g) s.at s.slot f) ⊎ IsFirstOf All (members_of g e) f)

-- of one of these formulas
abbrev pub IsOfOne : GameData → List Formula → Function → Type 0
IsOfOne g es f = (e : Formula) × Contains es e × IsOfLine g e f

-- of a line or a goal of the game; its function is one of these, since all members are the first several
abbrev pub IsOfLines : GameData → Function → Type 0
IsOfLines g = IsOfOne g (formulas_of g)
