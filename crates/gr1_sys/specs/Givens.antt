-- The sets that a solver makes first and keeps to its end.
use Rattle.std.specs.Prelude.{List, ◌∷◌, ◌++◌, map}
use Rattle.spec_model.specs.Games.{GameData}
use Rattle.spec_model.specs.Sets.{StateSet, no_states, rest}
use Rattle.gr1_law.specs.Layers.{goal_sets, assumption_sets}
use Rattle.gr1_sys.specs.declared.givens.Given.{Given}
use Rattle.gr1_sys.specs.declared.givens.SysSets.{SysSets}
use Rattle.gr1_sys.specs.declared.givens.SysSets.TheVariants.{Goals, Lapses}

-- the states of each goal, or those at which each assumption is false
abbrev pub wanted : GameData → SysSets → List StateSet
wanted g Goals = goal_sets g
wanted g Lapses = map (rest g) (assumption_sets g)

-- the regions that are kept, and what they stand for
abbrev pub given_regions : {G R M : Type 0} → Given G R M → List R
given_regions given = given.goals.items ++ given.none ∷ given.lapses.items

abbrev pub given_sets : GameData → List StateSet
given_sets g = wanted g Goals ++ no_states ∷ wanted g Lapses
