-- The sets that the solver makes first and keeps to its end.
use Rattle.std.specs.Prelude.{List, ◌∷◌, ◌++◌, map}
use Rattle.spec_model.specs.Games.{GameData}
use Rattle.spec_model.specs.Sets.{StateSet, no_states, rest}
use Rattle.gr1_law.specs.Layers.{goal_sets, assumption_sets}
use Rattle.gr1_env.specs.declared.givens.Given.{Given}
use Rattle.gr1_env.specs.declared.givens.EnvSets.{EnvSets}
use Rattle.gr1_env.specs.declared.givens.EnvSets.TheVariants.{Misses, Assumptions}

-- the states at which each goal is false, or those of each assumption
abbrev pub wanted : GameData → EnvSets → List StateSet
wanted g Misses = map (rest g) (goal_sets g)
wanted g Assumptions = assumption_sets g

-- the regions that are kept, and what they stand for
abbrev pub given_regions : {G R M : Type 0} → Given G R M → List R
given_regions given = given.misses.items ++ given.none ∷ given.asms.items

abbrev pub given_sets : GameData → List StateSet
given_sets g = wanted g Misses ++ no_states ∷ wanted g Assumptions
