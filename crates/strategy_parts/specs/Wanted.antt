-- The sets that recur.
use Rattle.std.specs.Prelude.{List}
use Rattle.spec_model.specs.Games.{GameData}
use Rattle.spec_model.specs.Sets.{StateSet}
use Rattle.gr1_law.specs.Layers.{goal_sets, assumption_sets}
use Rattle.strategy_parts.specs.declared.making.Wanted.{Wanted}
use Rattle.strategy_parts.specs.declared.making.Wanted.TheVariants.{Assumptions, Guarantees}

-- the states of each assumption, or of each guarantee
abbrev pub sets_wanted : GameData → Wanted → List StateSet
sets_wanted g Assumptions = assumption_sets g
sets_wanted g Guarantees = goal_sets g
