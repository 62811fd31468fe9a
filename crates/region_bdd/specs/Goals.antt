-- Which roots the goals of a kind have.
use Rattle.std.specs.Prelude.{ℕ, List}
use Rattle.regions.specs.declared.types.Recur.{Recur}
use Rattle.regions.specs.declared.types.Recur.TheVariants.{Assumption, Guarantee}
use Rattle.region_bdd.specs.declared.own.Own.{Own}

abbrev pub goal_roots : Own → Recur → List ℕ
goal_roots own (Assumption k) = own.assume.items
goal_roots own (Guarantee k) = own.goals.items
