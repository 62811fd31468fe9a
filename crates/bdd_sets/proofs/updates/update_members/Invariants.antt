use Rattle.std.proofs.Common.{Ok, take}
use Rattle.spec_model.specs.GameViews.{game_data}
use Rattle.bdd_sets.specs.Lists.{MakesList}
use Rattle.bdd_sets.specs.Updates.{update_functions}
use Rattle.bdd_sets.proofs.updates.update_members.Given as goal

-- the diagrams of the tables so far
abbrev pub invariant-loop-k : goal.invariant-loop-k
invariant-loop-k l = MakesList l.fn.diagrams l.diagrams (Ok l.roots) (take l.k (update_functions (game_data l.game) l.when))
