use Rattle.std.proofs.Common.{subst}
use Rattle.spec_model.specs.Games.{GameData}
use Rattle.solve.specs.Budgets.{SolverHalts}
use Rattle.solve.specs.Winners.{IsLostGame}
use Rattle.solve.proofs.Budgets.{handed}
use Rattle.solve.proofs.Found.{lost_game}
use Rattle.solve.proofs.solving.game_numbers.Goals as goal

pub spend_all-requires : goal.spend_all-requires
spend_all-requires g c = let h = rw c.in-ByEnvironment.is at c.in_ok-k.ensures.opposed in h.layers.1.are.held

pub returns-in-BySystem-clause-numbers : goal.returns-in-BySystem-clause-numbers
returns-in-BySystem-clause-numbers g c = let h = rw c.in-BySystem.is at c.in_ok-k.ensures.opposed in h.0

pub returns-in-ByEnvironment-clause-numbers : goal.returns-in-ByEnvironment-clause-numbers
returns-in-ByEnvironment-clause-numbers g c =
    let h = rw c.in-ByEnvironment.is at c.in_ok-k.ensures.opposed in
    subst (λ (game : GameData). IsLostGame game c.n-n.result c.m-m.result) c.oppose_game.ensures.keeps.game (lost_game _ _ h.layers.0 _ _ h.layers.1 c.n-n.ensures c.m-m.ensures)
