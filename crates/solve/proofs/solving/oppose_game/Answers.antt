use Rattle.std.proofs.Common.{sym, subst}
use Rattle.spec_model.specs.WellMade.{WellMade}
use Rattle.solve.specs.Budgets.{SolverHalts}
use Rattle.solve.proofs.Found.{forced_where_lost}
use Rattle.solve.proofs.Budgets.{handed, sys_halt, later_halt, nothing_still, solved_later}
use Rattle.solve.proofs.solving.oppose_game.Goals as goal

pub returns-in-Ok-Some-clause-opposed : goal.returns-in-Ok-Some-clause-opposed
returns-in-Ok-Some-clause-opposed g c =
    let h = rw c.in-Ok-Some.field-0-is at c.in-Ok-Some.ensures in
    (h.counted, h.held)

pub environment_layers-requires-clause-forces : goal.environment_layers-requires-clause-forces
environment_layers-requires-clause-forces g c =
    let h = rw c.in-Ok-None.field-0-is at c.in-Ok-None.ensures in
    forced_where_lost _ _ (sym h.keeps.game) (subst WellMade (sym h.keeps.game) c.requires.made) h.counted.escapes

pub environment_layers-requires-clause-made : goal.environment_layers-requires-clause-made
environment_layers-requires-clause-made g c =
    let h = rw c.in-Ok-None.field-0-is at c.in-Ok-None.ensures in
    subst WellMade (sym h.keeps.game) c.requires.made

pub returns-in-Err-clause-cause : goal.returns-in-Err-clause-cause
returns-in-Err-clause-cause g c = sys_halt g.G.Regions.kept (g.G.Regions.kept c.args.g.now) c.count_sys.new.g c.count_sys.ensures.keeps c.in-Err.halt c.in-Err.ensures.told

pub returns-in_ok-environment_layers-in-Ok-None-clause-opposed : goal.returns-in_ok-environment_layers-in-Ok-None-clause-opposed
returns-in_ok-environment_layers-in-Ok-None-clause-opposed g c =
    let h = rw c.in-Ok-None.field-0-is at c.in-Ok-None.ensures in
    solved_later _ _ _ _ (nothing_still _ _ h.counted.stays) c.in_ok-environment_layers-in-Ok-None.ensures.solved

pub returns-in_err-environment_layers-in-Ok-None-clause-cause : goal.returns-in_err-environment_layers-in-Ok-None-clause-cause
returns-in_err-environment_layers-in-Ok-None-clause-cause g c =
    let h = rw c.in-Ok-None.field-0-is at c.in-Ok-None.ensures in
    let k = g.G.Regions.kept c.args.g.now in
    let halt = c.in_err-environment_layers-in-Ok-None.field-0.0 in
    handed (SolverHalts g.G.Regions.kept k) c.from_residual.result halt c.from_residual.ensures.1 (later_halt g.G.Regions.kept k (g.G.Regions.kept c.count_sys.new.g) h.keeps (nothing_still _ _ h.counted.stays) halt c.in_err-environment_layers-in-Ok-None.ensures.cause)
