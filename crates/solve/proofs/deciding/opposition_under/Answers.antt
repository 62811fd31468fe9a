use Rattle.std.proofs.Common.{◌∙◌}
use Rattle.spec_model.specs.Views.{spec_data}
use Rattle.hidden_game.proofs.MadeGames.{lines_rise}
use Rattle.solve.specs.Budgets.{MayHalt}
use Rattle.solve.proofs.Budgets.{handed, holds_nothing, may_halt, play_may_halt}
use Rattle.solve.proofs.Served.{agrees_with, lost_by, won_by}
use Rattle.solve.proofs.deciding.opposition_under.Goals as goal

pub returns-in-BySystem-clause-opposition : goal.returns-in-BySystem-clause-opposition
returns-in-BySystem-clause-opposition c =
    let h = rw c.in-BySystem.is at c.in_ok-k.ensures.opposed in
    won_by (spec_data c.args.spec.now) c.requires.typed _ c.in_ok-g.ensures.made.game _ h.0

pub returns-in_ok-n-in-ByEnvironment : goal.returns-in_ok-n-in-ByEnvironment
returns-in_ok-n-in-ByEnvironment c =
    let game = c.in_ok-k.ensures.keeps.game ∙ c.in_ok-g.ensures.made.game in
    let s = spec_data c.args.spec.now in
    let p = c.in_ok-n-in-ByEnvironment.ensures in
    record { opposition = (lost_by s c.requires.typed _ game _ _ p.lost, p.plays s game (agrees_with s c.requires.typed _ game) (lines_rise s c.requires.typed)); cause = λ declared. tt }

pub returns-in_err-g-clause-cause : goal.returns-in_err-g-clause-cause
returns-in_err-g-clause-cause c = λ declared.
    handed (MayHalt c.args.budget (spec_data c.args.spec.now)) c.from_residual.result c.in_err-g.field-0.0 c.from_residual.ensures.1 (c.in_err-g.ensures.cause declared)

pub returns-in_err-k-clause-cause : goal.returns-in_err-k-clause-cause
returns-in_err-k-clause-cause c = λ declared.
    handed (MayHalt c.args.budget (spec_data c.args.spec.now)) c.from_residual-in_err-k.result c.in_err-k.field-0.0 c.from_residual-in_err-k.ensures.1 (may_halt (spec_data c.args.spec.now) c.args.budget _ c.in_ok-g.ensures.made (c.in_ok-g.ensures.bound declared) c.requires.budget c.in_err-k.field-0.0 c.in_err-k.ensures.cause)

pub returns-in_err-n-in-ByEnvironment-clause-cause : goal.returns-in_err-n-in-ByEnvironment-clause-cause
returns-in_err-n-in-ByEnvironment-clause-cause c = λ declared.
    let halt = c.in_err-n-in-ByEnvironment.field-0.0 in
    let h = rw c.in-ByEnvironment.is at c.in_ok-k.ensures.opposed in
    handed (MayHalt c.args.budget (spec_data c.args.spec.now)) c.from_residual-in_err-n-in-ByEnvironment.result halt c.from_residual-in_err-n-in-ByEnvironment.ensures.1 (play_may_halt (spec_data c.args.spec.now) c.args.budget _ c.in_ok-g.ensures.made (c.in_ok-g.ensures.bound declared) c.requires.budget _ c.in_ok-k.ensures.keeps (h.of_one_moment (holds_nothing _ c.in_ok-g.ensures.made.held)) halt c.in_err-n-in-ByEnvironment.ensures.cause)

pub environment_play-requires-clause-free : goal.environment_play-requires-clause-free
environment_play-requires-clause-free c = let h = rw c.in-ByEnvironment.is at c.in_ok-k.ensures.opposed in h.free

pub environment_play-requires-clause-lost : goal.environment_play-requires-clause-lost
environment_play-requires-clause-lost c = let h = rw c.in-ByEnvironment.is at c.in_ok-k.ensures.opposed in h.layers
