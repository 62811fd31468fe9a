use Rattle.std.proofs.Common.{◌∙◌}
use Rattle.spec_model.specs.Views.{spec_data}
use Rattle.hidden_game.proofs.MadeGames.{lines_rise}
use Rattle.solve.specs.Budgets.{MayHalt}
use Rattle.solve.proofs.Budgets.{handed, holds_nothing, may_halt, play_may_halt}
use Rattle.solve.proofs.Served.{agrees_with, won_by, lost_by}
use Rattle.solve.proofs.deciding.verdict_under.Goals as goal

pub returns-in_ok-k-in-BySystem : goal.returns-in_ok-k-in-BySystem
returns-in_ok-k-in-BySystem c =
    let game = c.in_ok-layers.ensures.keeps.game ∙ c.in_ok-g.ensures.made.game in
    let s = spec_data c.args.spec.now in
    let p = c.in_ok-k-in-BySystem.ensures in
    record { verdict = (won_by s c.requires.typed _ game _ p.won, p.plays s game (agrees_with s c.requires.typed _ game)); cause = λ declared. tt }

pub returns-in_ok-n-in-ByEnvironment : goal.returns-in_ok-n-in-ByEnvironment
returns-in_ok-n-in-ByEnvironment c =
    let game = c.in_ok-layers.ensures.keeps.game ∙ c.in_ok-g.ensures.made.game in
    let s = spec_data c.args.spec.now in
    let p = c.in_ok-n-in-ByEnvironment.ensures in
    record { verdict = (lost_by s c.requires.typed _ game _ _ p.lost, p.plays s game (agrees_with s c.requires.typed _ game) (lines_rise s c.requires.typed)); cause = λ declared. tt }

pub returns-in_err-g-clause-cause : goal.returns-in_err-g-clause-cause
returns-in_err-g-clause-cause c = λ declared.
    handed (MayHalt c.args.budget (spec_data c.args.spec.now)) c.from_residual.result c.in_err-g.field-0.0 c.from_residual.ensures.1 (c.in_err-g.ensures.cause declared)

pub returns-in_err-layers-clause-cause : goal.returns-in_err-layers-clause-cause
returns-in_err-layers-clause-cause c = λ declared.
    handed (MayHalt c.args.budget (spec_data c.args.spec.now)) c.from_residual-in_err-layers.result c.in_err-layers.field-0.0 c.from_residual-in_err-layers.ensures.1 (may_halt (spec_data c.args.spec.now) c.args.budget _ c.in_ok-g.ensures.made (c.in_ok-g.ensures.bound declared) c.requires.budget c.in_err-layers.field-0.0 c.in_err-layers.ensures.cause)

pub returns-in_err-k-in-BySystem-clause-cause : goal.returns-in_err-k-in-BySystem-clause-cause
returns-in_err-k-in-BySystem-clause-cause c = λ declared.
    let halt = c.in_err-k-in-BySystem.field-0.0 in
    handed (MayHalt c.args.budget (spec_data c.args.spec.now)) c.from_residual-in_err-k-in-BySystem.result halt c.from_residual-in_err-k-in-BySystem.ensures.1 (play_may_halt (spec_data c.args.spec.now) c.args.budget _ c.in_ok-g.ensures.made (c.in_ok-g.ensures.bound declared) c.requires.budget _ c.in_ok-layers.ensures.keeps (c.in_ok-layers.ensures.solved.of_one_moment (holds_nothing _ c.in_ok-g.ensures.made.held)) halt c.in_err-k-in-BySystem.ensures.cause)

pub returns-in_err-n-in-ByEnvironment-clause-cause : goal.returns-in_err-n-in-ByEnvironment-clause-cause
returns-in_err-n-in-ByEnvironment-clause-cause c = λ declared.
    let halt = c.in_err-n-in-ByEnvironment.field-0.0 in
    handed (MayHalt c.args.budget (spec_data c.args.spec.now)) c.from_residual-in_err-n-in-ByEnvironment.result halt c.from_residual-in_err-n-in-ByEnvironment.ensures.1 (play_may_halt (spec_data c.args.spec.now) c.args.budget _ c.in_ok-g.ensures.made (c.in_ok-g.ensures.bound declared) c.requires.budget _ c.in_ok-layers.ensures.keeps (c.in_ok-layers.ensures.solved.of_one_moment (holds_nothing _ c.in_ok-g.ensures.made.held)) halt c.in_err-n-in-ByEnvironment.ensures.cause)

pub system_play-requires-clause-free : goal.system_play-requires-clause-free
system_play-requires-clause-free c = c.in_ok-layers.ensures.solved.free

pub system_play-requires-clause-won : goal.system_play-requires-clause-won
system_play-requires-clause-won c = let h = rw c.in-BySystem.is at c.in_ok-layers.ensures.solved.layers in h

pub environment_play-requires-clause-free : goal.environment_play-requires-clause-free
environment_play-requires-clause-free c = c.in_ok-layers.ensures.solved.free

pub environment_play-requires-clause-lost : goal.environment_play-requires-clause-lost
environment_play-requires-clause-lost c = let h = rw c.in-ByEnvironment.is at c.in_ok-layers.ensures.solved.layers in h
