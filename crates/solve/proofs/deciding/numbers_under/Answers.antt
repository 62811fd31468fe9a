use Rattle.std.proofs.lemmas.Result.{IfOk-weaker}
use Rattle.spec_model.specs.Views.{spec_data}
use Rattle.solve.specs.Verdicts.{AreNumbersOf}
use Rattle.solve.proofs.Served.{numbers_of}
use Rattle.solve.specs.Budgets.{MayHalt}
use Rattle.solve.proofs.Budgets.{halts_as, handed, may_halt}
use Rattle.solve.proofs.deciding.numbers_under.Goals as goal

pub returns : goal.returns
returns c =
    let s = spec_data c.args.spec.now in
    record { numbers = IfOk-weaker c.game_numbers.result _ (AreNumbersOf s) (numbers_of s c.requires.typed _ c.in_ok-g.ensures.made.game) c.game_numbers.ensures.numbers; cause = λ declared. halts_as c.game_numbers.result (may_halt s c.args.budget _ c.in_ok-g.ensures.made (c.in_ok-g.ensures.bound declared) c.requires.budget) c.game_numbers.ensures.cause }

pub returns-in_err-g-clause-cause : goal.returns-in_err-g-clause-cause
returns-in_err-g-clause-cause c = λ declared.
    handed (MayHalt c.args.budget (spec_data c.args.spec.now)) c.from_residual.result c.in_err-g.field-0.0 c.from_residual.ensures.1 (c.in_err-g.ensures.cause declared)
