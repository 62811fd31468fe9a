use Rattle.std.proofs.Common.{subst}
use Rattle.spec_model.specs.Views.{spec_data}
use Rattle.solve.specs.Verdicts.{AreNumbersOf}
use Rattle.solve.proofs.Wholly.{won_within, lost_within}
use Rattle.solve.specs.Budgets.{MayHaltInTurn}
use Rattle.solve.proofs.Budgets.{handed, whole_in_turn}
use Rattle.solve.proofs.cores.core_of.Goals as goal

pub core_of_lost-requires-clause-lost : goal.core_of_lost-requires-clause-lost
core_of_lost-requires-clause-lost c =
    lost_within (spec_data c.args.spec.now) c.in-Unrealizable.n c.in-Unrealizable.m (subst (AreNumbersOf (spec_data c.args.spec.now)) c.in-Unrealizable.is c.in_ok-whole_numbers.ensures.numbers)

pub returns-in-Realizable-clause-answer : goal.returns-in-Realizable-clause-answer
returns-in-Realizable-clause-answer c =
    won_within (spec_data c.args.spec.now) c.in-Realizable.k (subst (AreNumbersOf (spec_data c.args.spec.now)) c.in-Realizable.is c.in_ok-whole_numbers.ensures.numbers)

pub returns-in_ok-core-in-Unrealizable-clause-answer : goal.returns-in_ok-core-in-Unrealizable-clause-answer
returns-in_ok-core-in-Unrealizable-clause-answer c =
    lost_within (spec_data c.args.spec.now) c.in-Unrealizable.n c.in-Unrealizable.m (subst (AreNumbersOf (spec_data c.args.spec.now)) c.in-Unrealizable.is c.in_ok-whole_numbers.ensures.numbers)

pub returns-in_err-whole_numbers-clause-cause : goal.returns-in_err-whole_numbers-clause-cause
returns-in_err-whole_numbers-clause-cause c =
    let s = spec_data c.args.spec.now in
    let halt = c.in_err-whole_numbers.field-0.0 in
    handed (MayHaltInTurn c.args.budget s) c.from_residual.result halt c.from_residual.ensures.1 (whole_in_turn s c.args.budget halt c.in_err-whole_numbers.ensures.cause)
