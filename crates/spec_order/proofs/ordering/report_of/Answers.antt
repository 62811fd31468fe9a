use Rattle.std.proofs.Common.{ℕ, IfOk, IfErr, length, ap, sym, subst, arith}
use Rattle.spec_model.specs.Games.{GameData}
use Rattle.spec_model.specs.Views.{spec_data}
use Rattle.bdd_store.specs.State.{IsNewStore}
use Rattle.hidden_game.specs.GameOf.{game_of}
use Rattle.spec_order.specs.Reports.{IsReportOn}
use Rattle.spec_order.specs.Scenes.{MayHalt}
use Rattle.spec_order.proofs.RefusalLemmas.{handed_memory}
use Rattle.spec_order.proofs.ordering.report_of.Goals as goal

pub report_on-requires-clause-scene : goal.report_on-requires-clause-scene
report_on-requires-clause-scene c =
    let same = ap (λ (g : GameData). length g.variables) c.in_ok-game.ensures.game in
    record {
      made = c.in_ok-game.ensures.made;
      few = omega (arith, same, c.requires.few);
      bits = c.in_ok-codes.ensures.domains;
      small = omega (arith, c.levels-levels.ensures);
    }

pub report_on-requires-clause-bits : goal.report_on-requires-clause-bits
report_on-requires-clause-bits c =
    let bits = c.in_ok-bits.bits in
    let budget = c.in_ok-to.ensures.has_budget in
    subst (λ (n : ℕ). IsNewStore bits.state n c.in_ok-to.to.state.table.budget) c.levels-levels.ensures (subst (λ (b : ℕ). IsNewStore bits.state c.levels-levels.result b) (sym budget) c.in_ok-bits.ensures.store)

pub report_on-requires-clause-to : goal.report_on-requires-clause-to
report_on-requires-clause-to c =
    let to = c.in_ok-to.to in
    let budget = c.in_ok-to.ensures.has_budget in
    subst (λ (n : ℕ). IsNewStore to.state n to.state.table.budget) c.levels-levels.ensures (subst (λ (b : ℕ). IsNewStore to.state c.levels-levels.result b) (sym budget) c.in_ok-to.ensures)

pub returns-clause-report : goal.returns-clause-report
returns-clause-report c = subst (λ (g : GameData). IfOk c.report_on.result (IsReportOn g)) c.in_ok-game.ensures.game c.report_on.ensures.report

pub returns-clause-refused : goal.returns-clause-refused
returns-clause-refused c =
    subst (λ (b : ℕ). IfErr c.report_on.result (MayHalt (game_of (spec_data c.args.spec.now)) b)) c.in_ok-to.ensures.has_budget
    (subst (λ (g : GameData). IfErr c.report_on.result (MayHalt g c.in_ok-to.to.state.table.budget)) c.in_ok-game.ensures.game c.report_on.ensures.refused)

pub returns-in_err-game-clause-refused : goal.returns-in_err-game-clause-refused
returns-in_err-game-clause-refused c = handed_memory (game_of (spec_data c.args.spec.now)) c.args.budget c.from_residual.result c.from_residual.ensures.1

pub returns-in_err-codes-clause-refused : goal.returns-in_err-codes-clause-refused
returns-in_err-codes-clause-refused c = handed_memory (game_of (spec_data c.args.spec.now)) c.args.budget c.from_residual-in_err-codes.result c.from_residual-in_err-codes.ensures.1

pub returns-in_err-bits-clause-refused : goal.returns-in_err-bits-clause-refused
returns-in_err-bits-clause-refused c = handed_memory (game_of (spec_data c.args.spec.now)) c.args.budget c.from_residual-in_err-bits.result c.from_residual-in_err-bits.ensures.1

pub returns-in_err-to-clause-refused : goal.returns-in_err-to-clause-refused
returns-in_err-to-clause-refused c = handed_memory (game_of (spec_data c.args.spec.now)) c.args.budget c.from_residual-in_err-to.result c.from_residual-in_err-to.ensures.1
