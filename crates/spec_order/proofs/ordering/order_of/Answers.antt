use Rattle.std.proofs.Common.{arith}
use Rattle.std.proofs.lemmas.List.{length-map}
use Rattle.spec_model.specs.Views.{spec_data, variable_data}
use Rattle.hidden_game.specs.GameOf.{game_of}
use Rattle.spec_order.proofs.FillLemmas.{crowded_below}
use Rattle.spec_order.proofs.RefusalLemmas.{no_limit, full_by}
use Rattle.spec_order.proofs.ordering.order_of.Goals as goal

pub returns-clause-limit : goal.returns-clause-limit
returns-clause-limit c =
    let s = spec_data c.args.spec.now in
    let long = length-map c.args.spec.now.vars.items variable_data in
    (λ e. absurd (no_limit (game_of s) c.args.budget c.report_of.result c.report_of.ensures.refused e), λ many. absurd (omega (arith, many, long, c.if-len-gt-MOST_VARIABLES.false)))

pub returns-clause-budget : goal.returns-clause-budget
returns-clause-budget c = λ e.
    let s = spec_data c.args.spec.now in
    let crowded = full_by (game_of s) c.args.budget c.report_of.result c.report_of.ensures.refused e in
    (crowded_below s c.args.budget crowded, crowded)
