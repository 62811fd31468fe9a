use Rattle.std.proofs.Common.{◌<◌, ◌∙◌, List, ap, arith, count_by, length, map, not, refl, take}
use Rattle.std.proofs.lemmas.List.{length-map}
use Rattle.spec_model.specs.declared.value.Var.{Var}
use Rattle.spec_model.specs.Views.{variable_data}
use Rattle.spec_model.specs.GameViews.{game_data, hidden_data}
use Rattle.spec_model.specs.Moves.{is_env}
use Rattle.bit_compile.proofs.Places.{place_input, place_output}
use Rattle.spec_order.proofs.slots.slot_of.Goals as goal

pub returns-in-Env : goal.returns-in-Env
returns-in-Env c =
    let game = c.args.game.now in
    let vars = game.vars.items in
    let long = length-map vars variable_data in
    let less : c.args.k < length vars = omega (arith, long, c.requires.known) in
    let tables = length-map game.hidden.items hidden_data in
    let count = c.count_inputs.ensures ∙ ap (λ (vs : List Var). count_by (λ v. is_env v.owner) (map variable_data (take c.args.k vs))) c.deref.ensures.value in
    let is = place_input (game_data game) vars c.args.k c.index.result.now refl less c.index.ensures c.in-Env.is in
    omega (arith, is, tables, count, c.len-tables.ensures)

pub returns-in-Sys : goal.returns-in-Sys
returns-in-Sys c =
    let game = c.args.game.now in
    let vars = game.vars.items in
    let long = length-map vars variable_data in
    let less : c.args.k < length vars = omega (arith, long, c.requires.known) in
    let tables = length-map game.hidden.items hidden_data in
    let all = c.count_inputs-in-Sys.ensures ∙ ap (λ (vs : List Var). count_by (λ v. is_env v.owner) (map variable_data vs)) c.deref-in-Sys.ensures.value in
    let count = c.count_outputs.ensures ∙ ap (λ (vs : List Var). count_by (λ v. not (is_env v.owner)) (map variable_data (take c.args.k vs))) c.deref-in-Sys-2.ensures.value in
    let is = place_output (game_data game) vars c.args.k c.index.result.now refl less c.index.ensures c.in-Sys.is in
    omega (arith, is, tables, all, count, c.len-tables.ensures)
