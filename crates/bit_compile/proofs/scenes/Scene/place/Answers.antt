use Rattle.std.proofs.Common.{◌<◌, ◌∙◌, List, ap, arith, count_by, length, map, not, refl, take}
use Rattle.std.proofs.lemmas.List.{length-map}
use Rattle.spec_model.specs.declared.value.Var.{Var}
use Rattle.spec_model.specs.Views.{variable_data}
use Rattle.spec_model.specs.GameViews.{hidden_data}
use Rattle.spec_model.specs.Moves.{is_env}
use Rattle.bit_compile.specs.Scenes.{game_seen}
use Rattle.bit_compile.proofs.Places.{place_input, place_output, placed}
use Rattle.bit_compile.proofs.scenes.Scene.place.Goals as goal

pub returns-in-Env-clause-place : goal.returns-in-Env-clause-place
returns-in-Env-clause-place c =
    let vars = c.args.self.now.game.now.vars.items in
    let long = length-map vars variable_data in
    let less : c.args.k < length vars = omega (arith, long, c.requires.known) in
    let tables = length-map c.args.self.now.game.now.hidden.items hidden_data in
    let count = c.count_inputs.ensures ∙ ap (λ (vs : List Var). count_by (λ v. is_env v.owner) (map variable_data (take c.args.k vs))) c.deref.ensures.value in
    let is = place_input (game_seen c.args.self.now) vars c.args.k c.index.result.now refl less c.index.ensures c.in-Env.is in
    omega (arith, is, tables, count, c.len-tables.ensures)

pub returns-in-Env-clause-within : goal.returns-in-Env-clause-within
returns-in-Env-clause-within c =
    let g = game_seen c.args.self.now in
    let vars = c.args.self.now.game.now.vars.items in
    let long = length-map vars variable_data in
    let less : c.args.k < length vars = omega (arith, long, c.requires.known) in
    let tables = length-map c.args.self.now.game.now.hidden.items hidden_data in
    let count = c.count_inputs.ensures ∙ ap (λ (vs : List Var). count_by (λ v. is_env v.owner) (map variable_data (take c.args.k vs))) c.deref.ensures.value in
    let is = place_input g vars c.args.k c.index.result.now refl less c.index.ensures c.in-Env.is in
    let within = (placed g c.args.k c.requires.known).within in
    let codes = ap length c.requires.scene.codes in
    omega (arith, is, tables, count, c.len-tables.ensures, within, codes)

pub returns-in-Sys-clause-place : goal.returns-in-Sys-clause-place
returns-in-Sys-clause-place c =
    let vars = c.args.self.now.game.now.vars.items in
    let long = length-map vars variable_data in
    let less : c.args.k < length vars = omega (arith, long, c.requires.known) in
    let tables = length-map c.args.self.now.game.now.hidden.items hidden_data in
    let all = c.count_inputs-in-Sys.ensures ∙ ap (λ (vs : List Var). count_by (λ v. is_env v.owner) (map variable_data vs)) c.deref-in-Sys.ensures.value in
    let count = c.count_outputs.ensures ∙ ap (λ (vs : List Var). count_by (λ v. not (is_env v.owner)) (map variable_data (take c.args.k vs))) c.deref-in-Sys-2.ensures.value in
    let is = place_output (game_seen c.args.self.now) vars c.args.k c.index.result.now refl less c.index.ensures c.in-Sys.is in
    omega (arith, is, tables, all, count, c.len-tables.ensures)

pub returns-in-Sys-clause-within : goal.returns-in-Sys-clause-within
returns-in-Sys-clause-within c =
    let g = game_seen c.args.self.now in
    let vars = c.args.self.now.game.now.vars.items in
    let long = length-map vars variable_data in
    let less : c.args.k < length vars = omega (arith, long, c.requires.known) in
    let tables = length-map c.args.self.now.game.now.hidden.items hidden_data in
    let all = c.count_inputs-in-Sys.ensures ∙ ap (λ (vs : List Var). count_by (λ v. is_env v.owner) (map variable_data vs)) c.deref-in-Sys.ensures.value in
    let count = c.count_outputs.ensures ∙ ap (λ (vs : List Var). count_by (λ v. not (is_env v.owner)) (map variable_data (take c.args.k vs))) c.deref-in-Sys-2.ensures.value in
    let is = place_output g vars c.args.k c.index.result.now refl less c.index.ensures c.in-Sys.is in
    let within = (placed g c.args.k c.requires.known).within in
    let codes = ap length c.requires.scene.codes in
    omega (arith, is, tables, all, count, c.len-tables.ensures, within, codes)
