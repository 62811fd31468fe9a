use Rattle.std.proofs.Common.{◌≡◌, ◌∙◌, ◌++◌, count_by, map, length, ap, arith}
use Rattle.std.proofs.lemmas.List.{length-map}
use Rattle.spec_model.specs.Syntax.{VariableData}
use Rattle.spec_model.specs.Views.{variable_data}
use Rattle.spec_model.specs.GameViews.{game_data, hidden_data}
use Rattle.spec_model.specs.Moves.{is_env}
use Rattle.game_play.proofs.Sights.{within, numbers_are, moves_are, count_within, input_is, output_is}
use Rattle.counter_tables.proofs.nodes.parts.Goals as goal

pub split_at-requires : goal.split_at-requires
split_at-requires c =
    let gd = game_data c.args.game.now in
    let state = c.args.state.now in
    let n = c.len.result in
    let tables : n ≡ length gd.hidden = let l = c.len.ensures in omega (arith, l, length-map c.args.game.now.hidden.items hidden_data) in
    let s = c.requires.0 in
    within gd s c.requires.1 state c.requires.2 n tables

pub split_at-requires-2 : goal.split_at-requires-2
split_at-requires-2 c =
    let gd = game_data c.args.game.now in
    let state = c.args.state.now in
    let n = c.len.result in
    let tables : n ≡ length gd.hidden = let l = c.len.ensures in omega (arith, l, length-map c.args.game.now.hidden.items hidden_data) in
    let s = c.requires.0 in
    let moves : c.split_at.result.1.now ≡ s.position.input ++ s.position.output = c.split_at.ensures.back ∙ moves_are gd s c.requires.1 state c.requires.2 n tables in
    let counted = c.count_inputs.ensures ∙ ap (λ vs. count_by (λ (v : VariableData). is_env v.owner) (map variable_data vs)) c.deref.ensures.value in
    count_within gd s c.requires.1 state c.requires.2 n tables c.count_inputs.result counted c.split_at.result.1.now moves

pub returns : goal.returns
returns c = λ s inside lists.
    let gd = game_data c.args.game.now in
    let state = c.args.state.now in
    let n = c.len.result in
    let tables : n ≡ length gd.hidden = let l = c.len.ensures in omega (arith, l, length-map c.args.game.now.hidden.items hidden_data) in
    let moves : c.split_at.result.1.now ≡ s.position.input ++ s.position.output = c.split_at.ensures.back ∙ moves_are gd s inside state lists n tables in
    let counted = c.count_inputs.ensures ∙ ap (λ vs. count_by (λ (v : VariableData). is_env v.owner) (map variable_data vs)) c.deref.ensures.value in
    record {
      hidden = c.split_at.ensures.front ∙ numbers_are gd s inside state lists n tables;
      input = c.split_at-2.ensures.front ∙ input_is gd s inside state lists n tables c.count_inputs.result counted c.split_at.result.1.now moves;
      output = c.split_at-2.ensures.back ∙ output_is gd s inside state lists n tables c.count_inputs.result counted c.split_at.result.1.now moves;
    }
