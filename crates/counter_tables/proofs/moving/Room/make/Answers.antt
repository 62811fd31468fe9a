use Rattle.std.proofs.Common.{◌∙◌, map, not, count_by, sym, ap, arith}
use Rattle.std.proofs.lemmas.List.{length-map}
use Rattle.spec_model.specs.Syntax.{VariableData}
use Rattle.spec_model.specs.Views.{variable_data}
use Rattle.spec_model.specs.GameViews.{game_data, hidden_data}
use Rattle.spec_model.specs.Moves.{is_env}
use Rattle.strategy_parts.proofs.Placing.{length-domains_of}
use Rattle.counter_tables.proofs.moving.Room.make.Goals as goal

pub returns-clause-input : goal.returns-clause-input
returns-clause-input c =
    let ins = c.count_inputs-inputs.ensures ∙ (ap (λ vs. count_by (λ (v : VariableData). is_env v.owner) (map variable_data vs)) c.deref.ensures.value ∙ sym (length-domains_of is_env (game_data c.args.game.now).variables)) in
    let sized = c.in_ok-vec.ensures.len in
    omega (arith, ins, sized)

pub returns-clause-state : goal.returns-clause-state
returns-clause-state c =
    let many = c.len.ensures in
    let ins = c.count_inputs-inputs.ensures ∙ (ap (λ vs. count_by (λ (v : VariableData). is_env v.owner) (map variable_data vs)) c.deref.ensures.value ∙ sym (length-domains_of is_env (game_data c.args.game.now).variables)) in
    let outs = c.count_outputs.ensures ∙ (ap (λ vs. count_by (λ (v : VariableData). not (is_env v.owner)) (map variable_data vs)) c.deref-2.ensures.value ∙ sym (length-domains_of (λ o. not (is_env o)) (game_data c.args.game.now).variables)) in
    let sized = c.in_ok-vec-2.ensures.len in
    omega (arith, many, outs, ins, sized, length-map c.args.game.now.hidden.items hidden_data)
