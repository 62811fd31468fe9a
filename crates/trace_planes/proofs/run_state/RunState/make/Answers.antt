use Rattle.std.proofs.Common.{◌∙◌, map, not, count_by, refl, sym, ap, arith}
use Rattle.std.proofs.lemmas.List.{length-map}
use Rattle.spec_model.specs.Syntax.{VariableData}
use Rattle.spec_model.specs.Views.{variable_data}
use Rattle.spec_model.specs.GameViews.{game_data, hidden_data}
use Rattle.spec_model.specs.Moves.{is_env}
use Rattle.trace_planes.proofs.Placing.{length-domains_of}
use Rattle.trace_planes.proofs.run_state.RunState.make.Goals as goal

pub write_first-requires : goal.write_first-requires
write_first-requires c =
    let many = c.len-hidden.ensures in
    let sized = c.in_ok-next.ensures.len in
    omega (arith, many, sized, length-map c.args.game.now.hidden.items hidden_data)

pub returns : goal.returns
returns c =
    let many = c.len-hidden.ensures in
    let ins = c.count_inputs.ensures ∙ (ap (λ vs. count_by (λ (v : VariableData). is_env v.owner) (map variable_data vs)) c.deref.ensures.value ∙ sym (length-domains_of is_env (game_data c.args.game.now).variables)) in
    let outs = c.count_outputs.ensures ∙ (ap (λ vs. count_by (λ (v : VariableData). not (is_env v.owner)) (map variable_data vs)) c.deref-2.ensures.value ∙ sym (length-domains_of (λ o. not (is_env o)) (game_data c.args.game.now).variables)) in
    let sized = c.in_ok-vec.ensures.len in
    record {
      read = (refl, c.write_first.ensures.value);
      sized =
          record {
            state = omega (arith, many, ins, outs, sized, length-map c.args.game.now.hidden.items hidden_data);
            cells = omega (arith, many, c.in_ok-vec-2.ensures.len, length-map c.args.game.now.hidden.items hidden_data);
            next = c.write_first.ensures.room;
          };
    }
