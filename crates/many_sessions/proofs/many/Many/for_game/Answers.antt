use Rattle.std.proofs.Common.{◌≡◌, ◌∙◌, ◌+◌, length, map, not, count_by, sym, ap, arith}
use Rattle.std.proofs.lemmas.List.{length-map}
use Rattle.spec_model.specs.Syntax.{VariableData}
use Rattle.spec_model.specs.Views.{variable_data}
use Rattle.spec_model.specs.GameViews.{game_data, hidden_data}
use Rattle.spec_model.specs.Moves.{is_env}
use Rattle.strategy_parts.proofs.Placing.{length-domains_of}
use Rattle.many_sessions.proofs.many.Many.for_game.Goals as goal

pub returns : goal.returns
returns c =
    let hidden = length-map c.args.game.now.hidden.items hidden_data in
    let many = c.len.ensures in
    let ins = c.count_inputs-inputs.ensures ∙ (ap (λ vs. count_by (λ (v : VariableData). is_env v.owner) (map variable_data vs)) c.deref.ensures.value ∙ sym (length-domains_of is_env (game_data c.args.game.now).variables)) in
    let outs = c.count_outputs-outputs.ensures ∙ (ap (λ vs. count_by (λ (v : VariableData). not (is_env v.owner)) (map variable_data vs)) c.deref-2.ensures.value ∙ sym (length-domains_of (λ o. not (is_env o)) (game_data c.args.game.now).variables)) in
    record {
      room = record {
        seats = c.in_ok-make_seats.ensures.count;
        input = omega (arith, ins, c.in_ok-vec.ensures.len, c.in_ok-vec.field-0.ok.0);
        output = omega (arith, outs, c.in_ok-vec-2.ensures.len, c.in_ok-vec-2.field-0.ok.0);
      };
      fresh = λ i below d.
          let f = c.in_ok-make_seats.ensures.fresh i below d in
          (f.0, (omega (arith, f.1, hidden, many, ins, outs)));
    }
