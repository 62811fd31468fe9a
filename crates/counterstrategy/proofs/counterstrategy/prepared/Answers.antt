use Rattle.std.proofs.Common.{◌∙◌, map, count_by, sym, ap}
use Rattle.spec_model.specs.Syntax.{VariableData}
use Rattle.spec_model.specs.Views.{variable_data}
use Rattle.spec_model.specs.GameViews.{game_data}
use Rattle.spec_model.specs.Moves.{is_env}
use Rattle.strategy_parts.proofs.Placing.{length-domains_of}
use Rattle.counterstrategy.proofs.counterstrategy.prepared.Goals as goal

pub returns-clause-room : goal.returns-clause-room
returns-clause-room c =
    sym c.in_ok-given.given.ok.0 ∙ (c.in_ok-given.ensures.len ∙ (c.count_inputs.ensures ∙ (ap (λ vs. count_by (λ (v : VariableData). is_env v.owner) (map variable_data vs)) c.deref.ensures.value ∙ sym (length-domains_of is_env (game_data c.args.game.now).variables))))
