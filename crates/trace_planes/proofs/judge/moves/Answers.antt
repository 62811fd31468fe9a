use Rattle.std.proofs.Common.{◌∙◌, map, count_by, ap}
use Rattle.spec_model.specs.Syntax.{VariableData}
use Rattle.spec_model.specs.Views.{variable_data}
use Rattle.spec_model.specs.GameViews.{game_data}
use Rattle.spec_model.specs.Moves.{is_env}
use Rattle.trace_planes.proofs.Placing.{enough, input_is, output_is}
use Rattle.trace_planes.proofs.judge.moves.Goals as goal

pub split_at-requires : goal.split_at-requires
split_at-requires c =
    let counted = c.count_inputs.ensures ∙ ap (λ vs. count_by (λ (v : VariableData). is_env v.owner) (map variable_data vs)) c.deref.ensures.value in
    enough (game_data c.args.game.now) c.requires.0 c.args.values.now c.requires.1 c.count_inputs.result counted

pub returns : goal.returns
returns c = λ p is.
    let counted = c.count_inputs.ensures ∙ ap (λ vs. count_by (λ (v : VariableData). is_env v.owner) (map variable_data vs)) c.deref.ensures.value in (
      c.split_at.ensures.front ∙ input_is (game_data c.args.game.now) p c.args.values.now is c.count_inputs.result counted,
      c.split_at.ensures.back ∙ output_is (game_data c.args.game.now) p c.args.values.now is c.count_inputs.result counted,
    )
