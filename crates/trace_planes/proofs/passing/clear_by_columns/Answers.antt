use Rattle.std.proofs.Common.{◌≡◌, ℕ, List, map, sym, ap, subst, ◌∙◌, Some, None}
use Rattle.spec_model.specs.GameRules.{last_state}
use Rattle.spec_model.specs.Games.{GameData, HiddenData}
use Rattle.spec_model.specs.GameViews.{game_data, hidden_data}
use Rattle.spec_model.specs.Steps.{Before}
use Rattle.spec_model.specs.Syntax.{VariableData}
use Rattle.spec_model.specs.Views.{variable_data}
use Rattle.spec_model.specs.declared.game.Hidden.{Hidden}
use Rattle.spec_model.specs.declared.value.Var.{Var}
use Rattle.trace_planes.specs.declared.run_state.RunState.{RunState}
use Rattle.trace_planes.specs.Audits.{IsReadAfter}
use Rattle.trace_planes.specs.Moves.{IsMove}
use Rattle.trace_planes.specs.Rows.{HasColumns, HasCells}
use Rattle.trace_planes.proofs.Found.{IsWholeBefore}
use Rattle.trace_planes.proofs.ClearRows.{all_clear}
use Rattle.trace_planes.proofs.passing.clear_by_columns.Goals as goal

whole_there : (g : GameData) (b : Before) (p : RunState) → IsReadAfter g b p → IsWholeBefore g b
whole_there g None p read = tt
whole_there g (Some s) p read = read.1

pub returns-clause-clear : goal.returns-clause-clear
returns-clause-clear c = λ h ps judges whole many has_codes has_cells.
    let g = game_data c.args.judge.now.game in
    let codes = c.args.codes.now in
    let cells = c.args.cells.now in
    let columns = subst (λ (n : ℕ). HasColumns codes g n ps) (sym many) has_codes in
    let celled = subst (λ (n : ℕ). HasCells cells g h n ps) (sym many) has_cells in
    let variables : map variable_data c.deref.result.now ≡ g.variables = ap (λ (vs : List Var). map variable_data vs) c.deref.ensures.value in
    let tables : map hidden_data c.deref-2.result.now ≡ g.hidden = ap (λ (hs : List Hidden). map hidden_data hs) c.deref-2.ensures.value in
    all_clear g judges.made codes cells h ps columns celled (whole_there g (last_state g h) c.args.judge.now.place judges.place.read) whole c.deref-3.result.now c.deref-4.result.now
    (c.deref-3.ensures.value ∙ judges.inputs.waits) (c.deref-4.ensures.value ∙ judges.outputs.nexts) c.clear_moves.result
    (λ j low r s move.
    c.clear_moves.ensures.clear j low g r s
    (subst (λ (vs : List VariableData). IsMove (record { variables = vs; tables = map hidden_data c.deref-2.result.now; codes = codes; cells = cells }) j g r s) (sym variables)
    (subst (λ (hs : List HiddenData). IsMove (record { variables = g.variables; tables = hs; codes = codes; cells = cells }) j g r s) (sym tables) move)))
