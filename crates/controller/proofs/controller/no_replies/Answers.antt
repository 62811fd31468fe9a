use Rattle.std.proofs.Common.{◌≡◌, ◌+◌, ◌∙◌, ap, ap₂, sym, subst, arith, length, count_by, map, not, Ok, Err, IfOk, Result, List}
use Rattle.std.proofs.lemmas.List.{length-map}
use Rattle.std.specs.declared.alloc.AllocError.{AllocError}
use Rattle.spec_model.specs.declared.game.Game.{Game}
use Rattle.spec_model.specs.declared.value.Var.{Var}
use Rattle.spec_model.specs.Syntax.{VariableData}
use Rattle.spec_model.specs.Moves.{is_env}
use Rattle.spec_model.specs.Games.{GameData}
use Rattle.spec_model.specs.GameViews.{game_data, hidden_data}
use Rattle.spec_model.specs.Views.{variable_data}
use Rattle.regions.specs.Rules.{input_count, output_count}
use Rattle.strategy_parts.specs.Counts.{value_count}
use Rattle.strategy_parts.proofs.Placing.{length-domains_of}
use Rattle.controller.specs.declared.replies.Replies.{Replies}
use Rattle.controller.specs.Replies.{HasRoom, HasReply, IsWithoutReplies}
use Rattle.controller.proofs.controller.no_replies.Goals as goal

with_room : (g : GameData) (states inputs outputs : _) (r : Result Replies AllocError) → states ≡ value_count g → inputs ≡ input_count g → outputs ≡ output_count g →
    IfOk r (λ rs. (before after : _) (state input output : _) → HasReply rs before after state input output → ⊥) → IfOk r (HasRoom states inputs outputs) → IfOk r (IsWithoutReplies g)
with_room g states inputs outputs (Ok rs) is_states is_inputs is_outputs none room = record { room = rw (← is_states, ← is_inputs, ← is_outputs) room; none = none }
with_room g states inputs outputs (Err e) is_states is_inputs is_outputs none room = tt

pub returns : goal.returns
returns c =
    let g : GameData = game_data c.args.game.now in
    let vars = c.args.game.now.vars.items in
    let inputs : c.count_inputs-inputs.result ≡ input_count g = c.count_inputs-inputs.ensures ∙ (ap (λ (vs : List Var). count_by (λ (v : VariableData). is_env v.owner) (map variable_data vs)) c.deref.ensures.value ∙ sym (length-domains_of is_env g.variables)) in
    let outputs : c.count_outputs-outputs.result ≡ output_count g = c.count_outputs-outputs.ensures ∙ (ap (λ (vs : List Var). count_by (λ (v : VariableData). not (is_env v.owner)) (map variable_data vs)) c.deref-2.ensures.value ∙ sym (length-domains_of (λ o. not (is_env o)) g.variables)) in
    let states : c.len.result + (c.count_inputs-inputs.result + c.count_outputs-outputs.result) ≡ value_count g = (let many = c.len.ensures in omega (arith, many, inputs, outputs, length-map c.args.game.now.hidden.items hidden_data)) in
    with_room g _ _ _ c.make.result states inputs outputs c.make.ensures.none c.make.ensures.room
