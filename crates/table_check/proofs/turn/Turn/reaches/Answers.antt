use Rattle.std.proofs.Common.{◌≡◌, ◌∙◌, ◌&&◌, Bool, true, false, List, map, sym, ap}
use Rattle.spec_model.specs.declared.value.Value.{Value}
use Rattle.game_play.specs.Sights.{cell_in}
use Rattle.strategy_tables.specs.Tables.{same_values, same_numbers}
use Rattle.strategy_tables.specs.Views.{node_data}
use Rattle.table_check.specs.Turns.{before_of, game_at}
use Rattle.table_check.proofs.Alike.{reached_by}
use Rattle.table_check.proofs.turn.Turn.reaches.Goals as goal

pub returns-then-are_same_numbers : goal.returns-then-are_same_numbers
returns-then-are_same_numbers c =
    let t = c.args.self.now in
    let v = node_data c.args.v.now in
    let x = c.args.input.now in
    let e = reached_by (game_at t) (before_of t.before) t.room.now c.requires.read x v in
    let numbers = c.are_same_numbers.ensures
    ∙ (ap (λ (vs : List Value). same_numbers (map cell_in vs) (map cell_in c.deref-2.result.now)) c.deref.ensures.value
    ∙ ap (λ (vs : List Value). same_numbers v.state.hidden (map cell_in vs)) c.deref-2.ensures.value) in
    let inputs = c.are_same.ensures ∙ ap (λ (vs : List Value). same_values vs x) c.deref-then-are_same_numbers.ensures.value in
    inputs ∙ (ap (λ (b : Bool). b && same_values v.state.position.input x) (sym c.if-are_same_numbers.true ∙ numbers) ∙ e)

pub returns-else-are_same_numbers : goal.returns-else-are_same_numbers
returns-else-are_same_numbers c =
    let t = c.args.self.now in
    let v = node_data c.args.v.now in
    let x = c.args.input.now in
    let e = reached_by (game_at t) (before_of t.before) t.room.now c.requires.read x v in
    let numbers = c.are_same_numbers.ensures
    ∙ (ap (λ (vs : List Value). same_numbers (map cell_in vs) (map cell_in c.deref-2.result.now)) c.deref.ensures.value
    ∙ ap (λ (vs : List Value). same_numbers v.state.hidden (map cell_in vs)) c.deref-2.ensures.value) in
    c.if-are_same_numbers.false ∙ (ap (λ (b : Bool). b && same_values v.state.position.input x) (sym c.if-are_same_numbers.false ∙ numbers) ∙ e)
