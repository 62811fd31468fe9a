use Rattle.std.proofs.Common.{◌≡◌, ℕ, ◌+◌, ◌++◌, Some, length, take, drop, ap, ◌∙◌, sym, arith, length-append}
use Rattle.std.proofs.lemmas.List.{length-map}
use Rattle.spec_model.specs.GameViews.{game_data, hidden_data}
use Rattle.spec_model.specs.Games.{inputs_of, outputs_of}
use Rattle.game_states.specs.declared.numbered.Numbered.{Numbered}
use Rattle.game_states.specs.Numbers.{place_in, as_values, hidden_choices, number_at}
use Rattle.game_states.proofs.ChoicePlaces.{place_below, hidden_among, assignment_among}
use Rattle.game_states.proofs.StateValues.{parts_of, take-left, drop-left}
use Rattle.game_states.proofs.numbered.Numbered.number_of.Goals as goal

tables_are : (self : Numbered) (n : ℕ) → n ≡ length self.game.hidden.items → n ≡ length (game_data self.game).hidden
tables_are self n e = e ∙ sym (length-map self.game.hidden.items hidden_data)

pub returns-then-state-tables : goal.returns-then-state-tables
returns-then-state-tables c = λ s here listed_is.
    let self = c.args.self.now in
    let g = game_data self.game in
    let parts = parts_of g s c.args.state.now here listed_is in
    let tables = tables_are self c.len-tables.result (omega (arith, c.len-tables.ensures)) in
    absurd (omega (arith, c.if-state-tables.true, parts.tables, tables))

pub returns-then-moves-inputs : goal.returns-then-moves-inputs
returns-then-moves-inputs c = λ s here listed_is.
    let self = c.args.self.now in
    let g = game_data self.game in
    let parts = parts_of g s c.args.state.now here listed_is in
    let tables = tables_are self c.len-tables.result (omega (arith, c.len-tables.ensures)) in
    let moves : c.back-moves.result.now ≡ s.position.input ++ s.position.output = c.back-moves.ensures ∙ (ap (λ n. drop n c.args.state.now) tables ∙ parts.moves) in
    let inputs : c.count_inputs-inputs.result ≡ length s.position.input = (rw c.deref.ensures.value at c.count_inputs-inputs.ensures) ∙ sym parts.inputs in
    let long : length c.back-moves.result.now ≡ length s.position.input + length s.position.output = ap length moves ∙ length-append s.position.input s.position.output in
    absurd (omega (arith, c.if-moves-inputs.true, inputs, long))

pub returns : goal.returns
returns c = λ s here listed_is.
    let self = c.args.self.now in
    let g = game_data self.game in
    let parts = parts_of g s c.args.state.now here listed_is in
    let tables = tables_are self c.len-tables.result (omega (arith, c.len-tables.ensures)) in
    let moves : c.back-moves.result.now ≡ s.position.input ++ s.position.output = c.back-moves.ensures ∙ (ap (λ n. drop n c.args.state.now) tables ∙ parts.moves) in
    let inputs : c.count_inputs-inputs.result ≡ length s.position.input = (rw c.deref.ensures.value at c.count_inputs-inputs.ensures) ∙ sym parts.inputs in
    let hidden : c.front.result.now ≡ as_values s.hidden = c.front.ensures ∙ (ap (λ n. take n c.args.state.now) tables ∙ parts.hidden) in
    let input : c.front-2.result.now ≡ s.position.input = c.front-2.ensures ∙ (ap (take c.count_inputs-inputs.result) moves ∙ take-left s.position.input s.position.output c.count_inputs-inputs.result inputs) in
    let output : c.back.result.now ≡ s.position.output = c.back.ensures ∙ (ap (drop c.count_inputs-inputs.result) moves ∙ drop-left s.position.input s.position.output c.count_inputs-inputs.result inputs) in
    let h : c.place-h.result ≡ place_in (hidden_choices g) (as_values s.hidden) = rw (c.deref-2.ensures.value, self.hidden_listed, hidden) at c.place-h.ensures in
    let i : c.place-i.result ≡ place_in (inputs_of g) s.position.input = rw (c.deref-3.ensures.value, self.inputs_listed, input) at c.place-i.ensures in
    let o : c.place-o.result ≡ place_in (outputs_of g) s.position.output = rw (c.deref-4.ensures.value, self.outputs_listed, output) at c.place-o.ensures in
    let h_below = place_below (hidden_choices g) (as_values s.hidden) (hidden_among g.hidden s.hidden parts.fit) in
    let i_below = place_below (inputs_of g) s.position.input (assignment_among _ s.position.input parts.input) in
    let o_below = place_below (outputs_of g) s.position.output (assignment_among _ s.position.output parts.output) in
    let h_long : length self.hidden.items ≡ length (hidden_choices g) = sym (length-map self.hidden.items (λ c. c.items)) ∙ ap length self.hidden_listed in
    let i_long : length self.inputs.items ≡ length (inputs_of g) = sym (length-map self.inputs.items (λ c. c.items)) ∙ ap length self.inputs_listed in
    let o_long : length self.outputs.items ≡ length (outputs_of g) = sym (length-map self.outputs.items (λ c. c.items)) ∙ ap length self.outputs_listed in
    c.number_with.ensures (omega (arith, h, h_below, h_long)) (omega (arith, i, i_below, i_long)) (omega (arith, o, o_below, o_long))
    ∙ ap Some (ap (λ n. number_at g n c.place-i.result c.place-o.result) h ∙ (ap (λ n. number_at g (place_in (hidden_choices g) (as_values s.hidden)) n c.place-o.result) i ∙ ap (λ n. number_at g (place_in (hidden_choices g) (as_values s.hidden)) (place_in (inputs_of g) s.position.input) n) o))
