use Rattle.std.proofs.Common.{◌≡◌, ℕ, ◌<◌, ◌≤◌, Some, None, option_map, map, length, slice_get, find, true, if◌then◌else◌, ap, ◌∙◌, sym, arith}
use Rattle.std.proofs.lemmas.List.{length-map}
use Rattle.std.proofs.lemmas.Option.{slice_get_past}
use Rattle.spec_model.specs.GameViews.{game_data}
use Rattle.spec_model.specs.Values.{Assignment}
use Rattle.spec_model.specs.Games.{inputs_of, outputs_of}
use Rattle.spec_model.specs.Steps.{is_input, legal_input}
use Rattle.spec_model.proofs.Listed.{inputs_fit}
use Rattle.region_rows.specs.Rows.{bit_of}
use Rattle.game_states.specs.Numbers.{place_in}
use Rattle.region_rows.specs.Slots.{marked}
use Rattle.game_states.specs.Tables.{answers_of}
use Rattle.region_rows.specs.Into.{leads, first_place}
use Rattle.region_rows.specs.Finds.{output_test}
use Rattle.game_states.specs.declared.numbered.Numbered.{Numbered}
use Rattle.game_states.proofs.LineLaws.{every_get}
use Rattle.game_states.proofs.StateValues.{get-map-at}
use Rattle.region_rows.proofs.FindLaws.{placed, row_at, legal_row, illegal_row, output_found, illegal_none, no_input_none, past_inputs}
use Rattle.region_rows.proofs.finding.first_output.Goals as goal

none_left : (self : Numbered) (n : ℕ) → length self.outputs.items ≤ n → slice_get (outputs_of (game_data self.game)) n ≡ None
none_left self n past =
    let g = game_data self.game in
    let long : length self.outputs.items ≡ length (outputs_of g) = sym (length-map self.outputs.items (λ a. a.items)) ∙ ap length self.outputs_listed in
    slice_get_past (outputs_of g) n (omega (arith, past, long))

pub returns-then-i-moves : goal.returns-then-i-moves
returns-then-i-moves c = λ b there tabulated.
    let self = c.args.numbered.now in
    let g = game_data self.game in
    let place : c.place-i.result ≡ place_in (inputs_of g) c.args.input.now = rw (c.deref.ensures.value, self.inputs_listed) at c.place-i.ensures in
    let long : length c.args.moves.now ≡ length (inputs_of g) = sym (length-map c.args.moves.now (option_map (λ a. a.items))) ∙ (ap length tabulated ∙ length-map (inputs_of g) (λ x. if legal_input g b x then Some (answers_of g b x) else None)) in
    let past : length (inputs_of g) ≤ place_in (inputs_of g) c.args.input.now = omega (arith, c.if-i-moves.true, place, long) in
    none_left self c.len.result (omega (arith, c.len.ensures)) ∙ sym (no_input_none g b c.args.t.now there c.args.input.now (past_inputs g c.args.input.now past))

pub returns-in-Some : goal.returns-in-Some
returns-in-Some c = λ b there tabulated.
    let self = c.args.numbered.now in
    let g = game_data self.game in
    let place : c.place-i.result ≡ place_in (inputs_of g) c.args.input.now = rw (c.deref.ensures.value, self.inputs_listed) at c.place-i.ensures in
    let below : c.place-i.result < length c.args.moves.now = omega (arith, c.if-i-moves.false) in
    let at = get-map-at (option_map (λ a. a.items)) c.args.moves.now c.place-i.result c.index-moves-i.result below c.index-moves-i.is in
    let row = row_at g b (map (option_map (λ a. a.items)) c.args.moves.now) tabulated c.place-i.result (option_map (λ a. a.items) c.index-moves-i.result) at in
    let input : row.0 ≡ c.args.input.now = placed (inputs_of g) c.args.input.now row.0 c.place-i.result (sym place) row.1 in
    let legal = legal_row g b row.0 c.in-Some.answers.items (row.2 ∙ ap (option_map (λ a. a.items)) c.in-Some.is) in
    let fit = every_get (λ x. is_input g x ≡ true) (inputs_of g) c.place-i.result row.0 row.1 (inputs_fit g) in
    ap (slice_get (outputs_of g)) (c.first_lead.ensures ∙ ap (first_place (leads (bit_of c.args.t.now))) (c.deref-in-Some.ensures.value ∙ sym legal.1))
    ∙ (output_found g b c.args.t.now there row.0 fit legal.0
    ∙ ap (λ (x : Assignment). find (output_test g (marked g c.args.t.now) b x) (outputs_of g)) input)

pub returns-in-None : goal.returns-in-None
returns-in-None c = λ b there tabulated.
    let self = c.args.numbered.now in
    let g = game_data self.game in
    let place : c.place-i.result ≡ place_in (inputs_of g) c.args.input.now = rw (c.deref.ensures.value, self.inputs_listed) at c.place-i.ensures in
    let below : c.place-i.result < length c.args.moves.now = omega (arith, c.if-i-moves.false) in
    let at = get-map-at (option_map (λ a. a.items)) c.args.moves.now c.place-i.result c.index-moves-i.result below c.index-moves-i.is in
    let row = row_at g b (map (option_map (λ a. a.items)) c.args.moves.now) tabulated c.place-i.result (option_map (λ a. a.items) c.index-moves-i.result) at in
    let input : row.0 ≡ c.args.input.now = placed (inputs_of g) c.args.input.now row.0 c.place-i.result (sym place) row.1 in
    let illegal = illegal_row g b row.0 (row.2 ∙ ap (option_map (λ a. a.items)) c.in-None.is) in
    none_left self c.len-in-None.result (omega (arith, c.len-in-None.ensures))
    ∙ sym (ap (λ (x : Assignment). find (output_test g (marked g c.args.t.now) b x) (outputs_of g)) (sym input) ∙ illegal_none g b c.args.t.now there row.0 illegal)
