use Rattle.std.proofs.Common.{◌≡◌, ◌*◌, ◌^◌, ◌<◌, refl, sym, ap, ◌∙◌, length, arith}
use Rattle.std.proofs.lemmas.List.{length-map}
use Rattle.spec_model.specs.GameViews.{game_data}
use Rattle.spec_model.specs.Games.{inputs_of, outputs_of}
use Rattle.spec_model.specs.Steps.{hidden_values}
use Rattle.game_states.specs.declared.numbered.Numbered.{Numbered}
use Rattle.game_states.specs.Numbers.{as_values}
use Rattle.game_states.proofs.StateNumbers.{length-states}
use Rattle.game_states.proofs.LineLaws.{length-seen}
use Rattle.game_states.proofs.TableLaws.{room_fits}
use Rattle.game_states.proofs.numbered.Numbered.base.Goals as goal

count : (self : Numbered) → length self.seen.items ≡ length self.hidden.items * (length self.inputs.items * length self.outputs.items)
count self =
    let g = game_data self.game in
    let hidden : length self.hidden.items ≡ length (hidden_values g.hidden) = sym (length-map self.hidden.items (λ c. c.items)) ∙ (ap length self.hidden_listed ∙ length-map (hidden_values g.hidden) as_values) in
    let inputs : length self.inputs.items ≡ length (inputs_of g) = sym (length-map self.inputs.items (λ c. c.items)) ∙ ap length self.inputs_listed in
    let outputs : length self.outputs.items ≡ length (outputs_of g) = sym (length-map self.outputs.items (λ c. c.items)) ∙ ap length self.outputs_listed in
    length-seen g self.seen.items self.states_seen ∙ (length-states g ∙ rw (hidden, inputs, outputs) refl)

pub overflow_mul-result : goal.overflow_mul-result
overflow_mul-result c =
    let self = c.args.self.now in
    let small : length self.seen.items < 2 ^ 64 = omega (arith, c.len-states.ensures) in
    let outputs : c.len-outputs.result ≡ length self.outputs.items = omega (arith, c.len-outputs.ensures) in
    let inputs : c.len.result ≡ length self.inputs.items = omega (arith, c.len.ensures) in
    let fits = room_fits c.args.place c.args.i (length self.outputs.items) (length self.hidden.items) (length self.inputs.items) (length self.seen.items) c.requires.place c.requires.input (count self) small in
    rw (inputs, outputs) (omega (arith, fits.0))

pub overflow_mul-result-2 : goal.overflow_mul-result-2
overflow_mul-result-2 c =
    let self = c.args.self.now in
    let small : length self.seen.items < 2 ^ 64 = omega (arith, c.len-states.ensures) in
    let outputs : c.len-outputs.result ≡ length self.outputs.items = omega (arith, c.len-outputs.ensures) in
    let inputs : c.len.result ≡ length self.inputs.items = omega (arith, c.len.ensures) in
    let fits = room_fits c.args.place c.args.i (length self.outputs.items) (length self.hidden.items) (length self.inputs.items) (length self.seen.items) c.requires.place c.requires.input (count self) small in
    rw (inputs, outputs) (omega (arith, fits.1))

pub overflow_mul-result-3 : goal.overflow_mul-result-3
overflow_mul-result-3 c =
    let self = c.args.self.now in
    let small : length self.seen.items < 2 ^ 64 = omega (arith, c.len-states.ensures) in
    let outputs : c.len-outputs.result ≡ length self.outputs.items = omega (arith, c.len-outputs.ensures) in
    let inputs : c.len.result ≡ length self.inputs.items = omega (arith, c.len.ensures) in
    let fits = room_fits c.args.place c.args.i (length self.outputs.items) (length self.hidden.items) (length self.inputs.items) (length self.seen.items) c.requires.place c.requires.input (count self) small in
    rw outputs (omega (arith, fits.2))

pub overflow_add-result : goal.overflow_add-result
overflow_add-result c =
    let self = c.args.self.now in
    let small : length self.seen.items < 2 ^ 64 = omega (arith, c.len-states.ensures) in
    let outputs : c.len-outputs.result ≡ length self.outputs.items = omega (arith, c.len-outputs.ensures) in
    let inputs : c.len.result ≡ length self.inputs.items = omega (arith, c.len.ensures) in
    let fits = room_fits c.args.place c.args.i (length self.outputs.items) (length self.hidden.items) (length self.inputs.items) (length self.seen.items) c.requires.place c.requires.input (count self) small in
    rw (inputs, outputs) (omega (arith, fits.3))

pub returns-clause-room : goal.returns-clause-room
returns-clause-room c =
    let self = c.args.self.now in
    let small : length self.seen.items < 2 ^ 64 = omega (arith, c.len-states.ensures) in
    let outputs : c.len-outputs.result ≡ length self.outputs.items = omega (arith, c.len-outputs.ensures) in
    let inputs : c.len.result ≡ length self.inputs.items = omega (arith, c.len.ensures) in
    let fits = room_fits c.args.place c.args.i (length self.outputs.items) (length self.hidden.items) (length self.inputs.items) (length self.seen.items) c.requires.place c.requires.input (count self) small in
    rw (inputs, outputs, ← length-seen (game_data self.game) self.seen.items self.states_seen) fits.4
