use Rattle.std.proofs.Common.{◌≡◌, ◌∙◌, ℕ, List, map, not, length, refl, sym, ap, subst, true}
use Rattle.spec_model.specs.declared.value.Value.{Value}
use Rattle.spec_model.specs.Views.{variable_data}
use Rattle.spec_model.specs.GameViews.{game_data, hidden_data}
use Rattle.spec_model.specs.Values.{is_assignment}
use Rattle.spec_model.specs.Moves.{is_env, domains_of}
use Rattle.spec_model.specs.Rules.{Position}
use Rattle.spec_model.specs.Games.{Readout, listed, read_tables, nothing_read}
use Rattle.spec_model.specs.Steps.{are_hidden_values}
use Rattle.game_play.specs.Sights.{cell_in, read_so_far}
use Rattle.game_play.proofs.Sights.{fits, input_fits, output_fits, cells_back}
use Rattle.game_play.proofs.reading.read_state.Goals as goal

pub read_cells-requires-clause-numbers : goal.read_cells-requires-clause-numbers
read_cells-requires-clause-numbers c =
    let gd = game_data c.args.game.now in
    let s = c.requires.state.0 in
    let split = c.requires.state.2 in
    let numbers = ap (map cell_in) split.hidden ∙ cells_back s.hidden in
    subst (λ hs. are_hidden_values (map hidden_data hs) (map cell_in c.args.numbers.now) ≡ true) (sym c.deref-2.ensures.value)
    (subst (λ (ns : List ℕ). are_hidden_values gd.hidden ns ≡ true) (sym numbers) (fits gd s c.requires.state.1 (listed s) refl (length gd.hidden) refl))

pub read_cells-requires-clause-input : goal.read_cells-requires-clause-input
read_cells-requires-clause-input c =
    let gd = game_data c.args.game.now in
    let s = c.requires.state.0 in
    subst (λ vs. is_assignment (domains_of is_env (map variable_data vs)) c.args.input.now ≡ true) (sym c.deref.ensures.value)
    (subst (λ (x : List Value). is_assignment (domains_of is_env gd.variables) x ≡ true) (sym c.requires.state.2.input) (input_fits gd s c.requires.state.1 (listed s) refl (length gd.hidden) refl))

pub read_cells-requires-clause-output : goal.read_cells-requires-clause-output
read_cells-requires-clause-output c =
    let gd = game_data c.args.game.now in
    let s = c.requires.state.0 in
    subst (λ vs. is_assignment (domains_of (λ o. not (is_env o)) (map variable_data vs)) c.args.output.now ≡ true) (sym c.deref.ensures.value)
    (subst (λ (y : List Value). is_assignment (domains_of (λ o. not (is_env o)) gd.variables) y ≡ true) (sym c.requires.state.2.output) (output_fits gd s c.requires.state.1 (listed s) refl (length gd.hidden) refl))

pub returns : goal.returns
returns c = λ s inside split.
    let gd = game_data c.args.game.now in
    let cells = c.read_cells.new.out in
    let numbers = ap (map cell_in) split.hidden ∙ cells_back s.hidden in
    let read : Position → List ℕ → Readout = λ p ns. read_tables gd.variables p nothing_read gd.hidden ns in
    ap (λ hs. read_so_far (map hidden_data hs) cells) (sym c.deref-2.ensures.value)
    ∙ (c.read_cells.ensures
    ∙ (ap (λ hs. read_tables (map variable_data c.deref.result.now) (record { input = c.args.input.now; output = c.args.output.now }) nothing_read (map hidden_data hs) (map cell_in c.args.numbers.now)) c.deref-2.ensures.value
    ∙ (ap (λ vs. read_tables (map variable_data vs) (record { input = c.args.input.now; output = c.args.output.now }) nothing_read gd.hidden (map cell_in c.args.numbers.now)) c.deref.ensures.value
    ∙ (ap (λ (x : List Value). read (record { input = x; output = c.args.output.now }) (map cell_in c.args.numbers.now)) split.input
    ∙ (ap (λ (y : List Value). read (record { input = s.position.input; output = y }) (map cell_in c.args.numbers.now)) split.output
    ∙ ap (λ (ns : List ℕ). read s.position ns) numbers)))))
