use Rattle.std.proofs.Common.{◌∙◌, ℕ, [], List, map, not, length, refl, ap}
use Rattle.spec_model.specs.declared.value.Var.{Var}
use Rattle.spec_model.specs.declared.game.Hidden.{Hidden}
use Rattle.spec_model.specs.Views.{variable_data}
use Rattle.spec_model.specs.GameViews.{game_data, hidden_data}
use Rattle.spec_model.specs.Values.{Assignment, is_assignment}
use Rattle.spec_model.specs.Moves.{is_env, domains_of}
use Rattle.spec_model.specs.Games.{listed, present_reading, read_tables, nothing_read}
use Rattle.spec_model.specs.Steps.{are_hidden_values}
use Rattle.spec_model.specs.WellMade.{are_tables}
use Rattle.game_play.specs.Sights.{cell_in, reading_at}
use Rattle.game_play.proofs.Sights.{fits, input_fits, output_fits, cells_back}
use Rattle.game_play.proofs.SeenMoves.{present_state}
use Rattle.game_play.proofs.judging.made_position.Goals as goal

pub invariant_of-result : goal.invariant_of-result
invariant_of-result c =
    let g = game_data c.args.game.now in
    let s = c.requires.state.0 in
    let inside = c.requires.state.1 in
    let split = c.requires.state.2 in
    let numbers = ap (map cell_in) split.hidden ∙ cells_back s.hidden in
    record {
      tables = ap (λ (vs : List Var). are_tables (record { domains = map (λ v. v.domain) (map variable_data vs); tables = [] }) (map hidden_data c.deref-2.result.now)) c.deref.ensures.value
          ∙ (ap (λ (hs : List Hidden). are_tables (record { domains = map (λ v. v.domain) g.variables; tables = [] }) (map hidden_data hs)) c.deref-2.ensures.value ∙ c.requires.made.hidden);
      valued = ap (λ (hs : List Hidden). are_hidden_values (map hidden_data hs) (map cell_in c.args.numbers.now)) c.deref-2.ensures.value
          ∙ (ap (are_hidden_values g.hidden) numbers ∙ fits g s inside (listed s) refl (length g.hidden) refl);
      moved = ap (λ (vs : List Var). is_assignment (domains_of is_env (map variable_data vs)) c.args.input.now) c.deref.ensures.value
          ∙ (ap (is_assignment (domains_of is_env g.variables)) split.input ∙ input_fits g s inside (listed s) refl (length g.hidden) refl);
      answered = ap (λ (vs : List Var). is_assignment (domains_of (λ o. not (is_env o)) (map variable_data vs)) c.args.output.now) c.deref.ensures.value
          ∙ (ap (is_assignment (domains_of (λ o. not (is_env o)) g.variables)) split.output ∙ output_fits g s inside (listed s) refl (length g.hidden) refl);
    }

pub returns : goal.returns
returns c = λ s inside split.
    let g = game_data c.args.game.now in
    let numbers = ap (map cell_in) split.hidden ∙ cells_back s.hidden in
    ap (λ (vs : List Var). reading_at (map variable_data vs) (map hidden_data c.deref-2.result.now) c.args.numbers.now (record { input = c.args.input.now; output = c.args.output.now })) c.deref.ensures.value
    ∙ (ap (λ (hs : List Hidden). reading_at g.variables (map hidden_data hs) c.args.numbers.now (record { input = c.args.input.now; output = c.args.output.now })) c.deref-2.ensures.value
    ∙ (ap (λ (x : Assignment). reading_at g.variables g.hidden c.args.numbers.now (record { input = x; output = c.args.output.now })) split.input
    ∙ (ap (λ (y : Assignment). reading_at g.variables g.hidden c.args.numbers.now (record { input = s.position.input; output = y })) split.output
    ∙ (ap (λ (ns : List ℕ). present_reading g.variables s.position (read_tables g.variables s.position nothing_read g.hidden ns).entries) numbers
    ∙ present_state g s))))
