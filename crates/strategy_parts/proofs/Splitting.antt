-- A state of a game is told by the list of its values.
use Rattle.std.proofs.Common.{◌≡◌, ℕ, true, ◌&&◌, List, ◌++◌, length, take, drop, map, sym, ◌∙◌, ap}
use Rattle.std.proofs.lemmas.Bool.{and_parts}
use Rattle.std.proofs.lemmas.List.{length-map}
use Rattle.std.proofs.Math.Seq.{take-append_seam, drop-append_seam}
use Rattle.spec_model.specs.declared.value.Value.{Value}
use Rattle.spec_model.specs.Values.{Assignment}
use Rattle.spec_model.specs.Moves.{is_env, domains_of}
use Rattle.spec_model.specs.Games.{GameData, State, listed}
use Rattle.spec_model.specs.Steps.{is_state, is_input, is_output, are_hidden_values}
use Rattle.regions.specs.Rules.{input_count}
use Rattle.game_play.specs.Sights.{cell_in, as_values}
use Rattle.game_play.proofs.Sights.{hidden_length, cells_back}
use Rattle.strategy_parts.proofs.Placing.{length_fits}

-- a state by its hidden values, its input and its output
made : List ℕ → Assignment → Assignment → State
made hidden input output = record { hidden = hidden; position = record { input = input; output = output } }

-- the state that a list of values makes, so many of them hidden, and so many an input
abbrev pub split : (hidden inputs : ℕ) → List Value → State
split hidden inputs values =
    record {
      hidden = map cell_in (take hidden values);
      position = record { input = take inputs (drop hidden values); output = drop inputs (drop hidden values) };
    }

split_listed : (s : State) → split (length s.hidden) (length s.position.input) (listed s) ≡ s
unfolding made
split_listed s =
    let hidden : List Value = as_values s.hidden in
    let long : length hidden ≡ length s.hidden = length-map s.hidden _ in
    let front : take (length s.hidden) (listed s) ≡ hidden = ap (λ n. take n (listed s)) (sym long) ∙ take-append_seam hidden (s.position.input ++ s.position.output) in
    let back : drop (length s.hidden) (listed s) ≡ s.position.input ++ s.position.output = ap (λ n. drop n (listed s)) (sym long) ∙ drop-append_seam hidden (s.position.input ++ s.position.output) in
    let tables = ap (map cell_in) front ∙ cells_back s.hidden in
    let input = ap (take (length s.position.input)) back ∙ take-append_seam s.position.input s.position.output in
    let output = ap (drop (length s.position.input)) back ∙ drop-append_seam s.position.input s.position.output in
    ap (λ (ns : List ℕ). made ns (take (length s.position.input) (drop (length s.hidden) (listed s))) (drop (length s.position.input) (drop (length s.hidden) (listed s)))) tables
    ∙ (ap (λ (x : Assignment). made s.hidden x (drop (length s.position.input) (drop (length s.hidden) (listed s)))) input
    ∙ ap (λ (y : Assignment). made s.hidden s.position.input y) output)

-- the values of a state of a game make it
pub split_state : (g : GameData) (s : State) → is_state g s ≡ true → split (length g.hidden) (input_count g) (listed s) ≡ s
split_state g s inside =
    let parts = and_parts (are_hidden_values g.hidden s.hidden) (is_input g s.position.input && is_output g s.position.output) inside in
    let moves = and_parts (is_input g s.position.input) (is_output g s.position.output) parts.1 in
    let tables = hidden_length g.hidden s.hidden parts.0 in
    let ins = length_fits (domains_of is_env g.variables) s.position.input moves.0 in
    ap (λ n. split n (input_count g) (listed s)) tables ∙ (ap (λ n. split (length s.hidden) n (listed s)) (sym ins) ∙ split_listed s)

-- so states with one list are one
pub listed_once : (g : GameData) (s t : State) → is_state g s ≡ true → is_state g t ≡ true → listed s ≡ listed t → s ≡ t
listed_once g s t in_s in_t same = sym (split_state g s in_s) ∙ (ap (split (length g.hidden) (input_count g)) same ∙ split_state g t in_t)
