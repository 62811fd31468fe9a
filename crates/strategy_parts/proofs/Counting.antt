-- How many values list a state, and how many sets recur.
use Rattle.std.proofs.Common.{◌≡◌, ℕ, ◌+◌, ◌<◌, true, not, ◌&&◌, List, [], ◌∷◌, ◌++◌, map, pos, length, arith}
use Rattle.std.proofs.lemmas.Bool.{and_parts}
use Rattle.std.proofs.lemmas.List.{length-append, length-map}
use Rattle.spec_model.specs.declared.value.Value.TheVariants as value
use Rattle.spec_model.specs.Moves.{is_env, domains_of}
use Rattle.spec_model.specs.Games.{GameData, State, listed}
use Rattle.spec_model.specs.Steps.{is_state, is_input, is_output, are_hidden_values}
use Rattle.spec_model.specs.Sets.{StateSet}
use Rattle.game_play.proofs.Sights.{hidden_length}
use Rattle.gr1_law.specs.Layers.{or_all_states}
use Rattle.strategy_parts.specs.Counts.{value_count}
use Rattle.strategy_parts.proofs.Placing.{length_fits}

-- a state of the game is listed by as many values as it has
pub listed_sized : (g : GameData) (s : State) → is_state g s ≡ true → length (listed s) ≡ value_count g
listed_sized g s inside =
    let parts = and_parts (are_hidden_values g.hidden s.hidden) (is_input g s.position.input && is_output g s.position.output) inside in
    let moves = and_parts (is_input g s.position.input) (is_output g s.position.output) parts.1 in
    let hidden = length-map s.hidden (λ v. value.Int (pos v)) in
    let tables = hidden_length g.hidden s.hidden parts.0 in
    let both = length-append (map (λ v. value.Int (pos v)) s.hidden) (s.position.input ++ s.position.output) in
    let last = length-append s.position.input s.position.output in
    let ins = length_fits (domains_of is_env g.variables) s.position.input moves.0 in
    let outs = length_fits (domains_of (λ o. not (is_env o)) g.variables) s.position.output moves.1 in
    omega (arith, hidden, tables, both, last, ins, outs)

-- where there is no recurring line of a kind there is one set, else one for each
pub sets_few : (g : GameData) (sets : List StateSet) (n : ℕ) → length sets < n → 1 < n → length (or_all_states g sets) < n
sets_few g [] n few some = some
sets_few g (s ∷ sets) n few some = few
