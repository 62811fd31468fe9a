-- What making needs of a well-made game.
use Rattle.std.proofs.Common.{◌≡◌, ℕ, ◌*◌, ◌^◌, Bool, true, ◌==◌, nat_lt, List, [], ◌∷◌, length, map, min, refl, sym, ◌∙◌, ap, arith}
use Rattle.std.specs.List.{list_all}
use Rattle.std.proofs.lemmas.Bool.{and_parts, and_from}
use Rattle.std.proofs.lemmas.List.{length-map}
use borrow.Author.Tests.{ltb-true, lt-ltb}
use Rattle.spec_model.specs.Typing.{Scope}
use Rattle.spec_model.specs.Moves.{is_env}
use Rattle.spec_model.specs.Games.{GameData, HiddenData, inputs_of, outputs_of}
use Rattle.spec_model.specs.Steps.{states_of, hidden_values}
use Rattle.spec_model.specs.WellMade.{WellMade, is_table, are_tables}
use Rattle.game_states.proofs.StateNumbers.{length-states}
use Rattle.game_states.proofs.Counts.{min_times, owned_filled, hidden_filled}

pub tables_filled : (sc : Scope) (hs : List HiddenData) → are_tables sc hs ≡ true → list_all (λ h. nat_lt 0 h.values) hs ≡ true
tables_filled sc [] e = refl
tables_filled sc (h ∷ hs) e =
    let parts = and_parts (is_table sc h) _ e in
    let first = ltb-true h.first h.values (and_parts (nat_lt h.first h.values) _ parts.0).0 in
    and_from _ _ (lt-ltb 0 h.values (omega (arith, first))) (tables_filled _ hs parts.1)

-- the count, cut off at each step, is that of all states
pub count_is : (g : GameData) → WellMade g → (o m n : ℕ) → o ≡ min 1025 (1 * length (outputs_of g)) → m ≡ min 1025 (o * length (inputs_of g)) → n ≡ min 1025 (m * length (hidden_values g.hidden)) → n ≡ min 1025 (length (states_of g))
count_is g made o m n eo em en =
    let inputs = owned_filled is_env g.variables made.domains in
    let hidden = hidden_filled g.hidden (tables_filled _ g.hidden made.hidden) in
    let first : 1 * length (outputs_of g) ≡ length (outputs_of g) = omega arith in
    let moves : m ≡ min 1025 (length (outputs_of g) * length (inputs_of g)) = em ∙ (ap (λ k. min 1025 (k * length (inputs_of g))) (eo ∙ ap (min 1025) first) ∙ min_times (length (outputs_of g)) (length (inputs_of g)) inputs) in
    let all : n ≡ min 1025 (length (outputs_of g) * length (inputs_of g) * length (hidden_values g.hidden)) = en ∙ (ap (λ k. min 1025 (k * length (hidden_values g.hidden))) moves ∙ min_times (length (outputs_of g) * length (inputs_of g)) (length (hidden_values g.hidden)) hidden) in
    let turned : length (outputs_of g) * length (inputs_of g) * length (hidden_values g.hidden) ≡ length (hidden_values g.hidden) * (length (inputs_of g) * length (outputs_of g)) = reorder (length (outputs_of g)) (length (inputs_of g)) (length (hidden_values g.hidden)) in
    all ∙ ap (min 1025) (turned ∙ sym (length-states g))
  where
    reorder : (a b c : ℕ) → a * b * c ≡ c * (b * a)
    reorder a b c = grind arith
