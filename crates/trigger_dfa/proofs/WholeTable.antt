-- What both sides tell is the table of the trigger.
use Rattle.std.proofs.Common.{◌≡◌, ℕ, suc, ◌+◌, Bool, not, nat_lt, List, [], ◌∷◌, ◌++◌, length, map, vec_len, ◌∙◌, ap, arith}
use Rattle.std.proofs.lemmas.List.{length-map}
use Rattle.spec_model.specs.Syntax.{TriggerData}
use Rattle.spec_model.specs.Games.{HiddenData, letter_of}
use Rattle.spec_model.specs.TriggerStates.{written, trigger_atoms}
use Rattle.trigger_dfa.specs.declared.states.Sides.{Sides}
use Rattle.trigger_dfa.specs.declared.states.Values.{Values}
use Rattle.trigger_dfa.specs.Pairs.{AreSides, AreValues, next_of, table_in}
use Rattle.trigger_dfa.specs.Rows.{rows_of}
use Rattle.trigger_dfa.specs.Standings.{value_sets, standings, value_of, by_standing, table_of}
use Rattle.trigger_dfa.proofs.TableRows.{cause_count, next_are, goals_are, values_count}

module _ (tr : TriggerData) (sides : Sides) (values : Values)
    (are : AreSides (trigger_atoms tr) (written tr.cause) (written tr.effect) sides) (told : AreValues (trigger_atoms tr) (written tr.cause) (written tr.effect) values) where
  count_is : vec_len values.causes + 1 ≡ suc (cause_count tr)
  count_is = omega (arith, values.causes.ok.0, ap length told.causes, length-map (value_sets (trigger_atoms tr) (written tr.cause)) letter_of)

  other_count : vec_len values.effects ≡ length (value_sets (trigger_atoms tr) (written tr.effect))
  other_count = omega (arith, values.effects.ok.0, ap length told.effects, length-map (value_sets (trigger_atoms tr) (written tr.effect)) letter_of)

  next_is : next_of sides values (vec_len values.causes + 1) ≡ by_standing tr (value_of tr)
  next_is =
      ap (λ (l : List ℕ). rows_of sides.cause l 0 (vec_len values.causes + 1) ++ rows_of sides.effect values.effects.items (vec_len values.causes + 1) 0) told.causes
      ∙ ap (λ (l : List ℕ). rows_of sides.cause (map letter_of (value_sets (trigger_atoms tr) (written tr.cause))) 0 (vec_len values.causes + 1) ++ rows_of sides.effect l (vec_len values.causes + 1) 0) told.effects
      ∙ next_are tr sides.cause sides.effect are.cause are.effect (vec_len values.causes + 1) count_is

  goal_is : map (λ v. nat_lt v (vec_len values.causes + 1)) (next_of sides values (vec_len values.causes + 1)) ≡ by_standing tr (λ s. not s.waits)
  goal_is =
      ap (map (λ v. nat_lt v (vec_len values.causes + 1))) next_is
      ∙ ap (λ (n : ℕ). map (λ v. nat_lt v n) (by_standing tr (value_of tr))) count_is
      ∙ goals_are tr

  all_count : vec_len values.causes + 1 + (vec_len values.effects + 1) ≡ length (standings tr)
  all_count = omega (arith, count_is, other_count, values_count tr)

  made : ℕ → List ℕ → List Bool → HiddenData
  made count next goal = record { values = count; first = 0; atoms = trigger_atoms tr; next = next; tables = goal ∷ [] }

  pub table_is : table_in (trigger_atoms tr) sides values ≡ table_of tr
  unfolding made
  table_is =
      ap (λ (n : ℕ). made n (next_of sides values (vec_len values.causes + 1)) (map (λ v. nat_lt v (vec_len values.causes + 1)) (next_of sides values (vec_len values.causes + 1)))) all_count
      ∙ ap (λ (l : List ℕ). made (length (standings tr)) l (map (λ v. nat_lt v (vec_len values.causes + 1)) (next_of sides values (vec_len values.causes + 1)))) next_is
      ∙ ap (made (length (standings tr)) (by_standing tr (value_of tr))) goal_is
