-- Both sides of a trigger, as words.
use Rattle.std.specs.Prelude.{◌≡◌, ◌+◌, ◌≤◌, ℕ, nat_lt, List, [], ◌∷◌, ◌++◌, length, map, vec_len}
use Rattle.spec_model.specs.Syntax.{Formula}
use Rattle.spec_model.specs.Games.{HiddenData, letter_of}
use Rattle.spec_model.specs.TriggerStates.{Written}
use Rattle.trigger_dfa.specs.declared.states.Sides.{Sides}
use Rattle.trigger_dfa.specs.declared.states.Values.{Values}
use Rattle.trigger_dfa.specs.Standings.{all_sets, value_sets}
use Rattle.trigger_dfa.specs.Rows.{rows_of}
use Rattle.trigger_dfa.specs.Walks.{Walks}

pub record AreSides (atoms : List Formula) (left right : Written) (sides : Sides) : Type 0 where
  pub cause : Walks atoms left sides.cause
  pub effect : Walks atoms right sides.effect

-- how many sets are reached
abbrev pub set_count : List Formula → (cause effect : Written) → ℕ
set_count atoms cause effect = length (all_sets atoms cause) + length (all_sets atoms effect)

pub record AreValues (atoms : List Formula) (left right : Written) (values : Values) : Type 0 where
  pub causes : values.causes.items ≡ map letter_of (value_sets atoms left)
  pub effects : values.effects.items ≡ map letter_of (value_sets atoms right)
  pub few : set_count atoms left right ≤ 254

-- the next values, where the effect's start has this number
abbrev pub next_of : Sides → Values → ℕ → List ℕ
next_of sides values other = rows_of sides.cause values.causes.items 0 other ++ rows_of sides.effect values.effects.items other 0

abbrev pub table_in : List Formula → Sides → Values → HiddenData
table_in atoms sides values =
    record {
      values = vec_len values.causes + 1 + (vec_len values.effects + 1);
      first = 0;
      atoms = atoms;
      next = next_of sides values (vec_len values.causes + 1);
      tables = map (λ v. nat_lt v (vec_len values.causes + 1)) (next_of sides values (vec_len values.causes + 1)) ∷ [];
    }
