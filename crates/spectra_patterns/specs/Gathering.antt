-- The past operators of lines, and what is counted of them.
use Rattle.std.specs.Prelude.{◌≡◌, ℕ, ◌≤◌, if◌then◌else◌, List, [], map, flat_map, count_by}
use Rattle.spec_model.specs.Syntax.{Formula, Content, Statement, TriggerData}
use Rattle.spec_model.specs.Sizes.{past_trees, formulas_of, past_operators, is_hidden, all_hidden}
use Rattle.past_bits.specs.Bits.{tree_of}
use Rattle.spectra_patterns.specs.declared.gathering.Tables.{Tables}
use Rattle.spectra_patterns.specs.Hidden.{alone, most_hidden}

-- those of a line, those within others first, where these triggers are used
abbrev pub past_in : List TriggerData → Content → List Formula
past_in triggers c = flat_map past_trees (formulas_of (alone triggers []) c)

-- the table of a line's own
abbrev pub own_tables : Content → ℕ
own_tables c = if is_hidden c then 1 else 0

-- the tables of these lines, of which there aren't too many
pub record IsCount (triggers : List TriggerData) (lines : List Statement) (t : Tables) : Type 0 where
  pub operators : map tree_of t.ops ≡ past_operators (alone triggers lines)
  pub own : t.own ≡ count_by (λ (l : Statement). is_hidden l.content) lines
  pub few : all_hidden (alone triggers lines) ≤ most_hidden
