-- What the game of a specification is made with.
use Rattle.std.specs.Prelude.{◌≡◌, ℕ, zero, suc, ◌+◌, List, [], ◌∷◌, ◌++◌, length, map, get_or, slice_get, Option, Some, None, IfSome}
use Rattle.spec_model.specs.declared.game.Hidden.{Hidden}
use Rattle.spec_model.specs.Syntax.{Formula, Entry, Content, Recurring, PatternData}
use Rattle.spec_model.specs.Views.{spec_data}
use Rattle.spec_model.specs.GameViews.{hidden_data}
use Rattle.spec_model.specs.Sizes.{past_operators}
use Rattle.spec_model.specs.Games.{GoalData}
use Rattle.past_bits.specs.Bits.{tree_of}
use Rattle.pattern_rows.specs.Rows.{rows_of}
use Rattle.hidden_game.specs.declared.source.Source.{Source}

-- the operators are those of the specification, as they are met
abbrev pub IsSource : Source → Type 0
IsSource s = map tree_of s.operators ≡ past_operators (spec_data s.spec.now)

-- rows that are kept are those of the pattern
abbrev pub IsKept : PatternData → Option Hidden → Type 0
IsKept p kept = IfSome kept (λ h. hidden_data h ≡ rows_of p)

-- there is room for the rows of each pattern, and those that are kept are its own
pub record AreKept (ps : List PatternData) (kept : List (Option Hidden)) : Type 0 where
  pub room : length kept ≡ length ps
  pub own : (k : ℕ) (p : PatternData) → slice_get ps k ≡ Some p → IsKept p (get_or kept k None)

-- the goals of the first truth tables of a hidden table, where the parts of the line are counted from this number
abbrev pub goals_of_parts : (line table first : ℕ) → (parts : ℕ) → List GoalData
goals_of_parts line table first zero = []
goals_of_parts line table first (suc n) = goals_of_parts line table first n ++ record { label = record { line = line; part = first + n }; holds = Entry table n } ∷ []

-- the formula of a recurring line
abbrev pub formula_of_recurring : Content → Option Formula
formula_of_recurring (Recurring e) = Some e
formula_of_recurring c = None
