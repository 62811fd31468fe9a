-- Patterns that are well formed.
use Rattle.std.specs.Prelude.{ℕ, Bool, not, ◌&&◌, IsTrue}
use Rattle.std.specs.List.{list_all}
use Rattle.spec_model.specs.Syntax.{Formula, PatternData}
use Rattle.spec_model.specs.Moves.{has_next}
use Rattle.spec_model.specs.WellTyped.{is_domain_of, is_pattern_line, is_first_line, is_step_line}
pub use Rattle.pattern_rows.specs.Rows.{is_wide}

-- a goal reads a position alone
abbrev pub is_goal_line : PatternData → (names : ℕ) → Formula → Bool
is_goal_line p names e = is_pattern_line p names e && not (has_next e)

-- What a well-typed specification has of each of its patterns, apart from the limits and from how the lines tell the values:
-- its domains have values, and its lines have their kinds and stand where they may, where there are so many enum names.
pub record IsPattern (p : PatternData) : Type 0 where
  pub names : ℕ
  pub domains : IsTrue (list_all (is_domain_of names) p.domains)
  pub first : IsTrue (list_all (is_first_line p names) p.first)
  pub step : IsTrue (list_all (is_step_line p names) p.step)
  pub goals : IsTrue (list_all (is_goal_line p names) p.goals)

-- one of its goals, where there are so many enum names
pub record IsGoal (p : PatternData) (e : Formula) : Type 0 where
  pub names : ℕ
  pub line : IsTrue (is_goal_line p names e)
