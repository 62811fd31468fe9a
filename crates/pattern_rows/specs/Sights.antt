-- What is seen of a pattern's variables: the parameters and the own variables, and what these have next.
use Rattle.std.specs.Prelude.{◌≡◌, ◌==◌, true, ◌++◌, length}
use Rattle.spec_model.specs.Values.{Assignment, is_assignment}
use Rattle.spec_model.specs.Syntax.{PatternData}
use Rattle.spec_model.specs.Meaning.{Reading}
use Rattle.spec_model.specs.Patterns.{two_positions}
use Rattle.pattern_rows.specs.declared.sight.Sight.{Sight}

abbrev pub reading_in : Sight → Reading
reading_in s = two_positions (s.letter.now ++ s.own.now) (s.letter.now ++ s.next.now)

-- these are values of the parameters and of the own variables
pub record IsCell (p : PatternData) (letter own : Assignment) : Type 0 where
  pub long : (length letter == p.params) ≡ true
  pub fits : is_assignment p.domains own ≡ true
