-- What stands at the beginning of a line.
use Rattle.std.specs.Prelude.{◌≡◌, ℕ, true, List, ◌++◌}
use Rattle.spec_model.specs.Values.{Assignment, is_assignment}
use Rattle.spec_model.specs.Syntax.{VariableData}
use Rattle.session_lines.specs.Shown.{items_of}
use Rattle.session_lines.specs.Room.{domains}
use Rattle.session_lines.specs.Reading.{words}

-- the words of the line are the items of an assignment, in order, and then those of the rest
pub record BeginsWith (names : List (List ℕ)) (vs : List VariableData) (xs : Assignment) (line rest : List ℕ) : Type 0 where
  pub words_are : words line ≡ items_of names vs xs ++ words rest
  pub within : is_assignment (domains vs) xs ≡ true
