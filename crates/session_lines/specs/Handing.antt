-- The lines that were handed out so far, as those of what the input gave so far.
use Rattle.std.specs.Prelude.{◌≡◌, ℕ, Bool, true, List, ◌∷◌, ◌++◌, map, Option, Some}
use Rattle.std.specs.Io.KnownBytes.{IsAtEnd}
use Rattle.session_lines.specs.InputLines.{Line, input_lines}

-- the line that follows those that were handed out, among the lines of what was given
pub record IsNext (given : List ℕ) (left : Option (List ℕ)) (handed : List (List ℕ)) (line : Line) : Type 0 where
  pub at_end : Bool
  pub ended : at_end ≡ true → IsAtEnd left
  pub rest : List Line
  pub follows : input_lines at_end given ≡ map (λ l. Some l) handed ++ line ∷ rest

-- the lines that were handed out stand first among those of what was given
pub record AreFirst (given : List ℕ) (left : Option (List ℕ)) (handed : List (List ℕ)) : Type 0 where
  pub at_end : Bool
  pub ended : at_end ≡ true → IsAtEnd left
  pub rest : List Line
  pub follows : input_lines at_end given ≡ map (λ l. Some l) handed ++ rest
