-- What was handed out of an input, and what is still there.
use Rattle.std.specs.Prelude.{◌≡◌, ℕ, Bool, true, false, List, [], ◌∷◌, ◌++◌, map, Option, Some}
use Rattle.std.specs.Io.KnownBytes.{Consumes, IsAtEnd}
use Rattle.session_lines.specs.declared.reader.Taken.{Taken}
use Rattle.session_lines.specs.declared.reader.Taken.TheVariants as taken
use Rattle.session_lines.specs.InputLines.{Line, input_lines}
use Rattle.session_lines.specs.Taking.{BeginsTooLong}

-- whatever comes later, the lines of all are those that were handed out, and then those of what is left
abbrev pub HandsOut : (given : List ℕ) → (handed : List (List ℕ)) → (left : List ℕ) → Type 0
HandsOut given handed left = (at_end : Bool) (later : List ℕ) → input_lines at_end (given ++ later) ≡ map (λ l. Some l) handed ++ input_lines at_end (left ++ later)

-- which lines all that was given has, where no other line is handed out later
abbrev pub EndsWith : Taken → (ended : Bool) → (given : List ℕ) → (handed : List (List ℕ)) → (line : List ℕ) → Type 0
EndsWith taken.Line false given handed line = Unit {0}
EndsWith taken.Line true given handed line = input_lines true given ≡ map (λ l. Some l) (handed ++ line ∷ [])
EndsWith taken.Finish ended given handed line = input_lines true given ≡ map (λ l. Some l) handed
EndsWith taken.Failed ended given handed line = input_lines false given ≡ map (λ l. Some l) handed
EndsWith taken.TooLong ended given handed line =
    (at_end : Bool) (later : List ℕ) → (rest : List Line) × (input_lines at_end (given ++ later) ≡ map (λ l. Some l) handed ++ rest) × BeginsTooLong rest

-- these lines were handed out of what was given; once the input gave its end they are all, and before it this is still there
abbrev pub HasHanded : (ended : Bool) → (given : List ℕ) → (left : Option (List ℕ)) → (handed : List (List ℕ)) → (pending : List ℕ) → Type 0
HasHanded false given left handed pending = HandsOut given handed pending
HasHanded true given left handed pending = IsAtEnd left × (input_lines true given ≡ map (λ l. Some l) handed)

-- likewise of what the input gave since
pub record Hands (ended : Bool) (left_old left_new : Option (List ℕ)) (handed : List (List ℕ)) (pending : List ℕ) : Type 0 where
  pub given : List ℕ
  pub taken_from : Consumes left_old left_new given
  pub so_far : HasHanded ended given left_new handed pending
