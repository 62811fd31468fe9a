-- One operation on diagrams, and what it makes on the way.
use Rattle.std.specs.Prelude.{◌≡◌, ℕ, Bool, false, List, [], ◌∷◌}
use Rattle.spec_model.specs.Diagrams.{Diagram, value}
use Rattle.bdd_ops.specs.Functions.{join_of}
use Rattle.bdd_ops.specs.Unfinished.{IsJoinOfParts, IsChoiceOfParts, IsUnfinished, IsRelatedPart, IsShiftedPart, IsNegatedPart}

-- one operation on diagrams: a level's bit, a negation, two joined, a choice, "some make both true", and levels moved
pub data Running : Type 0 where
  bit : ℕ → Running
  negation : Diagram → Running
  join : Bool → Diagram → Diagram → Running
  choice : Diagram → Diagram → Diagram → Running
  related : List ℕ → Diagram → Diagram → Running
  moved : List ℕ → Diagram → Running

abbrev pub arguments_of : Running → List Diagram
arguments_of (bit level) = []
arguments_of (negation a) = a ∷ []
arguments_of (join all a b) = a ∷ b ∷ []
arguments_of (choice a b c) = a ∷ b ∷ c ∷ []
arguments_of (related levels a b) = a ∷ b ∷ []
arguments_of (moved to a) = a ∷ []

-- what it makes on the way: its result on parts of its arguments, or two such results joined
abbrev pub IsUnfinishedOf : Running → Diagram → Type 0
IsUnfinishedOf (bit level) made = value made ≡ (λ s. s level)
IsUnfinishedOf (negation a) made = IsNegatedPart a made
IsUnfinishedOf (join all a b) made = IsJoinOfParts (join_of all) a b made
IsUnfinishedOf (choice a b c) made = IsChoiceOfParts a b c made
IsUnfinishedOf (related levels a b) made = IsUnfinished (join_of false) (IsRelatedPart levels a b) made
IsUnfinishedOf (moved to a) made = IsShiftedPart to a made
