-- Laws of cores: what fewer guarantees leave, and what trying them in order finds.
use Rattle.std.specs.Prelude.{ℕ, List, IsTrue}
use Rattle.spec_model.specs.Syntax.{Specification}
use Rattle.spec_model.specs.Games.{GameData}
use Rattle.spec_model.specs.WellMade.{WellMade}
use Rattle.spec_model.specs.Agreement.{Agrees}
use Rattle.spec_model.specs.Laws.{NumbersRise}
use Rattle.spec_model.specs.Cores.{Realizable, Unrealizable, with_guarantees, is_in, IsLeft, IsCore}

-- its line numbers rise, and a well-made game agrees with it
pub record IsSolvable (s : Specification) : Type 0 where
  pub rises : NumbersRise s.lines
  pub game : GameData
  pub agrees : Agrees s game
  pub made : WellMade game

-- what is realizable with some guarantees, within its bound, is so with a part of them, within the part's own bound
abbrev pub PartStaysRealizable : Specification → Type 0
PartStaysRealizable s =
    (kept part : List ℕ) → IsSolvable (with_guarantees s part) → ((n : ℕ) → IsTrue (is_in part n) → IsTrue (is_in kept n)) →
    Realizable (with_guarantees s kept) → Realizable (with_guarantees s part)

-- where a specification is unrealizable, what trying its guarantees in text order leaves is a core
abbrev pub LeftIsCore : Specification → Type 0
LeftIsCore s = ((kept : List ℕ) → IsSolvable (with_guarantees s kept)) → (left : List ℕ) → Unrealizable s → IsLeft s left → IsCore s left
