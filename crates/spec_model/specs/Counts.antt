-- How many states are in a set, and the least set that solves an equation.
use Rattle.std.specs.Prelude.{◌≡◌, ℕ, ◌+◌, if◌then◌else◌, List, [], ◌∷◌}
use Rattle.spec_model.specs.Games.{State}
use Rattle.spec_model.specs.Sets.{StateSet, IsPartOf}

-- ---- what the players can force

-- how many of the listed states are in the set
abbrev pub count_in : StateSet → List State → ℕ
count_in a [] = 0
count_in a (s ∷ ss) = (if a s then 1 else 0) + count_in a ss

-- ---- sets given by equations

-- the least one, likewise
pub record IsLeast (value : StateSet → StateSet) (z : StateSet) : Type 0 where
  pub solves : z ≡ value z
  pub below : (t : StateSet) → IsPartOf (value t) t → IsPartOf z t
