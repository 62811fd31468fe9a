-- What laws say of who wins: one of both sides, and never both.
use Rattle.std.specs.Prelude.{◌≡◌, ◌⊎◌, ℕ, true, List, None, IsTrue}
use Rattle.spec_model.specs.Syntax.{Specification}
use Rattle.spec_model.specs.Games.{GameData}
use Rattle.spec_model.specs.Sets.{environment_forces}
use Rattle.spec_model.specs.Cores.{Realizable, with_guarantees, is_in}
use Rattle.gr1_law.specs.EnvLayers.{EnvLayerSets, AreEnvLayers, IsLayerCount}
use Rattle.solve.specs.Winners.{IsWonBySystem, IsWonByEnvironment}

-- ---- games

-- it does so, whichever its layers are
abbrev pub EnvironmentForces : GameData → Type 0
EnvironmentForces g = (e : EnvLayerSets) (n : ℕ) → AreEnvLayers g e → IsLayerCount e n → environment_forces g (e.z n) None ≡ true

-- ---- specifications

-- no specification is won by both, whatever the numbers
abbrev pub NeverBoth : Specification → Type 0
NeverBoth s = (k n m : ℕ) → IsWonBySystem s k → IsWonByEnvironment s n m → ⊥

-- and one of the two wins it
abbrev pub OneOfBoth : Specification → Type 0
OneOfBoth s = ((k : ℕ) × IsWonBySystem s k) ⊎ ((n : ℕ) × (m : ℕ) × IsWonByEnvironment s n m)

-- ---- parts

-- The whole leaves each part of its guarantees realizable, and so does each part those parts that are in it.
pub record PartsStayRealizable (s : Specification) : Type 0 where
  pub whole : (part : List ℕ) → Realizable s → Realizable (with_guarantees s part)
  pub parts : (kept part : List ℕ) → ((n : ℕ) → IsTrue (is_in part n) → IsTrue (is_in kept n)) → Realizable (with_guarantees s kept) → Realizable (with_guarantees s part)
