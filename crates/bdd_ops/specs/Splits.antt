-- A diagram at the first level that it reads.
use Rattle.std.specs.Prelude.{◌≡◌, ◌<◌, ◌==◌, ◌+◌, ℕ, true, false, if◌then◌else◌}
use Rattle.spec_model.specs.Diagrams.{Diagram, branch, value, with_bit, IsReduced}
use Rattle.bdd_store.specs.State.{State, roots_at}
use Rattle.bdd_ops.specs.Reading.{Ignores, DependsOn}

-- the level is the first that the diagram's function reads, and the two parts are the function with that level's bit false and true
pub record SplitsAt (levels level : ℕ) (d low high : Diagram) : Type 0 where
  pub below : level < levels
  pub reads : DependsOn level (value d)
  pub none_before : (m : ℕ) → m < level → Ignores m (value d)
  pub low_is : value low ≡ (λ s. value d (with_bit s level false))
  pub high_is : value high ≡ (λ s. value d (with_bit s level true))
  pub diagram : d ≡ branch level low high
  pub reduced : IsReduced d

-- two more roots are kept, at these nodes
abbrev pub AddsBoth : State → State → ℕ → ℕ → Type 0
AddsBoth old new a b = (n : ℕ) → roots_at new n ≡ roots_at old n + (if n == a then 1 else 0) + (if n == b then 1 else 0)
