-- What is kept besides the roots at first, and what its functions are.
use Rattle.std.specs.Prelude.{◌≡◌, ◌<◌, ◌+◌, ◌==◌, ℕ, if◌then◌else◌, List, [], ◌∷◌, Result, Ok, Err}
use Rattle.std.specs.List.{AllByRecursion}
use Rattle.spec_model.specs.Diagrams.{Function}
use Rattle.bdd_store.specs.declared.fault.StoreFault.{StoreFault}
use Rattle.bdd_store.specs.State.{State, IsRoot, roots_at}
use Rattle.bdd_ops.specs.Contents.{Contents, function_at}
use Rattle.bdd_ops.specs.Calls.{KeepsRoots}

-- whether it is the root, as a number
abbrev pub one_at : ℕ → ℕ → ℕ
one_at n root = if n == root then 1 else 0

-- how often the list has the root
abbrev pub times_in : ℕ → List ℕ → ℕ
times_in n [] = 0
times_in n (root ∷ roots) = one_at n root + times_in n roots

-- whether the result is the root, as a number
abbrev pub made_at : ℕ → Result ℕ StoreFault → ℕ
made_at n (Ok root) = one_at n root
made_at n (Err fault) = 0

-- each of them is kept
abbrev pub AreRoots : State → List ℕ → Type 0
AreRoots s roots = AllByRecursion (IsRoot s) roots

-- kept roots stay what they were, and besides them so many are kept at each node, whose functions are named
pub record KeepsBesides (old new : Contents) (IsNamed : Function → Type 0) (more : ℕ → ℕ) : Type 0 where
  pub keeps : KeepsRoots old new
  pub added : (n : ℕ) → roots_at new.state n ≡ roots_at old.state n + more n
  pub named : (n : ℕ) → 0 < more n → IsNamed (function_at new n)
