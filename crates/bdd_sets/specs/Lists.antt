-- Lists of kept roots: how often each is in them, and what making one gives and leaves.
use Rattle.std.specs.Prelude.{◌≡◌, ℕ, ◌+◌, ◌==◌, if◌then◌else◌, List, [], ◌∷◌, Vec, Result, Err, IfOk, OnErr}
use Rattle.std.specs.declared.alloc.Global.{Global}
use Rattle.spec_model.specs.Diagrams.{Function}
use Rattle.bdd_store.specs.State.{roots_at, SameRoots, IsFull}
use Rattle.bdd_bits.specs.Contents.{Contents}
use Rattle.bdd_bits.specs.Calls.{KeepsRoots}
use Rattle.regions.specs.declared.types.Halt.{Halt}
use Rattle.regions.specs.declared.types.Halt.TheVariants as halt
use Rattle.bdd_sets.specs.Members.{functions_at}

-- whether it is the root, as a number
abbrev pub one_at : ℕ → ℕ → ℕ
one_at n root = if n == root then 1 else 0

-- how often the list has the root
abbrev pub times_in : ℕ → List ℕ → ℕ
times_in n [] = 0
times_in n (root ∷ roots) = one_at n root + times_in n roots

-- the result is a list of roots of these functions, or a refusal that leaves what is kept; `Budget` comes only where the
-- store holds exactly its budget of nodes
pub record MakesList (old new : Contents) (result : Result (Vec ℕ Global) Halt) (fs : List Function) : Type 0 where
  pub meaning : IfOk result (λ roots. functions_at new roots.items ≡ fs)
  pub added : IfOk result (λ roots. (n : ℕ) → roots_at new.state n ≡ roots_at old.state n + times_in n roots.items)
  pub refused : OnErr result (SameRoots old.state new.state)
  pub keeps : KeepsRoots old new
  pub full : result ≡ Err halt.Budget → IsFull new.state
