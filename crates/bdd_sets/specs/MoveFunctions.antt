-- The functions that a game's moves are told by, and where all replies avoid a target.
use Rattle.std.specs.Prelude.{ℕ, true, List}
use Rattle.std.specs.List.{list_all}
use Rattle.spec_model.specs.Diagrams.{Function, and_exists_over}
use Rattle.bdd_ops.specs.Functions.{joined, join_of}
use Rattle.bdd_ops.specs.Unfinished.{negated}

-- where all of them are true
abbrev pub all_true : List Function → Function
all_true fs s = list_all (λ f. f s) fs

-- ---- the lines of moves

-- where the inputs are legal, where the outputs are, and where the hidden values follow
pub record MoveFunctions : Type 0 where
  pub inputs : Function
  pub outputs : Function
  pub update : Function

-- some legal output leads to next bits where the target is true
abbrev pub reply_of : MoveFunctions → List ℕ → Function → Function
reply_of m reply target = and_exists_over reply (joined (join_of true) target m.outputs) m.update

-- some legal input has no such output
abbrev pub avoiding : MoveFunctions → (reply next : List ℕ) → Function → Function
avoiding m reply next target = and_exists_over next (negated (reply_of m reply target)) m.inputs
