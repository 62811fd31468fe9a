-- What is known of the names in an expression.
use Rattle.std.specs.Prelude.{ℕ, Bool, false, List, [], Option, Some, None, get_or}
use Rattle.spectra_judge.specs.Kinds.{Kind}
use Rattle.spectra_judge.specs.Standings.{Bans}

-- The kinds of variables, of definitions that are defines, of the parameters of those that are predicates, and of the
-- parameters and own variables around the expression; and which variables are the system's.
pub record Known : Type 0 where
  pub variables : List Kind
  pub system : List Bool
  pub defines : List Kind
  pub predicates : List (List Kind)
  pub parameters : List Kind
  pub own : List Kind

-- an expression is judged by what is known of its names, and by what may not stand in it
pub record Setting : Type 0 where
  pub known : Known
  pub bans : Bans

abbrev pub is_system : Known → ℕ → Bool
is_system known k = get_or known.system k false

-- the kinds of a predicate's parameters, where there is a predicate
abbrev pub wanted : Known → Option ℕ → List Kind
wanted known (Some k) = get_or known.predicates k []
wanted known None = []
