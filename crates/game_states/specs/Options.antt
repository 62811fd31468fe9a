-- What is chosen from: the values of each variable of an owner, and of each hidden table.
use Rattle.std.specs.Prelude.{ℕ, pos, Bool, not, List, map}
use Rattle.spec_model.specs.declared.value.Value.{Value}
use Rattle.spec_model.specs.declared.value.Value.TheVariants as value
use Rattle.spec_model.specs.declared.value.Owner.{Owner}
use Rattle.spec_model.specs.declared.value.Owner.TheVariants.{Env, Sys}
use Rattle.spec_model.specs.Moves.{is_env}
use Rattle.spec_model.specs.Steps.{below}

-- whether an owner is this one
abbrev pub owned_by : Owner → Owner → Bool
owned_by Env = is_env
owned_by Sys = λ o. not (is_env o)

abbrev pub numbered_values : ℕ → List Value
numbered_values n = map (λ v. value.Int (pos v)) (below n)
