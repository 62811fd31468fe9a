-- The names of variables by their numbers.
use Rattle.std.specs.Prelude.{ℕ, List, [], map, get_or}
use Rattle.spec_model.specs.Syntax.{VariableData}

-- the name of the variable of this number; empty where there is none
abbrev pub name_at : List VariableData → ℕ → List ℕ
name_at variables number = get_or (map (λ v. v.name) variables) number []

-- the names in this order
abbrev pub names_by : List VariableData → List ℕ → List (List ℕ)
names_by variables order = map (name_at variables) order
