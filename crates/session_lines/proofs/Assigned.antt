-- An assignment has a value for each variable.
use Rattle.std.proofs.Common.{◌≡◌, ◌≢◌, Bool, true, false, List, [], ◌∷◌, map, length, refl, sym, arith}
use Rattle.std.proofs.lemmas.Bool.{and_parts}
use Rattle.std.specs.List.{list_any}
use Rattle.spec_model.specs.declared.value.Var.{Var}
use Rattle.spec_model.specs.Values.{Assignment, values_of, same_value, is_assignment}
use Rattle.spec_model.specs.Views.{domain_data, variable_data}
use Rattle.session_lines.specs.Room.{domains}

pub assigned_length : (vars : List Var) (xs : Assignment) → is_assignment (domains (map variable_data vars)) xs ≡ true → length xs ≡ length vars
assigned_length [] [] are = refl
assigned_length [] (x ∷ xs) are = cc
assigned_length (v ∷ vars) [] are = cc
assigned_length (v ∷ vars) (x ∷ xs) are =
    let parts = and_parts (list_any (same_value x) (values_of (domain_data v.domain))) (is_assignment (domains (map variable_data vars)) xs) are in
    let rest = assigned_length vars xs parts.1 in
    omega arith

never : (b : Bool) → (b ≡ true → ⊥) → false ≡ b
never true other = absurd (other refl)
never false other = refl

pub unassigned : (vars : List Var) (xs : Assignment) → length vars ≢ length xs → false ≡ is_assignment (domains (map variable_data vars)) xs
unassigned vars xs other = never (is_assignment (domains (map variable_data vars)) xs) (λ are. other (sym (assigned_length vars xs are)))
