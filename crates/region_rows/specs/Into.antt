-- Whether tabulated moves lead into a set of numbers.
use Rattle.std.specs.Prelude.{ℕ, suc, if◌then◌else◌, [], ◌∷◌, Bool, true, false, List, Option, Some, None}
use Rattle.std.specs.List.{list_all, list_any}

-- an output is legal and leads into the set; it leads there if it is legal
abbrev pub leads : (ℕ → Bool) → Option ℕ → Bool
leads t None = false
leads t (Some k) = t k

abbrev pub stays : (ℕ → Bool) → Option ℕ → Bool
stays t None = true
stays t (Some k) = t k

-- an input has a legal output into the set, if it is legal; it is legal, and all its legal outputs lead there
abbrev pub system_into : (ℕ → Bool) → Option (List (Option ℕ)) → Bool
system_into t None = true
system_into t (Some answers) = list_any (leads t) answers

abbrev pub environment_into : (ℕ → Bool) → Option (List (Option ℕ)) → Bool
environment_into t None = false
environment_into t (Some answers) = list_all (stays t) answers

-- the place of the first element that passes a test, or their number
abbrev pub first_place : {X : Type 0} → (X → Bool) → List X → ℕ
first_place p [] = 0
first_place p (x ∷ xs) = if p x then 0 else suc (first_place p xs)
