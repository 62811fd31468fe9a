-- How long a printed line can be.
use Rattle.std.specs.Prelude.{◌≡◌, ℕ, ◌+◌, ◌<◌, ◌≤◌, true, List, map, length}
use Rattle.std.specs.List.{list_any}
use Rattle.spec_model.specs.declared.value.Value.{Value}
use Rattle.spec_model.specs.Values.{DomainData, Assignment, values_of, same_value, is_assignment}
use Rattle.spec_model.specs.Syntax.{VariableData}
use Rattle.session_lines.specs.Shown.{text_of, item_of, show}

-- no value of the domain has a longer text
abbrev pub HasShortTexts : List (List ℕ) → DomainData → ℕ → Type 0
HasShortTexts names d n = (x : Value) → list_any (same_value x) (values_of d) ≡ true → length (text_of names x) ≤ n

-- each item of the variable and a byte behind it have no more bytes
abbrev pub HasItemRoom : List (List ℕ) → VariableData → ℕ → Type 0
HasItemRoom names v n = (x : Value) → list_any (same_value x) (values_of v.domain) ≡ true → length (item_of names v x) + 1 ≤ n

abbrev pub domains : List VariableData → List DomainData
domains vs = map (λ v. v.domain) vs

-- each printed assignment has fewer bytes
abbrev pub HasRoom : List (List ℕ) → List VariableData → ℕ → Type 0
HasRoom names vs n = (xs : Assignment) → is_assignment (domains vs) xs ≡ true → length (show names vs xs) < n

-- each printed assignment has fewer bytes, with a head of up to 64 bytes
abbrev pub HasHeadRoom : List (List ℕ) → List VariableData → ℕ → Type 0
HasHeadRoom names vs n = (xs : Assignment) → is_assignment (domains vs) xs ≡ true → length (show names vs xs) + 64 < n
