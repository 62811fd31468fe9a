-- How an assignment is written on a line.
use Rattle.std.specs.Prelude.{ℕ, true, false, List, [], ◌∷◌, ◌++◌, codes, filter, not, slice_index_or}
use Rattle.std.specs.List.{join_with_byte}
use Rattle.std.specs.Fmt.{signed_decimal}
use Rattle.spec_model.specs.declared.value.Value.{Value}
use Rattle.spec_model.specs.declared.value.Value.TheVariants as value
use Rattle.spec_model.specs.Values.{Assignment}
use Rattle.spec_model.specs.Syntax.{VariableData, Specification}
use Rattle.spec_model.specs.Moves.{is_env}

-- ---- whose variables they are, in declared order

abbrev pub inputs_of : Specification → List VariableData
inputs_of s = filter (λ v. is_env v.owner) s.variables

abbrev pub outputs_of : Specification → List VariableData
outputs_of s = filter (λ v. not (is_env v.owner)) s.variables

-- ---- texts

-- the text of a value: an enum name is written as it is declared, a whole number in decimal, `-` before a negative one
abbrev pub text_of : (names : List (List ℕ)) → Value → List ℕ
text_of names (value.Bool true) = codes "true"
text_of names (value.Bool false) = codes "false"
text_of names (value.Int z) = signed_decimal z
text_of names (value.Name n) = slice_index_or names n []

-- `name=value`
abbrev pub item_of : List (List ℕ) → VariableData → Value → List ℕ
item_of names v x = v.name ++ 61 ∷ text_of names x

-- an item for each variable
abbrev pub items_of : List (List ℕ) → List VariableData → Assignment → List (List ℕ)
items_of names (v ∷ vs) (x ∷ xs) = item_of names v x ∷ items_of names vs xs
items_of names _ _ = []

-- the items in declared order, with one space between; of no variables, the empty line
abbrev pub show : List (List ℕ) → List VariableData → Assignment → List ℕ
show names vs xs = join_with_byte 32 (items_of names vs xs)
