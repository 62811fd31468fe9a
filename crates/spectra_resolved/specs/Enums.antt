-- Enum names, each with a number by its first mention.
use Rattle.std.specs.Prelude.{ℕ, List, [], ◌∷◌, ◌++◌, bytes_eq, if◌then◌else◌}
use Rattle.std.specs.List.{list_any}
use Rattle.spectra_trees.specs.Data.{NameData, TypeData, TypeShape}

-- the names that an enum declares, where the type is one
abbrev pub enum_names : TypeData → List NameData
enum_names t = listed_names t.form
  where
    listed_names : TypeShape → List NameData
    listed_names (TypeShape.Names names) = names
    listed_names _ = []

-- the list with each new name behind it
abbrev pub with_names : List (List ℕ) → List NameData → List (List ℕ)
with_names names [] = names
with_names names (n ∷ ns) = with_names (if list_any (bytes_eq n.text) names then names else names ++ n.text ∷ []) ns
