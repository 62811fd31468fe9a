-- The items of several files, each with the number of its file, and the enum names in them.
use Rattle.std.specs.Prelude.{ℕ, suc, List, [], ◌∷◌, ◌++◌, map, flat_map}
use Rattle.spectra_trees.specs.Data.{NameData, PartData, PartShape, ItemData, TreeData}
use Rattle.spectra_resolved.specs.Enums.{enum_names}

-- an item, behind the number of its file
abbrev pub FiledItem : Type 0
FiledItem = ℕ × ItemData

-- the items of files, where so many files stand before these
abbrev pub items_from : (before : ℕ) → List TreeData → List FiledItem
items_from n [] = []
items_from n (t ∷ ts) = map (λ i. (n, i)) t.items ++ items_from (suc n) ts

-- the enum names that an own variable's type declares
abbrev pub part_enum_names : PartData → List NameData
part_enum_names p = own p.form
  where
    own : PartShape → List NameData
    own (PartShape.Own t n) = enum_names t
    own _ = []

-- every mention of an enum name by a type
abbrev pub enum_names_of : ItemData → List NameData
enum_names_of (ItemData.Variable x) = enum_names x.domain
enum_names_of (ItemData.Alias t) = enum_names t.body
enum_names_of (ItemData.Define d) = []
enum_names_of (ItemData.Predicate p) = flat_map (λ a. enum_names a.0) p.params
enum_names_of (ItemData.Pattern p) = flat_map part_enum_names p.parts
enum_names_of (ItemData.Monitor m) = enum_names m.domain
enum_names_of (ItemData.Statement l) = []
