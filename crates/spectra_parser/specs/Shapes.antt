-- What holds of every tree that a text has, besides its grammar.
use Rattle.std.specs.Prelude.{◌≡◌, ◌≤◌, ◌<◌, true, false, Bool, ◌&&◌, List, [], ◌∷◌, length, map, flat_map, All}
use Rattle.std.specs.List.{list_all}
use Rattle.spec_model.specs.declared.spec.Role.{Role}
use Rattle.spec_model.specs.declared.spec.Role.TheVariants as roles
use Rattle.spec_model.specs.Names.{IsName}
use Rattle.spectra_parser.specs.Quantifiers.{AreRising, tree_quantified}
use Rattle.spectra_trees.specs.Data.{NameData, TypeData, TypeShape, RegexData, Regexes, PartData, PartShape, BodyData, ItemData, TreeData}

-- ---- types

abbrev pub part_types : PartData → List TypeData
part_types p = own p.form
  where
    own : PartShape → List TypeData
    own (PartShape.Own t n) = t ∷ []
    own _ = []

-- the types that are written in an item
abbrev pub types_in : ItemData → List TypeData
types_in (ItemData.Variable x) = x.domain ∷ []
types_in (ItemData.Alias x) = x.body ∷ []
types_in (ItemData.Define x) = []
types_in (ItemData.Predicate x) = map (λ a. a.0) x.params
types_in (ItemData.Pattern x) = flat_map part_types x.parts
types_in (ItemData.Monitor x) = x.domain ∷ []
types_in (ItemData.Statement x) = []

abbrev pub IsSpelled : NameData → Type 0
IsSpelled n = IsName n.text

-- an enum has a name, and its names are spelled as names
abbrev pub IsShapedType : TypeShape → Type 0
IsShapedType (TypeShape.Names names) = (0 < length names) × All IsSpelled names
IsShapedType _ = Unit {0}

-- ---- lines

abbrev pub has_some : Regexes → Bool
has_some Regexes.none = false
has_some (Regexes.one_more r rs) = true

abbrev mutual
  -- each choice has an alternative
  pub has_choices : RegexData → Bool
  has_choices (RegexData.Atom e) = true
  has_choices (RegexData.Cat rs) = each_has_choices rs
  has_choices (RegexData.Alt rs) = has_some rs && each_has_choices rs
  has_choices (RegexData.Repeat r times) = has_choices r

  pub each_has_choices : Regexes → Bool
  each_has_choices Regexes.none = true
  each_has_choices (Regexes.one_more r rs) = has_choices r && each_has_choices rs

abbrev pub has_shaped_sides : BodyData → Bool
has_shaped_sides (BodyData.Trigger at cause effect) = has_choices cause && has_choices effect
has_shaped_sides _ = true

-- a line that is written is an assumption or a guarantee
abbrev pub is_written_role : Role → Bool
is_written_role roles.Assumption = true
is_written_role roles.Guarantee = true
is_written_role roles.Monitor = false

-- a monitor has initial lines, and lines that hold at each position
abbrev pub is_monitor_part : PartShape → Bool
is_monitor_part (PartShape.Initial e) = true
is_monitor_part (PartShape.Always e) = true
is_monitor_part _ = false

abbrev pub has_shaped_lines : ItemData → Bool
has_shaped_lines (ItemData.Statement x) = is_written_role x.role && has_shaped_sides x.body
has_shaped_lines (ItemData.Monitor x) = list_all (λ (p : PartData). is_monitor_part p.form) x.parts
has_shaped_lines _ = true

-- ---- items and trees

-- the names of variables and monitors
abbrev pub variable_names : ItemData → List NameData
variable_names (ItemData.Variable x) = x.name ∷ []
variable_names (ItemData.Monitor x) = x.name ∷ []
variable_names _ = []

pub record IsShapedItem (i : ItemData) : Type 0 where
  pub types : All (λ (t : TypeData). IsShapedType t.form) (types_in i)
  pub lines : has_shaped_lines i ≡ true
  pub variables : All IsSpelled (variable_names i)

-- its items are so, it imports no more files than a text has bytes, and the variables of its quantifiers stand at rising places
pub record IsShaped (tree : TreeData) : Type 0 where
  pub items : All IsShapedItem tree.items
  pub few_imports : length tree.imports ≤ 1_048_576
  pub quantified : AreRising (tree_quantified tree)
