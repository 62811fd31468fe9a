-- What types stand for, and their faults: unknown names, and names twice in one enum.
use Rattle.spectra_trees.specs.Faults.{Unknown, number_of}
use Rattle.std.specs.Prelude.{ℕ, Bool, true, false, not, ◌&&◌, if◌then◌else◌, List, [], ◌∷◌, ◌++◌, Option, Some, map, position, unwrap_or, bytes_eq}
use Rattle.std.specs.List.{list_all}
use Rattle.spectra_trees.specs.Data.{NameData, TypeData, TypeShape}
use Rattle.spectra_resolved.specs.declared.tree.Leaf.TheVariants as leaves
use Rattle.spectra_resolved.specs.declared.table.Named.{Named}
use Rattle.spectra_resolved.specs.declared.table.Named.TheVariants as names
use Rattle.spectra_resolved.specs.declared.spot.Spot.{Spot}
use Rattle.spectra_resolved.specs.declared.findings.Finding.{Finding}
use Rattle.spectra_resolved.specs.Findings.{fault}
use Rattle.spectra_resolved.specs.Spots.{mentioned, spot_at, spot_of}
use Rattle.spectra_resolved.specs.Looks.{Looking, Names}
use Rattle.spectra_resolved.specs.Spaces.{Entry, clashes, is_doubled}
use Rattle.spectra_resolved.specs.Resolving.{resolved, misuses}
use Rattle.spectra_resolved.specs.Texts.{ResolvedType, Booleans, RangeOf, EnumOf, TypeNumber, NoType}

-- names of which each may stand once
abbrev pub plain_entries : (file : ℕ) → List NameData → List Entry
plain_entries file ns = map (λ n. (mentioned file n, names.Plain)) ns

abbrev pub is_enum : Option Named → Bool
is_enum (Some (names.Leaf (leaves.EnumName k))) = true
is_enum _ = false

-- the names differ, and each is first declared by an enum
abbrev pub is_sound_enum : Names → (file : ℕ) → List NameData → Bool
is_sound_enum s file ns = not (is_doubled (plain_entries file ns)) && list_all (λ n. is_enum (s.values n.text)) ns

abbrev pub enum_number : Names → NameData → ℕ
enum_number s n = unwrap_or (position (bytes_eq n.text) s.enums) 0

abbrev pub enum_type : Names → (file : ℕ) → List NameData → ResolvedType
enum_type s file ns = if is_sound_enum s file ns then EnumOf (map (enum_number s) ns) else NoType

-- a name for a type
abbrev pub named_type : Option Named → ResolvedType
named_type (Some (names.Type k)) = TypeNumber k
named_type _ = NoType

abbrev pub named_faults : Option Named → Spot → List Finding
named_faults (Some (names.Type k)) at = []
named_faults _ at = fault (number_of Unknown) at ∷ []

-- what a type stands for, where its bounds' names are looked up so
abbrev pub type_of : Names → Looking → (file : ℕ) → TypeData → ResolvedType
type_of s look file t = shape_of t.form
  where
    shape_of : TypeShape → ResolvedType
    shape_of TypeShape.Boolean = Booleans
    shape_of (TypeShape.Range low high) = RangeOf (spot_at file t.at) (resolved look file low) (resolved look file high)
    shape_of (TypeShape.Names ns) = enum_type s file ns
    shape_of (TypeShape.Named n) = named_type (s.types n.text)

abbrev pub type_faults : Names → Looking → (file : ℕ) → TypeData → List Finding
type_faults s look file t = shape_faults t.form
  where
    shape_faults : TypeShape → List Finding
    shape_faults TypeShape.Boolean = []
    shape_faults (TypeShape.Range low high) = misuses (resolved look file low) ++ misuses (resolved look file high)
    shape_faults (TypeShape.Names ns) = clashes (plain_entries file ns)
    shape_faults (TypeShape.Named n) = named_faults (s.types n.text) (spot_of file n)
