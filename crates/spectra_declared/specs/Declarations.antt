-- What the items of several files declare, each name space in text order, and the faults of declarations.
use Rattle.spectra_trees.specs.Faults.{ImportedLine, TooMany, number_of}
use Rattle.std.specs.Prelude.{ℕ, suc, ◌+◌, ◌-◌, nat_lt, Bool, true, false, if◌then◌else◌, List, [], ◌∷◌, ◌++◌, Option, Some, None, length, map, flat_map, position, unwrap_or, slice_get, option_to_list, bytes_eq}
use Rattle.spectra_trees.specs.declared.tree.Place.{Place}
use Rattle.spectra_trees.specs.Data.{NameData, Expression, LengthData, ItemData, TreeData}
use Rattle.spectra_resolved.specs.declared.spot.Spot.{Spot}
use Rattle.spectra_resolved.specs.declared.tree.Leaf.TheVariants as leaves
use Rattle.spectra_resolved.specs.declared.table.Named.{Named}
use Rattle.spectra_resolved.specs.declared.table.Named.TheVariants as names
use Rattle.spectra_declared.specs.declared.declaring.Space.{Space}
use Rattle.spectra_declared.specs.declared.declaring.Space.TheVariants as spaces
use Rattle.spectra_declared.specs.declared.declaring.Counts.{Counts}
use Rattle.spectra_resolved.specs.declared.findings.Finding.{Finding}
use Rattle.spectra_resolved.specs.Findings.{fault}
use Rattle.spectra_resolved.specs.Spots.{mentioned, spot_at, spot_of}
use Rattle.spectra_resolved.specs.Enums.{with_names}
use Rattle.spectra_declared.specs.Items.{FiledItem, items_from, enum_names_of}
use Rattle.spectra_resolved.specs.Spaces.{Entry, declared, clashes}
use Rattle.spectra_resolved.specs.Looks.{Names}
use Rattle.spectra_items.specs.Lengths.{elements_of, count_of}

-- ---- numbers

-- how many variables, elements of arrays and monitors, types, defines and predicates, and patterns stand before an item
abbrev pub no_counts : Counts
no_counts = record { variables = 0; types = 0; definitions = 0; patterns = 0 }

-- the counts behind an item
abbrev pub counted : Counts → ItemData → Counts
counted c (ItemData.Variable x) = record c { variables = c.variables + count_of x.length }
counted c (ItemData.Monitor m) = record c { variables = c.variables + 1 }
counted c (ItemData.Alias t) = record c { types = c.types + 1 }
counted c (ItemData.Define d) = record c { definitions = c.definitions + length d.bodies }
counted c (ItemData.Predicate p) = record c { definitions = c.definitions + 1 }
counted c (ItemData.Pattern p) = record c { patterns = c.patterns + 1 }
counted c (ItemData.Statement l) = c

-- ---- the four name spaces

-- each enum name by the number of its first mention
abbrev pub enum_entry : (enums : List (List ℕ)) → (file : ℕ) → NameData → Entry
enum_entry enums file n = (mentioned file n, names.Leaf (leaves.EnumName (unwrap_or (position (bytes_eq n.text) enums) 0)))

-- a variable's name, before which so many variables stand
abbrev pub variable_named : (before : ℕ) → Option LengthData → Named
variable_named k (Some l) = names.Array k (elements_of l)
variable_named k None = names.Leaf (leaves.Variable k)

abbrev pub define_entries : (file number : ℕ) → List (NameData × Expression) → List Entry
define_entries file k [] = []
define_entries file k (b ∷ bodies) = (mentioned file b.0, names.Leaf (leaves.Define k)) ∷ define_entries file (k + 1) bodies

-- the name of an item in a name space
abbrev pub own_entries : Space → Counts → (file : ℕ) → ItemData → List Entry
own_entries spaces.Values c f (ItemData.Variable x) = (mentioned f x.name, variable_named c.variables x.length) ∷ []
own_entries spaces.Values c f (ItemData.Monitor m) = (mentioned f m.name, names.Leaf (leaves.Variable c.variables)) ∷ []
own_entries spaces.Values c f (ItemData.Define d) = define_entries f c.definitions d.bodies
own_entries spaces.Values c f (ItemData.Predicate p) = (mentioned f p.name, names.Predicate c.definitions (length p.params)) ∷ []
own_entries spaces.Types c f (ItemData.Alias t) = (mentioned f t.name, names.Type c.types) ∷ []
own_entries spaces.Patterns c f (ItemData.Pattern p) = (mentioned f p.name, names.Pattern c.patterns (length p.params)) ∷ []
own_entries spaces.Lines c f (ItemData.Statement l) = map (λ n. (mentioned f n, names.Plain)) (option_to_list l.name)
own_entries _ c f i = []

-- the enum names of an item, which are values
abbrev pub enum_entries : Space → (enums : List (List ℕ)) → (file : ℕ) → ItemData → List Entry
enum_entries spaces.Values enums f i = map (enum_entry enums f) (enum_names_of i)
enum_entries _ enums f i = []

-- a predicate's name stands before the types of its parameters, and every other item's name behind its type
abbrev pub is_named_first : ItemData → Bool
is_named_first (ItemData.Predicate p) = true
is_named_first _ = false

abbrev pub entries_of : Space → (enums : List (List ℕ)) → Counts → FiledItem → List Entry
entries_of space enums c i =
    if is_named_first i.1 then own_entries space c i.0 i.1 ++ enum_entries space enums i.0 i.1
    else enum_entries space enums i.0 i.1 ++ own_entries space c i.0 i.1

-- a name space, where so many things stand before these items
abbrev pub entries_from : Space → (enums : List (List ℕ)) → Counts → List FiledItem → List Entry
entries_from space enums c [] = []
entries_from space enums c (i ∷ items) = entries_of space enums c i ++ entries_from space enums (counted c i.1) items

abbrev pub entries : Space → (enums : List (List ℕ)) → List FiledItem → List Entry
entries space enums items = entries_from space enums no_counts items

-- the enum names before some items, with each new one of those behind them
abbrev pub enums_with : List (List ℕ) → List FiledItem → List (List ℕ)
enums_with enums [] = enums
enums_with enums (i ∷ items) = enums_with (with_names enums (enum_names_of i.1)) items

-- every enum name, by its first mention
abbrev pub enums_in : List FiledItem → List (List ℕ)
enums_in items = enums_with [] items

-- what the names of several files stand for
abbrev pub names_of : List FiledItem → Names
names_of items =
    record {
      enums = enums_in items;
      values = declared (entries spaces.Values (enums_in items) items);
      types = declared (entries spaces.Types (enums_in items) items);
      patterns = declared (entries spaces.Patterns (enums_in items) items);
      lines = declared (entries spaces.Lines (enums_in items) items);
    }

-- the second declarations of names
abbrev pub name_faults : List FiledItem → List Finding
name_faults items =
    clashes (entries spaces.Values (enums_in items) items) ++ (clashes (entries spaces.Types (enums_in items) items)
    ++ (clashes (entries spaces.Patterns (enums_in items) items) ++ clashes (entries spaces.Lines (enums_in items) items)))

-- ---- limits on numbers of things

abbrev pub place_of_item : ItemData → Place
place_of_item (ItemData.Variable x) = x.at
place_of_item (ItemData.Alias x) = x.at
place_of_item (ItemData.Define x) = x.at
place_of_item (ItemData.Predicate x) = x.at
place_of_item (ItemData.Pattern x) = x.at
place_of_item (ItemData.Monitor x) = x.at
place_of_item (ItemData.Statement x) = x.at

abbrev pub spot_of_item : FiledItem → Spot
spot_of_item i = spot_at i.0 (place_of_item i.1)

-- the variables that an item declares, and the lines that it has
abbrev pub variables_of : ItemData → ℕ
variables_of (ItemData.Variable x) = count_of x.length
variables_of (ItemData.Monitor m) = 1
variables_of _ = 0

abbrev pub lines_of : ItemData → ℕ
lines_of (ItemData.Statement l) = 1
lines_of (ItemData.Monitor m) = length m.parts
lines_of _ = 0

-- the first item with more of something than there is room for
abbrev pub past : (ItemData → ℕ) → (room : ℕ) → List FiledItem → List Finding
past weight room [] = []
past weight room (i ∷ items) = if nat_lt room (weight i.1) then fault (number_of TooMany) (spot_of_item i) ∷ [] else past weight (room - weight i.1) items

-- the first item with which there are more than so many different enum names
abbrev pub names_past : (most : ℕ) → (before : List (List ℕ)) → List FiledItem → List Finding
names_past most before [] = []
names_past most before (i ∷ items) =
    if nat_lt most (length (with_names before (enum_names_of i.1))) then fault (number_of TooMany) (spot_of_item i) ∷ []
    else names_past most (with_names before (enum_names_of i.1)) items

-- ---- what may not stand in an imported file

-- variables, monitors and lines are the main file's alone
abbrev pub is_main : ItemData → Bool
is_main (ItemData.Variable x) = true
is_main (ItemData.Monitor m) = true
is_main (ItemData.Statement l) = true
is_main _ = false

abbrev pub imported_faults : (last : ℕ) → FiledItem → List Finding
imported_faults last i = if nat_lt i.0 last then (if is_main i.1 then fault (number_of ImportedLine) (spot_of_item i) ∷ [] else []) else []

-- the import past the limit, where there is one
abbrev pub import_past : (file : ℕ) → Option NameData → List Finding
import_past file (Some n) = fault (number_of TooMany) (spot_of file n) ∷ []
import_past file None = []

-- an imported file imports nothing, and the main one at most 64 files
abbrev pub import_faults : (file : ℕ) → (imported : Bool) → List NameData → List Finding
import_faults file imported imports = if imported then map (λ n. fault (number_of ImportedLine) (spot_of file n)) imports else import_past file (slice_get imports 64)

-- the faults of imports in files, where so many stand before these
abbrev pub imports_faults : (last before : ℕ) → List TreeData → List Finding
imports_faults last n [] = []
imports_faults last n (t ∷ ts) = import_faults n (nat_lt n last) t.imports ++ imports_faults last (suc n) ts

-- ---- all faults of declarations

abbrev pub limit_faults : List FiledItem → List Finding
limit_faults items = past variables_of 1024 items ++ past lines_of 4096 items

abbrev pub import_and_item_faults : (last : ℕ) → List TreeData → List Finding
import_and_item_faults last ts = flat_map (imported_faults last) (items_from 0 ts) ++ imports_faults last 0 ts

-- the faults of what stands in a scope
abbrev pub scope_faults : List FiledItem → List Finding
scope_faults items = names_past 65_535 [] items ++ name_faults items

-- every fault of the declarations of several files, the main one last
abbrev pub declaration_faults : List TreeData → List Finding
declaration_faults ts =
    scope_faults (items_from 0 ts) ++ (limit_faults (items_from 0 ts) ++ import_and_item_faults (length ts - 1) ts)
