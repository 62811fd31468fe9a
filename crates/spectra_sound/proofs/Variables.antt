-- The variables of several files, and the enum names of their items.
use Rattle.std.proofs.Common.{◌≡◌, ℕ, ◌+◌, max, nat_lt, nat_le, Bool, true, false, ◌||◌, if◌then◌else◌, List, [], ◌∷◌, ◌++◌, map, flat_map, append_assoc, refl, sym, ap, ◌∙◌, arith}
use Rattle.std.specs.Prelude.{All, Option, Some, None, is_some}
use Rattle.std.specs.List.{list_all}
use Rattle.std.proofs.lemmas.Bool.{and_from, lt-ltb, le-leb, leb-true}
use Rattle.std.proofs.lemmas.List.{append-nil}
use Rattle.std.proofs.lemmas.List.Elements.{All-nil, All-cons, All-head, All-tail, All-append}
use Rattle.spec_model.specs.Names.{IsName}
use Rattle.spec_model.proofs.AllStates.{Every}
use Rattle.spectra_trees.specs.declared.tree.Place.{Place}
use Rattle.spectra_trees.specs.Data.{NameData, Expression, TypeData, TypeShape, PartData, PartShape, LengthData, ItemData}
use Rattle.spectra_resolved.specs.declared.table.Named.{Named}
use Rattle.spectra_resolved.specs.Spots.{mentioned}
use Rattle.spectra_resolved.specs.Enums.{enum_names}
use Rattle.spectra_resolved.specs.Numbers.{written_after}
use Rattle.spectra_resolved.specs.Looks.{Names}
use Rattle.spectra_resolved.specs.Spaces.{Entry}
use Rattle.spectra_resolved.specs.Texts.{ResolvedVariable}
use Rattle.spectra_items.specs.Lengths.{elements_of, count_of}
use Rattle.spectra_items.specs.Types.{is_enum}
use Rattle.spectra_items.specs.Meanings.{variables_in}
use Rattle.spectra_declared.specs.declared.declaring.Space.TheVariants as spaces
use Rattle.spectra_declared.specs.declared.declaring.Counts.{Counts}
use Rattle.spectra_declared.specs.Items.{FiledItem, enum_names_of, part_enum_names}
use Rattle.spectra_declared.specs.Declarations.{counted, variable_named, enum_entry, define_entries, own_entries, enum_entries, is_named_first, entries_of, entries_from}
use Rattle.spectra_parser.specs.Shapes.{IsSpelled, IsShapedType, IsShapedItem, types_in, part_types, variable_names}
use Rattle.spectra_sound.proofs.Empty.{every_parts}
use Rattle.spectra_sound.proofs.Spaces.{variable_texts, texts_behind, is_variable, StandsForEnum}
use Rattle.spectra_sound.proofs.Sizes.{mapped}

-- ---- the variables among all values

texts_append : (xs ys : List Entry) → variable_texts (xs ++ ys) ≡ variable_texts xs ++ variable_texts ys
texts_append [] ys = refl
texts_append (x ∷ xs) ys =
    let own = if is_variable x.1 then x.0.text ∷ [] else [] in
    texts_behind x (xs ++ ys) ∙ ap (λ zs. own ++ zs) (texts_append xs ys) ∙ sym (append_assoc own (variable_texts xs) (variable_texts ys)) ∙ ap (λ zs. zs ++ variable_texts ys) (sym (texts_behind x xs))

no_enum : (enums : List (List ℕ)) (file : ℕ) (ns : List NameData) → variable_texts (map (enum_entry enums file) ns) ≡ []
no_enum enums file [] = refl
no_enum enums file (n ∷ ns) = no_enum enums file ns

no_define : (file k : ℕ) (bodies : List (NameData × Expression)) → variable_texts (define_entries file k bodies) ≡ []
no_define file k [] = refl
no_define file k (b ∷ bodies) = no_define file (k + 1) bodies

abbrev texts_in : ItemData → List (List ℕ)
texts_in i = map (λ (n : NameData). n.text) (variable_names i)

own_texts : (c : Counts) (file : ℕ) (i : ItemData) → variable_texts (own_entries spaces.Values c file i) ≡ texts_in i
own_texts c file (ItemData.Variable x) = by x.length
  where
    by : (o : Option LengthData) → variable_texts ((mentioned file x.name, variable_named c.variables o) ∷ []) ≡ x.name.text ∷ []
    by None = refl
    by (Some l) = refl
own_texts c file (ItemData.Monitor x) = refl
own_texts c file (ItemData.Define x) = no_define file c.definitions x.bodies
own_texts c file (ItemData.Predicate x) = refl
own_texts c file (ItemData.Alias x) = refl
own_texts c file (ItemData.Pattern x) = refl
own_texts c file (ItemData.Statement x) = refl

both_texts : (b : Bool) (own enum : List Entry) (ts : List (List ℕ)) → variable_texts own ≡ ts → variable_texts enum ≡ [] → variable_texts (if b then own ++ enum else enum ++ own) ≡ ts
both_texts true own enum ts is none = texts_append own enum ∙ (λ i. is i ++ none i) ∙ append-nil ts
both_texts false own enum ts is none = texts_append enum own ∙ (λ i. none i ++ is i)

all_texts : (enums : List (List ℕ)) (c : Counts) (items : List FiledItem) → variable_texts (entries_from spaces.Values enums c items) ≡ flat_map (λ (i : FiledItem). texts_in i.1) items
all_texts enums c [] = refl
all_texts enums c (i ∷ items) =
    texts_append (entries_of spaces.Values enums c i) (entries_from spaces.Values enums (counted c i.1) items)
    ∙ (λ k. both_texts (is_named_first i.1) (own_entries spaces.Values c i.0 i.1) (enum_entries spaces.Values enums i.0 i.1) (texts_in i.1) (own_texts c i.0 i.1) (no_enum enums i.0 (enum_names_of i.1)) k
    ++ all_texts enums (counted c i.1) items k)

one_texts : (s : Names) (file : ℕ) (i : ItemData) → map (λ (v : ResolvedVariable). v.name.text) (variables_in s file i) ≡ texts_in i
one_texts s file (ItemData.Variable x) = refl
one_texts s file (ItemData.Monitor x) = refl
one_texts s file (ItemData.Define x) = refl
one_texts s file (ItemData.Predicate x) = refl
one_texts s file (ItemData.Alias x) = refl
one_texts s file (ItemData.Pattern x) = refl
one_texts s file (ItemData.Statement x) = refl

-- the names of variables are those among the entries
pub variables_are : (s : Names) (enums : List (List ℕ)) (c : Counts) (items : List FiledItem) →
    map (λ (v : ResolvedVariable). v.name.text) (flat_map (λ (i : FiledItem). variables_in s i.0 i.1) items) ≡ variable_texts (entries_from spaces.Values enums c items)
variables_are s enums c items =
    mapped (λ (v : ResolvedVariable). v.name.text) (λ (i : FiledItem). variables_in s i.0 i.1) texts_in items (one_texts s) ∙ sym (all_texts enums c items)

-- ---- arrays

-- each has an element at least and 256 at most, and what is no array is one variable
abbrev pub has_some : ResolvedVariable → Bool
has_some v = nat_lt 0 v.count

abbrev pub is_short : ResolvedVariable → Bool
is_short v = nat_le v.count 256

abbrev pub is_alone : ResolvedVariable → Bool
is_alone v = v.array || nat_le v.count 1

at_least_one : (o : Option LengthData) → nat_lt 0 (count_of o) ≡ true
at_least_one None = refl
at_least_one (Some l) = lt-ltb 0 (max (elements_of l) 1) (omega arith)

at_most_elements : (o : Option LengthData) → nat_le (count_of o) 256 ≡ true
at_most_elements None = refl
at_most_elements (Some l) = by (nat_le (written_after 0 l.digits) 256) refl
  where
    by : (b : Bool) → nat_le (written_after 0 l.digits) 256 ≡ b → nat_le (max (if b then written_after 0 l.digits else 0) 1) 256 ≡ true
    by true is = let few = leb-true (written_after 0 l.digits) 256 is in le-leb (max (written_after 0 l.digits) 1) 256 (omega (arith, few))
    by false is = refl

alone : (o : Option LengthData) → (is_some o || nat_le (count_of o) 1) ≡ true
alone None = refl
alone (Some l) = refl

pub some_in : (s : Names) (file : ℕ) (i : ItemData) → list_all has_some (variables_in s file i) ≡ true
some_in s file (ItemData.Variable x) = and_from _ true (at_least_one x.length) refl
some_in s file (ItemData.Monitor x) = refl
some_in s file (ItemData.Define x) = refl
some_in s file (ItemData.Predicate x) = refl
some_in s file (ItemData.Alias x) = refl
some_in s file (ItemData.Pattern x) = refl
some_in s file (ItemData.Statement x) = refl

pub short_in : (s : Names) (file : ℕ) (i : ItemData) → list_all is_short (variables_in s file i) ≡ true
short_in s file (ItemData.Variable x) = and_from _ true (at_most_elements x.length) refl
short_in s file (ItemData.Monitor x) = refl
short_in s file (ItemData.Define x) = refl
short_in s file (ItemData.Predicate x) = refl
short_in s file (ItemData.Alias x) = refl
short_in s file (ItemData.Pattern x) = refl
short_in s file (ItemData.Statement x) = refl

pub alone_in : (s : Names) (file : ℕ) (i : ItemData) → list_all is_alone (variables_in s file i) ≡ true
alone_in s file (ItemData.Variable x) = and_from _ true (alone x.length) refl
alone_in s file (ItemData.Monitor x) = refl
alone_in s file (ItemData.Define x) = refl
alone_in s file (ItemData.Predicate x) = refl
alone_in s file (ItemData.Alias x) = refl
alone_in s file (ItemData.Pattern x) = refl
alone_in s file (ItemData.Statement x) = refl

-- ---- how they are spelled

abbrev HasName : ResolvedVariable → Type 0
HasName v = IsName v.name.text

item_spelled : (s : Names) (file : ℕ) (i : ItemData) → All IsSpelled (variable_names i) → All HasName (variables_in s file i)
item_spelled s file (ItemData.Variable x) all = All-cons HasName _ [] (All-head IsSpelled x.name [] all) (All-nil HasName)
item_spelled s file (ItemData.Monitor x) all = All-cons HasName _ [] (All-head IsSpelled x.name [] all) (All-nil HasName)
item_spelled s file (ItemData.Define x) all = All-nil HasName
item_spelled s file (ItemData.Predicate x) all = All-nil HasName
item_spelled s file (ItemData.Alias x) all = All-nil HasName
item_spelled s file (ItemData.Pattern x) all = All-nil HasName
item_spelled s file (ItemData.Statement x) all = All-nil HasName

abbrev pub IsShapedFiled : FiledItem → Type 0
IsShapedFiled i = IsShapedItem i.1

pub variables_spelled : (s : Names) (items : List FiledItem) → Every IsShapedFiled items → All HasName (flat_map (λ (i : FiledItem). variables_in s i.0 i.1) items)
variables_spelled s [] all = All-nil HasName
variables_spelled s (i ∷ items) all = All-append HasName (variables_in s i.0 i.1) _ (item_spelled s i.0 i.1 all.0.variables) (variables_spelled s items all.1)

type_spelled : (t : TypeData) → IsShapedType t.form → All IsSpelled (enum_names t)
type_spelled t = by t.at t.form
  where
    by : (at : Place) (form : TypeShape) → IsShapedType form → All IsSpelled (enum_names (record { at = at; form = form }))
    by at TypeShape.Boolean shaped = All-nil IsSpelled
    by at (TypeShape.Range low high) shaped = All-nil IsSpelled
    by at (TypeShape.Names ns) shaped = shaped.1
    by at (TypeShape.Named n) shaped = All-nil IsSpelled

abbrev IsShapedOne : TypeData → Type 0
IsShapedOne t = IsShapedType t.form

params_spelled : (params : List (TypeData × NameData)) → All IsShapedOne (map (λ a. a.0) params) → All IsSpelled (flat_map (λ a. enum_names a.0) params)
params_spelled [] all = All-nil IsSpelled
params_spelled (a ∷ params) all =
    All-append IsSpelled (enum_names a.0) _ (type_spelled a.0 (All-head IsShapedOne a.0 (map (λ a. a.0) params) all)) (params_spelled params (All-tail IsShapedOne a.0 (map (λ a. a.0) params) all))

parts_spelled : (ps : List PartData) → All IsShapedOne (flat_map part_types ps) → All IsSpelled (flat_map part_enum_names ps)
parts_spelled [] all = All-nil IsSpelled
parts_spelled (p ∷ ps) all = by (λ all. parts_spelled ps all) p.at p.form all
  where
    by : (All IsShapedOne (flat_map part_types ps) → All IsSpelled (flat_map part_enum_names ps)) → (at : Place) (form : PartShape) → All IsShapedOne (part_types (record { at = at; form = form }) ++ flat_map part_types ps) → All IsSpelled (part_enum_names (record { at = at; form = form }) ++ flat_map part_enum_names ps)
    by rest at (PartShape.Own t n) all =
        All-append IsSpelled (enum_names t) _ (type_spelled t (All-head IsShapedOne t (flat_map part_types ps) all)) (rest (All-tail IsShapedOne t (flat_map part_types ps) all))
    by rest at (PartShape.Initial e) all = rest all
    by rest at (PartShape.Always e) all = rest all
    by rest at (PartShape.Recurring e) all = rest all

pub enums_spelled_in : (i : ItemData) → All IsShapedOne (types_in i) → All IsSpelled (enum_names_of i)
enums_spelled_in (ItemData.Variable x) all = type_spelled x.domain (All-head IsShapedOne x.domain [] all)
enums_spelled_in (ItemData.Alias x) all = type_spelled x.body (All-head IsShapedOne x.body [] all)
enums_spelled_in (ItemData.Monitor x) all = type_spelled x.domain (All-head IsShapedOne x.domain [] all)
enums_spelled_in (ItemData.Predicate x) all = params_spelled x.params all
enums_spelled_in (ItemData.Pattern x) all = parts_spelled x.parts all
enums_spelled_in (ItemData.Define x) all = All-nil IsSpelled
enums_spelled_in (ItemData.Statement x) all = All-nil IsSpelled

-- ---- enum names stand for enum names

abbrev pub StandForEnums : (List ℕ → Option Named) → FiledItem → Type 0
StandForEnums look i = Every (λ (n : NameData). is_enum (look n.text) ≡ true) (enum_names_of i.1)

mentions_stand : (look : List ℕ → Option Named) (enums : List (List ℕ)) (file : ℕ) (ns : List NameData) → Every (StandsForEnum look) (map (enum_entry enums file) ns) → Every (λ (n : NameData). is_enum (look n.text) ≡ true) ns
mentions_stand look enums file [] all = tt
mentions_stand look enums file (n ∷ ns) all = (all.0 refl, mentions_stand look enums file ns all.1)

of_both : (look : List ℕ → Option Named) (b : Bool) (own enum : List Entry) → Every (StandsForEnum look) (if b then own ++ enum else enum ++ own) → Every (StandsForEnum look) enum
of_both look true own enum all = (every_parts (StandsForEnum look) own enum all).1
of_both look false own enum all = (every_parts (StandsForEnum look) enum own all).0

pub enums_stand_in : (look : List ℕ → Option Named) (enums : List (List ℕ)) (c : Counts) (items : List FiledItem) → Every (StandsForEnum look) (entries_from spaces.Values enums c items) → Every (StandForEnums look) items
enums_stand_in look enums c [] all = tt
enums_stand_in look enums c (i ∷ items) all =
    let parts = every_parts (StandsForEnum look) (entries_of spaces.Values enums c i) (entries_from spaces.Values enums (counted c i.1) items) all in (
      mentions_stand look enums i.0 (enum_names_of i.1) (of_both look (is_named_first i.1) (own_entries spaces.Values c i.0 i.1) (enum_entries spaces.Values enums i.0 i.1) parts.0),
      enums_stand_in look enums (counted c i.1) items parts.1,
    )
