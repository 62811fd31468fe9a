-- Where the names of several files have no fault, their text is sound.
use Rattle.std.proofs.Common.{◌≡◌, ℕ, suc, ◌-◌, Bool, true, List, [], ◌∷◌, ◌++◌, length, map, flat_map, refl, ap, ◌∙◌, arith}
use Rattle.std.specs.Prelude.{All}
use Rattle.std.specs.Str.{bytes_eq}
use Rattle.std.specs.List.{list_all}
use Rattle.std.proofs.lemmas.Bool.{and_from}
use Rattle.std.proofs.lemmas.List.Elements.{All-nil, All-cons, All-head, All-tail}
use Rattle.std.proofs.lemmas.List.Folds.{list_all-append}
use Rattle.spec_model.specs.Names.{IsName}
use Rattle.spec_model.specs.WellMade.{all_differ}
use Rattle.spec_model.proofs.AllStates.{Every}
use Rattle.spectra_trees.specs.Data.{NameData, ItemData, TreeData}
use Rattle.spectra_resolved.specs.Looks.{Names}
use Rattle.spectra_resolved.specs.Spaces.{Entry, clashes, no_names}
use Rattle.spectra_resolved.specs.Texts.{ResolvedVariable, ResolvedAlias, ResolvedText}
use Rattle.spectra_items.specs.Types.{is_enum, type_faults}
use Rattle.spectra_items.specs.Meanings.{at_large, variables_in, aliases_in, definitions_in, patterns_in, lines_in, faults_in}
use Rattle.spectra_declared.specs.declared.declaring.Space.TheVariants as spaces
use Rattle.spectra_declared.specs.Items.{FiledItem, items_from, enum_names_of}
use Rattle.spectra_declared.specs.Declarations.{no_counts, entries, enums_in, names_of, names_past, name_faults, past, variables_of, lines_of, limit_faults, scope_faults, import_and_item_faults, declaration_faults}
use Rattle.spectra_declared.specs.Wholes.{text_of_items, item_faults}
use Rattle.spectra_parser.specs.Shapes.{IsShaped, IsShapedItem}
use Rattle.spectra_sound.specs.Sound.{sizes_of, is_type, is_sound_definition, is_sound_pattern, is_sound_line, IsSound}
use Rattle.spectra_sound.specs.Laws.{FaultlessIsSound}
use Rattle.spectra_sound.proofs.Empty.{empty_parts}
use Rattle.spectra_sound.proofs.EnumNames.{few_names, enums_differ, enums_spelled, HasSpelledEnums}
use Rattle.spectra_sound.proofs.Numbers.{IsThere, AreThere, items_there}
use Rattle.spectra_sound.proofs.Spaces.{found, variables_differ, enums_stand}
use Rattle.spectra_sound.proofs.Sizes.{within, counted_sum, at_most, HasElements, elements_there, count_elements, count_lines, sizes_in, sizes_are}
use Rattle.spectra_sound.proofs.Standing.{entries_right, is_right}
use Rattle.spectra_sound.proofs.Variables.{has_some, is_short, is_alone, some_in, short_in, alone_in, IsShapedFiled, variables_are, variables_spelled, enums_spelled_in, StandForEnums, enums_stand_in}
use Rattle.spectra_sound.proofs.Types.{IsEnumName}
use Rattle.spectra_sound.proofs.Items.{AreRight, IsFaultless, variables_sound, types_sound, definitions_sound, lines_sound}
use Rattle.spectra_sound.proofs.Patterns.{patterns_sound}

-- ---- what holds of each item

all_flat : {X : Type 0} (P : FiledItem → Type 0) (test : X → Bool) (f : FiledItem → List X) (items : List FiledItem) → ((i : FiledItem) → P i → list_all test (f i) ≡ true) → Every P items → list_all test (flat_map f items) ≡ true
all_flat P test f [] each all = refl
all_flat P test f (i ∷ items) each all = list_all-append test (f i) (flat_map f items) ∙ and_from _ _ (each i all.0) (all_flat P test f items each all.1)

every_one : (items : List FiledItem) → Every (λ i. Unit {0}) items
every_one [] = tt
every_one (i ∷ items) = (tt, every_one items)

filed : (n : ℕ) (items : List ItemData) → All IsShapedItem items → Every IsShapedFiled (map (λ i. (n, i)) items)
filed n [] all = tt
filed n (i ∷ items) all = (All-head IsShapedItem i items all, filed n items (All-tail IsShapedItem i items all))

join : (xs ys : List FiledItem) → Every IsShapedFiled xs → Every IsShapedFiled ys → Every IsShapedFiled (xs ++ ys)
join [] ys all more = more
join (x ∷ xs) ys all more = (all.0, join xs ys all.1 more)

pub shaped_items : (n : ℕ) (trees : List TreeData) → All IsShaped trees → Every IsShapedFiled (items_from n trees)
shaped_items n [] all = tt
shaped_items n (t ∷ ts) all = join (map (λ i. (n, i)) t.items) (items_from (suc n) ts) (filed n t.items (All-head IsShaped t ts all).items) (shaped_items (suc n) ts (All-tail IsShaped t ts all))

spelled_items : (items : List FiledItem) → Every IsShapedFiled items → All HasSpelledEnums items
spelled_items [] all = All-nil HasSpelledEnums
spelled_items (i ∷ items) all = All-cons HasSpelledEnums i items (enums_spelled_in i.1 all.0.types) (spelled_items items all.1)

both_names : (s : Names) (ns : List NameData) → Every (IsThere s.enums) ns → Every (λ (n : NameData). is_enum (s.values n.text) ≡ true) ns → Every (IsEnumName s) ns
both_names s [] there stand = tt
both_names s (n ∷ ns) there stand = ((there.0, stand.0), both_names s ns there.1 stand.1)

faultless_items : (s : Names) (items : List FiledItem) → item_faults s items ≡ [] → Every IsShapedFiled items → Every (AreThere s.enums) items → Every (StandForEnums s.values) items → Every (IsFaultless s) items
faultless_items s [] none shaped there stand = tt
faultless_items s (i ∷ items) none shaped there stand =
    let parts = empty_parts (faults_in s i.0 i.1) (item_faults s items) none in
    (record { none = parts.0; shaped = shaped.0; enums = both_names s (enum_names_of i.1) there.0 stand.0 }, faultless_items s items parts.1 shaped.1 there.1 stand.1)

-- ---- the whole

-- arrays have elements where items have no faults
elements_in_all : (s : Names) (items : List FiledItem) → item_faults s items ≡ [] → Every (λ (i : FiledItem). HasElements i.1) items
elements_in_all s [] none = tt
elements_in_all s ((file, i) ∷ items) none = let parts = empty_parts (faults_in s file i) (item_faults s items) none in (here i parts.0, elements_in_all s items parts.1)
  where
    here : (i : ItemData) → faults_in s file i ≡ [] → HasElements i
    here (ItemData.Variable x) none = elements_there file x.length (empty_parts (type_faults s (at_large s) file x.domain) _ none).1
    here (ItemData.Monitor x) none = tt
    here (ItemData.Define x) none = tt
    here (ItemData.Predicate x) none = tt
    here (ItemData.Alias x) none = tt
    here (ItemData.Pattern x) none = tt
    here (ItemData.Statement x) none = tt

pub names_right : (items : List FiledItem) → item_faults (names_of items) items ≡ [] → AreRight (sizes_in items) (names_of items)
names_right items none =
    let there = elements_in_all (names_of items) items none in
    record {
      enums = refl;
      values = λ text x is. found (is_right (sizes_in items)) (entries spaces.Values (enums_in items) items) text x (entries_right spaces.Values items there) is;
      types = λ text x is. found (is_right (sizes_in items)) (entries spaces.Types (enums_in items) items) text x (entries_right spaces.Types items there) is;
      patterns = λ text x is. found (is_right (sizes_in items)) (entries spaces.Patterns (enums_in items) items) text x (entries_right spaces.Patterns items there) is;
    }

module _ (items : List FiledItem) where
  abbrev s : Names
  s = names_of items

  abbrev text : ResolvedText
  text = text_of_items s items

  module _ (shaped : Every IsShapedFiled items) (names : scope_faults items ≡ []) (limits : limit_faults items ≡ []) (none : item_faults s items ≡ []) where
    abbrev values : List Entry
    values = entries spaces.Values (enums_in items) items

    few : names_past 65_535 [] items ≡ []
    few = (empty_parts (names_past 65_535 [] items) (name_faults items) names).0

    single : clashes values ≡ []
    single = (empty_parts (clashes values) _ (empty_parts (names_past 65_535 [] items) (name_faults items) names).1).0

    all : Every (IsFaultless s) items
    all = faultless_items s items none shaped (items_there [] items) (enums_stand_in s.values (enums_in items) no_counts items (enums_stand values single))

    room : (past variables_of 1024 items ≡ []) × (past lines_of 4096 items ≡ [])
    room = empty_parts (past variables_of 1024 items) (past lines_of 4096 items) limits

    are : sizes_of text ≡ sizes_in items
    are = sizes_are s items refl

    pub sound : IsSound text
    sound =
        record {
          few_names = few_names 65_535 [] items (omega arith) few;
          different_names = enums_differ [] items refl;
          spelled_names = enums_spelled [] items (All-nil IsName) (spelled_items items shaped);
          few_variables = (
              let count = counted_sum (λ (i : FiledItem). variables_in s i.0 i.1) (λ (v : ResolvedVariable). v.count) variables_of items (count_elements s) in
              let fits = within variables_of 1024 items room.0 in omega (arith, count, fits)
              );
          some_elements = all_flat (λ i. Unit {0}) has_some (λ (i : FiledItem). variables_in s i.0 i.1) items (λ i known. some_in s i.0 i.1) (every_one items);
          few_elements = all_flat (λ i. Unit {0}) is_short (λ (i : FiledItem). variables_in s i.0 i.1) items (λ i known. short_in s i.0 i.1) (every_one items);
          alone = all_flat (λ i. Unit {0}) is_alone (λ (i : FiledItem). variables_in s i.0 i.1) items (λ i known. alone_in s i.0 i.1) (every_one items);
          different_variables = ap (all_differ bytes_eq) (variables_are s (enums_in items) no_counts items) ∙ variables_differ no_names values single;
          spelled_variables = variables_spelled s items shaped;
          variables = ap (λ z. list_all (λ (v : ResolvedVariable). is_type z v.domain) text.variables) are
              ∙ all_flat (IsFaultless s) _ (λ (i : FiledItem). variables_in s i.0 i.1) items (variables_sound (sizes_in items) s (names_right items none)) all;
          types = ap (λ z. list_all (λ (a : ResolvedAlias). is_type z a.body) text.types) are
              ∙ all_flat (IsFaultless s) _ (λ (i : FiledItem). aliases_in s i.0 i.1) items (types_sound (sizes_in items) s (names_right items none)) all;
          definitions = ap (λ z. list_all (is_sound_definition z) text.definitions) are
              ∙ all_flat (IsFaultless s) _ (λ (i : FiledItem). definitions_in s i.0 i.1) items (definitions_sound (sizes_in items) s (names_right items none)) all;
          patterns = ap (λ z. list_all (is_sound_pattern z) text.patterns) are
              ∙ all_flat (IsFaultless s) _ (λ (i : FiledItem). patterns_in s i.0 i.1) items (patterns_sound (sizes_in items) s (names_right items none)) all;
          lines = ap (λ z. list_all (is_sound_line z) text.lines) are
              ∙ all_flat (IsFaultless s) _ (λ (i : FiledItem). lines_in s i.0 i.1) items (lines_sound (sizes_in items) s (names_right items none)) all;
          few_lines = (
              let count = at_most (λ (i : FiledItem). lines_in s i.0 i.1) lines_of items (count_lines s) in
              let fits = within lines_of 4096 items room.1 in omega (arith, count, fits)
              );
        }

pub faultless_sound : FaultlessIsSound
faultless_sound trees shaped none =
    let items = items_from 0 trees in
    let parts = empty_parts (declaration_faults trees) (item_faults (names_of items) items) none in
    let more = empty_parts (scope_faults items) (limit_faults items ++ import_and_item_faults (length trees - 1) trees) parts.0 in
    let limits = empty_parts (limit_faults items) (import_and_item_faults (length trees - 1) trees) more.1 in
    sound items (shaped_items 0 trees shaped) more.0 limits.0 parts.1
