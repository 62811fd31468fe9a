-- Patterns without faults are sound.
use Rattle.std.proofs.Common.{◌≡◌, ℕ, suc, ◌+◌, ◌≤◌, nat_lt, Bool, true, false, not, List, [], ◌∷◌, ◌++◌, length, flat_map, Option, Some, None, refl, ap, subst, ◌∙◌, arith}
use Rattle.std.specs.Prelude.{All, is_some, option_map, position}
use Rattle.std.specs.Str.{bytes_eq}
use Rattle.std.specs.List.{list_all}
use Rattle.std.specs.Option.{option_or}
use Rattle.std.proofs.lemmas.Bool.{and_from, lt-ltb, false≢true}
use Rattle.std.proofs.lemmas.List.Elements.{All-head, All-tail}
use Rattle.std.proofs.lemmas.List.Folds.{list_all-append}
use Rattle.std.proofs.lemmas.List.Quantifiers.{position-Some}
use Rattle.spec_model.proofs.AllStates.{Every}
use Rattle.spectra_trees.specs.declared.tree.Place.{Place}
use Rattle.spectra_trees.specs.Data.{NameData, TypeData, PartData, PartShape, PatternData, ItemData}
use Rattle.spectra_resolved.specs.declared.tree.Leaf.{Leaf}
use Rattle.spectra_resolved.specs.declared.tree.Leaf.TheVariants as leaves
use Rattle.spectra_resolved.specs.declared.table.Named.{Named}
use Rattle.spectra_resolved.specs.declared.table.Named.TheVariants as names
use Rattle.spectra_resolved.specs.Findings.{first_of_faults}
use Rattle.spectra_resolved.specs.Enums.{enum_names}
use Rattle.spectra_resolved.specs.Looks.{Looking, Names}
use Rattle.spectra_resolved.specs.Spaces.{Entry, declared, clashes}
use Rattle.spectra_resolved.specs.Resolving.{resolved, misuses}
use Rattle.spectra_items.specs.Types.{type_faults}
use Rattle.spectra_items.specs.Meanings.{by_place, own_names, pattern_entries, in_pattern, own_types, pattern_lines, pattern_of, part_faults, patterns_in}
use Rattle.spectra_declared.specs.Items.{FiledItem, part_enum_names}
use Rattle.spectra_parser.specs.Shapes.{IsShapedType, part_types}
use Rattle.spectra_judge.specs.PutIn as judged
use Rattle.spectra_patterns.specs.Laws.{StandForLeaves}
use Rattle.spectra_patterns.proofs.Named.{resolved_put}
use Rattle.spectra_sound.specs.Sound.{Sizes, is_type, is_sound_pattern_line, is_sound_pattern}
use Rattle.spectra_sound.proofs.Empty.{empty_parts, every_parts}
use Rattle.spectra_sound.proofs.Spaces.{found}
use Rattle.spectra_sound.proofs.Types.{IsEnumName}
use Rattle.spectra_sound.proofs.Items.{AreRight, IsFaultless, sound_type}

-- a test of what stands for a part without parts, and nothing else
abbrev is_leaf : (Leaf → Bool) → Named → Bool
is_leaf good (names.Leaf l) = good l
is_leaf good _ = false

by_place_good : (good : Leaf → Bool) (leaf : ℕ → Leaf) (most file k : ℕ) (ns : List NameData) → ((j : ℕ) → nat_lt j most ≡ true → good (leaf j) ≡ true) → k + length ns ≤ most →
    list_all (λ (e : Entry). is_leaf good e.1) (by_place leaf file k ns) ≡ true
by_place_good good leaf most file k [] each few = refl
by_place_good good leaf most file k (n ∷ ns) each few = and_from _ _ (each k (lt-ltb k most (omega (arith, few)))) (by_place_good good leaf most file (suc k) ns each (omega (arith, few)))

-- a name that is found in a list has a place there
place_below : (enums : List (List ℕ)) (text : List ℕ) (k : ℕ) → position (bytes_eq text) enums ≡ Some k → nat_lt k (length enums) ≡ true
place_below enums text k is = lt-ltb k (length enums) (position-Some (bytes_eq text) enums k [] is).0

module _ (z : Sizes) (s : Names) (enums_are : z.names ≡ length s.enums) (file : ℕ) where
  abbrev pub own_count : PatternData → ℕ
  own_count p = length (flat_map own_names p.parts)

  -- as many own variables as types of them
  pub same_count : (look : Looking) (ps : List PartData) → length (flat_map (own_types s look file) ps) ≡ length (flat_map own_names ps)
  same_count look [] = refl
  same_count look (p ∷ ps) = by (same_count look ps) p.at p.form
    where
      by : length (flat_map (own_types s look file) ps) ≡ length (flat_map own_names ps) → (at : Place) (form : PartShape) → length (own_types s look file (record { at = at; form = form }) ++ flat_map (own_types s look file) ps) ≡ length (own_names (record { at = at; form = form }) ++ flat_map own_names ps)
      by rest at (PartShape.Own t n) = ap suc rest
      by rest at (PartShape.Initial e) = rest
      by rest at (PartShape.Always e) = rest
      by rest at (PartShape.Recurring e) = rest

  module _ (p : PatternData) where
    abbrev pub good : judged.Parts
    good = judged.in_pattern z.names (length p.params) (own_count p)

    entries_good : list_all (λ (e : Entry). is_leaf good.leaf e.1) (pattern_entries file p) ≡ true
    entries_good =
        list_all-append _ (by_place leaves.Parameter file 0 p.params) (by_place leaves.Own file 0 (flat_map own_names p.parts))
        ∙ and_from _ _ (by_place_good good.leaf leaves.Parameter (length p.params) file 0 p.params (λ j below. below) (omega arith))
        (by_place_good good.leaf leaves.Own (own_count p) file 0 (flat_map own_names p.parts) (λ j below. below) (omega arith))

    looks_good : (text : List ℕ) (x : Named) → in_pattern s file p text ≡ Some x → is_leaf good.leaf x ≡ true
    looks_good text x is = by (declared (pattern_entries file p) text) refl is
      where
        here : (y : Named) → Some y ≡ Some x → y ≡ x
        here y e = cc

        enum : (o : Option ℕ) → position (bytes_eq text) s.enums ≡ o → option_map (λ k. names.Leaf (leaves.EnumName k)) o ≡ Some x → is_leaf good.leaf x ≡ true
        enum (Some k) at e = subst (λ x. is_leaf good.leaf x ≡ true) (here (names.Leaf (leaves.EnumName k)) e) (ap (nat_lt k) enums_are ∙ place_below s.enums text k at)
        enum None at e = absurd (cc)

        by : (o : Option Named) → declared (pattern_entries file p) text ≡ o → option_or o (option_map (λ k. names.Leaf (leaves.EnumName k)) (position (bytes_eq text) s.enums)) ≡ Some x → is_leaf good.leaf x ≡ true
        by (Some y) at e = subst (λ x. is_leaf good.leaf x ≡ true) (here y e) (found (is_leaf good.leaf) (pattern_entries file p) text y entries_good at)
        by None at e = enum (position (bytes_eq text) s.enums) refl e

    pub stand : StandForLeaves (in_pattern s file p) good
    stand =
        record {
          truth = λ b. refl;
          number = λ n. refl;
          name = λ text l is. looks_good text (names.Leaf l) is;
          predicate = λ text k arity is. false≢true (looks_good text (names.Predicate k arity) is);
          array = λ text k n is. false≢true (looks_good text (names.Array k n) is);
        }

    part_sound : (part : PartData) → part_faults s (in_pattern s file p) file part ≡ [] → list_all (is_sound_pattern_line good) (pattern_lines (in_pattern s file p) file part) ≡ true
    part_sound part = by part.at part.form
      where
        by : (at : Place) (form : PartShape) → part_faults s (in_pattern s file p) file (record { at = at; form = form }) ≡ [] → list_all (is_sound_pattern_line good) (pattern_lines (in_pattern s file p) file (record { at = at; form = form })) ≡ true
        by at (PartShape.Own t n) none = refl
        by at (PartShape.Initial e) none = and_from _ true (resolved_put (in_pattern s file p) good stand file e none) refl
        by at (PartShape.Always e) none = and_from _ true (resolved_put (in_pattern s file p) good stand file e none) refl
        by at (PartShape.Recurring e) none = and_from _ true (resolved_put (in_pattern s file p) good stand file e none) refl

    parts_sound : (parts : List PartData) → flat_map (part_faults s (in_pattern s file p) file) parts ≡ [] → list_all (is_sound_pattern_line good) (flat_map (pattern_lines (in_pattern s file p) file) parts) ≡ true
    parts_sound [] none = refl
    parts_sound (part ∷ parts) none =
        let each = empty_parts (part_faults s (in_pattern s file p) file part) _ none in
        list_all-append _ (pattern_lines (in_pattern s file p) file part) _ ∙ and_from _ _ (part_sound part each.0) (parts_sound parts each.1)

    abbrev IsShapedOne : TypeData → Type 0
    IsShapedOne t = IsShapedType t.form

    module _ (right : AreRight z s) where
      own_sound : (parts : List PartData) → All IsShapedOne (flat_map part_types parts) → Every (IsEnumName s) (flat_map part_enum_names parts) → flat_map (part_faults s (in_pattern s file p) file) parts ≡ [] →
          list_all (is_type z) (flat_map (own_types s (in_pattern s file p) file) parts) ≡ true
      own_sound [] shaped enums none = refl
      own_sound (part ∷ parts) shaped enums none = by (λ shaped enums none. own_sound parts shaped enums none) part.at part.form shaped enums none
        where
          by : (All IsShapedOne (flat_map part_types parts) → Every (IsEnumName s) (flat_map part_enum_names parts) → flat_map (part_faults s (in_pattern s file p) file) parts ≡ [] → list_all (is_type z) (flat_map (own_types s (in_pattern s file p) file) parts) ≡ true) →
              (at : Place) (form : PartShape) → All IsShapedOne (part_types (record { at = at; form = form }) ++ flat_map part_types parts) → Every (IsEnumName s) (part_enum_names (record { at = at; form = form }) ++ flat_map part_enum_names parts) →
              part_faults s (in_pattern s file p) file (record { at = at; form = form }) ++ flat_map (part_faults s (in_pattern s file p) file) parts ≡ [] →
              list_all (is_type z) (own_types s (in_pattern s file p) file (record { at = at; form = form }) ++ flat_map (own_types s (in_pattern s file p) file) parts) ≡ true
          by rest at (PartShape.Own t n) shaped enums none =
              let each = empty_parts (type_faults s (in_pattern s file p) file t) _ none in
              let mentions = every_parts (IsEnumName s) (enum_names t) _ enums in
              and_from _ _ (sound_type z s right (in_pattern s file p) file t (All-head IsShapedOne t (flat_map part_types parts) shaped) mentions.0 each.0)
              (rest (All-tail IsShapedOne t (flat_map part_types parts) shaped) mentions.1 each.1)
          by rest at (PartShape.Initial e) shaped enums none = rest shaped enums (empty_parts (misuses (resolved (in_pattern s file p) file e)) _ none).1
          by rest at (PartShape.Always e) shaped enums none = rest shaped enums (empty_parts (misuses (resolved (in_pattern s file p) file e)) _ none).1
          by rest at (PartShape.Recurring e) shaped enums none = rest shaped enums (empty_parts (misuses (resolved (in_pattern s file p) file e)) _ none).1

      pattern_sound : IsFaultless s (file, ItemData.Pattern p) → is_sound_pattern z (pattern_of s file p) ≡ true
      pattern_sound f =
          let parts = empty_parts (clashes (pattern_entries file p)) _ f.none in
          and_from _ _ (ap (λ fs. not (is_some (first_of_faults fs))) parts.0)
          (and_from _ _ (own_sound p.parts f.shaped.types f.enums parts.1)
          (ap (λ n. list_all (is_sound_pattern_line (judged.in_pattern z.names (length p.params) n)) (flat_map (pattern_lines (in_pattern s file p) file) p.parts)) (same_count (in_pattern s file p) p.parts) ∙ parts_sound p.parts parts.1))

module _ (z : Sizes) (s : Names) (right : AreRight z s) where
  pub patterns_sound : (i : FiledItem) → IsFaultless s i → list_all (is_sound_pattern z) (patterns_in s i.0 i.1) ≡ true
  patterns_sound (file, ItemData.Pattern p) f = and_from _ true (pattern_sound z s right.enums file p right f) refl
  patterns_sound (file, ItemData.Variable x) f = refl
  patterns_sound (file, ItemData.Alias x) f = refl
  patterns_sound (file, ItemData.Define x) f = refl
  patterns_sound (file, ItemData.Predicate x) f = refl
  patterns_sound (file, ItemData.Monitor x) f = refl
  patterns_sound (file, ItemData.Statement x) f = refl
