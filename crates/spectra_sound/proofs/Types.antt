-- Types without faults have a meaning, but for their bounds.
use Rattle.std.proofs.Common.{◌≡◌, ℕ, ◌<◌, ◌==◌, nat_lt, true, false, not, ◌&&◌, if◌then◌else◌, List, [], ◌∷◌, length, map, Option, Some, None, refl, sym, ap, ◌∙◌, arith}
use Rattle.std.specs.Prelude.{is_some}
use Rattle.std.specs.Option.{option_or}
use Rattle.spectra_resolved.specs.Findings.{first_of_faults}
use Rattle.spectra_resolved.specs.Texts.{EnumOf, NoType}
use Rattle.std.specs.Str.{bytes_eq}
use Rattle.std.specs.List.{list_any, list_all}
use Rattle.std.proofs.lemmas.Bool.{and_from, lt-ltb, or_from, not_from_false, false_from_ne_true}
use Rattle.spec_model.specs.WellMade.{all_differ}
use Rattle.std.proofs.lemmas.List.{length-map}
use Rattle.spec_model.proofs.AllStates.{Every}
use Rattle.spectra_trees.specs.declared.tree.Place.{Place}
use Rattle.spectra_trees.specs.Data.{NameData, TypeData, TypeShape}
use Rattle.spectra_resolved.specs.declared.spot.Spot.{Spot}
use Rattle.spectra_resolved.specs.declared.tree.Leaf.TheVariants as leaves
use Rattle.spectra_resolved.specs.declared.table.Named.{Named}
use Rattle.spectra_resolved.specs.declared.table.Named.TheVariants as names
use Rattle.spectra_resolved.specs.Spots.{spot_of, mentioned}
use Rattle.spectra_resolved.specs.Looks.{Looking, Names}
use Rattle.spectra_resolved.specs.Enums.{enum_names}
use Rattle.spectra_resolved.specs.Spaces.{and_name, clash, clashes_after, clashes, is_doubled, no_names}
use Rattle.spectra_items.specs.Types.{plain_entries, is_enum, is_sound_enum, enum_number, enum_type, named_type, named_faults, type_of, type_faults}
use Rattle.spectra_parser.specs.Shapes.{IsShapedType}
use Rattle.spectra_sound.specs.Sound.{Sizes, is_type}
use Rattle.spectra_sound.proofs.Empty.{not_empty, empty_parts}
use Rattle.spectra_sound.proofs.EnumNames.{eq-self, eq-same}
use Rattle.spectra_sound.proofs.Numbers.{IsThere, number_in, IsNumbered, numbered, numbers_differ, numbers_below}

-- ---- names that stand once

plain_taken : (look : List ℕ → Option Named) (file : ℕ) (m : List ℕ) (x : Named) (ns : List NameData) → clashes_after look (plain_entries file ns) ≡ [] → look m ≡ Some x → list_any (bytes_eq m) (map (λ (n : NameData). n.text) ns) ≡ false
plain_taken look file m x [] e there = refl
plain_taken look file m x (n ∷ ns) e there =
    let parts = empty_parts (clash (look n.text) _) (clashes_after (and_name look n.text names.Plain) (plain_entries file ns)) e in
    or_from _ _ (false_from_ne_true (bytes_eq m n.text) (λ same. some_none (sym there ∙ ap look (eq-same m n.text same) ∙ was_nothing (look n.text) parts.0)))
    (plain_taken (and_name look n.text names.Plain) file m x ns parts.1 (ap (λ o. option_or o (if bytes_eq m n.text then Some names.Plain else None)) there))
  where
    some_none : Some x ≡ None → ⊥
    some_none e = cc

    was_nothing : (first : Option Named) → clash first (mentioned file n, names.Plain) ≡ [] → first ≡ None
    was_nothing None e = refl
    was_nothing (Some (names.Leaf (leaves.EnumName m))) e = absurd (not_empty _ _ e)
    was_nothing (Some (names.Leaf (leaves.Truth m))) e = absurd (not_empty _ _ e)
    was_nothing (Some (names.Leaf (leaves.Number m))) e = absurd (not_empty _ _ e)
    was_nothing (Some (names.Leaf (leaves.Variable m))) e = absurd (not_empty _ _ e)
    was_nothing (Some (names.Leaf (leaves.Parameter m))) e = absurd (not_empty _ _ e)
    was_nothing (Some (names.Leaf (leaves.Own m))) e = absurd (not_empty _ _ e)
    was_nothing (Some (names.Leaf (leaves.Define m))) e = absurd (not_empty _ _ e)
    was_nothing (Some (names.Leaf (leaves.Bound m))) e = absurd (not_empty _ _ e)
    was_nothing (Some (names.Leaf (leaves.Hole m))) e = absurd (not_empty _ _ e)
    was_nothing (Some (names.Array m a)) e = absurd (not_empty _ _ e)
    was_nothing (Some (names.Predicate m a)) e = absurd (not_empty _ _ e)
    was_nothing (Some (names.Pattern m a)) e = absurd (not_empty _ _ e)
    was_nothing (Some (names.Type m)) e = absurd (not_empty _ _ e)
    was_nothing (Some names.Plain) e = absurd (not_empty _ _ e)

put_new : (look : List ℕ → Option Named) (name : List ℕ) (x : Named) → look name ≡ None → and_name look name x name ≡ Some x
put_new look name x none = ap (λ o. option_or o (if bytes_eq name name then Some x else None)) none ∙ ap (λ b. if b then Some x else None) (eq-self name)

pub plain_differ : (look : List ℕ → Option Named) (file : ℕ) (ns : List NameData) → clashes_after look (plain_entries file ns) ≡ [] → all_differ bytes_eq (map (λ (n : NameData). n.text) ns) ≡ true
plain_differ look file [] e = refl
plain_differ look file (n ∷ ns) e =
    let parts = empty_parts (clash (look n.text) _) (clashes_after (and_name look n.text names.Plain) (plain_entries file ns)) e in
    and_from _ _ (not_from_false _ (by (look n.text) refl parts.1)) (plain_differ (and_name look n.text names.Plain) file ns parts.1)
  where
    by : (o : Option Named) → look n.text ≡ o → clashes_after (and_name look n.text names.Plain) (plain_entries file ns) ≡ [] → list_any (bytes_eq n.text) (map (λ (n : NameData). n.text) ns) ≡ false
    by None is later = plain_taken (and_name look n.text names.Plain) file n.text names.Plain ns later (put_new look n.text names.Plain is)
    by (Some x) is later = plain_taken (and_name look n.text names.Plain) file n.text x ns later (ap (λ o. option_or o (if bytes_eq n.text n.text then Some names.Plain else None)) is)

-- ---- types

-- an enum name is there, and stands for one
abbrev pub IsEnumName : Names → NameData → Type 0
IsEnumName s n = IsThere s.enums n × (is_enum (s.values n.text) ≡ true)

-- names that stand for types stand for some that there are
abbrev pub TypesStand : Sizes → Names → Type 0
TypesStand z s = (text : List ℕ) (k : ℕ) → s.types text ≡ Some (names.Type k) → nat_lt k z.types ≡ true

module _ (z : Sizes) (s : Names) (same : z.names ≡ length s.enums) (stand : TypesStand z s) where
  all_enums : (ns : List NameData) → Every (IsEnumName s) ns → list_all (λ (n : NameData). is_enum (s.values n.text)) ns ≡ true
  all_enums [] all = refl
  all_enums (n ∷ ns) all = and_from _ _ all.0.1 (all_enums ns all.1)

  texts_numbered : (ns : List NameData) → Every (IsEnumName s) ns → Every (IsNumbered s.enums) (map (λ (n : NameData). n.text) ns)
  texts_numbered [] all = tt
  texts_numbered (n ∷ ns) all = (numbered s.enums n.text all.0.0, texts_numbered ns all.1)

  numbers_are : (ns : List NameData) → map (number_in s.enums) (map (λ (n : NameData). n.text) ns) ≡ map (enum_number s) ns
  numbers_are [] = refl
  numbers_are (n ∷ ns) = ap (λ ks. number_in s.enums n.text ∷ ks) (numbers_are ns)

  enum_sound : (file : ℕ) (ns : List NameData) → 0 < length ns → Every (IsEnumName s) ns → clashes (plain_entries file ns) ≡ [] → is_type z (enum_type s file ns) ≡ true
  enum_sound file ns some all none =
      let single : is_doubled (plain_entries file ns) ≡ false = ap (λ fs. is_some (first_of_faults fs)) none in
      let sound : is_sound_enum s file ns ≡ true = (λ i. not (single i) && list_all (λ (n : NameData). is_enum (s.values n.text)) ns) ∙ all_enums ns all in
      let texts = map (λ (n : NameData). n.text) ns in
      let differ = ap (all_differ (λ m n. m == n)) (sym (numbers_are ns)) ∙ numbers_differ s.enums texts (texts_numbered ns all) (plain_differ no_names file ns none) in
      let below = (λ i. list_all (λ k. nat_lt k (same i)) (sym (numbers_are ns) i)) ∙ numbers_below s.enums texts (texts_numbered ns all) in
      ap (is_type z) (λ i. if sound i then EnumOf (map (enum_number s) ns) else NoType)
      ∙ and_from _ _ (and_from _ _ (lt-ltb _ _ (let long = length-map ns (enum_number s) in omega (arith, some, long))) differ) below

  named_sound : (at : Spot) (text : List ℕ) (o : Option Named) → s.types text ≡ o → named_faults o at ≡ [] → is_type z (named_type o) ≡ true
  named_sound at text (Some (names.Type k)) is none = stand text k is
  named_sound at text (Some (names.Leaf l)) is none = absurd (not_empty _ _ none)
  named_sound at text (Some (names.Array k n)) is none = absurd (not_empty _ _ none)
  named_sound at text (Some (names.Predicate k n)) is none = absurd (not_empty _ _ none)
  named_sound at text (Some (names.Pattern k n)) is none = absurd (not_empty _ _ none)
  named_sound at text (Some names.Plain) is none = absurd (not_empty _ _ none)
  named_sound at text None is none = absurd (not_empty _ _ none)

  pub type_sound : (look : Looking) (file : ℕ) (t : TypeData) → IsShapedType t.form → Every (IsEnumName s) (enum_names t) → type_faults s look file t ≡ [] → is_type z (type_of s look file t) ≡ true
  type_sound look file t = by t.at t.form
    where
      by : (at : Place) (form : TypeShape) → IsShapedType form → Every (IsEnumName s) (enum_names (record { at = at; form = form })) → type_faults s look file (record { at = at; form = form }) ≡ [] → is_type z (type_of s look file (record { at = at; form = form })) ≡ true
      by at TypeShape.Boolean shaped all none = refl
      by at (TypeShape.Range low high) shaped all none = refl
      by at (TypeShape.Names ns) shaped all none = enum_sound file ns shaped.0 all none
      by at (TypeShape.Named n) shaped all none = named_sound (spot_of file n) n.text (s.types n.text) refl none
