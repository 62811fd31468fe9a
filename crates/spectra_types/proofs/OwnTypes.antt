-- A type that stands for something has a domain, whatever else is wrong in its text.
use Rattle.std.proofs.Common.{◌≡◌, ℕ, zero, suc, ◌<◌, ◌==◌, nat_lt, Bool, true, false, not, if◌then◌else◌, List, [], ◌∷◌, Option, Some, None, is_some, length, map, get_or, refl, sym, ap, ◌∙◌, arith}
use Rattle.std.specs.List.{list_all}
use Rattle.std.proofs.lemmas.Bool.{false≢true, and_parts, and_from, not-true, lt-ltb}
use Rattle.std.proofs.lemmas.List.{length-map}
use Rattle.spec_model.specs.Values.{Enumeration}
use Rattle.spec_model.specs.WellMade.{all_differ, is_domain}
use Rattle.spec_model.specs.WellTyped.{is_domain_of}
use Rattle.spec_model.proofs.AllStates.{Every}
use Rattle.spectra_trees.specs.declared.tree.Place.{Place}
use Rattle.spectra_trees.specs.Data.{NameData, TypeData, TypeShape}
use Rattle.spectra_resolved.specs.declared.stand.Stand.TheVariants as stand
use Rattle.spectra_resolved.specs.declared.table.Named.{Named}
use Rattle.spectra_resolved.specs.declared.table.Named.TheVariants as names
use Rattle.spectra_resolved.specs.declared.findings.Finding.{Finding}
use Rattle.spectra_resolved.specs.Findings.{precedes, with_faults, first_of_faults}
use Rattle.spectra_resolved.specs.Enums.{enum_names}
use Rattle.spectra_resolved.specs.Looks.{Looking, Names}
use Rattle.spectra_resolved.specs.Spaces.{clashes, is_doubled, no_names}
use Rattle.spectra_resolved.specs.Texts.{ResolvedType, Booleans, RangeOf, EnumOf, TypeNumber, NoType, ResolvedAlias, ResolvedDefinition}
use Rattle.spectra_items.specs.Types.{plain_entries, is_sound_enum, enum_number, enum_type, named_type, type_of}
use Rattle.spectra_parser.specs.Shapes.{IsShapedType}
use Rattle.spectra_judge.specs.Kinds.{Kind, Truth, Whole, SomeWhole, NameOf, OneName, Anything}
use Rattle.spectra_judge.specs.PutIn.{has_room}
use Rattle.spectra_bounds.specs.Numbers.{Constants, constants, sound_number}
use Rattle.spectra_bounds.specs.Types.{range_kind, meant_within, own_kind, type_kind}
use Rattle.spectra_meant.specs.Laws.{is_anything, is_domain_kind}
use Rattle.spectra_meant.proofs.Chains.{range_domain}
use Rattle.spectra_meant.proofs.Numbers.{bound_near}
use Rattle.spectra_patterns.specs.SoundPatterns.{is_type_kind}
use Rattle.spectra_sound.proofs.Numbers.{IsThere, number_in, IsNumbered, numbered, numbers_differ, numbers_below}
use Rattle.spectra_sound.proofs.Types.{plain_differ}

-- ---- enums

-- an enum has a name, none twice, and each is declared
abbrev pub has_names : (names : ℕ) → ResolvedType → Bool
has_names names (EnumOf ns) = is_domain_of names (Enumeration ns)
has_names names _ = true

still_some : (f : Finding) (fs : List Finding) → is_some (with_faults (Some f) fs) ≡ true
still_some f [] = refl
still_some f (g ∷ fs) = still_some (if precedes g f then g else f) fs

no_first : (fs : List Finding) → is_some (first_of_faults fs) ≡ false → fs ≡ []
no_first [] e = refl
no_first (f ∷ fs) e = absurd (false≢true (sym e ∙ still_some f fs))

module _ (s : Names) where
  texts_there : (ns : List NameData) → Every (IsThere s.enums) ns → Every (IsNumbered s.enums) (map (λ (n : NameData). n.text) ns)
  texts_there [] all = tt
  texts_there (n ∷ ns) all = (numbered s.enums n.text all.0, texts_there ns all.1)

  same_numbers : (ns : List NameData) → map (number_in s.enums) (map (λ (n : NameData). n.text) ns) ≡ map (enum_number s) ns
  same_numbers [] = refl
  same_numbers (n ∷ ns) = ap (λ ks. number_in s.enums n.text ∷ ks) (same_numbers ns)

  enum_named : (file : ℕ) (ns : List NameData) → 0 < length ns → Every (IsThere s.enums) ns → has_names (length s.enums) (enum_type s file ns) ≡ true
  enum_named file ns some all = by (is_sound_enum s file ns) refl
    where
      texts : List (List ℕ)
      texts = map (λ (n : NameData). n.text) ns

      by : (b : Bool) → is_sound_enum s file ns ≡ b → has_names (length s.enums) (if b then EnumOf (map (enum_number s) ns) else NoType) ≡ true
      by false is = refl
      by true is =
          let single = no_first (clashes (plain_entries file ns)) (not-true _ (and_parts (not (is_doubled (plain_entries file ns))) _ is).0) in
          let differ = ap (all_differ (λ m n. m == n)) (sym (same_numbers ns)) ∙ numbers_differ s.enums texts (texts_there ns all) (plain_differ no_names file ns single) in
          let below = ap (list_all (λ k. nat_lt k (length s.enums))) (sym (same_numbers ns)) ∙ numbers_below s.enums texts (texts_there ns all) in
          and_from _ _ (and_from _ _ (lt-ltb _ _ (let long = length-map ns (enum_number s) in omega (arith, some, long))) differ) below

  name_named : (o : Option Named) → has_names (length s.enums) (named_type o) ≡ true
  name_named (Some (names.Type k)) = refl
  name_named (Some (names.Leaf l)) = refl
  name_named (Some (names.Array k n)) = refl
  name_named (Some (names.Predicate k n)) = refl
  name_named (Some (names.Pattern k n)) = refl
  name_named (Some names.Plain) = refl
  name_named None = refl

  pub type_named : (look : Looking) (file : ℕ) (t : TypeData) → IsShapedType t.form → Every (IsThere s.enums) (enum_names t) → has_names (length s.enums) (type_of s look file t) ≡ true
  type_named look file t = by t.at t.form
    where
      by : (at : Place) (form : TypeShape) → IsShapedType form → Every (IsThere s.enums) (enum_names (record { at = at; form = form })) → has_names (length s.enums) (type_of s look file (record { at = at; form = form })) ≡ true
      by at TypeShape.Boolean shaped all = refl
      by at (TypeShape.Range low high) shaped all = refl
      by at (TypeShape.Names ns) shaped all = enum_named file ns shaped.0 all
      by at (TypeShape.Named n) shaped all = name_named (s.types n.text)

-- ---- kinds

to_type_kind : (names : ℕ) (k : Kind) → is_domain_kind names k ≡ true → is_type_kind names k ≡ true
to_type_kind names Truth is = refl
to_type_kind names (Whole low high) is = is
to_type_kind names SomeWhole is = absurd (false≢true is)
to_type_kind names (NameOf ns) is = is
to_type_kind names (OneName n) is = absurd (false≢true is)
to_type_kind names Anything is = absurd (false≢true is)

some_kind : (k : Kind) → has_room k ≡ true → is_anything k ≡ false
some_kind Truth room = refl
some_kind (Whole low high) room = refl
some_kind SomeWhole room = refl
some_kind (NameOf ns) room = refl
some_kind (OneName n) room = refl
some_kind Anything room = absurd (false≢true room)

-- the kind of a type whose names have numbers of 16 bits
room_kind : (names : ℕ) (k : Kind) → is_type_kind names k ≡ true → has_room k ≡ true → is_type_kind 65_536 k ≡ true
room_kind names Truth is room = refl
room_kind names (Whole low high) is room = is
room_kind names SomeWhole is room = is
room_kind names (NameOf ns) is room = and_from _ _ (and_parts (is_domain (Enumeration ns)) _ is).0 room
room_kind names (OneName n) is room = is
room_kind names Anything is room = is

pub room_kinds : (names : ℕ) (ks : List Kind) → list_all (is_type_kind names) ks ≡ true → list_all has_room ks ≡ true → list_all (is_type_kind 65_536) ks ≡ true
room_kinds names [] is room = refl
room_kinds names (k ∷ ks) is room =
    let parts = and_parts (is_type_kind names k) _ is in
    let rooms = and_parts (has_room k) _ room in and_from _ _ (room_kind names k parts.0 rooms.0) (room_kinds names ks parts.1 rooms.1)

module _ (ds : List ResolvedDefinition) (names : ℕ) (types : List ResolvedAlias) (all : list_all (λ (a : ResolvedAlias). has_names names a.body) types ≡ true) where
  abbrev c : Constants
  c = constants ds

  own_domain : (t : ResolvedType) → has_names names t ≡ true → is_anything (own_kind c t) ≡ false → is_type_kind names (own_kind c t) ≡ true
  own_domain Booleans named some = refl
  own_domain (RangeOf at low high) named some =
      let a = sound_number c stand.Bound low in
      let b = sound_number c stand.Bound high in
      to_type_kind names (range_kind a b)
      (range_domain names a b (λ x e. bound_near ds stand.Bound low x e) (λ y e. bound_near ds stand.Bound high y e) (ap not some))
  own_domain (EnumOf ns) named some = named
  own_domain (TypeNumber k) named some = absurd (false≢true (sym some))
  own_domain NoType named some = absurd (false≢true (sym some))

  body_named : (types : List ResolvedAlias) (k : ℕ) → list_all (λ (a : ResolvedAlias). has_names names a.body) types ≡ true → has_names names (get_or (map (λ (a : ResolvedAlias). a.body) types) k NoType) ≡ true
  body_named [] k named = refl
  body_named (a ∷ types) zero named = (and_parts (has_names names a.body) _ named).0
  body_named (a ∷ types) (suc k) named = body_named types k (and_parts (has_names names a.body) _ named).1

  meant_named : (steps : ℕ) (t : ResolvedType) → has_names names t ≡ true → has_names names (meant_within steps types t) ≡ true
  meant_named steps Booleans named = refl
  meant_named steps (RangeOf at low high) named = refl
  meant_named steps (EnumOf ns) named = named
  meant_named steps NoType named = refl
  meant_named zero (TypeNumber k) named = refl
  meant_named (suc steps) (TypeNumber k) named = meant_named steps (get_or (map (λ (a : ResolvedAlias). a.body) types) k NoType) (body_named types k all)

  abbrev kind : ResolvedType → Kind
  kind t = type_kind c types t

  kind_domain : (t : ResolvedType) → has_names names t ≡ true → is_anything (kind t) ≡ false → is_type_kind names (kind t) ≡ true
  kind_domain t named some = own_domain (meant_within (length types) types t) (meant_named (length types) t named) some

  pub kinds_domains : (ts : List ResolvedType) → list_all (has_names names) ts ≡ true → list_all has_room (map kind ts) ≡ true → list_all (is_type_kind names) (map kind ts) ≡ true
  kinds_domains [] named room = refl
  kinds_domains (t ∷ ts) named room =
      let tests = and_parts (has_names names t) _ named in
      let parts = and_parts (has_room (kind t)) _ room in and_from _ _ (kind_domain t tests.0 (some_kind (kind t) parts.0)) (kinds_domains ts tests.1 parts.1)
