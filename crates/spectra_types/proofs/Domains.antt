-- The types of a text without faults have domains.
use Rattle.std.proofs.Common.{◌≡◌, ℕ, ◌≤◌, ◌<◌, nat_lt, true, false, not, List, [], ◌∷◌, ◌++◌, length, flat_map, refl, sym, ap, ◌∙◌, arith}
use Rattle.std.specs.List.{list_all}
use Rattle.std.proofs.lemmas.Bool.{false≢true, and_parts, and_from, lt-ltb}
use Rattle.std.proofs.lemmas.Bool.Decides.{nat_tests}
use Rattle.spec_model.specs.Values.{Enumeration}
use Rattle.spec_model.specs.WellMade.{is_domain}
use Rattle.spec_model.specs.WellTyped.{is_domain_of}
use Rattle.spectra_resolved.specs.Texts.{ResolvedType, Booleans, RangeOf, EnumOf, TypeNumber, NoType, ResolvedVariable, ResolvedAlias, ResolvedDefinition, ResolvedPattern, ResolvedText}
use Rattle.spectra_judge.specs.Kinds.{Kind, Truth, Whole, SomeWhole, NameOf, OneName, Anything}
use Rattle.spectra_judge.specs.PutIn.{domain_kind, in_pattern}
use Rattle.spectra_judge.proofs.Empty.{empty_parts, no_fault}
use Rattle.spectra_holes.specs.Holed as holes
use Rattle.spectra_bounds.specs.Numbers.{Constants, constants}
use Rattle.spectra_bounds.specs.Types.{own_kind}
use Rattle.spectra_bounds.specs.Cycles.{type_cycles}
use Rattle.spectra_meant.specs.Laws.{is_declared_type, is_domain_kind}
use Rattle.spectra_meant.specs.Laws as meant
use Rattle.spectra_meant.proofs.Chains.{types_meant}
use Rattle.spectra_sound.specs.Sound.{sizes_of, is_type, is_sound_tree, is_sound_definition, is_sound_pattern, is_sound_pattern_line, IsSound}
use Rattle.spectra_notes.specs.TypeKinds.{kind_in}
use Rattle.spectra_bodies.specs.Unmeant.{unmeant, each_unmeant, all_unmeant}
use Rattle.spectra_bodies.proofs.Meaning.{nothing_wrong, ranges_have_numbers}
use Rattle.spectra_bodies.specs.Faults.{basis_of, typed_faults, own_faults, faults_of_types, faults_of_definitions, wrong_in, declared_faults}
use Rattle.spectra_patterns.specs.Patterns.{domain_of}
use Rattle.spectra_patterns.specs.SoundPatterns.{is_type_kind}

-- ---- kinds of domains

same_test : (k : Kind) → holes.is_anything k ≡ meant.is_anything k
same_test Truth = refl
same_test (Whole low high) = refl
same_test SomeWhole = refl
same_test (NameOf ns) = refl
same_test (OneName n) = refl
same_test Anything = refl

type_kind_is : (names : ℕ) (k : Kind) → is_domain_kind names k ≡ true → is_type_kind names k ≡ true
type_kind_is names Truth is = refl
type_kind_is names (Whole low high) is = is
type_kind_is names SomeWhole is = absurd (false≢true is)
type_kind_is names (NameOf ns) is = is
type_kind_is names (OneName n) is = absurd (false≢true is)
type_kind_is names Anything is = absurd (false≢true is)

pub domain_fits : (names : ℕ) (k : Kind) → is_type_kind names k ≡ true → is_domain_of names (domain_of k) ≡ true
domain_fits names Truth is = refl
domain_fits names (Whole low high) is = is
domain_fits names SomeWhole is = absurd (false≢true is)
domain_fits names (NameOf ns) is = is
domain_fits names (OneName n) is = absurd (false≢true is)
domain_fits names Anything is = absurd (false≢true is)

pub kind_back : (names : ℕ) (k : Kind) → is_type_kind names k ≡ true → k ≡ domain_kind (domain_of k)
kind_back names Truth is = refl
kind_back names (Whole low high) is = refl
kind_back names SomeWhole is = absurd (false≢true is)
kind_back names (NameOf ns) is = refl
kind_back names (OneName n) is = absurd (false≢true is)
kind_back names Anything is = absurd (false≢true is)

pub not_anything : (names : ℕ) (k : Kind) → is_type_kind names k ≡ true → holes.is_anything k ≡ false
not_anything names Truth is = refl
not_anything names (Whole low high) is = refl
not_anything names SomeWhole is = refl
not_anything names (NameOf ns) is = refl
not_anything names (OneName n) is = refl
not_anything names Anything is = absurd (false≢true is)

below_most : (names : ℕ) → names ≤ 65_535 → (ns : List ℕ) → list_all (λ k. nat_lt k names) ns ≡ true → list_all (λ k. nat_lt k 65_536) ns ≡ true
below_most names few [] is = refl
below_most names few (n ∷ ns) is =
    let parts = and_parts (nat_lt n names) _ is in
    let test = parts.0 in
    let less : n < names = grind (arith, nat_tests) in and_from _ _ (lt-ltb n 65_536 (omega (arith, few, less))) (below_most names few ns parts.1)

-- where there aren't too many enum names, their numbers have 16 bits
pub type_most : (names : ℕ) → names ≤ 65_535 → (k : Kind) → is_type_kind names k ≡ true → is_type_kind 65_536 k ≡ true
type_most names few Truth is = refl
type_most names few (Whole low high) is = is
type_most names few SomeWhole is = is
type_most names few (NameOf ns) is =
    let parts = and_parts (is_domain (Enumeration ns)) (list_all (λ k. nat_lt k names) ns) is in and_from _ _ parts.0 (below_most names few ns parts.1)
type_most names few (OneName n) is = is
type_most names few Anything is = is

-- ---- the types of a text

module _ (text : ResolvedText) (sound : IsSound text) (none : declared_faults text ≡ []) where
  abbrev c : Constants
  c = constants text.definitions

  abbrev names : ℕ
  names = length text.names

  right : all_unmeant c text ≡ []
  right = ranges_have_numbers text none

  no_type_fault : faults_of_types text ≡ []
  no_type_fault = (empty_parts (faults_of_types text) (faults_of_definitions text) (nothing_wrong (wrong_in text) (all_unmeant c text) none)).0

  round : type_cycles text.types ≡ []
  round =
      let first = empty_parts (typed_faults (basis_of text) text) (flat_map (own_faults text) text.patterns ++ type_cycles text.types) no_type_fault in
      (empty_parts (flat_map (own_faults text) text.patterns) (type_cycles text.types) first.1).1

  abbrev IsDeclared : ResolvedType → Type 0
  IsDeclared t = is_declared_type c names (length text.types) t ≡ true

  declared : (t : ResolvedType) → is_type (sizes_of text) t ≡ true → unmeant c t ≡ [] → IsDeclared t
  declared Booleans is some = refl
  declared (RangeOf at low high) is some = ap not (sym (same_test (own_kind c (RangeOf at low high))) ∙ no_fault _ _ _ some)
  declared (EnumOf ns) is some = is
  declared (TypeNumber k) is some = is
  declared NoType is some = absurd (false≢true is)

  aliases_declared : (types : List ResolvedAlias) → list_all (λ (a : ResolvedAlias). is_type (sizes_of text) a.body) types ≡ true → flat_map (λ (a : ResolvedAlias). unmeant c a.body) types ≡ [] →
      list_all (λ (a : ResolvedAlias). is_declared_type c names (length text.types) a.body) types ≡ true
  aliases_declared [] all some = refl
  aliases_declared (a ∷ types) all some =
      let tests = and_parts (is_type (sizes_of text) a.body) _ all in
      let parts = empty_parts (unmeant c a.body) _ some in and_from _ _ (declared a.body tests.0 parts.0) (aliases_declared types tests.1 parts.1)

  -- where there are numbers: variables, declared types, parameters, and own variables
  record HaveNumbers : Type 0 where
    pub variables : flat_map (λ (v : ResolvedVariable). unmeant c v.domain) text.variables ≡ []
    pub types : flat_map (λ (a : ResolvedAlias). unmeant c a.body) text.types ≡ []
    pub params : flat_map (λ (d : ResolvedDefinition). each_unmeant c d.params) text.definitions ≡ []
    pub own : flat_map (λ (p : ResolvedPattern). each_unmeant c p.own) text.patterns ≡ []

  numbers : HaveNumbers
  numbers =
      let first = empty_parts (flat_map (λ (v : ResolvedVariable). unmeant c v.domain) text.variables) _ right in
      let second = empty_parts (flat_map (λ (a : ResolvedAlias). unmeant c a.body) text.types) _ first.1 in
      let third = empty_parts (flat_map (λ (d : ResolvedDefinition). each_unmeant c d.params) text.definitions) (flat_map (λ (p : ResolvedPattern). each_unmeant c p.own) text.patterns) second.1 in
      record { variables = first.0; types = second.0; params = third.0; own = third.1 }

  abbrev pub HasDomain : ResolvedType → Type 0
  HasDomain t = is_type_kind names (kind_in text t) ≡ true

  has_domain : (t : ResolvedType) → is_type (sizes_of text) t ≡ true → unmeant c t ≡ [] → HasDomain t
  has_domain t is some = type_kind_is names (kind_in text t) (types_meant text.definitions names text.types round (aliases_declared text.types sound.types numbers.types) t (declared t is some))

  each_domain : (ts : List ResolvedType) → list_all (is_type (sizes_of text)) ts ≡ true → each_unmeant c ts ≡ [] → list_all (λ t. is_type_kind names (kind_in text t)) ts ≡ true
  each_domain [] all some = refl
  each_domain (t ∷ ts) all some =
      let tests = and_parts (is_type (sizes_of text) t) _ all in
      let parts = empty_parts (unmeant c t) (each_unmeant c ts) some in and_from _ _ (has_domain t tests.0 parts.0) (each_domain ts tests.1 parts.1)

  variables_from : (vs : List ResolvedVariable) → list_all (λ (v : ResolvedVariable). is_type (sizes_of text) v.domain) vs ≡ true → flat_map (λ (v : ResolvedVariable). unmeant c v.domain) vs ≡ [] →
      list_all (λ (v : ResolvedVariable). is_type_kind names (kind_in text v.domain)) vs ≡ true
  variables_from [] all some = refl
  variables_from (v ∷ vs) all some =
      let tests = and_parts (is_type (sizes_of text) v.domain) _ all in
      let parts = empty_parts (unmeant c v.domain) _ some in and_from _ _ (has_domain v.domain tests.0 parts.0) (variables_from vs tests.1 parts.1)

  pub variables_meant : list_all (λ (v : ResolvedVariable). is_type_kind names (kind_in text v.domain)) text.variables ≡ true
  variables_meant = variables_from text.variables sound.variables numbers.variables

  params_from : (ds : List ResolvedDefinition) → list_all (is_sound_definition (sizes_of text)) ds ≡ true → flat_map (λ (d : ResolvedDefinition). each_unmeant c d.params) ds ≡ [] →
      list_all (λ (d : ResolvedDefinition). list_all (λ t. is_type_kind names (kind_in text t)) d.params) ds ≡ true
  params_from [] all some = refl
  params_from (d ∷ ds) all some =
      let tests = and_parts (is_sound_definition (sizes_of text) d) _ all in
      let own = and_parts (not d.doubled) _ tests.0 in
      let types = and_parts (list_all (is_type (sizes_of text)) d.params) (is_sound_tree (sizes_of text) (length d.params) d.body) own.1 in
      let parts = empty_parts (each_unmeant c d.params) _ some in
      and_from _ _ (each_domain d.params types.0 parts.0) (params_from ds tests.1 parts.1)

  pub params_meant : list_all (λ (d : ResolvedDefinition). list_all (λ t. is_type_kind names (kind_in text t)) d.params) text.definitions ≡ true
  params_meant = params_from text.definitions sound.definitions numbers.params

  own_from : (ps : List ResolvedPattern) → list_all (is_sound_pattern (sizes_of text)) ps ≡ true → flat_map (λ (p : ResolvedPattern). each_unmeant c p.own) ps ≡ [] →
      list_all (λ (p : ResolvedPattern). list_all (λ t. is_type_kind names (kind_in text t)) p.own) ps ≡ true
  own_from [] all some = refl
  own_from (p ∷ ps) all some =
      let tests = and_parts (is_sound_pattern (sizes_of text) p) _ all in
      let own = and_parts (not p.doubled) _ tests.0 in
      let types = and_parts (list_all (is_type (sizes_of text)) p.own) (list_all (is_sound_pattern_line (in_pattern names p.params (length p.own))) p.lines) own.1 in
      let parts = empty_parts (each_unmeant c p.own) _ some in
      and_from _ _ (each_domain p.own types.0 parts.0) (own_from ps tests.1 parts.1)

  pub own_meant : list_all (λ (p : ResolvedPattern). list_all (λ t. is_type_kind names (kind_in text t)) p.own) text.patterns ≡ true
  own_meant = own_from text.patterns sound.patterns numbers.own
