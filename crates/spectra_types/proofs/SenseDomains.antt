-- In a text without faults the domain of a variable is that of its type.
use Rattle.std.proofs.Common.{◌≡◌, ℕ, zero, suc, ℤ, Bool, true, false, if◌then◌else◌, List, [], ◌∷◌, ◌++◌, Option, Some, None, length, map, flat_map, take, drop, get_or, slice_get, refl, sym, ap, subst, ◌∙◌, arith}
use Rattle.std.specs.List.{list_all}
use Rattle.std.proofs.lemmas.Bool.{false≢true, and_parts}
use Rattle.std.proofs.lemmas.List.{length-map}
use Rattle.std.proofs.lemmas.Option.{same_Some}
use Rattle.spectra_resolved.specs.declared.spot.Spot.{Spot}
use Rattle.spectra_resolved.specs.declared.stand.Stand.TheVariants as stand
use Rattle.spectra_resolved.specs.Resolved.{ResolvedTree}
use Rattle.spectra_resolved.specs.Texts.{ResolvedType, Booleans, RangeOf, EnumOf, TypeNumber, NoType, ResolvedVariable, ResolvedAlias, ResolvedText}
use Rattle.spectra_judge.specs.Kinds.{Whole, Anything}
use Rattle.spectra_bounds.specs.Numbers.{Constants, constants, sound_number}
use Rattle.spectra_bounds.specs.Types.{is_range, range_kind, meant_within, own_kind}
use Rattle.spectra_notes.specs.TypeKinds.{kind_in}
use Rattle.spectra_patterns.specs.Patterns.{domain_of}
use Rattle.spectra_patterns.specs.SoundPatterns.{is_type_kind}
use Rattle.spectra_meant.proofs.Numbers.{none_some}
use Rattle.spectra_bodies.specs.Faults.{declared_faults}
use Rattle.spectra_cases.specs.Formulas.{numbers_below}
use Rattle.spectra_sound.specs.Sound.{IsSound}
use Rattle.spectra_types.specs.Meanings.{element_of, variables_in}
use Rattle.spectra_types.proofs.Elements.{count-numbers}
use Rattle.spectra_types.proofs.Placed.{HasOwnPlaces}
use Rattle.spectra_types.specs.SameText.{IsNumber, IsDomainOf, AreDomainsOf, AreElementsOf, AreVariablesOf}
use Rattle.spectra_types.proofs.Numbers.{bound_is}
use Rattle.spectra_types.proofs.Judged as out
use Rattle.spectra_types.proofs.Trees.{definitions_are}

module _ (text : ResolvedText) (sound : IsSound (out.judged text)) (none : declared_faults (out.judged text) ≡ []) (own : HasOwnPlaces text) (names : ℕ) where
  abbrev judged : ResolvedText
  judged = out.judged text

  abbrev c : Constants
  c = constants judged.definitions

  number_of_bound : (t : ResolvedTree) (z : ℤ) → sound_number c stand.Bound t ≡ Some z → IsNumber text.definitions t z
  number_of_bound t z is r s are p = bound_is judged.definitions s (λ k d there p. definitions_are text sound none own r s are k d there [] p) t z is p

  range_has : (at : Spot) (low high : ResolvedTree) → is_type_kind names (own_kind c (RangeOf at low high)) ≡ true → IsDomainOf text (RangeOf at low high) (domain_of (own_kind c (RangeOf at low high)))
  range_has at low high is = by (sound_number c stand.Bound low) (sound_number c stand.Bound high) refl refl is
    where
      by : (a b : Option ℤ) → sound_number c stand.Bound low ≡ a → sound_number c stand.Bound high ≡ b → is_type_kind names (range_kind a b) ≡ true → IsDomainOf text (RangeOf at low high) (domain_of (range_kind a b))
      by None b first second is = absurd (false≢true is)
      by (Some x) None first second is = absurd (false≢true is)
      by (Some x) (Some y) first second is = some (is_range x y) is
        where
          some : (b : Bool) → is_type_kind names (if b then Whole x y else Anything) ≡ true → IsDomainOf text (RangeOf at low high) (domain_of (if b then Whole x y else Anything))
          some false is = absurd (false≢true is)
          some true is = IsDomainOf.range at low high x y (number_of_bound low x first) (number_of_bound high y second)

  -- the body of a declared type
  abbrev body_at : ℕ → ResolvedType
  body_at k = get_or (map (λ (a : ResolvedAlias). a.body) text.types) k NoType

  alias_at : (types : List ResolvedAlias) (k : ℕ) → slice_get types k ≡ None → get_or (map (λ (a : ResolvedAlias). a.body) types) k NoType ≡ NoType
  alias_at [] k none = refl
  alias_at (a ∷ types) zero none = absurd (none_some (sym none))
  alias_at (a ∷ types) (suc k) none = alias_at types k none

  body_of_alias : (types : List ResolvedAlias) (k : ℕ) (a : ResolvedAlias) → slice_get types k ≡ Some a → get_or (map (λ (a : ResolvedAlias). a.body) types) k NoType ≡ a.body
  body_of_alias [] k a there = absurd (cc)
  body_of_alias (b ∷ types) zero a there = ap (λ (a : ResolvedAlias). a.body) (same_Some b a there)
  body_of_alias (b ∷ types) (suc k) a there = body_of_alias types k a there

  abbrev HasDomain : ℕ → ResolvedType → Type 0
  HasDomain steps t = is_type_kind names (own_kind c (meant_within steps text.types t)) ≡ true → IsDomainOf text t (domain_of (own_kind c (meant_within steps text.types t)))

  type_has : (steps : ℕ) (t : ResolvedType) → HasDomain steps t
  type_has steps Booleans is = IsDomainOf.truth
  type_has steps (RangeOf at low high) is = range_has at low high is
  type_has steps (EnumOf ns) is = IsDomainOf.enum ns
  type_has steps NoType is = absurd (false≢true is)
  type_has zero (TypeNumber k) is = absurd (false≢true is)
  type_has (suc steps) (TypeNumber k) is = by (type_has steps (body_at k) is) (slice_get text.types k) refl
    where
      by : IsDomainOf text (body_at k) (domain_of (own_kind c (meant_within steps text.types (body_at k)))) → (o : Option ResolvedAlias) → slice_get text.types k ≡ o →
          IsDomainOf text (TypeNumber k) (domain_of (own_kind c (meant_within steps text.types (body_at k))))
      by found None none = absurd (false≢true (sym (ap (λ t. is_type_kind names (own_kind c (meant_within steps text.types t))) (alias_at text.types k none)) ∙ is))
      by found (Some a) there =
          let body = body_of_alias text.types k a there in
          let d = domain_of (own_kind c (meant_within steps text.types (body_at k))) in IsDomainOf.named k a d there (subst (λ t. IsDomainOf text t d) body found)

  pub domain_has : (t : ResolvedType) → is_type_kind names (kind_in judged t) ≡ true → IsDomainOf text t (domain_of (kind_in judged t))
  domain_has t is = type_has (length text.types) t is

  pub own_have : (ts : List ResolvedType) → list_all (λ t. is_type_kind names (kind_in judged t)) ts ≡ true → AreDomainsOf text ts (map domain_of (map (kind_in judged) ts))
  own_have [] all = tt
  own_have (t ∷ ts) all = let parts = and_parts (is_type_kind names (kind_in judged t)) _ all in (domain_has t parts.0, own_have ts parts.1)

  -- ---- variables

  taken : {X : Type 0} (xs ys : List X) (n : ℕ) → length xs ≡ n → take n (xs ++ ys) ≡ xs
  taken [] ys zero is = refl
  taken [] ys (suc n) is = absurd (omega (arith, is))
  taken (x ∷ xs) ys zero is = absurd (omega (arith, is))
  taken (x ∷ xs) ys (suc n) is = ap (λ more. x ∷ more) (taken xs ys n (omega (arith, is)))

  dropped : {X : Type 0} (xs ys : List X) (n : ℕ) → length xs ≡ n → drop n (xs ++ ys) ≡ ys
  dropped [] ys zero is = refl
  dropped [] ys (suc n) is = absurd (omega (arith, is))
  dropped (x ∷ xs) ys zero is = absurd (omega (arith, is))
  dropped (x ∷ xs) ys (suc n) is = dropped xs ys n (omega (arith, is))

  elements_have : (v : ResolvedVariable) → IsDomainOf text v.domain (domain_of (kind_in judged v.domain)) → (from n : ℕ) → AreElementsOf text v (numbers_below from n) (map (element_of judged v) (numbers_below from n))
  elements_have v domain from zero = tt
  elements_have v domain from (suc n) = (record { name = refl; owner = refl; domain = domain }, elements_have v domain (suc from) n)

  pub variables_have : (vs : List ResolvedVariable) → list_all (λ (v : ResolvedVariable). is_type_kind names (kind_in judged v.domain)) vs ≡ true → AreVariablesOf text vs (flat_map (variables_in judged) vs)
  variables_have [] all = tt
  variables_have (v ∷ vs) all =
      let parts = and_parts (is_type_kind names (kind_in judged v.domain)) _ all in
      let here = variables_in judged v in
      let rest = flat_map (variables_in judged) vs in
      let many : length here ≡ v.count = length-map (numbers_below 0 v.count) (element_of judged v) ∙ count-numbers 0 v.count in (
        subst (λ ws. AreElementsOf text v (numbers_below 0 v.count) ws) (sym (taken here rest v.count many)) (elements_have v (domain_has v.domain parts.0) 0 v.count),
        subst (λ ws. AreVariablesOf text vs ws) (sym (dropped here rest v.count many)) (variables_have vs parts.1),
      )
