-- Names of types that don't go round stand for types with domains.
use Rattle.std.proofs.Common.{◌≡◌, ℕ, zero, suc, ◌+◌, ◌<◌, ℤ, pos, ◌-ℤ◌, ◌<ℤ◌, nat_lt, Bool, true, false, not, if◌then◌else◌, List, [], ◌∷◌, Option, Some, None, is_some, length, map, get_or, unwrap_or, slice_get, refl, sym, ap, ◌∙◌, arith}
use Rattle.std.specs.Prelude.{int_le, int_lt}
use Rattle.std.specs.List.{list_all, enumerate_from}
use Rattle.std.proofs.lemmas.Int.{ints}
use Rattle.std.proofs.lemmas.Bool.{false≢true, and_parts, and_from}
use Rattle.std.proofs.lemmas.Bool.Decides.{nat_tests}
use Rattle.std.proofs.lemmas.List.{get_or-map, length-map}
use Rattle.std.proofs.lemmas.List.FromFn.{length-enumerate_from, get_or-enumerate_from}
use Rattle.spectra_trees.specs.Faults.{Cycle, number_of}
use Rattle.spectra_resolved.specs.declared.spot.Spot.{Spot}
use Rattle.spectra_resolved.specs.declared.stand.Stand.TheVariants as stand
use Rattle.spectra_resolved.specs.Resolved.{ResolvedTree}
use Rattle.spectra_resolved.specs.Texts.{ResolvedType, Booleans, RangeOf, EnumOf, TypeNumber, NoType, ResolvedAlias, ResolvedDefinition}
use Rattle.spectra_judge.specs.Findings.{fault_if}
use Rattle.spectra_judge.specs.Kinds.{Whole, Anything}
use Rattle.spectra_judge.proofs.Empty.{empty_parts, no_fault}
use Rattle.spectra_judge.proofs.Spans.{IsNear, whole-narrow}
use Rattle.spectra_bounds.specs.ByUses.{is_on_cycle}
use Rattle.spectra_bounds.specs.Numbers.{Constants, constants, sound_number}
use Rattle.spectra_bounds.specs.Types.{is_range, range_kind, meant_within, own_kind, type_kind}
use Rattle.spectra_bounds.specs.Cycles.{on_cycles, cycle_faults, type_uses, type_cycles}
use Rattle.spectra_ranks.specs.Laws.{NoneGoesRound}
use Rattle.spectra_ranks.proofs.Ranks.{rank, rank_below, rank_falls}
use Rattle.spectra_meant.specs.Laws.{is_anything, is_declared_type, is_domain_kind, TypesAreMeant}
use Rattle.spectra_meant.proofs.Numbers.{bound_near}

-- ---- none goes round

none_marked : (marks : List Bool) (places : List Spot) (k : ℕ) → length marks ≡ length places → cycle_faults marks places ≡ [] → k < length marks → get_or marks k false ≡ false
none_marked [] places k same e below = absurd (omega (arith, below))
none_marked (b ∷ marks) [] k same e below = absurd (omega (arith, same))
none_marked (b ∷ marks) (at ∷ places) zero same e below = no_fault b (number_of Cycle) at (empty_parts (fault_if b (number_of Cycle) at) (cycle_faults marks places) e).0
none_marked (b ∷ marks) (at ∷ places) (suc k) same e below = none_marked marks places k (omega (arith, same)) (empty_parts (fault_if b (number_of Cycle) at) (cycle_faults marks places) e).1 (omega (arith, below))

mark_is : (uses : List (List ℕ)) (k : ℕ) → k < length uses → get_or (on_cycles uses) k false ≡ is_on_cycle uses k
mark_is uses k below =
    get_or-map (λ (u : ℕ × List ℕ). is_on_cycle uses u.0) (enumerate_from 0 uses) k (0, []) false (let long = length-enumerate_from 0 uses in omega (arith, long, below))
    ∙ ap (λ (u : ℕ × List ℕ). is_on_cycle uses u.0) (get_or-enumerate_from 0 uses k (0, []) below)
    ∙ ap (is_on_cycle uses) zero_more
  where
    zero_more : zero + k ≡ k
    zero_more = omega arith

abbrev uses_of : List ResolvedAlias → List (List ℕ)
uses_of types = map (λ (a : ResolvedAlias). type_uses a.body) types

none_round : (types : List ResolvedAlias) → type_cycles types ≡ [] → NoneGoesRound (uses_of types)
none_round types none k below =
    let uses = uses_of types in
    let places = map (λ (a : ResolvedAlias). a.name.at) types in
    let long : length uses ≡ length types = length-map types (λ (a : ResolvedAlias). type_uses a.body) in
    let marks : length (on_cycles uses) ≡ length uses = length-map (enumerate_from 0 uses) _ ∙ length-enumerate_from 0 uses in
    let spots : length places ≡ length types = length-map types (λ (a : ResolvedAlias). a.name.at) in
    sym (mark_is uses k below) ∙ none_marked (on_cycles uses) places k (omega (arith, long, marks, spots)) none (omega (arith, marks, below))

-- ---- declared types

abbrev body_at : List ResolvedAlias → ℕ → ResolvedType
body_at types k = get_or (map (λ (a : ResolvedAlias). a.body) types) k NoType

body_declared : (p : ResolvedType → Bool) (types : List ResolvedAlias) (k : ℕ) → k < length types → list_all (λ (a : ResolvedAlias). p a.body) types ≡ true → p (body_at types k) ≡ true
body_declared p [] k below all = absurd (omega (arith, below))
body_declared p (a ∷ types) zero below all = (and_parts (p a.body) _ all).0
body_declared p (a ∷ types) (suc k) below all = body_declared p types k (omega (arith, below)) (and_parts (p a.body) _ all).1

uses_at : (types : List ResolvedAlias) (k : ℕ) → k < length types → unwrap_or (slice_get (uses_of types) k) [] ≡ type_uses (body_at types k)
uses_at [] k below = absurd (omega (arith, below))
uses_at (a ∷ types) zero below = refl
uses_at (a ∷ types) (suc k) below = uses_at types k (omega (arith, below))

-- ---- ranges

pub range_domain : (names : ℕ) (a b : Option ℤ) → ((x : ℤ) → a ≡ Some x → IsNear x) → ((y : ℤ) → b ≡ Some y → IsNear y) → not (is_anything (range_kind a b)) ≡ true → is_domain_kind names (range_kind a b) ≡ true
range_domain names (Some x) None p q is = absurd (false≢true is)
range_domain names None b p q is = absurd (false≢true is)
range_domain names (Some x) (Some y) p q is = by (is_range x y) refl is
  where
    by : (b : Bool) → is_range x y ≡ b → not (is_anything (if b then Whole x y else Anything)) ≡ true → is_domain_kind names (if b then Whole x y else Anything) ≡ true
    by false range is = absurd (false≢true is)
    by true range is =
        let parts = and_parts (int_le x y) (int_lt (y -ℤ x) (pos 4096)) range in
        let few = parts.1 in
        let close : (y -ℤ x) <ℤ pos 4096 = grind (arith, ints) in
        and_from _ _ parts.0 (ap is_some (whole-narrow x y (record { low_near = p x refl; high_near = q y refl; close = close })))

module _ (ds : List ResolvedDefinition) (names : ℕ) (types : List ResolvedAlias) (round : type_cycles types ≡ []) (all : list_all (λ (a : ResolvedAlias). is_declared_type (constants ds) names (length types) a.body) types ≡ true) where
  abbrev c : Constants
  c = constants ds

  abbrev IsMeant : ResolvedType → Type 0
  IsMeant t = is_domain_kind names (own_kind c t) ≡ true

  range_meant : (at : Spot) (low high : ResolvedTree) → not (is_anything (own_kind c (RangeOf at low high))) ≡ true → IsMeant (RangeOf at low high)
  range_meant at low high is =
      range_domain names (sound_number c stand.Bound low) (sound_number c stand.Bound high) (λ x e. bound_near ds stand.Bound low x e) (λ y e. bound_near ds stand.Bound high y e) is

  count : length (uses_of types) ≡ length types
  count = length-map types (λ (a : ResolvedAlias). type_uses a.body)

  below : (k : ℕ) → nat_lt k (length types) ≡ true → k < length types
  below k is = grind (arith, nat_tests)

  meant_at : (steps k : ℕ) → k < length types → rank (uses_of types) k < steps → IsMeant (meant_within steps types (TypeNumber k))
  meant_at zero k low few = absurd (omega (arith, few))
  meant_at (suc steps) k low few = by (λ j there lower. meant_at steps j there lower) (body_at types k) refl (body_declared (is_declared_type c names (length types)) types k low all)
    where
      by : ((j : ℕ) → j < length types → rank (uses_of types) j < steps → IsMeant (meant_within steps types (TypeNumber j))) → (t : ResolvedType) → body_at types k ≡ t → is_declared_type c names (length types) (body_at types k) ≡ true → IsMeant (meant_within steps types (body_at types k))
      by rest Booleans at is = ap (λ t. is_domain_kind names (own_kind c (meant_within steps types t))) at
      by rest (RangeOf spot low' high) at is =
          ap (λ t. is_domain_kind names (own_kind c (meant_within steps types t))) at ∙ range_meant spot low' high (sym (ap (is_declared_type c names (length types)) at) ∙ is)
      by rest (EnumOf ns) at is = ap (λ t. is_domain_kind names (own_kind c (meant_within steps types t))) at ∙ sym (ap (is_declared_type c names (length types)) at) ∙ is
      by rest NoType at is = absurd (false≢true (sym (ap (is_declared_type c names (length types)) at) ∙ is))
      by rest (TypeNumber j) at is =
          let there = below j (sym (ap (is_declared_type c names (length types)) at) ∙ is) in
          let use' : slice_get (unwrap_or (slice_get (uses_of types) k) []) 0 ≡ Some j = (λ i. slice_get ((uses_at types k low ∙ ap type_uses at) i) 0) in
          let long = count in
          let falls = rank_falls (uses_of types) (none_round types round) k j 0 use' (omega (arith, there, long)) in
          ap (λ t. is_domain_kind names (own_kind c (meant_within steps types t))) at ∙ rest j there (omega (arith, falls, few))

  meant : (t : ResolvedType) → is_declared_type c names (length types) t ≡ true → is_domain_kind names (type_kind c types t) ≡ true
  meant Booleans is = refl
  meant (RangeOf at low high) is = range_meant at low high is
  meant (EnumOf ns) is = is
  meant NoType is = absurd (false≢true is)
  meant (TypeNumber k) is =
      let there = below k is in
      let long = count in
      let few = rank_below (uses_of types) (none_round types round) k (omega (arith, there, long)) in
      meant_at (length types) k there (omega (arith, few, long))

pub types_meant : TypesAreMeant
types_meant ds names types round all t is = meant ds names types round all t is
