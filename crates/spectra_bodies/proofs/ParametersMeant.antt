-- Where types and definitions have no fault, no parameter's type is without meaning.
use Rattle.std.proofs.Common.{◌≡◌, ◌⊎◌, inl, inr, ℕ, zero, suc, ◌<◌, nat_lt, Bool, true, false, List, [], ◌∷◌, ◌++◌, Some, length, map, flat_map, get_or, slice_get, option_map, unwrap_or, refl, sym, ap, subst, ◌∙◌, arith}
use Rattle.std.specs.List.{enumerate_from}
use Rattle.std.proofs.lemmas.Bool.{false≢true}
use Rattle.std.proofs.lemmas.Bool.Decides.{nat_tests}
use Rattle.std.proofs.lemmas.List.{length-map, get_or-map}
use Rattle.std.proofs.lemmas.List.FromFn.{length-enumerate_from}
use Rattle.std.proofs.lemmas.Option.{same_Some, slice_get-map, slice_get-get_or, slice_get_within}
use Rattle.spectra_resolved.specs.declared.spot.Spot.{Spot}
use Rattle.spectra_resolved.specs.declared.findings.Finding.{Finding}
use Rattle.spectra_resolved.specs.Texts.{ResolvedType, Booleans, RangeOf, EnumOf, TypeNumber, NoType, ResolvedVariable, ResolvedAlias, ResolvedDefinition, ResolvedPattern, ResolvedText}
use Rattle.spectra_judge.specs.Findings.{fault_if}
use Rattle.spectra_judge.specs.Kinds.{Anything}
use Rattle.spectra_holes.specs.Holed.{is_anything}
use Rattle.spectra_uses.specs.Cycles.{reaches}
use Rattle.spectra_uses.specs.Orders.{StandsBefore, IsUse, BothOnCycle}
use Rattle.spectra_bounds.specs.Numbers.{Constants, constants}
use Rattle.spectra_bounds.specs.Types.{meant_within, own_kind}
use Rattle.spectra_bounds.specs.Cycles.{on_cycles, type_uses, type_cycles}
use Rattle.spectra_notes.specs.TypeKinds.{kind_in}
use Rattle.spectra_bodies.specs.Unmeant.{unmeant, each_unmeant, all_unmeant}
use Rattle.spectra_bodies.specs.Faults.{basis_of, typed_faults, own_faults, faults_of_types, faults_of_definitions, wrong_in, declared_faults}
use Rattle.spectra_bodies.specs.Laws.{is_named, AreNamed, ParametersAreMeant}
use Rattle.spectra_bodies.proofs.Meaning.{both_empty, none_of, nothing_wrong, none_marked, mark_is, ranges_have_numbers}

right_if : (b : Bool) (number : ℕ) (at : Spot) → fault_if b number at ≡ [] → b ≡ false
right_if true number at e = absurd (cc)
right_if false number at e = refl

found : {X : Type 0} (xs : List X) (k : ℕ) → k < length xs → (x : X) × (slice_get xs k ≡ Some x)
found [] k below = absurd (omega arith)
found (x ∷ xs) zero below = (x, refl)
found (x ∷ xs) (suc k) below = found xs k (omega arith)

-- ---- the kinds of parameters

module _ (text : ResolvedText) where
  params_of : (ts : List ResolvedType) → ((i : ℕ) (t : ResolvedType) → slice_get ts i ≡ Some t → is_anything (kind_in text t) ≡ false)
      → (place : ℕ) → place < length (map (kind_in text) ts) → is_anything (get_or (map (kind_in text) ts) place Anything) ≡ false
  params_of [] each place below = absurd (omega arith)
  params_of (t ∷ ts) each zero below = each 0 t refl
  params_of (t ∷ ts) each (suc i) below = params_of ts (λ j. each (suc j)) i (omega arith)

  pub kinds_of : (ds : List ResolvedDefinition) → ((k : ℕ) (d : ResolvedDefinition) → slice_get ds k ≡ Some d → (i : ℕ) (t : ResolvedType) → slice_get d.params i ≡ Some t → is_anything (kind_in text t) ≡ false)
      → (k place : ℕ) → place < length (get_or (map (λ (d : ResolvedDefinition). map (kind_in text) d.params) ds) k [])
      → is_anything (get_or (get_or (map (λ (d : ResolvedDefinition). map (kind_in text) d.params) ds) k []) place Anything) ≡ false
  kinds_of [] each zero place below = absurd (omega arith)
  kinds_of [] each (suc k) place below = absurd (omega arith)
  kinds_of (d ∷ ds) each zero place below = params_of d.params (each 0 d refl) place below
  kinds_of (d ∷ ds) each (suc k) place below = kinds_of ds (λ j. each (suc j)) k place below

  pub counts_of : (ds : List ResolvedDefinition) (k : ℕ) → length (get_or (map (λ (d : ResolvedDefinition). map (kind_in text) d.params) ds) k []) ≡ get_or (map (λ (d : ResolvedDefinition). length d.params) ds) k 0
  counts_of [] zero = refl
  counts_of [] (suc k) = refl
  counts_of (d ∷ ds) zero = length-map d.params (kind_in text)
  counts_of (d ∷ ds) (suc k) = counts_of ds k

-- ---- types

module _ (text : ResolvedText) (order : List ℕ) (named : AreNamed text order) (e : declared_faults text ≡ []) where
  abbrev numbers : Constants
  numbers = constants text.definitions

  abbrev uses : List (List ℕ)
  uses = map (λ (a : ResolvedAlias). type_uses a.body) text.types

  -- a type stands for something
  abbrev IsMeant : ResolvedType → Type 0
  IsMeant t = is_anything (own_kind numbers t) ≡ false

  wrong : wrong_in text ≡ []
  wrong = nothing_wrong (wrong_in text) (all_unmeant numbers text) e

  right : all_unmeant numbers text ≡ []
  right = ranges_have_numbers text e

  abbrev of_variables : List Finding
  of_variables = flat_map (λ (v : ResolvedVariable). unmeant numbers v.domain) text.variables

  abbrev of_types : List Finding
  of_types = flat_map (λ (a : ResolvedAlias). unmeant numbers a.body) text.types

  abbrev of_params : List Finding
  of_params = flat_map (λ (d : ResolvedDefinition). each_unmeant numbers d.params) text.definitions

  abbrev of_patterns : List Finding
  of_patterns = flat_map (λ (p : ResolvedPattern). each_unmeant numbers p.own) text.patterns

  later : of_types ++ (of_params ++ of_patterns) ≡ []
  later = (both_empty of_variables (of_types ++ (of_params ++ of_patterns)) right).1

  alias_right : (k : ℕ) (a : ResolvedAlias) → slice_get text.types k ≡ Some a → unmeant numbers a.body ≡ []
  alias_right k a there = none_of (λ (a : ResolvedAlias). unmeant numbers a.body) text.types k a (both_empty of_types (of_params ++ of_patterns) later).0 there

  param_right : (k : ℕ) (d : ResolvedDefinition) → slice_get text.definitions k ≡ Some d → (i : ℕ) (t : ResolvedType) → slice_get d.params i ≡ Some t → unmeant numbers t ≡ []
  param_right k d there i t there' =
      let params = (both_empty of_params of_patterns (both_empty of_types (of_params ++ of_patterns) later).1).0 in
      none_of (unmeant numbers) d.params i t (none_of (λ (d : ResolvedDefinition). each_unmeant numbers d.params) text.definitions k d params there) there'

  none_round : (k : ℕ) → k < length text.types → reaches uses (length text.types) k k ≡ false
  none_round k below =
      let places = map (λ (a : ResolvedAlias). a.name.at) text.types in
      let long : length uses ≡ length text.types = length-map text.types (λ (a : ResolvedAlias). type_uses a.body) in
      let marks : length (on_cycles uses) ≡ length uses = length-map (enumerate_from 0 uses) _ ∙ length-enumerate_from 0 uses in
      let spots : length places ≡ length text.types = length-map text.types (λ (a : ResolvedAlias). a.name.at) in
      let patterns = flat_map (own_faults text) text.patterns in
      let types = (both_empty (faults_of_types text) (faults_of_definitions text) wrong).0 in
      let cycles = (both_empty patterns (type_cycles text.types) (both_empty (typed_faults (basis_of text) text) (patterns ++ type_cycles text.types) types).1).1 in
      (λ i. reaches uses (sym long i) k k)
      ∙ sym (mark_is uses k (omega (arith, below, long)))
      ∙ none_marked (on_cycles uses) places k (omega (arith, long, marks, spots)) cycles (omega (arith, below, long, marks))

  -- ---- names of types, along the order

  by_type : (steps : ℕ) (t : ResolvedType) → is_named (length text.types) t ≡ true → unmeant numbers t ≡ []
      → ((k : ℕ) → t ≡ TypeNumber k → IsMeant (meant_within steps text.types (TypeNumber k))) → IsMeant (meant_within steps text.types t)
  by_type steps Booleans n u names = refl
  by_type steps (RangeOf at low high) n u names = right_if _ _ at u
  by_type steps (EnumOf all) n u names = refl
  by_type steps (TypeNumber k) n u names = names k refl
  by_type steps NoType n u names = absurd (false≢true n)

  step : (steps k : ℕ) (a : ResolvedAlias) → slice_get text.types k ≡ Some a → StandsBefore order (suc steps) k
      → ((u : ℕ) → StandsBefore order steps u → IsMeant (meant_within steps text.types (TypeNumber u))) → IsMeant (meant_within (suc steps) text.types (TypeNumber k))
  step steps k a there stands less =
      let below = slice_get_within text.types k a there in
      let same = same_Some (get_or text.types k a) a (sym (slice_get-get_or text.types k a below) ∙ there) in
      let is : get_or (map (λ (a : ResolvedAlias). a.body) text.types) k NoType ≡ a.body = get_or-map (λ (a : ResolvedAlias). a.body) text.types k a NoType below ∙ ap (λ (a : ResolvedAlias). a.body) same in
      subst (λ t. IsMeant (meant_within steps text.types t)) (sym is) (by_type steps a.body (named.aliases k a there) (alias_right k a there) next)
    where
      next : (u : ℕ) → a.body ≡ TypeNumber u → IsMeant (meant_within steps text.types (TypeNumber u))
      next u is =
          let own = slice_get-map (λ (a : ResolvedAlias). type_uses a.body) text.types k ∙ ap (option_map (λ (a : ResolvedAlias). type_uses a.body)) there in
          let use' : IsUse uses k u = record { at = 0; there = ap (λ us. slice_get (unwrap_or us []) 0) own ∙ ap (λ t. slice_get (type_uses t) 0) is } in
          let test : nat_lt u (length text.types) ≡ true = ap (is_named (length text.types)) (sym is) ∙ named.aliases k a there in
          let small : u < length text.types = grind (arith, nat_tests) in
          by (named.ordered.behind stands.at k u stands.there use' small)
        where
          by : StandsBefore order stands.at u ⊎ BothOnCycle uses (length text.types) k u → IsMeant (meant_within steps text.types (TypeNumber u))
          by (inl earlier) =
              let first = earlier.before in
              let last = stands.before in
              less u (record { at = earlier.at; before = omega (arith, first, last); there = earlier.there })
          by (inr both) = absurd (false≢true (sym (none_round k (slice_get_within text.types k a there)) ∙ both.user_is))

  chain : (steps k : ℕ) → StandsBefore order steps k → IsMeant (meant_within steps text.types (TypeNumber k))
  chain zero k stands = let before = stands.before in absurd (omega (arith, before))
  chain (suc steps) k stands =
      let there = found text.types k (named.ordered.within stands.at k stands.there) in
      step steps k there.0 there.1 stands (λ u earlier. chain steps u earlier)

  all_meant : (t : ResolvedType) → is_named (length text.types) t ≡ true → unmeant numbers t ≡ [] → is_anything (kind_in text t) ≡ false
  all_meant t n u = by_type (length text.types) t n u names
    where
      names : (k : ℕ) → t ≡ TypeNumber k → IsMeant (meant_within (length text.types) text.types (TypeNumber k))
      names k is =
          let test : nat_lt k (length text.types) ≡ true = ap (is_named (length text.types)) (sym is) ∙ n in
          let small : k < length text.types = grind (arith, nat_tests) in
          chain (length text.types) k (subst (λ m. StandsBefore order m k) named.ordered.size (named.ordered.whole k small))

pub parameters_are_meant : ParametersAreMeant
parameters_are_meant text order named e =
    record {
      counts = counts_of text text.definitions;
      kinds = kinds_of text text.definitions (λ k d there i t there'. all_meant text order named e t (named.params k d there i t there') (param_right text order named e k d there i t there'));
    }
