-- Where types and definitions have no fault, each definition has a meaning.
use Rattle.std.proofs.Common.{◌≡◌, inl, inr, ℕ, zero, suc, ◌+◌, ◌<◌, Bool, true, false, ◌||◌, if◌then◌else◌, List, [], ◌∷◌, ◌++◌, Some, length, map, flat_map, get_or, refl, sym, ap, ◌∙◌, arith}
use Rattle.std.specs.Prelude.{is_some, slice_get}
use Rattle.std.specs.List.{enumerate_from}
use Rattle.std.proofs.lemmas.List.{length-map, get_or-map}
use Rattle.std.proofs.lemmas.List.FromFn.{length-enumerate_from, get_or-enumerate_from}
use Rattle.std.proofs.lemmas.Option.{same_Some, slice_get_cases}
use Rattle.spectra_trees.specs.Faults.{Cycle, number_of}
use Rattle.spectra_resolved.specs.declared.spot.Spot.{Spot}
use Rattle.spectra_resolved.specs.declared.findings.Finding.{Finding}
use Rattle.spectra_resolved.specs.Findings.{precedes, with_faults}
use Rattle.spectra_resolved.specs.Texts.{ResolvedDefinition, ResolvedText}
use Rattle.spectra_judge.specs.Findings.{fault_if}
use Rattle.spectra_judge.specs.Judged.{kind_of}
use Rattle.spectra_uses.specs.Uses.{uses_in, all_uses}
use Rattle.spectra_bounds.specs.ByUses.{is_on_cycle}
use Rattle.spectra_bounds.specs.Numbers.{constants, is_faulty}
use Rattle.spectra_bounds.specs.Cycles.{on_cycles, cycle_faults}
use Rattle.spectra_notes.specs.Notes.{no_meaning, body_faults, known_inside, noted}
use Rattle.spectra_notes.proofs.Noting.{hole_is}
use Rattle.spectra_bodies.specs.Unmeant.{all_unmeant}
use Rattle.spectra_bodies.specs.Faults.{faults_of_types, faults_of_definitions, wrong_in, declared_faults}
use Rattle.spectra_bodies.specs.Laws.{RangesHaveNumbers, NoneGoesRound, EachHasAMeaning}

-- ---- lists without elements

pub both_empty : {X : Type 0} (xs ys : List X) → xs ++ ys ≡ [] → (xs ≡ []) × (ys ≡ [])
both_empty [] ys e = (refl, e)
both_empty (x ∷ xs) ys e = absurd (cc)

pub none_of : {X : Type 0} (g : X → List Finding) (xs : List X) (k : ℕ) (x : X) → flat_map g xs ≡ [] → slice_get xs k ≡ Some x → g x ≡ []
none_of g [] k x e there = absurd (cc)
none_of g (y ∷ xs) zero x e there = ap g (sym (same_Some y x there)) ∙ (both_empty (g y) (flat_map g xs) e).0
none_of g (y ∷ xs) (suc k) x e there = none_of g xs k x (both_empty (g y) (flat_map g xs) e).1 there

-- ---- nothing is wrong

still_some : (f : Finding) (fs : List Finding) → is_some (with_faults (Some f) fs) ≡ true
still_some f [] = refl
still_some f (g ∷ fs) = still_some (if precedes g f then g else f) fs

pub nothing_wrong : (fs others : List Finding) → (if is_faulty fs then fs else others) ≡ [] → fs ≡ []
nothing_wrong [] others e = refl
nothing_wrong (f ∷ fs) others e = sym (ap (λ b. if b then f ∷ fs else others) (still_some f fs)) ∙ e

pub definitions_right : (text : ResolvedText) → declared_faults text ≡ [] → faults_of_definitions text ≡ []
definitions_right text e = (both_empty (faults_of_types text) (faults_of_definitions text) (nothing_wrong (wrong_in text) (all_unmeant (constants text.definitions) text) e)).1

pub ranges_have_numbers : RangesHaveNumbers
ranges_have_numbers text e =
    let others = all_unmeant (constants text.definitions) text in
    sym (ap (λ (fs : List Finding). if is_faulty fs then fs else others) (nothing_wrong (wrong_in text) others e)) ∙ e

-- ---- cycles

unmarked : (b : Bool) (at : Spot) → fault_if b (number_of Cycle) at ≡ [] → b ≡ false
unmarked true at e = absurd (cc)
unmarked false at e = refl

pub none_marked : (marks : List Bool) (places : List Spot) (k : ℕ) → length marks ≡ length places → cycle_faults marks places ≡ [] → k < length marks → get_or marks k false ≡ false
none_marked [] places k same e below = absurd (omega arith)
none_marked (b ∷ marks) [] k same e below = absurd (omega arith)
none_marked (b ∷ marks) (at ∷ places) zero same e below = unmarked b at (both_empty (fault_if b (number_of Cycle) at) (cycle_faults marks places) e).0
none_marked (b ∷ marks) (at ∷ places) (suc k) same e below = none_marked marks places k (omega arith) (both_empty (fault_if b (number_of Cycle) at) (cycle_faults marks places) e).1 (omega arith)

pub mark_is : (uses : List (List ℕ)) (k : ℕ) → k < length uses → get_or (on_cycles uses) k false ≡ is_on_cycle uses k
mark_is uses k below =
    get_or-map (λ (u : ℕ × List ℕ). is_on_cycle uses u.0) (enumerate_from 0 uses) k (0, []) false (let long = length-enumerate_from 0 uses in omega arith)
    ∙ ap (λ (u : ℕ × List ℕ). is_on_cycle uses u.0) (get_or-enumerate_from 0 uses k (0, []) below)
    ∙ ap (is_on_cycle uses) zero_more
  where
    zero_more : zero + k ≡ k
    zero_more = omega arith

pub none_goes_round : NoneGoesRound
none_goes_round text e k below =
    let uses = all_uses text.definitions in
    let places = map (λ (d : ResolvedDefinition). d.name.at) text.definitions in
    let bodies = flat_map (λ (d : ResolvedDefinition). body_faults (known_inside text (noted text).defines d) d) text.definitions in
    let long : length uses ≡ length text.definitions = length-map text.definitions (λ (d : ResolvedDefinition). uses_in d.body) in
    let marks : length (on_cycles uses) ≡ length uses = length-map (enumerate_from 0 uses) _ ∙ length-enumerate_from 0 uses in
    let spots : length places ≡ length text.definitions = length-map text.definitions (λ (d : ResolvedDefinition). d.name.at) in
    sym (mark_is uses k (omega arith))
    ∙ none_marked (on_cycles uses) places k (omega arith) (both_empty (cycle_faults (on_cycles uses) places) bodies (definitions_right text e)).0 (omega arith)

-- ---- meanings

pub each_has_a_meaning : EachHasAMeaning
each_has_a_meaning text order ordered single e k below = elim ((slice_get_cases text.definitions k).1) [
  | inl there ↦ by there.0 there.2
  | inr past ↦ let ge = past.0 in absurd (omega arith)
]
  where
    by : (d : ResolvedDefinition) → slice_get text.definitions k ≡ Some d → get_or (noted text).holes k true ≡ false
    by d there =
        let uses = all_uses text.definitions in
        let known = known_inside text (noted text).defines d in
        let places = map (λ (d : ResolvedDefinition). d.name.at) text.definitions in
        let body = λ (d : ResolvedDefinition). body_faults (known_inside text (noted text).defines d) d in
        let right = none_of body text.definitions k d (both_empty (cycle_faults (on_cycles uses) places) (flat_map body text.definitions) (definitions_right text e)).1 there in
        let once = single k d there in
        let round = none_goes_round text e k below in
        hole_is text order ordered k d there
        ∙ (λ i. (if round i then no_meaning else (if once i || is_faulty (right i) then no_meaning else record { hole = false; kind = kind_of known d.body })).hole)
