-- Expressions of lines and of patterns' lines, without faults and with everything put in and written out, have typed formulas.
use Rattle.std.proofs.Common.{◌≡◌, ℕ, zero, suc, ◌+◌, ◌<◌, ◌≤◌, min, ℤ, true, false, List, [], ◌∷◌, ◌++◌, length, map, get_or, slice_get, option_map, Some, is_some, nat_lt, replicate, refl, sym, ap, subst, ◌∙◌, arith}
use Rattle.std.specs.Prelude.{sum}
use Rattle.std.specs.List.{list_all}
use Rattle.std.proofs.lemmas.Bool.{false≢true, and_parts, and_from}
use Rattle.std.proofs.lemmas.Bool.Decides.{nat_tests}
use Rattle.std.proofs.lemmas.List.{length-replicate}
use Rattle.std.proofs.Math.Nat.{min-le_left}
use Rattle.spec_model.specs.Syntax.{Variable}
use Rattle.spec_model.specs.Typing as model
use Rattle.spec_model.specs.Values.{DomainData, TruthValues}
use Rattle.spec_model.specs.WellTyped.{is_typed}
use Rattle.spectra_resolved.specs.declared.spot.Spot.{Spot}
use Rattle.spectra_resolved.specs.declared.spot.Mark.{Mark}
use Rattle.spectra_resolved.specs.declared.stand.Stand.{Stand}
use Rattle.spectra_resolved.specs.declared.stand.Stand.TheVariants as stand
use Rattle.spectra_resolved.specs.declared.tree.Leaf.{Leaf}
use Rattle.spectra_resolved.specs.declared.tree.Leaf.TheVariants as leaf
use Rattle.spectra_resolved.specs.Resolved.{ResolvedTree}
use Rattle.spectra_copies.specs.Copies.{written}
use Rattle.spectra_copies.specs.Numbers.{leaf_number}
use Rattle.spectra_judge.specs.Findings.{fault_if}
use Rattle.spectra_judge.specs.Kinds.{Kind, Truth, Whole, Anything, is_truth, is_whole, is_wide}
use Rattle.spectra_judge.specs.declared.standing.Bans.{Bans}
use Rattle.spectra_judge.specs.Standings.{bans_of, is_wanted}
use Rattle.spectra_judge.specs.Wanting.{wants_truth}
use Rattle.spectra_judge.specs.declared.around.Around.{Around}
use Rattle.spectra_judge.specs.Around.{nothing_open, in_bounds, own_faults}
use Rattle.spectra_judge.specs.Known.{Known, Setting, is_system}
use Rattle.spectra_judge.specs.Judged.{kind_of, leaf_kind, wrong, wide, first_of, leaf_faults, faults, faults_of}
use Rattle.spectra_judge.specs.PutIn.{Parts, is_put_in, line_leaf, in_line, pattern_leaf, in_pattern, domain_kind, has_room}
use Rattle.spectra_judge.proofs.Empty.{empty_parts, no_fault, right}
use Rattle.spectra_judge.proofs.Spans.{narrow, whole-narrow}
use Rattle.spectra_cases.specs.Formulas.{leaf_formula, formula_of}
use Rattle.spectra_cases.specs.Laws.{AreAlike, LineIsTyped, PatternIsTyped}
use Rattle.spectra_cases.proofs.Arrays.{array_inside}
use Rattle.spectra_cases.proofs.Bounded.{free_bounds, no_variable}
use Rattle.spectra_cases.proofs.KindsFit.{Fits, domain_fits}
use Rattle.spectra_cases.proofs.Typed.{IsOfKind, AreSound, sound, formula_truth}

-- ---- single parts

number_fits : (z : ℤ) (at : Spot) → wide (Whole z z) at ≡ [] → model.whole z z ≡ Some (model.Whole z z)
number_fits z at none = whole-narrow z z (narrow z z (no_fault (is_wide (Whole z z)) 14 at none))

below_is : (k n : ℕ) → nat_lt k n ≡ true → k < n
below_is k n is = grind (arith, nat_tests)

-- a name that is cut is one of so many all the more
cut_below : (n names : ℕ) → nat_lt n names ≡ true → nat_lt (min n 65_535) names ≡ true
cut_below n names is = let less : min n 65_535 ≤ n = min-le_left n 65_535 in grind (arith, nat_tests)

-- a variable's kind is that of its domain
variable_fits : (domains : List DomainData) → list_all has_room (map domain_kind domains) ≡ true → (k : ℕ) → k < length domains
    → Fits (get_or (map domain_kind domains) k Anything) (option_map model.kind_of_domain (slice_get domains k))
variable_fits [] room k below = absurd (omega arith)
variable_fits (d ∷ domains) room zero below = domain_fits d (and_parts (has_room (domain_kind d)) _ room).0
variable_fits (d ∷ domains) room (suc k) below = variable_fits domains (and_parts (has_room (domain_kind d)) _ room).1 k (omega arith)

-- and so it is where others stand before
own_fits : (before domains : List DomainData) → list_all has_room (map domain_kind domains) ≡ true → (j k : ℕ) → j ≡ length before + k → k < length domains
    → Fits (get_or (map domain_kind domains) k Anything) (option_map model.kind_of_domain (slice_get (before ++ domains) j))
own_fits [] domains room j k same below =
    let e : k ≡ j = omega arith in
    subst (λ i. Fits (get_or (map domain_kind domains) k Anything) (option_map model.kind_of_domain (slice_get domains i))) e (variable_fits domains room k below)
own_fits (d ∷ before) domains room zero k same below = absurd (omega arith)
own_fits (d ∷ before) domains room (suc j) k same below = own_fits before domains room j k (omega arith) below

parameter_fits : (params : ℕ) (own : List DomainData) (k : ℕ) → k < params
    → Fits (get_or (replicate params Truth) k Anything) (option_map model.kind_of_domain (slice_get (replicate params TruthValues ++ own) k))
parameter_fits zero own k below = absurd (omega arith)
parameter_fits (suc n) own zero below = refl
parameter_fits (suc n) own (suc k) below = parameter_fits n own k (omega arith)

module _ (known : Known) (names : ℕ) (bans : Bans) where
  abbrev s : Setting
  s = record { known = known; bans = bans }

  -- ---- in lines

  line_kind : (domains : List DomainData) → known.variables ≡ map domain_kind domains → list_all has_room (map domain_kind domains) ≡ true → (l : Leaf) (o : Around) (at : Mark)
      → line_leaf names (length domains) l ≡ true → leaf_faults s o at l ≡ [] → IsOfKind (record { domains = domains; tables = [] }) names o (leaf_kind known l) (leaf_formula 0 l)
  line_kind domains same room (leaf.Truth b) o at good none = record { fits = refl; stands = refl }
  line_kind domains same room (leaf.Number z) o at good none = record { fits = number_fits z at.spot none; stands = refl }
  line_kind domains same room (leaf.EnumName n) o at good none = record { fits = refl; stands = cut_below n names good }
  line_kind domains same room (leaf.Variable k) o at good none =
      record {
        fits = subst (λ ks. Fits (get_or ks k Anything) (option_map model.kind_of_domain (slice_get domains k))) (sym same) (variable_fits domains room k (below_is k (length domains) good));
        stands = refl;
      }
  line_kind domains same room (leaf.Parameter k) o at good none = absurd (false≢true good)
  line_kind domains same room (leaf.Own k) o at good none = absurd (false≢true good)
  line_kind domains same room (leaf.Define k) o at good none = absurd (false≢true good)
  line_kind domains same room (leaf.Bound spot) o at good none = absurd (false≢true good)
  line_kind domains same room (leaf.Hole h) o at good none = absurd (false≢true good)

  line_number : (variables : ℕ) (l : Leaf) (o : Around) (at : Mark) → line_leaf names variables l ≡ true → is_some o.bound ≡ true → leaf_faults s o at l ≡ [] → is_whole (leaf_kind known l) ≡ true
      → is_some (leaf_number [] l) ≡ true
  line_number variables (leaf.Truth b) o at good bound none whole = absurd (false≢true whole)
  line_number variables (leaf.Number z) o at good bound none whole = refl
  line_number variables (leaf.EnumName n) o at good bound none whole = absurd (false≢true whole)
  line_number variables (leaf.Variable k) o at good bound none whole = no_variable bans o at (is_system known k) bound none
  line_number variables (leaf.Parameter k) o at good bound none whole = absurd (false≢true good)
  line_number variables (leaf.Own k) o at good bound none whole = absurd (false≢true good)
  line_number variables (leaf.Define k) o at good bound none whole = absurd (false≢true good)
  line_number variables (leaf.Bound spot) o at good bound none whole = absurd (false≢true good)
  line_number variables (leaf.Hole h) o at good bound none whole = absurd (false≢true good)

  line_sound : (counts : List ℕ) (domains : List DomainData) → sum counts ≡ length domains → length domains ≤ 1024 → AreAlike counts known → known.variables ≡ map domain_kind domains
      → list_all has_room (map domain_kind domains) ≡ true → AreSound s (record { domains = domains; tables = [] }) names 0 (in_line names counts)
  line_sound counts domains long few alike same room =
      record {
        leaf = λ l o at good none. line_kind domains same room l o at (sym (λ i. line_leaf names (long i) l) ∙ good) none;
        number = λ l o at good bound none whole. line_number (sum counts) l o at good bound none whole;
        array = λ first n is.
            let inside = array_inside counts first n is in
            record {
              some = inside.some;
              few = omega (arith, inside.within, long, few);
              elements = λ i below.
                  let here : first + i < length domains = omega (arith, inside.within, long) in
                  subst (λ k. Fits k (option_map model.kind_of_domain (slice_get domains (first + i))))
                  (sym (λ j. get_or (same j) (first + i) Anything) ∙ (alike first n i is below).kind)
                  (variable_fits domains room (first + i) here);
            };
      }

  -- ---- in patterns

  pattern_kind : (params : ℕ) (own : List DomainData) → known.parameters ≡ replicate params Truth → known.own ≡ map domain_kind own → list_all has_room (map domain_kind own) ≡ true → (l : Leaf) (o : Around) (at : Mark)
      → pattern_leaf names params (length own) l ≡ true → leaf_faults s o at l ≡ []
      → IsOfKind (record { domains = replicate params TruthValues ++ own; tables = [] }) names o (leaf_kind known l) (leaf_formula params l)
  pattern_kind params own same same' room (leaf.Truth b) o at good none = record { fits = refl; stands = refl }
  pattern_kind params own same same' room (leaf.Number z) o at good none = record { fits = number_fits z at.spot none; stands = refl }
  pattern_kind params own same same' room (leaf.EnumName n) o at good none = record { fits = refl; stands = cut_below n names good }
  pattern_kind params own same same' room (leaf.Parameter k) o at good none =
      record {
        fits = subst (λ ks. Fits (get_or ks k Anything) (option_map model.kind_of_domain (slice_get (replicate params TruthValues ++ own) k))) (sym same) (parameter_fits params own k (below_is k params good));
        stands = refl;
      }
  pattern_kind params own same same' room (leaf.Own k) o at good none =
      let long : length (replicate params TruthValues) ≡ params = length-replicate params TruthValues in
      record {
        fits = subst (λ ks. Fits (get_or ks k Anything) (option_map model.kind_of_domain (slice_get (replicate params TruthValues ++ own) (params + k)))) (sym same')
            (own_fits (replicate params TruthValues) own room (params + k) k (omega arith) (below_is k (length own) good));
        stands = refl;
      }
  pattern_kind params own same same' room (leaf.Variable k) o at good none = absurd (false≢true good)
  pattern_kind params own same same' room (leaf.Define k) o at good none = absurd (false≢true good)
  pattern_kind params own same same' room (leaf.Bound spot) o at good none = absurd (false≢true good)
  pattern_kind params own same same' room (leaf.Hole h) o at good none = absurd (false≢true good)

  -- a parameter is a truth value
  parameter_truth : (params k : ℕ) → k < params → is_whole (get_or (replicate params Truth) k Anything) ≡ false
  parameter_truth zero k below = absurd (omega arith)
  parameter_truth (suc n) zero below = refl
  parameter_truth (suc n) (suc k) below = parameter_truth n k (omega arith)

  no_own : {P : Type 0} (o : Around) (at : Mark) → is_some o.bound ≡ true → own_faults bans o at ≡ [] → P
  no_own o at bound none = absurd (false≢true (sym (free_bounds true 9 o at bound (empty_parts (fault_if bans.variable 9 at.spot) (in_bounds true 9 o at) none).1)))

  pattern_number : (params own : ℕ) → known.parameters ≡ replicate params Truth → (l : Leaf) (o : Around) (at : Mark) → pattern_leaf names params own l ≡ true → is_some o.bound ≡ true → leaf_faults s o at l ≡ []
      → is_whole (leaf_kind known l) ≡ true → is_some (leaf_number [] l) ≡ true
  pattern_number params own same (leaf.Truth b) o at good bound none whole = absurd (false≢true whole)
  pattern_number params own same (leaf.Number z) o at good bound none whole = refl
  pattern_number params own same (leaf.EnumName n) o at good bound none whole = absurd (false≢true whole)
  pattern_number params own same (leaf.Parameter k) o at good bound none whole =
      absurd (false≢true (sym (parameter_truth params k (below_is k params good)) ∙ sym (λ i. is_whole (get_or (same i) k Anything)) ∙ whole))
  pattern_number params own same (leaf.Own k) o at good bound none whole = no_own o at bound none
  pattern_number params own same (leaf.Variable k) o at good bound none whole = absurd (false≢true good)
  pattern_number params own same (leaf.Define k) o at good bound none whole = absurd (false≢true good)
  pattern_number params own same (leaf.Bound spot) o at good bound none whole = absurd (false≢true good)
  pattern_number params own same (leaf.Hole h) o at good bound none whole = absurd (false≢true good)

  pattern_sound : (params : ℕ) (own : List DomainData) → known.parameters ≡ replicate params Truth → known.own ≡ map domain_kind own → list_all has_room (map domain_kind own) ≡ true
      → AreSound s (record { domains = replicate params TruthValues ++ own; tables = [] }) names params (in_pattern names params (length own))
  pattern_sound params own same same' room =
      record {
        leaf = pattern_kind params own same same' room;
        number = pattern_number params (length own) same;
        array = λ first n is. absurd (false≢true is);
      }

-- ---- whole expressions

wanted_truth : (at : Stand) (k : Kind) → wants_truth at ≡ true → is_wanted at k ≡ is_truth k
wanted_truth stand.InitialAssumption k wants = refl
wanted_truth stand.InitialGuarantee k wants = refl
wanted_truth stand.SafetyAssumption k wants = refl
wanted_truth stand.SafetyGuarantee k wants = refl
wanted_truth stand.Recurring k wants = refl
wanted_truth stand.Bound k wants = absurd (false≢true wants)
wanted_truth stand.Atom k wants = refl
wanted_truth stand.Argument k wants = refl
wanted_truth stand.PatternInitial k wants = refl
wanted_truth stand.PatternSafety k wants = refl
wanted_truth stand.PatternRecurring k wants = refl
wanted_truth stand.Define k wants = absurd (false≢true wants)
wanted_truth stand.Predicate k wants = refl

module _ (known : Known) (sc : model.Scope) (names params : ℕ) (good : Parts) (at : Stand) (t : ResolvedTree) where
  abbrev in_stand : Setting
  in_stand = record { known = known; bans = bans_of at }

  typed : AreSound in_stand sc names params good → wants_truth at ≡ true → is_put_in good t ≡ true → written [] [] t ≡ t → faults_of known at t ≡ [] → is_typed sc names (formula_of known params t) ≡ true
  typed parts_sound wants put out none =
      let parts = empty_parts (faults in_stand nothing_open t) (wrong (is_wanted at (kind_of known t)) (first_of t)) none in
      let truth : is_truth (kind_of known t) ≡ true = sym (wanted_truth at (kind_of known t) wants) ∙ right (is_wanted at (kind_of known t)) (first_of t) parts.1 in
      let is = formula_truth in_stand sc names params good parts_sound t (sound in_stand sc names params good parts_sound t) nothing_open put out parts.0 truth in
      and_from _ _ (ap model.is_truth is.kind) is.stands

pub line_is_typed : LineIsTyped
line_is_typed known names counts domains at t long few alike same room wants put out none =
    typed known (record { domains = domains; tables = [] }) names 0 (in_line names counts) at t (line_sound known names (bans_of at) counts domains long few alike same (sym (ap (list_all has_room) same) ∙ room)) wants put out none

pub pattern_is_typed : PatternIsTyped
pattern_is_typed known names params own at t same same' room wants put out none =
    typed known (record { domains = replicate params TruthValues ++ own; tables = [] }) names params (in_pattern names params (length own)) at t
    (pattern_sound known names (bans_of at) params own same same' (sym (ap (list_all has_room) same') ∙ room)) wants put out none
