-- Regular expressions: their parts, and triggers without faults, which are well typed.
use Rattle.std.proofs.Common.{if◌then◌else◌, ◌≡◌, ◌≤◌, ◌<◌, ◌+◌, drop, get_or, ℕ, ℤ, pos, negsuc, nat_abs, Bool, true, false, ◌&&◌, nat_le, List, [], ◌∷◌, sum, Option, Some, None, length, map, option_map, refl, sym, ap, subst, ◌∙◌, arith}
use Rattle.std.specs.Prelude.{int_le}
use Rattle.std.specs.List.{list_all}
use Rattle.std.proofs.lemmas.Bool.{false≢true, and_parts, and_from, not_from_false}
use Rattle.std.proofs.lemmas.Bool.Decides.{nat_tests}
use Rattle.std.proofs.lemmas.List.Folds.{list_all-append}
use Rattle.std.proofs.lemmas.List.{length-map}
use borrow.Author.Tests.{leb-true}
use Rattle.spec_model.specs.Values.{DomainData}
use Rattle.spec_model.specs.Moves.{has_next}
use Rattle.spec_model.specs.Syntax as model
use Rattle.spec_model.specs.Syntax.{Regular, Regulars, TriggerData, Specification}
use Rattle.spec_model.specs.Sizes.{atoms_of, atoms_of_all}
use Rattle.spec_model.specs.TriggerStates.{written, brackets, trigger_atoms, trigger_states}
use Rattle.spec_model.specs.WellTyped as typed
use Rattle.spec_model.specs.WellTyped.{positions_in, repeats_well, each_repeats_well, is_typed_state, is_typed_side, scope_of_specification}
use Rattle.trigger_dfa.specs.Narrow.{IsNarrow}
use Rattle.trigger_dfa.proofs.TypedTriggers.{size-positions}
use Rattle.trigger_dfa.proofs.PositionCounts.{size-written}
use Rattle.spectra_resolved.specs.declared.findings.Finding.{Finding}
use Rattle.spectra_resolved.specs.declared.stand.Stand.TheVariants as stand
use Rattle.spectra_resolved.specs.declared.tree.Times.{Times}
use Rattle.spectra_resolved.specs.declared.tree.Regex.{Regex}
use Rattle.spectra_resolved.specs.Resolved.{ResolvedTree, ResolvedRegex, Atom, Sequence, Choice, Repetition, ResolvedRegexes}
use Rattle.spectra_resolved.specs.Chained.{regexes, repeated}
use Rattle.spectra_resolved.specs.Views.{regex_data}
use Rattle.spectra_judge.specs.Known.{Known}
use Rattle.spectra_judge.specs.Judged.{faults_of}
use Rattle.spectra_judge.specs.PutIn.{is_put_in, in_line, domain_kind, has_room}
use Rattle.spectra_resolved.specs.Findings.{with_faults}
use Rattle.spectra_resolved.proofs.First.{with_faults_append}
use Rattle.spectra_judge.proofs.Empty.{empty_parts}
use Rattle.spectra_judge.proofs.Lists.{mapped_left}
use Rattle.spectra_cases.specs.Formulas.{formula_of}
use Rattle.spectra_cases.specs.Laws.{IsWrittenOut, AreAlike}
use Rattle.spectra_cases.proofs.Lines.{line_is_typed}
use Rattle.spectra_cases.proofs.Bans.{line_keeps_bans}
use Rattle.spectra_patterns.specs.Triggers.{is_count, count_of, are_counts, counts_well, each_counts_well, regular_of, regulars_of, trigger_of, is_narrow}
use Rattle.spectra_patterns.specs.TriggerParts.{atom_faults, each_atom_faults, regex_put_in, each_regex_put_in, RegexIsWrittenOut, EachIsWrittenOut, with_repeats}
use Rattle.spectra_patterns.specs.Laws.{TriggerIsTyped, has_choices, each_has_choices, has_some, IsFaultless}

-- ---- parts

and-turned : (a b c : Bool) → (a && (b && c)) ≡ ((b && a) && c)
and-turned true true c = refl
and-turned true false c = refl
and-turned false true c = refl
and-turned false false c = refl

and-nil : (b : Bool) → b ≡ (true && b)
and-nil b = refl

-- repeats behind a part
pub counts_repeated : (r : ResolvedRegex) (ts : List Times) → counts_well (repeated r ts) ≡ (list_all (λ (t : Times). are_counts t.least t.most) ts && counts_well r)
counts_repeated r [] = refl
counts_repeated r (t ∷ ts) =
    counts_repeated (Repetition r t) ts ∙ and-turned (list_all (λ (t : Times). are_counts t.least t.most) ts) (are_counts t.least t.most) (counts_well r)

pub faults_repeated : (known : Known) (r : ResolvedRegex) (ts : List Times) → atom_faults known (repeated r ts) ≡ atom_faults known r
faults_repeated known r [] = refl
faults_repeated known r (t ∷ ts) = faults_repeated known (Repetition r t) ts

pub regular_repeated : (known : Known) (r : ResolvedRegex) (ts : List Times) → regular_of known (repeated r ts) ≡ with_repeats (regular_of known r) ts
regular_repeated known r [] = refl
regular_repeated known r (t ∷ ts) = regular_repeated known (Repetition r t) ts

-- ---- limits

narrow_is : (t : TriggerData) → IsNarrow t → is_narrow t ≡ true
narrow_is t is = by is.atoms is.cause is.effect is.states
  where
    by : length (trigger_atoms t) ≤ 8 → length (brackets (written t.cause)) ≤ 64 → length (brackets (written t.effect)) ≤ 64 → trigger_states t ≤ 256 → is_narrow t ≡ true
    by a b c d = and_from _ _ (few _ 8 a) (and_from _ _ (few _ 64 b) (and_from _ _ (few _ 64 c) (few _ 256 d)))
      where
        few : (m n : ℕ) → m ≤ n → nat_le m n ≡ true
        few m n less = grind (arith, nat_tests)

pub narrow_yes : (t : TriggerData) → IsNarrow t → true ≡ is_narrow t
narrow_yes t is = sym (narrow_is t is)

pub narrow_no : (t : TriggerData) → (IsNarrow t → ⊥) → false ≡ is_narrow t
narrow_no t not_so = by (is_narrow t) refl
  where
    by : (b : Bool) → is_narrow t ≡ b → false ≡ b
    by false e = refl
    by true e =
        let one = and_parts (nat_le (length (trigger_atoms t)) 8) _ e in
        let two = and_parts (nat_le (length (brackets (written t.cause))) 64) _ one.1 in
        let three = and_parts (nat_le (length (brackets (written t.effect))) 64) (nat_le (trigger_states t) 256) two.1 in
        absurd (not_so (record {
          atoms = leb-true (length (trigger_atoms t)) 8 one.0;
          cause = leb-true (length (brackets (written t.cause))) 64 two.0;
          effect = leb-true (length (brackets (written t.effect))) 64 three.0;
          states = leb-true (trigger_states t) 256 three.1;
        }))

-- ---- repeats of the specification

count_is : (z : ℤ) → is_count z ≡ true → count_of z ≡ nat_abs z
count_is z is = λ i. if is i then nat_abs z else 0

count_abs : (z : ℤ) → is_count z ≡ true → nat_le (nat_abs z) 256 ≡ true
count_abs (pos n) is = (and_parts (int_le (pos 0) (pos n)) (int_le (pos n) (pos 256)) is).1
count_abs (negsuc n) is = absurd (false≢true is)

few : (z : ℤ) → is_count z ≡ true → nat_le (count_of z) 256 ≡ true
few z is = subst (λ n. nat_le n 256 ≡ true) (sym (count_is z is)) (count_abs z is)

ordered_abs : (y z : ℤ) → is_count y ≡ true → is_count z ≡ true → int_le y z ≡ true → nat_le (nat_abs y) (nat_abs z) ≡ true
ordered_abs (pos m) (pos n) is is' less = less
ordered_abs (pos m) (negsuc n) is is' less = absurd (false≢true is')
ordered_abs (negsuc m) z is is' less = absurd (false≢true is)

ordered : (y z : ℤ) → is_count y ≡ true → is_count z ≡ true → int_le y z ≡ true → nat_le (count_of y) (count_of z) ≡ true
ordered y z is is' less = (λ i. nat_le (count_is y is i) (count_is z is' i)) ∙ ordered_abs y z is is' less

repeat_well : (r : Regular) (least : ℤ) (most : Option ℤ) → are_counts least most ≡ true → repeats_well r ≡ true → repeats_well (model.Repetition r (count_of least) (option_map count_of most)) ≡ true
repeat_well r least None is well = and_from _ _ (few least is) well
repeat_well r least (Some most) is well =
    let one = and_parts (is_count least) (is_count most && int_le least most) is in
    let two = and_parts (is_count most) (int_le least most) one.1 in
    and_from _ _ (ordered least most one.0 two.0 two.1) (and_from _ _ (few most two.0) well)

some_is : (known : Known) (rs : ResolvedRegexes) → has_some rs ≡ typed.has_some (regulars_of known rs)
some_is known ResolvedRegexes.none = refl
some_is known (ResolvedRegexes.one_more r rs) = refl

module _ (known : Known) where
  mutual
    well : (r : ResolvedRegex) → has_choices r ≡ true → counts_well r ≡ true → repeats_well (regular_of known r) ≡ true
    well (Atom t) some counts = refl
    well (Sequence rs) some counts = each_well rs some counts
    well (Choice rs) some counts =
        let parts = and_parts (has_some rs) (each_has_choices rs) some in and_from _ _ (sym (some_is known rs) ∙ parts.0) (each_well rs parts.1 counts)
    well (Repetition r times) some counts =
        let parts = and_parts (are_counts times.least times.most) (counts_well r) counts in repeat_well (regular_of known r) times.least times.most parts.0 (well r some parts.1)

    each_well : (rs : ResolvedRegexes) → each_has_choices rs ≡ true → each_counts_well rs ≡ true → each_repeats_well (regulars_of known rs) ≡ true
    each_well ResolvedRegexes.none some counts = refl
    each_well (ResolvedRegexes.one_more r rs) some counts =
        let choices = and_parts (has_choices r) (each_has_choices rs) some in
        let parts = and_parts (counts_well r) (each_counts_well rs) counts in
        and_from _ _ (well r choices.0 parts.0) (each_well rs choices.1 parts.1)

-- ---- brackets of the specification

module _ (s : Specification) (counts : List ℕ) (known : Known) (size : sum counts ≡ length s.variables) (few_variables : length s.variables ≤ 1024) (alike : AreAlike counts known) (same : known.variables ≡ map (λ v. domain_kind v.domain) s.variables) (room : list_all has_room known.variables ≡ true) where
  abbrev names : ℕ
  names = length s.names

  abbrev domains : List DomainData
  domains = map (λ v. v.domain) s.variables

  map-twice : (vs : List model.VariableData) → map (λ (v : model.VariableData). domain_kind v.domain) vs ≡ map domain_kind (map (λ (v : model.VariableData). v.domain) vs)
  map-twice [] = refl
  map-twice (v ∷ vs) = ap (λ ks. domain_kind v.domain ∷ ks) (map-twice vs)

  atom_typed : (t : ResolvedTree) → is_put_in (in_line names counts) t ≡ true → IsWrittenOut t → faults_of known stand.Atom t ≡ [] → is_typed_state (scope_of_specification s) names (formula_of known 0 t) ≡ true
  atom_typed t put out none =
      let long = length-map s.variables (λ v. v.domain) in
      and_from _ _ (line_is_typed known names counts domains stand.Atom t (size ∙ sym long) (subst (λ n. n ≤ 1024) (sym long) few_variables) alike (same ∙ map-twice s.variables) room refl put out none)
      (not_from_false (has_next (formula_of known 0 t)) ((line_keeps_bans known names counts stand.Atom t alike put none).next refl))

  mutual
    atoms_typed : (r : ResolvedRegex) → regex_put_in (in_line names counts) r ≡ true → RegexIsWrittenOut r → atom_faults known r ≡ []
        → list_all (is_typed_state (scope_of_specification s) names) (atoms_of (regular_of known r)) ≡ true
    atoms_typed (Atom t) put out none = and_from _ _ (atom_typed t put out none) refl
    atoms_typed (Sequence rs) put out none = all_atoms_typed rs put out none
    atoms_typed (Choice rs) put out none = all_atoms_typed rs put out none
    atoms_typed (Repetition r times) put out none = atoms_typed r put out none

    all_atoms_typed : (rs : ResolvedRegexes) → each_regex_put_in (in_line names counts) rs ≡ true → EachIsWrittenOut rs → each_atom_faults known rs ≡ []
        → list_all (is_typed_state (scope_of_specification s) names) (atoms_of_all (regulars_of known rs)) ≡ true
    all_atoms_typed ResolvedRegexes.none put out none = refl
    all_atoms_typed (ResolvedRegexes.one_more r rs) put out none =
        let puts = and_parts (regex_put_in (in_line names counts) r) (each_regex_put_in (in_line names counts) rs) put in
        let nones = empty_parts (atom_faults known r) (each_atom_faults known rs) none in
        list_all-append (is_typed_state (scope_of_specification s) names) (atoms_of (regular_of known r)) (atoms_of_all (regulars_of known rs))
        ∙ and_from _ _ (atoms_typed r puts.0 out.0 nones.0) (all_atoms_typed rs puts.1 out.1 nones.1)

  -- one side
  side_typed : (r : ResolvedRegex) → IsFaultless s counts known r → counts_well r ≡ true → nat_le (length (brackets (written (regular_of known r)))) 64 ≡ true → is_typed_side s (regular_of known r) ≡ true
  side_typed r is counts few =
      let repeats = well known r is.choices counts in
      let positions : length (brackets (written (regular_of known r))) ≡ positions_in (regular_of known r) = sym (size-written (regular_of known r)) ∙ size-positions (regular_of known r) repeats in
      and_from _ _ repeats (and_from _ _ (subst (λ n. nat_le n 64 ≡ true) positions few) (atoms_typed r is.put_in is.out is.faultless))

pub trigger_typed : TriggerIsTyped
trigger_typed s counts known cause effect size few_variables alike same room is is' right =
    let t = trigger_of known cause effect in
    let cause_counts = and_parts (counts_well cause) (counts_well effect && is_narrow t) right in
    let effect_counts = and_parts (counts_well effect) (is_narrow t) cause_counts.1 in
    let one = and_parts (nat_le (length (trigger_atoms t)) 8) _ effect_counts.1 in
    let two = and_parts (nat_le (length (brackets (written t.cause))) 64) _ one.1 in
    let three = and_parts (nat_le (length (brackets (written t.effect))) 64) (nat_le (trigger_states t) 256) two.1 in
    and_from _ _ (side_typed s counts known size few_variables alike same room cause is cause_counts.0 two.0) (and_from _ _ (side_typed s counts known size few_variables alike same room effect is' effect_counts.0 three.0) (and_from _ _ one.0 three.1))

-- what is found in one of several expressions and what is left
pub atoms_left : (known : Known) (rs : List Regex) (k : ℕ) (r : Regex) → k < length rs → r ≡ get_or rs k r → (found : Option Finding)
    → with_faults (with_faults found (atom_faults known (regex_data r))) (each_atom_faults known (regexes (map regex_data (drop (k + 1) rs))))
    ≡ with_faults found (each_atom_faults known (regexes (map regex_data (drop k rs))))
atoms_left known rs k r below is found =
    sym (with_faults_append found (atom_faults known (regex_data r)) (each_atom_faults known (regexes (map regex_data (drop (k + 1) rs)))))
    ∙ ap (λ xs. with_faults found (each_atom_faults known (regexes xs))) (sym (mapped_left regex_data rs k r below is))

-- ---- lists

abbrev pub regular_list : Regulars → List Regular
regular_list Regulars.none = []
regular_list (Regulars.one_more r rs) = r ∷ regular_list rs

pub regulars_listed : (rs : Regulars) → model.regulars (regular_list rs) ≡ rs
regulars_listed Regulars.none = refl
regulars_listed (Regulars.one_more r rs) = ap (Regulars.one_more r) (regulars_listed rs)
