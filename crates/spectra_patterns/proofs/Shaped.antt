-- A sound pattern whose lines have no fault has its shape, and one without any fault is well typed.
use Rattle.std.proofs.Common.{◌≡◌, ℕ, ◌<◌, Bool, true, false, not, ◌&&◌, ◌==◌, nat_le, if◌then◌else◌, List, [], ◌∷◌, ◌++◌, length, map, flat_map, Option, Some, None, option_map, option_to_list, refl, sym, ap, subst, ◌∙◌, arith}
use Rattle.std.specs.List.{All, list_all}
use Rattle.std.proofs.lemmas.Bool.{false≢true, and_parts, and_from, not_from_false}
use Rattle.std.proofs.lemmas.Bool.Decides.{nat_tests}
use Rattle.std.proofs.lemmas.List.{length-map}
use Rattle.std.proofs.lemmas.List.Elements.{All-head, All-tail}
use Rattle.spec_model.specs.Values.{Enumeration}
use Rattle.spec_model.specs.Moves.{has_next}
use Rattle.spec_model.specs.Syntax.{Formula, PatternData}
use Rattle.spec_model.specs.Sizes.{past_trees, domain_size, product}
use Rattle.spec_model.specs.WellMade.{is_domain}
use Rattle.spec_model.specs.WellTyped.{is_domain_of, is_typed, scope_of_pattern, reads_some, shifts_some, is_parameter, is_pattern_line, is_first_line, is_step_line, is_determined}
use Rattle.pattern_rows.specs.Patterns.{IsPattern, is_goal_line, is_wide}
use Rattle.spectra_resolved.specs.declared.findings.Finding.{Finding}
use Rattle.spectra_resolved.specs.Findings.{fault}
use Rattle.spectra_resolved.specs.declared.stand.Stand.{Stand}
use Rattle.spectra_resolved.specs.declared.stand.Stand.TheVariants as stand
use Rattle.spectra_resolved.specs.Resolved.{ResolvedTree}
use Rattle.spectra_resolved.specs.Texts.{ResolvedPatternLine, Initial, Safety, Recurring, ResolvedPattern}
use Rattle.spectra_judge.specs.Kinds.{Kind, Truth, Whole, SomeWhole, NameOf, OneName, Anything}
use Rattle.spectra_judge.specs.Standings.{bans_of, is_wanted}
use Rattle.spectra_judge.specs.Wanting.{wants_truth}
use Rattle.spectra_judge.specs.Around.{nothing_open}
use Rattle.spectra_judge.specs.Known.{Known, Setting}
use Rattle.spectra_judge.specs.Judged.{kind_of, wrong, first_of, faults, faults_of}
use Rattle.spectra_judge.specs.PutIn.{Parts, is_put_in, in_pattern, domain_kind, has_room}
use Rattle.spectra_judge.proofs.Empty.{empty_parts, not_empty}
use Rattle.spectra_cases.specs.Formulas.{formula_of}
use Rattle.spectra_cases.specs.Laws.{IsWrittenOut, KeepsPatternBans}
use Rattle.spectra_cases.proofs.Lines.{pattern_is_typed}
use Rattle.spectra_cases.proofs.Bans.{pattern_keeps_bans}
use Rattle.spectra_patterns.specs.Patterns.{pattern_known, line_tree, line_faults, lines_faults, domain_of, first_in, step_in, goals_in, pattern_of, table_fault, table_faults, is_empty, pattern_faults}
use Rattle.spectra_patterns.specs.SoundPatterns.{is_type_kind, IsSound}
use Rattle.spectra_patterns.specs.Laws.{PatternIsTyped}
use Rattle.spectra_patterns.proofs.Past.{no_past}

-- ---- domains

type_domain : (names : ℕ) (k : Kind) → is_type_kind names k ≡ true → is_domain_of names (domain_of k) ≡ true
type_domain names Truth is = refl
type_domain names (Whole low high) is = is
type_domain names SomeWhole is = absurd (false≢true is)
type_domain names (NameOf ns) is = is
type_domain names (OneName n) is = absurd (false≢true is)
type_domain names Anything is = absurd (false≢true is)

type_back : (names : ℕ) (k : Kind) → is_type_kind names k ≡ true → k ≡ domain_kind (domain_of k)
type_back names Truth is = refl
type_back names (Whole low high) is = refl
type_back names SomeWhole is = absurd (false≢true is)
type_back names (NameOf ns) is = refl
type_back names (OneName n) is = absurd (false≢true is)
type_back names Anything is = absurd (false≢true is)

domains_typed : (names : ℕ) (own : List Kind) → list_all (is_type_kind names) own ≡ true → list_all (is_domain_of names) (map domain_of own) ≡ true
domains_typed names [] is = refl
domains_typed names (k ∷ ks) is =
    let parts = and_parts (is_type_kind names k) (list_all (is_type_kind names) ks) is in and_from _ _ (type_domain names k parts.0) (domains_typed names ks parts.1)

domains_back : (names : ℕ) (own : List Kind) → list_all (is_type_kind names) own ≡ true → own ≡ map domain_kind (map domain_of own)
domains_back names [] is = refl
domains_back names (k ∷ ks) is =
    let parts = and_parts (is_type_kind names k) (list_all (is_type_kind names) ks) is in λ i. type_back names k parts.0 i ∷ domains_back names ks parts.1 i

kind_room : (k : Kind) → is_type_kind 65_536 k ≡ true → has_room k ≡ true
kind_room Truth is = refl
kind_room (Whole low high) is = refl
kind_room SomeWhole is = refl
kind_room (NameOf ns) is = (and_parts (is_domain (Enumeration ns)) _ is).1
kind_room (OneName n) is = refl
kind_room Anything is = absurd (false≢true is)

pub all_room : (ks : List Kind) → list_all (is_type_kind 65_536) ks ≡ true → list_all has_room ks ≡ true
all_room [] is = refl
all_room (k ∷ ks) is = let parts = and_parts (is_type_kind 65_536 k) _ is in and_from _ _ (kind_room k parts.0) (all_room ks parts.1)

-- ---- lines

zero_is : (xs : List Formula) → xs ≡ [] → (length xs == 0) ≡ true
zero_is xs e = ap (λ ys. length ys == 0) e

module _ (own : List Kind) (p : ResolvedPattern) (names : ℕ) (types : list_all (is_type_kind names) own ≡ true) (few : list_all (is_type_kind 65_536) own ≡ true) where
  abbrev known : Known
  known = pattern_known p.params own

  abbrev good : Parts
  good = in_pattern names p.params (length own)

  abbrev meaning : PatternData
  meaning = pattern_of own p

  -- everything is put in and written out
  abbrev IsPut : ResolvedTree → Type 0
  IsPut t = (is_put_in good t ≡ true) × IsWrittenOut t

  long : length own ≡ length (map domain_of own)
  long = sym (length-map own domain_of)

  typed : (at : Stand) (t : ResolvedTree) → wants_truth at ≡ true → IsPut t → faults_of known at t ≡ [] → is_typed (scope_of_pattern meaning) names (formula_of known p.params t) ≡ true
  typed at t wants put none =
      pattern_is_typed known names p.params (map domain_of own) at t refl (domains_back names own types) (all_room own few) wants (subst (λ n. is_put_in (in_pattern names p.params n) t ≡ true) long put.0) put.1 none

  keeps : (at : Stand) (t : ResolvedTree) → IsPut t → faults_of known at t ≡ [] → KeepsPatternBans p.params (bans_of at) (formula_of known p.params t)
  keeps at t put none = pattern_keeps_bans known names p.params (length own) at t put.0 none

  line : (at : Stand) (t : ResolvedTree) → wants_truth at ≡ true → (bans_of at).past ≡ true → IsPut t → faults_of known at t ≡ [] → is_pattern_line meaning names (formula_of known p.params t) ≡ true
  line at t wants past put none =
      let in_stand : Setting = record { known = known; bans = bans_of at } in
      let parts = empty_parts (faults in_stand nothing_open t) (wrong (is_wanted at (kind_of known t)) (first_of t)) none in
      and_from _ _ (typed at t wants put none) (zero_is (past_trees (formula_of known p.params t)) (no_past in_stand p.params past t nothing_open parts.0))

  first_line : (t : ResolvedTree) → IsPut t → faults_of known stand.PatternInitial t ≡ [] → is_first_line meaning names (formula_of known p.params t) ≡ true
  first_line t put none =
      let ban = keeps stand.PatternInitial t put none in
      and_from _ _ (line stand.PatternInitial t refl refl put none)
      (and_from _ _ (not_from_false (has_next (formula_of known p.params t)) (ban.next refl)) (not_from_false (reads_some (is_parameter meaning) (formula_of known p.params t)) (ban.parameter refl)))

  step_line : (t : ResolvedTree) → IsPut t → faults_of known stand.PatternSafety t ≡ [] → is_step_line meaning names (formula_of known p.params t) ≡ true
  step_line t put none =
      let ban = keeps stand.PatternSafety t put none in
      and_from _ _ (line stand.PatternSafety t refl refl put none) (not_from_false (shifts_some (is_parameter meaning) (formula_of known p.params t)) (ban.shifted refl))

  goal_line : (t : ResolvedTree) → IsPut t → faults_of known stand.PatternRecurring t ≡ [] → is_goal_line meaning names (formula_of known p.params t) ≡ true
  goal_line t put none =
      let ban = keeps stand.PatternRecurring t put none in and_from _ _ (line stand.PatternRecurring t refl refl put none) (not_from_false (has_next (formula_of known p.params t)) (ban.next refl))

  abbrev AllPut : List ResolvedPatternLine → Type 0
  AllPut ls = (list_all (λ l. is_put_in good (line_tree l)) ls ≡ true) × All (λ l. IsWrittenOut (line_tree l)) ls

  abbrev Out : ResolvedPatternLine → Type 0
  Out l = IsWrittenOut (line_tree l)

  abbrev NoFault : List ResolvedPatternLine → Type 0
  NoFault ls = flat_map (line_faults known) ls ≡ []

  rest : (l : ResolvedPatternLine) (ls : List ResolvedPatternLine) → AllPut (l ∷ ls) → NoFault (l ∷ ls)
      → (IsPut (line_tree l) × (line_faults known l ≡ [])) × (AllPut ls × NoFault ls)
  rest l ls put none =
      let puts = and_parts (is_put_in good (line_tree l)) (list_all (λ l. is_put_in good (line_tree l)) ls) put.0 in
      let nones = empty_parts (line_faults known l) (flat_map (line_faults known) ls) none in
      let outs = put.1 in
      (((puts.0, All-head Out l ls outs), nones.0), ((puts.1, All-tail Out l ls outs), nones.1))

  all_first : (ls : List ResolvedPatternLine) → AllPut ls → NoFault ls → list_all (is_first_line meaning names) (flat_map (first_in known p.params) ls) ≡ true
  all_first [] put none = refl
  all_first (Initial at t ∷ ls) put none = let r = rest (Initial at t) ls put none in and_from _ _ (first_line t r.0.0 r.0.1) (all_first ls r.1.0 r.1.1)
  all_first (Safety at t ∷ ls) put none = let r = rest (Safety at t) ls put none in all_first ls r.1.0 r.1.1
  all_first (Recurring at t ∷ ls) put none = let r = rest (Recurring at t) ls put none in all_first ls r.1.0 r.1.1

  all_step : (ls : List ResolvedPatternLine) → AllPut ls → NoFault ls → list_all (is_step_line meaning names) (flat_map (step_in known p.params) ls) ≡ true
  all_step [] put none = refl
  all_step (Initial at t ∷ ls) put none = let r = rest (Initial at t) ls put none in all_step ls r.1.0 r.1.1
  all_step (Safety at t ∷ ls) put none = let r = rest (Safety at t) ls put none in and_from _ _ (step_line t r.0.0 r.0.1) (all_step ls r.1.0 r.1.1)
  all_step (Recurring at t ∷ ls) put none = let r = rest (Recurring at t) ls put none in all_step ls r.1.0 r.1.1

  all_goals : (ls : List ResolvedPatternLine) → AllPut ls → NoFault ls → list_all (is_goal_line meaning names) (flat_map (goals_in known p.params) ls) ≡ true
  all_goals [] put none = refl
  all_goals (Initial at t ∷ ls) put none = let r = rest (Initial at t) ls put none in all_goals ls r.1.0 r.1.1
  all_goals (Safety at t ∷ ls) put none = let r = rest (Safety at t) ls put none in all_goals ls r.1.0 r.1.1
  all_goals (Recurring at t ∷ ls) put none = let r = rest (Recurring at t) ls put none in and_from _ _ (goal_line t r.0.0 r.0.1) (all_goals ls r.1.0 r.1.1)

pub shaped : (own : List Kind) (p : ResolvedPattern) → IsSound own p → lines_faults own p ≡ [] → IsPattern (pattern_of own p)
shaped own p sound none =
    record {
      names = sound.names;
      domains = domains_typed sound.names own sound.types;
      first = all_first own p sound.names sound.types sound.few p.lines (sound.lines, sound.out) none;
      step = all_step own p sound.names sound.types sound.few p.lines (sound.lines, sound.out) none;
      goals = all_goals own p sound.names sound.types sound.few p.lines (sound.lines, sound.out) none;
    }

-- ---- the whole

pub empty_is : (fs : List Finding) → fs ≡ [] → is_empty fs ≡ true
empty_is fs e = ap is_empty e

-- where lines have no fault, only the whole may have one
pub whole_faults : (own : List Kind) (p : ResolvedPattern) → lines_faults own p ≡ [] → pattern_faults true own p ≡ table_faults p.name.at (pattern_of own p)
whole_faults own p none = λ i. none i ++ (if is_empty (none i) then table_faults p.name.at (pattern_of own p) else [])

table_right : (p : PatternData) (w d : Bool) → is_wide p ≡ w → is_determined p ≡ d → table_fault p ≡ None → (is_wide p ≡ false) × (is_determined p ≡ true)
table_right p true d wide det none = absurd (some_none 21 (sym (λ i. if wide i then Some 21 else (if is_determined p then None else Some 20)) ∙ none))
  where
    some_none : (n : ℕ) → Some n ≡ None → ⊥
    some_none n e = cc
table_right p false true wide det none = (wide, det)
table_right p false false wide det none = absurd (some_none 20 (sym (λ i. if wide i then Some 21 else (if det i then None else Some 20)) ∙ none))
  where
    some_none : (n : ℕ) → Some n ≡ None → ⊥
    some_none n e = cc

no_table_fault : (o : Option ℕ) (p : ResolvedPattern) (made : PatternData) → table_fault made ≡ o → table_faults p.name.at made ≡ [] → table_fault made ≡ None
no_table_fault (Some n) p made is none = absurd (not_empty _ _ (sym (ap faults_by is) ∙ none))
  where
    faults_by : Option ℕ → List Finding
    faults_by o = option_to_list (option_map (λ number. fault number p.name.at) o)
no_table_fault None p made is none = is

narrow_parts : (a b : Bool) → not (a && b) ≡ false → (a ≡ true) × (b ≡ true)
narrow_parts true true e = (refl, refl)
narrow_parts true false e = absurd (false≢true (sym e))
narrow_parts false b e = absurd (false≢true (sym e))

pub pattern_typed : PatternIsTyped
pattern_typed own p sound none =
    let made = pattern_of own p in
    let lines = (empty_parts (lines_faults own p) (if is_empty (lines_faults own p) then table_faults p.name.at made else []) none).0 in
    let whole = sym (whole_faults own p lines) ∙ none in
    let right = table_right made (is_wide made) (is_determined made) refl refl (no_table_fault (table_fault made) p made refl whole) in
    let narrow = narrow_parts (nat_le p.params 8) (nat_le (product (map domain_size made.domains)) 64) right.0 in
    let shape = shaped own p sound lines in
    and_from _ _ narrow.0
    (and_from _ _ (domains_typed sound.names own sound.types)
    (and_from _ _ narrow.1
    (and_from _ _ (all_first own p sound.names sound.types sound.few p.lines (sound.lines, sound.out) lines)
    (and_from _ _ (all_step own p sound.names sound.types sound.few p.lines (sound.lines, sound.out) lines)
    (and_from _ _ (all_goals own p sound.names sound.types sound.few p.lines (sound.lines, sound.out) lines) right.1)))))

-- ---- what it means

-- too many parameters are too wide
pub many_params : (own : List Kind) (p : ResolvedPattern) → 8 < p.params → table_fault (pattern_of own p) ≡ Some 21
many_params own p many = let wide : nat_le p.params 8 ≡ false = grind (arith, nat_tests) in λ i. if not (wide i && nat_le (product (map domain_size (pattern_of own p).domains)) 64) then Some 21 else (if is_determined (pattern_of own p) then None else Some 20)

-- one with a fault in its lines has a fault
pub lines_fault_is : (sound : Bool) (own : List Kind) (p : ResolvedPattern) → is_empty (lines_faults own p) ≡ false → pattern_faults sound own p ≡ lines_faults own p
lines_fault_is sound own p e = (λ i. lines_faults own p ++ (if and-false sound (is_empty (lines_faults own p)) e i then table_faults p.name.at (pattern_of own p) else [])) ∙ append-nil' (lines_faults own p)
  where
    and-false : (a b : Bool) → b ≡ false → (a && b) ≡ false
    and-false true b e = e
    and-false false b e = refl

    append-nil' : (fs : List Finding) → fs ++ [] ≡ fs
    append-nil' [] = refl
    append-nil' (f ∷ fs) = ap (λ gs. f ∷ gs) (append-nil' fs)
