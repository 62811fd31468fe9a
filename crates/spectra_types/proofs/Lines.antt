-- The lines of a text without faults are typed.
use Rattle.std.proofs.Common.{◌≡◌, ◌≤◌, ℕ, zero, suc, ◌+◌, ◌==◌, nat_lt, Bool, true, false, not, ◌&&◌, List, [], ◌∷◌, ◌++◌, option_map, length, map, flat_map, sum, get_or, slice_get, unwrap_or, length-append, refl, sym, ap, subst, ◌∙◌, arith}
use Rattle.std.proofs.lemmas.List.{length-map}
use Rattle.std.specs.List.{list_all}
use Rattle.std.proofs.lemmas.Bool.{false≢true, and_parts, and_from, not_from_false, lt-ltb, ltb-true}
use Rattle.spec_model.specs.declared.spec.Role.{Role}
use Rattle.spec_model.specs.declared.spec.Role.TheVariants as roles
use Rattle.spec_model.specs.Syntax as model
use Rattle.spec_model.specs.Syntax.{Formula, PatternData, TriggerData, VariableData, Specification}
use Rattle.spec_model.specs.Moves.{has_next}
use Rattle.spec_model.specs.Steps.{is_output_variable}
use Rattle.spec_model.specs.WellTyped.{reads_some, shifts_some, is_typed, is_typed_state, scope_of_specification, is_typed_content, is_typed_line}
use Rattle.spec_model.specs.WellTyped as typed
use Rattle.spectra_resolved.specs.declared.stand.Stand.{Stand}
use Rattle.spectra_resolved.specs.declared.stand.Stand.TheVariants as stand
use Rattle.spectra_resolved.specs.declared.text.PatternUse as code
use Rattle.spectra_resolved.specs.declared.text.PatternUse.TheVariants as uses
use Rattle.spectra_resolved.specs.Resolved.{ResolvedTree}
use Rattle.spectra_resolved.specs.Texts.{ResolvedVariable, ResolvedBody, Initial, Safety, Recurring, Trigger, Pattern, ResolvedLine, ResolvedText}
use Rattle.spectra_judge.specs.Standings.{bans_of}
use Rattle.spectra_judge.specs.Wanting.{wants_truth}
use Rattle.spectra_judge.specs.Known.{is_system}
use Rattle.spectra_judge.specs.Judged.{faults_of}
use Rattle.spectra_judge.specs.Kinds.{Anything}
use Rattle.spectra_judge.specs.PutIn.{is_put_in, in_line, domain_kind, has_room}
use Rattle.spectra_judge.proofs.Empty.{empty_parts}
use Rattle.spectra_holes.specs.Holed.{holed}
use Rattle.spectra_cases.specs.Formulas.{formula_of}
use Rattle.spectra_cases.specs.Laws.{AreAlike}
use Rattle.spectra_cases.proofs.Arrays.{are_alike}
use Rattle.spectra_cases.proofs.Lines.{line_is_typed}
use Rattle.spectra_cases.proofs.Bans.{line_keeps_bans}
use Rattle.spectra_elaboration.specs.Written.{is_use}
use Rattle.spectra_notes.specs.TypeKinds.{is_of_system, kind_in}
use Rattle.spectra_bodies.specs.Faults.{declared_faults}
use Rattle.spectra_patterns.proofs.Shaped.{all_room}
use Rattle.spectra_lines.specs.Contents.{initial_stand, safety_stand, is_asm, Facts, tree_put, line_put}
use Rattle.spectra_lines.specs.Lines.{as_written, as_put}
use Rattle.spectra_lines.specs.Laws.{HasNoFault, HaveNoFault}
use Rattle.spectra_lines.specs.Meanings.{pattern_number, triggers_in, content_of, statement_of, statements_from}
use Rattle.spectra_sound.specs.Sound.{Sizes, sizes_of, is_sound_tree, is_pattern_use, is_sound_body, is_sound_line, fits_role, IsSound}
use Rattle.spectra_types.specs.Meanings.{facts_of, variables_in}
use Rattle.spectra_types.proofs.Domains.{variables_meant}
use Rattle.spectra_types.proofs.Elements.{variables_count, kinds_are, outputs_are}
use Rattle.spectra_types.proofs.PatternsPut.{tree_written}
use Rattle.spectra_types.proofs.Firsts.{kinds_most}
use Rattle.spectra_types.proofs.Bodies.{everything_put}
use Rattle.spectra_types.proofs.Formulas.{AreBefore, next_before}

-- ---- variables

-- the elements of an array are of one kind and owner
pub arrays_alike : (text : ResolvedText) → AreAlike (sizes_of text).counts (facts_of text).known
arrays_alike text first n i is below =
    record {
      kind = are_alike (λ (v : ResolvedVariable). v.count) (λ (v : ResolvedVariable). kind_in text v.domain) Anything text.variables first n i is below;
      owner = are_alike (λ (v : ResolvedVariable). v.count) (λ (v : ResolvedVariable). is_of_system v.owner) false text.variables first n i is below;
    }

-- their enum names have numbers of 16 bits
pub variables_room : (text : ResolvedText) → IsSound text → declared_faults text ≡ [] → list_all has_room (facts_of text).known.variables ≡ true
variables_room text sound none = all_room (facts_of text).known.variables (kinds_most text sound.few_names text.variables (variables_meant text sound none))

-- ---- expressions

not_both : (a b : Bool) → (a ≡ true → b ≡ false) → not (a && b) ≡ true
not_both true b is = not_from_false b (is refl)
not_both false b is = refl

module _ (text : ResolvedText) (sound : IsSound text) (none : declared_faults text ≡ []) (s : Specification) (names_are : s.names ≡ text.names) (variables_are : s.variables ≡ flat_map (variables_in text) text.variables) where
  abbrev z : Sizes
  z = sizes_of text

  abbrev f : Facts
  f = facts_of text

  -- a truth value, without what is banned where it stands
  pub record IsRight (at : Stand) (e : Formula) : Type 0 where
    pub is_truth : is_typed (scope_of_specification s) (length s.names) e ≡ true
    pub next : (bans_of at).next ≡ true → has_next e ≡ false
    pub system : (bans_of at).system ≡ true → reads_some (is_output_variable s.variables) e ≡ false
    pub shifted : (bans_of at).shifted_system ≡ true → shifts_some (is_output_variable s.variables) e ≡ false

  tests_are : (λ (k : ℕ). is_system f.known k) ≡ is_output_variable s.variables
  tests_are = (λ i k. outputs_are text text.variables k i) ∙ ap is_output_variable (sym variables_are)

  -- as many elements as are declared
  pub count : sum z.counts ≡ length s.variables
  count = sym (variables_count text text.variables) ∙ ap (λ vs. length vs) (sym variables_are)

  pub tree_right : (at : Stand) (t : ResolvedTree) → wants_truth at ≡ true → is_sound_tree z 0 t ≡ true → faults_of f.known at t ≡ [] → faults_of f.known at (tree_put f at t) ≡ [] →
      is_put_in (in_line (length s.names) z.counts) (tree_put f at t) ≡ true × IsRight at (formula_of f.known 0 (tree_put f at t))
  tree_right at t wants written first second =
      let known = f.known in
      let parts : is_put_in (in_line (length s.names) z.counts) (tree_put f at t) ≡ true =
      (λ i. is_put_in (in_line (length (names_are i)) z.counts) (tree_put f at t)) ∙ everything_put text sound none at t written first in
      let domains = map (λ (v : VariableData). v.domain) s.variables in
      let kinds : known.variables ≡ map domain_kind domains =
      kinds_are text (length text.names) text.variables (variables_meant text sound none) ∙ ap (λ vs. map domain_kind (map (λ (v : VariableData). v.domain) vs)) (sym variables_are) in
      let many : sum z.counts ≡ length domains = count ∙ sym (length-map s.variables (λ (v : VariableData). v.domain)) in
      let small = sound.few_variables in
      let few : length domains ≤ 1024 = omega (arith, many, small) in
      let kept = line_keeps_bans known (length s.names) z.counts at (tree_put f at t) (arrays_alike text) parts second in (
        parts,
        record {
          is_truth = line_is_typed known (length s.names) z.counts domains at (tree_put f at t) many few (arrays_alike text) kinds (variables_room text sound none) wants parts (tree_written f.bodies (holed known at t)) second;
          next = kept.next;
          system = λ banned. ap (λ test. reads_some test (formula_of known 0 (tree_put f at t))) (sym tests_are) ∙ kept.system banned;
          shifted = λ banned. ap (λ test. shifts_some test (formula_of known 0 (tree_put f at t))) (sym tests_are) ∙ kept.shifted banned;
        },
      )

  pub state_right : (at : Stand) (e : Formula) → (bans_of at).next ≡ true → IsRight at e → is_typed_state (scope_of_specification s) (length s.names) e ≡ true
  state_right at e banned is = and_from _ _ is.is_truth (not_from_false (has_next e) (is.next banned))

  -- several, as a pattern's arguments
  pub each_right : (at : Stand) (ts : List ResolvedTree) → wants_truth at ≡ true → (bans_of at).next ≡ true → list_all (is_sound_tree z 0) ts ≡ true → flat_map (faults_of f.known at) ts ≡ [] →
      flat_map (faults_of f.known at) (map (tree_put f at) ts) ≡ [] → list_all (is_typed_state (scope_of_specification s) (length s.names)) (map (formula_of f.known 0) (map (tree_put f at) ts)) ≡ true
  each_right at [] wants banned written first second = refl
  each_right at (t ∷ ts) wants banned written first second =
      let tests = and_parts (is_sound_tree z 0 t) _ written in
      let a = empty_parts (faults_of f.known at t) _ first in
      let b = empty_parts (faults_of f.known at (tree_put f at t)) _ second in
      and_from _ _ (state_right at _ banned (tree_right at t wants tests.0 a.0 b.0).1) (each_right at ts wants banned tests.1 a.1 b.1)

  -- ---- lines

  initial_truth : (asm : Bool) → wants_truth (initial_stand asm) ≡ true
  initial_truth true = refl
  initial_truth false = refl

  safety_truth : (asm : Bool) → wants_truth (safety_stand asm) ≡ true
  safety_truth true = refl
  safety_truth false = refl

  initial_right : (asm : Bool) (e : Formula) → IsRight (initial_stand asm) e → is_typed_content s asm (model.Initial e) ≡ true
  initial_right true e is = and_from _ _ (state_right (initial_stand true) e refl is) (not_both true _ (λ asm. is.system refl))
  initial_right false e is = and_from _ _ (state_right (initial_stand false) e refl is) refl

  safety_right : (asm : Bool) (e : Formula) → IsRight (safety_stand asm) e → is_typed_content s asm (model.Safety e) ≡ true
  safety_right true e is = and_from _ _ is.is_truth (not_both true _ (λ asm. is.shifted refl))
  safety_right false e is = and_from _ _ is.is_truth refl

  -- the arguments of a pattern are as many as its parameters
  arguments_fit : (ps : List PatternData) (arities : List ℕ) (k n : ℕ) → map (λ (p : PatternData). p.params) ps ≡ arities → is_use arities k n ≡ true →
      unwrap_or (option_map (λ (p : PatternData). p.params == n) (slice_get ps k)) false ≡ true
  arguments_fit ps arities k n are is = by ps k (ap (λ ns. is_use ns k n) are ∙ is)
    where
      by : (ps : List PatternData) (k : ℕ) → is_use (map (λ (p : PatternData). p.params) ps) k n ≡ true → unwrap_or (option_map (λ (p : PatternData). p.params == n) (slice_get ps k)) false ≡ true
      by [] k is = let less = ltb-true k 0 (and_parts (nat_lt k 0) _ is).0 in absurd (omega (arith, less))
      by (p ∷ ps) zero is = (and_parts (nat_lt 0 (length (map (λ (p : PatternData). p.params) (p ∷ ps)))) (p.params == n) is).1
      by (p ∷ ps) (suc k) is =
          let arities = map (λ (p : PatternData). p.params) ps in
          let parts = and_parts (nat_lt (suc k) (suc (length arities))) (get_or arities k 0 == n) is in
          let less = ltb-true (suc k) (suc (length arities)) parts.0 in by ps k (and_from _ _ (lt-ltb k (length arities) (omega (arith, less))) parts.1)

  use_fits : (patterns_are : map (λ (p : PatternData). p.params) s.patterns ≡ z.patterns) (used : code.PatternUse) (n m : ℕ) → n ≡ m → is_pattern_use z used n ≡ true →
      unwrap_or (option_map (λ (p : PatternData). p.params == m) (slice_get s.patterns (pattern_number used))) false ≡ true
  use_fits patterns_are (uses.Pattern k) n m same is = subst (λ m. unwrap_or (option_map (λ (p : PatternData). p.params == m) (slice_get s.patterns k)) false ≡ true) same (arguments_fit s.patterns z.patterns k n patterns_are is)
  use_fits patterns_are uses.Unknown n m same is = absurd (false≢true is)
  use_fits patterns_are (uses.Arity k) n m same is = absurd (false≢true is)

  module _ (patterns_are : map (λ (p : PatternData). p.params) s.patterns ≡ z.patterns) where
    content_right : (n : ℕ) (before : List TriggerData) (l : ResolvedLine) (rest : List TriggerData) → s.triggers ≡ before ++ (triggers_in f.known (line_put f l).body ++ rest) → n ≡ length before → is_sound_body z l.body ≡ true → HasNoFault f l →
        is_typed_content s (is_asm l) (content_of f.known n (line_put f l).body) ≡ true
    content_right n before l rest all is body right = by l.body body right.written right.put all
      where
        by : (b : ResolvedBody) → is_sound_body z b ≡ true → as_written f (record l { body = b }) ≡ [] → as_put f (record l { body = b }) ≡ [] → s.triggers ≡ before ++ (triggers_in f.known (line_put f (record l { body = b })).body ++ rest) →
            is_typed_content s (is_asm l) (content_of f.known n (line_put f (record l { body = b })).body) ≡ true
        by (Initial t) body first second all =
            let a = empty_parts (faults_of f.known (initial_stand (is_asm l)) t) [] first in
            let b = empty_parts (faults_of f.known (initial_stand (is_asm l)) (tree_put f (initial_stand (is_asm l)) t)) [] second in
            initial_right (is_asm l) _ (tree_right (initial_stand (is_asm l)) t (initial_truth (is_asm l)) body a.0 b.0).1
        by (Safety t) body first second all =
            let a = empty_parts (faults_of f.known (safety_stand (is_asm l)) t) [] first in
            let b = empty_parts (faults_of f.known (safety_stand (is_asm l)) (tree_put f (safety_stand (is_asm l)) t)) [] second in
            safety_right (is_asm l) _ (tree_right (safety_stand (is_asm l)) t (safety_truth (is_asm l)) body a.0 b.0).1
        by (Recurring t) body first second all =
            let a = empty_parts (faults_of f.known stand.Recurring t) [] first in
            let b = empty_parts (faults_of f.known stand.Recurring (tree_put f stand.Recurring t)) [] second in
            state_right stand.Recurring _ refl (tree_right stand.Recurring t refl body a.0 b.0).1
        by (Pattern at used arguments) body first second all =
            let tests = and_parts (is_pattern_use z used (length arguments)) (list_all (is_sound_tree z 0) arguments) body in
            let long : length arguments ≡ length (map (formula_of f.known 0) (map (tree_put f stand.Argument) arguments)) =
            sym (length-map (map (tree_put f stand.Argument) arguments) (formula_of f.known 0) ∙ length-map arguments (tree_put f stand.Argument)) in
            and_from _ _ (use_fits patterns_are used (length arguments) _ long tests.0) (each_right stand.Argument arguments refl refl tests.1 first second)
        by (Trigger at cause effect) body first second all = trigger_there _ before n rest all is
          where
            trigger_there : (t : TriggerData) (before : List TriggerData) (n : ℕ) (rest : List TriggerData) → s.triggers ≡ before ++ t ∷ rest → n ≡ length before → nat_lt n (length s.triggers) ≡ true
            trigger_there t before n rest all is =
                let long = ap (λ ts. length ts) all ∙ length-append before (t ∷ rest) in
                lt-ltb n (length s.triggers) (omega (arith, long, is))

    pub lines_right : (number n : ℕ) (before : List TriggerData) (ls : List ResolvedLine) → AreBefore f.known s before n (map (line_put f) ls) → list_all (is_sound_line z) ls ≡ true → HaveNoFault f ls →
        list_all (is_typed_line s) (statements_from f.known number n (map (line_put f) ls)) ≡ true
    lines_right number n before [] at all right = refl
    lines_right number n before (l ∷ ls) at all right =
        let parts = and_parts (is_sound_line z l) (list_all (is_sound_line z) ls) all in
        let own = and_parts (fits_role l.role l.body) (is_sound_body z l.body) parts.0 in
        and_from _ _ (content_right n before l _ at.0 at.1 own.1 right.0)
        (lines_right (suc number) (n + length (triggers_in f.known (line_put f l).body)) (before ++ triggers_in f.known (line_put f l).body) ls (next_before f.known s before n (line_put f l) (map (line_put f) ls) at) parts.1 right.1)

-- ---- roles

role_fits : (f : Facts) (number n : ℕ) (l : ResolvedLine) → fits_role l.role l.body ≡ true → typed.fits_role (statement_of f.known number n (line_put f l)) ≡ true
role_fits f number n l = by l.role l.body
  where
    by : (r : Role) (b : ResolvedBody) → fits_role r b ≡ true → typed.fits_role (statement_of f.known number n (line_put f (record l { role = r; body = b }))) ≡ true
    by roles.Assumption b is = refl
    by roles.Guarantee b is = refl
    by roles.Monitor (Initial t) is = refl
    by roles.Monitor (Safety t) is = refl
    by roles.Monitor (Recurring t) is = absurd (false≢true is)
    by roles.Monitor (Trigger at cause effect) is = absurd (false≢true is)
    by roles.Monitor (Pattern at used ts) is = absurd (false≢true is)

pub roles_fit : (f : Facts) (z : Sizes) (number n : ℕ) (ls : List ResolvedLine) → list_all (is_sound_line z) ls ≡ true → list_all typed.fits_role (statements_from f.known number n (map (line_put f) ls)) ≡ true
roles_fit f z number n [] all = refl
roles_fit f z number n (l ∷ ls) all =
    let parts = and_parts (is_sound_line z l) (list_all (is_sound_line z) ls) all in
    let own = and_parts (fits_role l.role l.body) (is_sound_body z l.body) parts.0 in
    and_from _ _ (role_fits f number n l own.0) (roles_fit f z (suc number) (n + length (triggers_in f.known (line_put f l).body)) ls parts.1)
