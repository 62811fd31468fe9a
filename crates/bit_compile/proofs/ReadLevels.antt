-- A compiled formula reads no other levels than those of what the formula reads.
use Rattle.std.proofs.Common.{◌≡◌, ℕ, zero, suc, ◌+◌, ◌^◌, ◌<◌, ◌≤◌, nat_abs, inl, inr, ◌⊎◌, Bool, true, false, not, ◌&&◌, ◌||◌, ◌==◌, if◌then◌else◌, List, [], ◌∷◌, ◌++◌, map, length, length-append, get_or, refl, sym, ◌∙◌, ap, arith}
use Rattle.std.specs.List.{list_any, list_all, AllByRecursion}
use Rattle.std.specs.Bool.{beq}
use Rattle.std.proofs.lemmas.Bool.{and_parts, false≢true}
use Rattle.std.proofs.lemmas.Bool.Decides.{nat_tests}
use Rattle.std.proofs.lemmas.List.{length-map}
use Rattle.spec_model.specs.declared.value.Value.{Value}
use Rattle.spec_model.specs.declared.value.Value.TheVariants as value
use Rattle.spec_model.specs.Values.{DomainData, values_of, rank_of, number_of}
use Rattle.spec_model.specs.Syntax.{Formula, Constant, Variable, NextOf, Negation, Conjunction, Disjunction, Implication, Equivalence, Comparison, Sum, Difference, Product, Remainder, PastOf, Entry, Formulas}
use Rattle.spec_model.specs.Meaning.{compare_values}
use Rattle.spec_model.specs.Typing.{Scope, kind_of, is_truth}
use Rattle.spec_model.specs.Moves.{is_env, domains_of, has_next}
use Rattle.spec_model.specs.Games.{GameData, HiddenData, letter_of}
use Rattle.spec_model.specs.Steps.{is_output_variable}
use Rattle.spec_model.specs.WellMade.{WellMade, is_table, are_tables, is_state_formula, is_step_formula, is_stepwise, scope_of, awaits_output}
use Rattle.spec_model.specs.Diagrams.{Bits, Function, with_bit}
use Rattle.bdd_ops.specs.Reading.{Ignores}
use Rattle.game_values.specs.declared.seen.At.{At}
use Rattle.game_values.specs.declared.seen.At.TheVariants.{Now, Next}
use Rattle.game_values.proofs.TableSteps.{table_atoms}
use Rattle.bit_compile.specs.declared.operation.Operation.{Operation}
use Rattle.bit_compile.specs.declared.operation.Operation.TheVariants.{Add, Sub, Mul, Mod}
use Rattle.bit_compile.specs.Domains.{state_domains, table_domain}
use Rattle.bit_compile.specs.Codes.{level_at, width_at}
use Rattle.bit_compile.specs.Compiled.{Case, Entries, place_of, variable_domain, is_code, coded, only, both_truths, some_pair, gives, results, entry_of, never, truth_in, truths_in, cases_in, values_in, all_of, some_of, is_letter, lettered, in_table, table_truth, table_entries, entries_after, entries_of, compiled, numbers_below}
use Rattle.bit_compile.specs.CompileLaws.{IsInputSlot, IsOutputSlot, IsReadLevel, IsBitOf}
use Rattle.bit_compile.proofs.NumberLemmas.{has_number-same}
use Rattle.bit_compile.proofs.Meanings.{Reads, ReadsEach, some_truth}
use Rattle.bit_compile.proofs.ReadVariables.{reads, reads_now}
use Rattle.bit_compile.proofs.TableMeanings.{get-pushed}
use Rattle.bit_compile.proofs.Places.{placed}

module _ (s t : Bits) where
  -- each case is had at the one where it is at the other
  abbrev pub AreSame : List Case → Type 0
  AreSame cs = AllByRecursion (λ c. c.holds s ≡ c.holds t) cs

  same_row : (test : Value → Value → Bool) (a : Case) (ys : List Case) → a.holds s ≡ a.holds t → AreSame ys → list_any (λ b. test a.value b.value && (a.holds s && b.holds s)) ys ≡ list_any (λ b. test a.value b.value && (a.holds t && b.holds t)) ys
  same_row test a [] e same = refl
  same_row test a (y ∷ ys) e same =
      let rest = same_row test a ys e same.1 in
      let here = same.0 in
      ap (λ (x : Bool). test a.value y.value && (x && y.holds s) || list_any (λ b. test a.value b.value && (a.holds s && b.holds s)) ys) e
      ∙ (ap (λ (x : Bool). test a.value y.value && (a.holds t && x) || list_any (λ b. test a.value b.value && (a.holds s && b.holds s)) ys) here
      ∙ ap (λ (x : Bool). test a.value y.value && (a.holds t && y.holds t) || x) rest)

  same_pairs : (test : Value → Value → Bool) (xs ys : List Case) → AreSame xs → AreSame ys → some_pair test xs ys s ≡ some_pair test xs ys t
  same_pairs test [] ys same_xs same_ys = refl
  same_pairs test (x ∷ xs) ys same_xs same_ys =
      ap (λ (b : Bool). b || some_pair test xs ys s) (same_row test x ys same_xs.0 same_ys)
      ∙ ap (λ (b : Bool). list_any (λ y. test x.value y.value && (x.holds t && y.holds t)) ys || b) (same_pairs test xs ys same_xs.1 same_ys)

  same_results : (op : Operation) (xs ys : List Case) (vs : List Value) → AreSame xs → AreSame ys → AreSame (results op xs ys vs)
  same_results op xs ys [] same_xs same_ys = tt
  same_results op xs ys (v ∷ vs) same_xs same_ys = (same_pairs (gives op v) xs ys same_xs same_ys, same_results op xs ys vs same_xs same_ys)

  same_each : (f : Value → Function) → ((v : Value) → f v s ≡ f v t) → (vs : List Value) → AreSame (map (λ v. record { value = v; holds = f v }) vs)
  same_each f same [] = tt
  same_each f same (v ∷ vs) = (same v, same_each f same vs)

  module _ (g : GameData) (entries : Entries) (entry : (h n : ℕ) → entry_of entries h n s ≡ entry_of entries h n t) where
    abbrev pub SameCodes : At → ℕ → Type 0
    SameCodes at k = (n : ℕ) → is_code (state_domains g) at (place_of g k) n s ≡ is_code (state_domains g) at (place_of g k) n t

    pub record Same (at : At) (e : Formula) : Type 0 where
      pub truth : truth_in g entries at e s ≡ truth_in g entries at e t
      pub cases : AreSame (cases_in g entries at e)

    of_truth : (f : Function) → f s ≡ f t → AreSame (both_truths f)
    of_truth f e = (ap not e, (e, tt))

    mutual
      pub same : (e : Formula) (at : At) → Reads SameCodes at e → Same at e
      same (Constant v) at r = record { truth = refl; cases = (refl, tt) }
      same (Variable k) at r = record { truth = r 1; cases = same_each (λ v. is_code (state_domains g) at (place_of g k) (rank_of (variable_domain g k) v)) (λ v. r (rank_of (variable_domain g k) v)) (values_of (variable_domain g k)) }
      same (NextOf e) at r = let rest = same e Next r in record { truth = rest.truth; cases = rest.cases }
      same (Negation e) at r = let is = ap not (same e at r).truth in record { truth = is; cases = of_truth (truth_in g entries at (Negation e)) is }
      same (Conjunction es) at r = let is = same_all es at r in record { truth = is; cases = of_truth (truth_in g entries at (Conjunction es)) is }
      same (Disjunction es) at r = let is = same_some es at r in record { truth = is; cases = of_truth (truth_in g entries at (Disjunction es)) is }
      same (Implication a b) at r =
          let left = (same a at r.0).truth in
          let right = (same b at r.1).truth in
          let is = ap (λ (x : Bool). not x || truth_in g entries at b s) left ∙ ap (λ (y : Bool). not (truth_in g entries at a t) || y) right in
          record { truth = is; cases = of_truth (truth_in g entries at (Implication a b)) is }
      same (Equivalence a b) at r =
          let left = (same a at r.0).truth in
          let right = (same b at r.1).truth in
          let is = ap (λ (x : Bool). beq x (truth_in g entries at b s)) left ∙ ap (λ (y : Bool). beq (truth_in g entries at a t) y) right in
          record { truth = is; cases = of_truth (truth_in g entries at (Equivalence a b)) is }
      same (Comparison c a b) at r =
          let is = same_pairs (compare_values c) (cases_in g entries at a) (cases_in g entries at b) (same a at r.0).cases (same b at r.1).cases in
          record { truth = is; cases = of_truth (truth_in g entries at (Comparison c a b)) is }
      same (Sum a b) at r = record { truth = refl; cases = same_results Add (cases_in g entries at a) (cases_in g entries at b) (values_in g (Sum a b)) (same a at r.0).cases (same b at r.1).cases }
      same (Difference a b) at r = record { truth = refl; cases = same_results Sub (cases_in g entries at a) (cases_in g entries at b) (values_in g (Difference a b)) (same a at r.0).cases (same b at r.1).cases }
      same (Product a b) at r = record { truth = refl; cases = same_results Mul (cases_in g entries at a) (cases_in g entries at b) (values_in g (Product a b)) (same a at r.0).cases (same b at r.1).cases }
      same (Remainder a n) at r = record { truth = refl; cases = same_results Mod (cases_in g entries at a) (only (value.Int n)) (values_in g (Remainder a n)) (same a at r).cases (refl, tt) }
      same (PastOf op es) at r = record { truth = refl; cases = (refl, (refl, tt)) }
      same (Entry h n) at r = let is = entry h n in record { truth = is; cases = of_truth (truth_in g entries at (Entry h n)) is }

      same_all : (es : Formulas) (at : At) → ReadsEach SameCodes at es → all_of (truths_in g entries at es) s ≡ all_of (truths_in g entries at es) t
      same_all Formulas.none at r = refl
      same_all (Formulas.one_more e es) at r =
          ap (λ (x : Bool). x && all_of (truths_in g entries at es) s) (same e at r.0).truth ∙ ap (λ (y : Bool). truth_in g entries at e t && y) (same_all es at r.1)

      same_some : (es : Formulas) (at : At) → ReadsEach SameCodes at es → some_of (truths_in g entries at es) s ≡ some_of (truths_in g entries at es) t
      same_some Formulas.none at r = refl
      same_some (Formulas.one_more e es) at r =
          ap (λ (x : Bool). x || some_of (truths_in g entries at es) s) (same e at r.0).truth ∙ ap (λ (y : Bool). truth_in g entries at e t || y) (same_some es at r.1)

  -- ---- hidden tables

  same_table : (ds : List DomainData) (k : ℕ) (h : HiddenData) (fs : List Function) → ((n : ℕ) → is_code ds Now k n s ≡ is_code ds Now k n t) → map (λ (a : Function). a s) fs ≡ map (λ (a : Function). a t) fs → (table : List Bool) → table_truth ds k h fs table s ≡ table_truth ds k h fs table t
  same_table ds k h fs codes atoms table =
      same_pairs (in_table table (2 ^ length fs)) (coded ds Now k (table_domain h)) (lettered fs)
      (same_each (λ v. is_code ds Now k (rank_of (table_domain h) v)) (λ v. codes (rank_of (table_domain h) v)) (values_of (table_domain h)))
      (same_each (λ v. is_letter fs (nat_abs (number_of v))) (λ v. ap (λ bs. letter_of bs == nat_abs (number_of v)) atoms) (values_of (numbers_below (2 ^ length fs))))

  same_parts : (ds : List DomainData) (k : ℕ) (h : HiddenData) (fs : List Function) → ((n : ℕ) → is_code ds Now k n s ≡ is_code ds Now k n t) → map (λ (a : Function). a s) fs ≡ map (λ (a : Function). a t) fs →
      (tables : List (List Bool)) (n : ℕ) → get_or (map (table_truth ds k h fs) tables) n never s ≡ get_or (map (table_truth ds k h fs) tables) n never t
  same_parts ds k h fs codes atoms [] n = refl
  same_parts ds k h fs codes atoms (x ∷ tables) zero = same_table ds k h fs codes atoms x
  same_parts ds k h fs codes atoms (x ∷ tables) (suc n) = same_parts ds k h fs codes atoms tables n

  same_pushed : (entries : Entries) (fs : List Function) → ((h n : ℕ) → entry_of entries h n s ≡ entry_of entries h n t) → ((n : ℕ) → get_or fs n never s ≡ get_or fs n never t) → (h n : ℕ) → entry_of (entries ++ fs ∷ []) h n s ≡ entry_of (entries ++ fs ∷ []) h n t
  same_pushed entries fs before here h n =
      ap (λ (xs : List Function). get_or xs n never s) (get-pushed entries fs [] h)
      ∙ (either_one (h == length entries) ∙ ap (λ (xs : List Function). get_or xs n never t) (sym (get-pushed entries fs [] h)))
    where
      either_one : (b : Bool) → get_or (if b then fs else get_or entries h []) n never s ≡ get_or (if b then fs else get_or entries h []) n never t
      either_one true = here n
      either_one false = before h n

  module _ (g : GameData) (variables : (k : ℕ) → k < length g.variables → (n : ℕ) → is_code (state_domains g) Now (place_of g k) n s ≡ is_code (state_domains g) Now (place_of g k) n t) (tables : (k : ℕ) → k < length g.hidden → (n : ℕ) → is_code (state_domains g) Now k n s ≡ is_code (state_domains g) Now k n t) where
    same_atoms : (sc : Scope) → sc.domains ≡ map (λ v. v.domain) g.variables → (entries : Entries) → ((h n : ℕ) → entry_of entries h n s ≡ entry_of entries h n t) → (es : List Formula) → list_all (is_state_formula sc) es ≡ true → map (λ (a : Function). a s) (map (truth_in g entries Now) es) ≡ map (λ (a : Function). a t) (map (truth_in g entries Now) es)
    same_atoms sc domains entries entry [] all = refl
    same_atoms sc domains entries entry (e ∷ es) all =
        let parts = and_parts (is_state_formula sc e) (list_all (is_state_formula sc) es) all in
        let state = and_parts (is_step_formula sc e) (not (has_next e)) parts.0 in
        let step = and_parts (is_truth (kind_of sc e)) (is_stepwise false e) state.0 in
        let read = reads_now g sc domains (SameCodes g entries entry) e (some_truth (kind_of sc e) step.0) step.1 state.1 variables in
        ap (λ (b : Bool). b ∷ map (λ (a : Function). a s) (map (truth_in g entries Now) es)) (same g entries entry e Now read).truth
        ∙ ap (λ (bs : List Bool). truth_in g entries Now e t ∷ bs) (same_atoms sc domains entries entry es parts.1)

    pub same_entries : (hs : List HiddenData) (sc : Scope) → sc.domains ≡ map (λ v. v.domain) g.variables → are_tables sc hs ≡ true → (entries : Entries) → length entries + length hs ≤ length g.hidden → ((h n : ℕ) → entry_of entries h n s ≡ entry_of entries h n t) → (h n : ℕ) → entry_of (entries_after g entries hs) h n s ≡ entry_of (entries_after g entries hs) h n t
    same_entries [] sc domains made entries few entry = entry
    same_entries (h ∷ hs) sc domains made entries few entry =
        let parts = and_parts (is_table sc h) _ made in
        let fs : List Function = map (truth_in g entries Now) h.atoms in
        let atoms = same_atoms sc domains entries entry h.atoms (table_atoms sc h parts.0) in
        let here = same_parts (state_domains g) (length entries) h fs (tables (length entries) (omega (arith, few))) atoms h.tables in
        let longer : length (entries ++ table_entries g entries h ∷ []) ≡ length entries + 1 = length-append entries (table_entries g entries h ∷ []) in
        same_entries hs (record sc { tables = sc.tables ++ length h.tables ∷ [] }) domains parts.1 (entries ++ table_entries g entries h ∷ []) (omega (arith, longer, few)) (same_pushed entries (table_entries g entries h) entry here)

-- ---- other levels

-- a code isn't changed by a level that is none of its bits
code_same : (ds : List DomainData) (at : At) (k n m : ℕ) (s : Bits) (b : Bool) → (IsBitOf ds at k m → ⊥) → is_code ds at k n (with_bit s m b) ≡ is_code ds at k n s
code_same ds at k n m s b none = has_number-same (level_at ds at k) (width_at ds k) n (with_bit s m b) s (λ l low high. other l low high (l == m) refl)
  where
    other : (l : ℕ) → level_at ds at k ≤ l → l < level_at ds at k + width_at ds k → (e : Bool) → (l == m) ≡ e → with_bit s m b l ≡ s l
    other l low high true is = absurd (none (let same : l ≡ m = grind (arith, nat_tests) in (omega (arith, same, low), omega (arith, same, high))))
    other l low high false is = ap (λ (e : Bool). if e then b else s l) is

pub compiled_reads : (g : GameData) → WellMade g → (e : Formula) → is_step_formula (scope_of g) e ≡ true → (m : ℕ) → (IsReadLevel g e m → ⊥) → Ignores m (compiled g e)
compiled_reads g well e made m none s b =
    (same (with_bit s m b) s g (entries_of g g.hidden) entries e Now
    (reads g (scope_of g) refl (SameCodes (with_bit s m b) s g (entries_of g g.hidden) entries) (has_next e ≡ true) (awaits_output g.variables false e ≡ true) variables next e Now (some_truth (kind_of (scope_of g) e) parts.0) parts.1
    (record { reads_next = λ h. h; reads_output = λ h. h; here = λ h. absurd (false≢true h) }))).truth
  where
    parts : (is_truth (kind_of (scope_of g) e) ≡ true) × (is_stepwise false e ≡ true)
    parts = and_parts (is_truth (kind_of (scope_of g) e)) (is_stepwise false e) made

    variables : (k : ℕ) → k < length g.variables → (n : ℕ) → is_code (state_domains g) Now (place_of g k) n (with_bit s m b) ≡ is_code (state_domains g) Now (place_of g k) n s
    variables k h n = code_same (state_domains g) Now (place_of g k) n m s b (λ bit. none (place_of g k, (placed g k h).within, inl bit))

    slots_before : (k : ℕ) → k < length g.hidden → k < length (state_domains g)
    slots_before k h =
        let all = length-append (map table_domain g.hidden) (domains_of is_env g.variables ++ domains_of (λ o. not (is_env o)) g.variables) in
        let long = length-map g.hidden table_domain in
        omega (arith, all, long, h)

    tables : (k : ℕ) → k < length g.hidden → (n : ℕ) → is_code (state_domains g) Now k n (with_bit s m b) ≡ is_code (state_domains g) Now k n s
    tables k h n = code_same (state_domains g) Now k n m s b (λ bit. none (k, slots_before k h, inl bit))

    entries : (h n : ℕ) → entry_of (entries_of g g.hidden) h n (with_bit s m b) ≡ entry_of (entries_of g g.hidden) h n s
    entries = same_entries (with_bit s m b) s g variables tables g.hidden (record { domains = map (λ v. v.domain) g.variables; tables = [] }) refl well.hidden [] (omega arith) (λ h n. refl)

    next : (k : ℕ) → k < length g.variables → has_next e ≡ true → (is_output_variable g.variables k ≡ true → awaits_output g.variables false e ≡ true) → (n : ℕ) → is_code (state_domains g) Next (place_of g k) n (with_bit s m b) ≡ is_code (state_domains g) Next (place_of g k) n s
    next k h reads_next output n = code_same (state_domains g) Next (place_of g k) n m s b (λ bit. none (place_of g k, (placed g k h).within, inr (bit, (reads_next, by_slot (placed g k h).slot))))
      where
        by_slot : IsInputSlot g (place_of g k) ⊎ (IsOutputSlot g (place_of g k) × (is_output_variable g.variables k ≡ true)) → IsInputSlot g (place_of g k) ⊎ ((awaits_output g.variables false e ≡ true) × IsOutputSlot g (place_of g k))
        by_slot (inl input) = inl input
        by_slot (inr out) = inr (output out.1, out.0)
