-- What a formula reads with entries in place of its past operators.
use Rattle.std.proofs.Common.{◌≡◌, ℕ, Bool, true, false, not, ◌&&◌, ◌||◌, List, [], ◌∷◌, ◌++◌, get_or, refl, sym, ap, ◌∙◌}
use Rattle.std.specs.List.{list_any}
use Rattle.std.proofs.lemmas.Bool.{and_parts, and_from, or_parts, false≢true}
use Rattle.spec_model.specs.declared.expr.Past.{Past}
use Rattle.spec_model.specs.declared.expr.Past.TheVariants as past
use Rattle.spec_model.specs.Syntax.{Formula, Constant, Variable, NextOf, Negation, Conjunction, Disjunction, Implication, Equivalence, Comparison, Sum, Difference, Product, Remainder, PastOf, Entry, Formulas, VariableData}
use Rattle.spec_model.specs.Moves.{has_next, some_has_next, present_variables, present_in_each}
use Rattle.spec_model.specs.Sizes.{same_formula, past_trees, past_trees_of_all}
use Rattle.spec_model.specs.Steps.{is_output_variable, reads_output, some_reads_output}
use Rattle.spec_model.specs.WellMade.{is_stepwise, are_stepwise, awaits_output, some_awaits_output}
use Rattle.spec_model.specs.WellTyped.{is_nested_well, are_nested_well, reads_some, some_reads, shifts_some, some_shifts}
use Rattle.game_play.proofs.OutputReads.{reads_both}
use Rattle.past_bits.specs.Entries.{place_of, with_entries, each_with_entries}
use Rattle.past_bits.proofs.Plain.{is_plain, are_plain}
use Rattle.past_bits.proofs.Ordered.{covers}
use Rattle.past_bits.proofs.Agreeing.{both_covered}

-- ---- tests

neither : (a b : Bool) → a ≡ false → b ≡ false → (a || b) ≡ false
neither true b e f = e
neither false b e f = f

either : (a b c d : Bool) → a ≡ c → b ≡ d → (a || b) ≡ (c || d)
either a b c d e f = ap (λ x. x || b) e ∙ ap (λ x. c || x) f

-- two tests, each from one of two others
both : (a b c d : Bool) → (a && b) ≡ true → (a ≡ true → c ≡ true) → (b ≡ true → d ≡ true) → (c && d) ≡ true
both a b c d e first second = let parts = and_parts a b e in and_from c d (first parts.0) (second parts.1)

either_of_both : (a b c d e f : Bool) → (a && b) ≡ true → (a ≡ true → c ≡ e) → (b ≡ true → d ≡ f) → (c || d) ≡ (e || f)
either_of_both a b c d e f well first second = let parts = and_parts a b well in either c d e f (first parts.0) (second parts.1)

none_of_both : (a b c d e f : Bool) → (a && b) ≡ true → (c || d) ≡ false → (a ≡ true → c ≡ false → e ≡ false) → (b ≡ true → d ≡ false → f ≡ false) → (e || f) ≡ false
none_of_both a b c d e f well none first second =
    let parts = and_parts a b well in
    let nones = or_parts c d none in
    neither e f (first parts.0 nones.0) (second parts.1 nones.1)

module _ (ops : List Formula) (m : ℕ) where
  -- what is nested well reads a state and the next one, once its operators are entries
  mutual
    pub stepwise : (u p : Bool) (e : Formula) → is_nested_well m u p e ≡ true → is_stepwise u (with_entries ops e) ≡ true
    stepwise u p (Constant v) well = refl
    stepwise u p (Variable k) well = refl
    stepwise u p (NextOf e) well =
        let parts = and_parts (not u) _ well in
        let inner = and_parts (not p) _ parts.1 in
        and_from (not u) _ parts.0 (stepwise true p e inner.1)
    stepwise u p (Negation e) well = stepwise u p e well
    stepwise u p (Conjunction es) well = all_stepwise u p es well
    stepwise u p (Disjunction es) well = all_stepwise u p es well
    stepwise u p (Implication a b) well = both _ _ _ _ well (stepwise u p a) (stepwise u p b)
    stepwise u p (Equivalence a b) well = both _ _ _ _ well (stepwise u p a) (stepwise u p b)
    stepwise u p (Comparison c a b) well = both _ _ _ _ well (stepwise u p a) (stepwise u p b)
    stepwise u p (Sum a b) well = both _ _ _ _ well (stepwise u p a) (stepwise u p b)
    stepwise u p (Difference a b) well = both _ _ _ _ well (stepwise u p a) (stepwise u p b)
    stepwise u p (Product a b) well = both _ _ _ _ well (stepwise u p a) (stepwise u p b)
    stepwise u p (Remainder a n) well = stepwise u p a well
    stepwise u p (PastOf op es) well = (and_parts (not u) _ well).0
    stepwise u p (Entry h n) well = absurd (false≢true well)

    all_stepwise : (u p : Bool) (es : Formulas) → are_nested_well m u p es ≡ true → are_stepwise u (each_with_entries ops es) ≡ true
    all_stepwise u p Formulas.none well = refl
    all_stepwise u p (Formulas.one_more e es) well = both _ _ _ _ well (stepwise u p e) (all_stepwise u p es)

  -- `next` stands in no past operator
  mutual
    no_next : (u : Bool) (e : Formula) → is_nested_well m u true e ≡ true → has_next e ≡ false
    no_next u (Constant v) well = refl
    no_next u (Variable k) well = refl
    no_next u (NextOf e) well = absurd (false≢true (and_parts (not u) _ well).1)
    no_next u (Negation e) well = no_next u e well
    no_next u (Conjunction es) well = none_has_next u es well
    no_next u (Disjunction es) well = none_has_next u es well
    no_next u (Implication a b) well = either_of_both _ _ _ _ false false well (no_next u a) (no_next u b)
    no_next u (Equivalence a b) well = either_of_both _ _ _ _ false false well (no_next u a) (no_next u b)
    no_next u (Comparison c a b) well = either_of_both _ _ _ _ false false well (no_next u a) (no_next u b)
    no_next u (Sum a b) well = either_of_both _ _ _ _ false false well (no_next u a) (no_next u b)
    no_next u (Difference a b) well = either_of_both _ _ _ _ false false well (no_next u a) (no_next u b)
    no_next u (Product a b) well = either_of_both _ _ _ _ false false well (no_next u a) (no_next u b)
    no_next u (Remainder a n) well = no_next u a well
    no_next u (PastOf op es) well = none_has_next u es (and_parts (not u) _ well).1
    no_next u (Entry h n) well = refl

    none_has_next : (u : Bool) (es : Formulas) → are_nested_well m u true es ≡ true → some_has_next es ≡ false
    none_has_next u Formulas.none well = refl
    none_has_next u (Formulas.one_more e es) well = either_of_both _ _ _ _ false false well (no_next u e) (none_has_next u es)

  mutual
    pub has_next-entered : (u p : Bool) (e : Formula) → is_nested_well m u p e ≡ true → has_next (with_entries ops e) ≡ has_next e
    has_next-entered u p (Constant v) well = refl
    has_next-entered u p (Variable k) well = refl
    has_next-entered u p (NextOf e) well = refl
    has_next-entered u p (Negation e) well = has_next-entered u p e well
    has_next-entered u p (Conjunction es) well = some_has_next-entered u p es well
    has_next-entered u p (Disjunction es) well = some_has_next-entered u p es well
    has_next-entered u p (Implication a b) well = either_of_both _ _ _ _ _ _ well (has_next-entered u p a) (has_next-entered u p b)
    has_next-entered u p (Equivalence a b) well = either_of_both _ _ _ _ _ _ well (has_next-entered u p a) (has_next-entered u p b)
    has_next-entered u p (Comparison c a b) well = either_of_both _ _ _ _ _ _ well (has_next-entered u p a) (has_next-entered u p b)
    has_next-entered u p (Sum a b) well = either_of_both _ _ _ _ _ _ well (has_next-entered u p a) (has_next-entered u p b)
    has_next-entered u p (Difference a b) well = either_of_both _ _ _ _ _ _ well (has_next-entered u p a) (has_next-entered u p b)
    has_next-entered u p (Product a b) well = either_of_both _ _ _ _ _ _ well (has_next-entered u p a) (has_next-entered u p b)
    has_next-entered u p (Remainder a n) well = has_next-entered u p a well
    has_next-entered u p (PastOf op es) well = sym (none_has_next u es (and_parts (not u) _ well).1)
    has_next-entered u p (Entry h n) well = refl

    some_has_next-entered : (u p : Bool) (es : Formulas) → are_nested_well m u p es ≡ true → some_has_next (each_with_entries ops es) ≡ some_has_next es
    some_has_next-entered u p Formulas.none well = refl
    some_has_next-entered u p (Formulas.one_more e es) well = either_of_both _ _ _ _ _ _ well (has_next-entered u p e) (some_has_next-entered u p es)

  -- ---- what is read next

  module _ (vs : List VariableData) where
    abbrev output : ℕ → Bool
    output = is_output_variable vs

    mutual
      awaits_under : (p : Bool) (e : Formula) → is_nested_well m true p e ≡ true → reads_some output e ≡ false → awaits_output vs true (with_entries ops e) ≡ false
      awaits_under p (Constant v) well none = refl
      awaits_under p (Variable k) well none = none
      awaits_under p (NextOf e) well none = absurd (false≢true well)
      awaits_under p (Negation e) well none = awaits_under p e well none
      awaits_under p (Conjunction es) well none = none_awaits_under p es well none
      awaits_under p (Disjunction es) well none = none_awaits_under p es well none
      awaits_under p (Implication a b) well none = none_of_both _ _ _ _ _ _ well none (awaits_under p a) (awaits_under p b)
      awaits_under p (Equivalence a b) well none = none_of_both _ _ _ _ _ _ well none (awaits_under p a) (awaits_under p b)
      awaits_under p (Comparison c a b) well none = none_of_both _ _ _ _ _ _ well none (awaits_under p a) (awaits_under p b)
      awaits_under p (Sum a b) well none = none_of_both _ _ _ _ _ _ well none (awaits_under p a) (awaits_under p b)
      awaits_under p (Difference a b) well none = none_of_both _ _ _ _ _ _ well none (awaits_under p a) (awaits_under p b)
      awaits_under p (Product a b) well none = none_of_both _ _ _ _ _ _ well none (awaits_under p a) (awaits_under p b)
      awaits_under p (Remainder a n) well none = awaits_under p a well none
      awaits_under p (PastOf op es) well none = refl
      awaits_under p (Entry h n) well none = refl

      none_awaits_under : (p : Bool) (es : Formulas) → are_nested_well m true p es ≡ true → some_reads output es ≡ false → some_awaits_output vs true (each_with_entries ops es) ≡ false
      none_awaits_under p Formulas.none well none = refl
      none_awaits_under p (Formulas.one_more e es) well none = none_of_both _ _ _ _ _ _ well none (awaits_under p e) (none_awaits_under p es)

    -- what reads no output under a `next` awaits none
    mutual
      pub awaits_none : (p : Bool) (e : Formula) → is_nested_well m false p e ≡ true → shifts_some output e ≡ false → awaits_output vs false (with_entries ops e) ≡ false
      awaits_none p (Constant v) well none = refl
      awaits_none p (Variable k) well none = refl
      awaits_none p (NextOf e) well none = awaits_under p e (and_parts (not p) _ well).1 none
      awaits_none p (Negation e) well none = awaits_none p e well none
      awaits_none p (Conjunction es) well none = none_awaits p es well none
      awaits_none p (Disjunction es) well none = none_awaits p es well none
      awaits_none p (Implication a b) well none = none_of_both _ _ _ _ _ _ well none (awaits_none p a) (awaits_none p b)
      awaits_none p (Equivalence a b) well none = none_of_both _ _ _ _ _ _ well none (awaits_none p a) (awaits_none p b)
      awaits_none p (Comparison c a b) well none = none_of_both _ _ _ _ _ _ well none (awaits_none p a) (awaits_none p b)
      awaits_none p (Sum a b) well none = none_of_both _ _ _ _ _ _ well none (awaits_none p a) (awaits_none p b)
      awaits_none p (Difference a b) well none = none_of_both _ _ _ _ _ _ well none (awaits_none p a) (awaits_none p b)
      awaits_none p (Product a b) well none = none_of_both _ _ _ _ _ _ well none (awaits_none p a) (awaits_none p b)
      awaits_none p (Remainder a n) well none = awaits_none p a well none
      awaits_none p (PastOf op es) well none = refl
      awaits_none p (Entry h n) well none = refl

      none_awaits : (p : Bool) (es : Formulas) → are_nested_well m false p es ≡ true → some_shifts output es ≡ false → some_awaits_output vs false (each_with_entries ops es) ≡ false
      none_awaits p Formulas.none well none = refl
      none_awaits p (Formulas.one_more e es) well none = none_of_both _ _ _ _ _ _ well none (awaits_none p e) (none_awaits p es)

-- ---- what is read at present

-- a test of one variable
alone : (b : Bool) → b ≡ (b || false)
alone true = refl
alone false = refl

module _ (test : ℕ → Bool) where
  both_present : (as' bs : List ℕ) (c d : Bool) → (c || d) ≡ false → (c ≡ false → list_any test as' ≡ false) → (d ≡ false → list_any test bs ≡ false) → list_any test (as' ++ bs) ≡ false
  both_present as' bs c d none first second = let nones = or_parts c d none in reads_both test as' bs ∙ neither _ _ (first nones.0) (second nones.1)

  -- what isn't read anywhere isn't read at present
  mutual
    pub none_present : (e : Formula) → reads_some test e ≡ false → list_any test (present_variables e) ≡ false
    none_present (Constant v) none = refl
    none_present (Variable k) none = sym (alone (test k)) ∙ none
    none_present (NextOf e) none = refl
    none_present (Negation e) none = none_present e none
    none_present (Conjunction es) none = none_in_each es none
    none_present (Disjunction es) none = none_in_each es none
    none_present (Implication a b) none = both_present _ _ _ _ none (none_present a) (none_present b)
    none_present (Equivalence a b) none = both_present _ _ _ _ none (none_present a) (none_present b)
    none_present (Comparison c a b) none = both_present _ _ _ _ none (none_present a) (none_present b)
    none_present (Sum a b) none = both_present _ _ _ _ none (none_present a) (none_present b)
    none_present (Difference a b) none = both_present _ _ _ _ none (none_present a) (none_present b)
    none_present (Product a b) none = both_present _ _ _ _ none (none_present a) (none_present b)
    none_present (Remainder a n) none = none_present a none
    none_present (PastOf past.Prev es) none = refl
    none_present (PastOf past.Once es) none = none_in_each es none
    none_present (PastOf past.Historically es) none = none_in_each es none
    none_present (PastOf past.Since es) none = none_in_each es none
    none_present (PastOf past.Triggered es) none = none_in_each es none
    none_present (Entry h n) none = refl

    none_in_each : (es : Formulas) → some_reads test es ≡ false → list_any test (present_in_each es) ≡ false
    none_in_each Formulas.none none = refl
    none_in_each (Formulas.one_more e es) none = both_present _ _ _ _ none (none_present e) (none_in_each es)

-- The formula with entries reads an output exactly where a present variable of the formula is one, if that is so of the
-- operators that are known.
module _ (vs : List VariableData) (ops known : List Formula) (flags : List Bool)
    (entries : (op : Past) (es : Formulas) → list_any (same_formula (PastOf op es)) known ≡ true → get_or flags (place_of ops (PastOf op es)) false ≡ list_any (is_output_variable vs) (present_variables (PastOf op es)))
    (n : Bool) where
  abbrev out : ℕ → Bool
  out = is_output_variable vs

  reads_two : (a b : Bool) (c d : Formula) (as' bs : List ℕ) → (a && b) ≡ true → covers known (past_trees c ++ past_trees d) ≡ true →
      (a ≡ true → covers known (past_trees c) ≡ true → reads_output vs flags (with_entries ops c) ≡ list_any out as') →
      (b ≡ true → covers known (past_trees d) ≡ true → reads_output vs flags (with_entries ops d) ≡ list_any out bs) →
      (reads_output vs flags (with_entries ops c) || reads_output vs flags (with_entries ops d)) ≡ list_any out (as' ++ bs)
  reads_two a b c d as' bs plain has first second =
      let parts = and_parts a b plain in
      let there = both_covered known (past_trees c) (past_trees d) has in
      either _ _ _ _ (first parts.0 there.0) (second parts.1 there.1) ∙ sym (reads_both out as' bs)

  mutual
    pub reads_same : (e : Formula) → is_plain n e ≡ true → covers known (past_trees e) ≡ true → reads_output vs flags (with_entries ops e) ≡ list_any out (present_variables e)
    reads_same (Constant v) plain has = refl
    reads_same (Variable k) plain has = alone (out k)
    reads_same (NextOf e) plain has = refl
    reads_same (Negation e) plain has = reads_same e plain has
    reads_same (Conjunction es) plain has = each_reads_same es plain has
    reads_same (Disjunction es) plain has = each_reads_same es plain has
    reads_same (Implication a b) plain has = reads_two _ _ a b _ _ plain has (reads_same a) (reads_same b)
    reads_same (Equivalence a b) plain has = reads_two _ _ a b _ _ plain has (reads_same a) (reads_same b)
    reads_same (Comparison c a b) plain has = reads_two _ _ a b _ _ plain has (reads_same a) (reads_same b)
    reads_same (Sum a b) plain has = reads_two _ _ a b _ _ plain has (reads_same a) (reads_same b)
    reads_same (Difference a b) plain has = reads_two _ _ a b _ _ plain has (reads_same a) (reads_same b)
    reads_same (Product a b) plain has = reads_two _ _ a b _ _ plain has (reads_same a) (reads_same b)
    reads_same (Remainder a k) plain has = reads_same a plain has
    reads_same (PastOf op es) plain has = entries op es (and_parts (list_any (same_formula (PastOf op es)) known) true (both_covered known (past_trees_of_all es) (PastOf op es ∷ []) has).1).0
    reads_same (Entry h k) plain has = absurd (false≢true plain)

    pub each_reads_same : (es : Formulas) → are_plain n es ≡ true → covers known (past_trees_of_all es) ≡ true → some_reads_output vs flags (each_with_entries ops es) ≡ list_any out (present_in_each es)
    each_reads_same Formulas.none plain has = refl
    each_reads_same (Formulas.one_more e es) plain has =
        let parts = and_parts (is_plain n e) (are_plain n es) plain in
        let there = both_covered known (past_trees e) (past_trees_of_all es) has in
        either _ _ _ _ (reads_same e parts.0 there.0) (each_reads_same es parts.1 there.1) ∙ sym (reads_both out (present_variables e) (present_in_each es))
