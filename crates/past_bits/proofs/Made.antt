-- The tables of a well-typed specification's operators are well made.
use Rattle.std.proofs.Common.{◌≡◌, ℕ, suc, ◌+◌, Bool, true, false, not, ◌&&◌, ◌||◌, ◌==◌, cond, List, [], ◌∷◌, ◌++◌, length, map, flat_map, is_some, refl, sym, ap, ◌∙◌, arith, append_assoc, append-nil}
use Rattle.std.specs.List.{list_any, list_all}
use Rattle.std.proofs.lemmas.Bool.{and_parts, and_from, false≢true}
use Rattle.std.proofs.lemmas.List.Folds.{list_all-append}
use Rattle.std.proofs.lemmas.List.{map-append}
use borrow.Author.Tests.{eqb-true}
use Rattle.spec_model.specs.declared.expr.Past.{Past}
use Rattle.spec_model.specs.declared.expr.Past.TheVariants.{Prev, Once, Historically, Since, Triggered}
use Rattle.spec_model.specs.Syntax.{Formula, Constant, Variable, NextOf, Negation, Conjunction, Disjunction, Implication, Equivalence, Comparison, Sum, Difference, Product, Remainder, PastOf, Entry, Formulas, listed, Statement, Specification}
use Rattle.spec_model.specs.Values.{DomainData}
use Rattle.spec_model.specs.Moves.{has_next, some_has_next}
use Rattle.spec_model.specs.Sizes.{same_formula, past_trees, past_trees_of_all, formulas_of, past_operators}
use Rattle.spec_model.specs.Typing.{Scope, kind_of, are_truths, is_truth, truth_if, compared, summed, subtracted, multiplied, reduced, has_table, count_of, operands_of}
use Rattle.spec_model.specs.WellMade.{is_stepwise, are_stepwise, is_state_formula, is_table, are_tables}
use Rattle.spec_model.specs.WellTyped.{scope_of_specification}
use Rattle.past_bits.specs.Tables.{first_bit, number_of_bit, next_cells, entry_cells}
use Rattle.past_bits.specs.Entries.{place_of, with_entries, each_with_entries, with_operator, added}
use Rattle.past_bits.specs.Bits.{table_of, tables_of}
use Rattle.past_bits.proofs.Plain.{is_plain, are_plain, truth_holds, some_truth, both_compared, both_summed, both_subtracted, both_multiplied, one_reduced}
use Rattle.past_bits.proofs.Collected.{added-nil}
use Rattle.past_bits.proofs.Ordered.{covers, is_in_order, trees_in_line, AreOrdered}
use Rattle.past_bits.proofs.Agreeing.{both_covered}

two : {X Y Z : Type 0} (f : X → Y → Z) {a c : X} {b d : Y} → a ≡ c → b ≡ d → f a b ≡ f c d
two f p q = λ i. f (p i) (q i)

-- ---- each operator in a formula that has a kind has its kind

module _ (sc : Scope) where
  abbrev pub is_truth_formula : Formula → Bool
  is_truth_formula e = is_truth (kind_of sc e)

  truth_of_true : (b : Bool) → b ≡ true → is_truth (truth_if b) ≡ true
  truth_of_true true is = refl
  truth_of_true false is = absurd (false≢true is)

  all_both : (xs ys : List Formula) → list_all is_truth_formula xs ≡ true → list_all is_truth_formula ys ≡ true → list_all is_truth_formula (xs ++ ys) ≡ true
  all_both xs ys first second = list_all-append is_truth_formula xs ys ∙ and_from _ _ first second

  mutual
    pub trees_typed : (e : Formula) → is_some (kind_of sc e) ≡ true → list_all is_truth_formula (past_trees e) ≡ true
    trees_typed (Constant v) k = refl
    trees_typed (Variable n) k = refl
    trees_typed (NextOf e) k = trees_typed e k
    trees_typed (Negation e) k = trees_typed e (some_truth (kind_of sc e) (truth_holds (is_truth (kind_of sc e)) k))
    trees_typed (Conjunction es) k = each_typed es (truth_holds (are_truths sc es) k)
    trees_typed (Disjunction es) k = each_typed es (truth_holds (are_truths sc es) k)
    trees_typed (Implication a b) k =
        let ks = and_parts (is_truth (kind_of sc a)) (is_truth (kind_of sc b)) (truth_holds (is_truth (kind_of sc a) && is_truth (kind_of sc b)) k) in
        let ka = some_truth (kind_of sc a) ks.0 in let kb = some_truth (kind_of sc b) ks.1 in
        all_both (past_trees a) (past_trees b) (trees_typed a ka) (trees_typed b kb)
    trees_typed (Equivalence a b) k =
        let ks = and_parts (is_truth (kind_of sc a)) (is_truth (kind_of sc b)) (truth_holds (is_truth (kind_of sc a) && is_truth (kind_of sc b)) k) in
        let ka = some_truth (kind_of sc a) ks.0 in let kb = some_truth (kind_of sc b) ks.1 in
        all_both (past_trees a) (past_trees b) (trees_typed a ka) (trees_typed b kb)
    trees_typed (Comparison c a b) k =
        let ks = both_compared c (kind_of sc a) (kind_of sc b) k in let ka = ks.0 in let kb = ks.1 in
        all_both (past_trees a) (past_trees b) (trees_typed a ka) (trees_typed b kb)
    trees_typed (Sum a b) k =
        let ks = both_summed (kind_of sc a) (kind_of sc b) k in let ka = ks.0 in let kb = ks.1 in
        all_both (past_trees a) (past_trees b) (trees_typed a ka) (trees_typed b kb)
    trees_typed (Difference a b) k =
        let ks = both_subtracted (kind_of sc a) (kind_of sc b) k in let ka = ks.0 in let kb = ks.1 in
        all_both (past_trees a) (past_trees b) (trees_typed a ka) (trees_typed b kb)
    trees_typed (Product a b) k =
        let ks = both_multiplied (kind_of sc a) (kind_of sc b) k in let ka = ks.0 in let kb = ks.1 in
        all_both (past_trees a) (past_trees b) (trees_typed a ka) (trees_typed b kb)
    trees_typed (Remainder a n) k = trees_typed a (one_reduced (kind_of sc a) n k)
    trees_typed (PastOf op es) k =
        let here = truth_holds (count_of es == operands_of op && are_truths sc es) k in
        all_both (past_trees_of_all es) (PastOf op es ∷ []) (each_typed es (and_parts (count_of es == operands_of op) (are_truths sc es) here).1) (and_from _ _ (truth_of_true _ here) refl)
    trees_typed (Entry h n) k = refl

    each_typed : (es : Formulas) → are_truths sc es ≡ true → list_all is_truth_formula (past_trees_of_all es) ≡ true
    each_typed Formulas.none k = refl
    each_typed (Formulas.one_more e es) k =
        let ks = and_parts (is_truth (kind_of sc e)) (are_truths sc es) k in
        all_both (past_trees e) (past_trees_of_all es) (trees_typed e (some_truth (kind_of sc e) ks.0)) (each_typed es ks.1)

  with_typed : (ops : List Formula) (e : Formula) → list_all is_truth_formula ops ≡ true → is_truth_formula e ≡ true → list_all is_truth_formula (with_operator ops e) ≡ true
  with_typed ops e all one = at (list_any (same_formula e) ops)
    where
      at : (b : Bool) → list_all is_truth_formula (cond b ops (ops ++ e ∷ [])) ≡ true
      at true = all
      at false = all_both ops (e ∷ []) all (and_from _ _ one refl)

  pub added_typed : (ops es : List Formula) → list_all is_truth_formula ops ≡ true → list_all is_truth_formula es ≡ true → list_all is_truth_formula (added ops es) ≡ true
  added_typed ops [] all more = all
  added_typed ops (e ∷ es) all more = let parts = and_parts (is_truth_formula e) (list_all is_truth_formula es) more in added_typed (with_operator ops e) es (with_typed ops e all parts.0) parts.1

-- ---- the kind of a formula with entries

abbrev pub ones : List Formula → List ℕ
ones pre = map (λ e. 1) pre

past_first : (counts : List ℕ) (k : ℕ) → has_table (1 ∷ counts) (1 + k) 0 ≡ has_table counts k 0
past_first counts k = let next : 1 + k ≡ suc k = omega arith in rw next refl

pub has_at : (pre post : List Formula) (more : List ℕ) (e : Formula) → list_any (same_formula e) pre ≡ true → has_table (ones pre ++ more) (place_of (pre ++ post) e) 0 ≡ true
has_at [] post more e is = absurd (false≢true is)
has_at (x ∷ pre) post more e is = at (same_formula e x) refl is (has_at pre post more e)
  where
    at : (b : Bool) → same_formula e x ≡ b → list_any (same_formula e) (x ∷ pre) ≡ true → (list_any (same_formula e) pre ≡ true → has_table (ones pre ++ more) (place_of (pre ++ post) e) 0 ≡ true) →
        has_table (1 ∷ (ones pre ++ more)) (place_of (x ∷ (pre ++ post)) e) 0 ≡ true
    at true same there rest = rw same refl
    at false same there rest = rw same (past_first (ones pre ++ more) (place_of (pre ++ post) e) ∙ rest (rw same at there))

-- where the tables of the operators may be followed by more
module _ (domains : List DomainData) (ops pre post : List Formula) (split : ops ≡ pre ++ post) (more : List ℕ) where
  abbrev sc : Scope
  sc = record { domains = domains; tables = [] }

  abbrev over : Scope
  over = record { domains = domains; tables = ones pre ++ more }

  truth_is : (b : Bool) → b ≡ true → truth_if true ≡ truth_if b
  truth_is true is = refl
  truth_is false is = absurd (false≢true is)

  mutual
    pub kind_same : (e : Formula) → is_some (kind_of sc e) ≡ true → covers pre (past_trees e) ≡ true → kind_of over (with_entries ops e) ≡ kind_of sc e
    kind_same (Constant v) k has = refl
    kind_same (Variable n) k has = refl
    kind_same (NextOf e) k has = kind_same e k has
    kind_same (Negation e) k has = ap (λ p. truth_if (is_truth p)) (kind_same e (some_truth (kind_of sc e) (truth_holds (is_truth (kind_of sc e)) k)) has)
    kind_same (Conjunction es) k has = ap truth_if (truths_same es (truth_holds (are_truths sc es) k) has)
    kind_same (Disjunction es) k has = ap truth_if (truths_same es (truth_holds (are_truths sc es) k) has)
    kind_same (Implication a b) k has =
        let ks = and_parts (is_truth (kind_of sc a)) (is_truth (kind_of sc b)) (truth_holds (is_truth (kind_of sc a) && is_truth (kind_of sc b)) k) in
        let ka = some_truth (kind_of sc a) ks.0 in let kb = some_truth (kind_of sc b) ks.1 in
        let there = both_covered pre (past_trees a) (past_trees b) has in
        two (λ p q. truth_if (is_truth p && is_truth q)) (kind_same a ka there.0) (kind_same b kb there.1)
    kind_same (Equivalence a b) k has =
        let ks = and_parts (is_truth (kind_of sc a)) (is_truth (kind_of sc b)) (truth_holds (is_truth (kind_of sc a) && is_truth (kind_of sc b)) k) in
        let ka = some_truth (kind_of sc a) ks.0 in let kb = some_truth (kind_of sc b) ks.1 in
        let there = both_covered pre (past_trees a) (past_trees b) has in
        two (λ p q. truth_if (is_truth p && is_truth q)) (kind_same a ka there.0) (kind_same b kb there.1)
    kind_same (Comparison c a b) k has =
        let ks = both_compared c (kind_of sc a) (kind_of sc b) k in let ka = ks.0 in let kb = ks.1 in
        let there = both_covered pre (past_trees a) (past_trees b) has in
        two (λ p q. compared c p q) (kind_same a ka there.0) (kind_same b kb there.1)
    kind_same (Sum a b) k has =
        let ks = both_summed (kind_of sc a) (kind_of sc b) k in let ka = ks.0 in let kb = ks.1 in
        let there = both_covered pre (past_trees a) (past_trees b) has in
        two (λ p q. summed p q) (kind_same a ka there.0) (kind_same b kb there.1)
    kind_same (Difference a b) k has =
        let ks = both_subtracted (kind_of sc a) (kind_of sc b) k in let ka = ks.0 in let kb = ks.1 in
        let there = both_covered pre (past_trees a) (past_trees b) has in
        two (λ p q. subtracted p q) (kind_same a ka there.0) (kind_same b kb there.1)
    kind_same (Product a b) k has =
        let ks = both_multiplied (kind_of sc a) (kind_of sc b) k in let ka = ks.0 in let kb = ks.1 in
        let there = both_covered pre (past_trees a) (past_trees b) has in
        two (λ p q. multiplied p q) (kind_same a ka there.0) (kind_same b kb there.1)
    kind_same (Remainder a n) k has = ap (λ p. reduced p n) (kind_same a (one_reduced (kind_of sc a) n k) has)
    kind_same (PastOf op es) k has =
        let there = (and_parts (list_any (same_formula (PastOf op es)) pre) true (both_covered pre (past_trees_of_all es) (PastOf op es ∷ []) has).1).0 in
        ap truth_if (ap (λ os. has_table (ones pre ++ more) (place_of os (PastOf op es)) 0) split ∙ has_at pre post more (PastOf op es) there)
        ∙ truth_is (count_of es == operands_of op && are_truths sc es) (truth_holds (count_of es == operands_of op && are_truths sc es) k)
    kind_same (Entry h n) k has = absurd (false≢true k)

    truths_same : (es : Formulas) → are_truths sc es ≡ true → covers pre (past_trees_of_all es) ≡ true → are_truths over (each_with_entries ops es) ≡ are_truths sc es
    truths_same Formulas.none k has = refl
    truths_same (Formulas.one_more e es) k has =
        let ks = and_parts (is_truth (kind_of sc e)) (are_truths sc es) k in
        let there = both_covered pre (past_trees e) (past_trees_of_all es) has in
        two (λ p b. is_truth p && b) (kind_same e (some_truth (kind_of sc e) ks.0) there.0) (truths_same es ks.1 there.1)

-- ---- a formula with entries reads a position alone, where `next` stands nowhere in it but in its operators

neither : (a b : Bool) → a ≡ false → b ≡ false → (a || b) ≡ false
neither true b is other = is
neither false b is other = other

module _ (ops : List Formula) where
  mutual
    pub stepwise : (e : Formula) → is_plain false e ≡ true → (is_stepwise false (with_entries ops e) ≡ true) × (has_next (with_entries ops e) ≡ false)
    stepwise (Constant v) is = (refl, refl)
    stepwise (Variable k) is = (refl, refl)
    stepwise (NextOf e) is = absurd (false≢true is)
    stepwise (Negation e) is = stepwise e is
    stepwise (Conjunction es) is = all_stepwise es is
    stepwise (Disjunction es) is = all_stepwise es is
    stepwise (Implication a b) is =
        let parts = and_parts (is_plain false a) (is_plain false b) is in
        let first = stepwise a parts.0 in let second = stepwise b parts.1 in
        (and_from _ _ first.0 second.0, neither _ _ first.1 second.1)
    stepwise (Equivalence a b) is =
        let parts = and_parts (is_plain false a) (is_plain false b) is in
        let first = stepwise a parts.0 in let second = stepwise b parts.1 in
        (and_from _ _ first.0 second.0, neither _ _ first.1 second.1)
    stepwise (Comparison c a b) is =
        let parts = and_parts (is_plain false a) (is_plain false b) is in
        let first = stepwise a parts.0 in let second = stepwise b parts.1 in
        (and_from _ _ first.0 second.0, neither _ _ first.1 second.1)
    stepwise (Sum a b) is =
        let parts = and_parts (is_plain false a) (is_plain false b) is in
        let first = stepwise a parts.0 in let second = stepwise b parts.1 in
        (and_from _ _ first.0 second.0, neither _ _ first.1 second.1)
    stepwise (Difference a b) is =
        let parts = and_parts (is_plain false a) (is_plain false b) is in
        let first = stepwise a parts.0 in let second = stepwise b parts.1 in
        (and_from _ _ first.0 second.0, neither _ _ first.1 second.1)
    stepwise (Product a b) is =
        let parts = and_parts (is_plain false a) (is_plain false b) is in
        let first = stepwise a parts.0 in let second = stepwise b parts.1 in
        (and_from _ _ first.0 second.0, neither _ _ first.1 second.1)
    stepwise (Remainder a k) is = stepwise a is
    stepwise (PastOf op es) is = (refl, refl)
    stepwise (Entry h k) is = absurd (false≢true is)

    all_stepwise : (es : Formulas) → are_plain false es ≡ true → (are_stepwise false (each_with_entries ops es) ≡ true) × (some_has_next (each_with_entries ops es) ≡ false)
    all_stepwise Formulas.none is = (refl, refl)
    all_stepwise (Formulas.one_more e es) is =
        let parts = and_parts (is_plain false e) (are_plain false es) is in
        let first = stepwise e parts.0 in let second = all_stepwise es parts.1 in
        (and_from _ _ first.0 second.0, neither _ _ first.1 second.1)

-- ---- tables

module _ (domains : List DomainData) (ops : List Formula) where
  atoms_made : (pre post : List Formula) → ops ≡ pre ++ post → (es : Formulas) → are_truths (record { domains = domains; tables = [] }) es ≡ true → are_plain false es ≡ true → covers pre (past_trees_of_all es) ≡ true →
      list_all (is_state_formula (record { domains = domains; tables = ones pre })) (listed (each_with_entries ops es)) ≡ true
  atoms_made pre post split Formulas.none k plain has = refl
  atoms_made pre post split (Formulas.one_more e es) k plain has =
      let ks = and_parts (is_truth (kind_of (record { domains = domains; tables = [] }) e)) (are_truths (record { domains = domains; tables = [] }) es) k in
      let plains = and_parts (is_plain false e) (are_plain false es) plain in
      let there = both_covered pre (past_trees e) (past_trees_of_all es) has in
      let steps = stepwise ops e plains.0 in
      let kind =
      ap (λ counts. is_truth (kind_of (record { domains = domains; tables = counts }) (with_entries ops e))) (sym (append-nil (ones pre)))
      ∙ (ap is_truth (kind_same domains ops pre post split [] e (some_truth (kind_of (record { domains = domains; tables = [] }) e) ks.0) there.0) ∙ ks.0) in
      and_from _ _ (and_from _ _ (and_from _ _ kind steps.0) (ap not steps.1)) (atoms_made pre post split es ks.1 plains.1 there.1)

  pub length-listed : (es : Formulas) → length (listed (each_with_entries ops es)) ≡ count_of es
  length-listed Formulas.none = refl
  length-listed (Formulas.one_more e es) = ap suc (length-listed es)

  -- all but the atoms, by the operator
  filled : (sc : Scope) (op : Past) (atoms : List Formula) → length atoms ≡ operands_of op → list_all (is_state_formula sc) atoms ≡ true →
      is_table sc (record { values = 2; first = number_of_bit (first_bit op); atoms = atoms; next = next_cells op; tables = entry_cells op ∷ [] }) ≡ true
  filled sc Prev atoms long made = rw (long, made) refl
  filled sc Once atoms long made = rw (long, made) refl
  filled sc Historically atoms long made = rw (long, made) refl
  filled sc Since atoms long made = rw (long, made) refl
  filled sc Triggered atoms long made = rw (long, made) refl

  pub made_from : (pre post : List Formula) → ops ≡ pre ++ post → is_in_order pre post ≡ true → list_all (is_truth_formula (record { domains = domains; tables = [] })) post ≡ true →
      are_tables (record { domains = domains; tables = ones pre }) (map (table_of ops) post) ≡ true
  made_from pre [] split order typed = refl
  made_from pre (PastOf op es ∷ post) split order typed =
      let first = and_parts (is_plain false (PastOf op es)) (covers pre (past_trees_of_all es) && is_in_order (pre ++ PastOf op es ∷ []) post) order in
      let second = and_parts (covers pre (past_trees_of_all es)) (is_in_order (pre ++ PastOf op es ∷ []) post) first.1 in
      let plain = and_parts (count_of es == operands_of op) (are_plain false es) first.0 in
      let kinds = and_parts (is_truth_formula (record { domains = domains; tables = [] }) (PastOf op es)) (list_all (is_truth_formula (record { domains = domains; tables = [] })) post) typed in
      let here = and_parts (count_of es == operands_of op) (are_truths (record { domains = domains; tables = [] }) es) (was_true _ kinds.0) in
      and_from _ _
      (filled (record { domains = domains; tables = ones pre }) op (listed (each_with_entries ops es)) (length-listed es ∙ eqb-true (count_of es) (operands_of op) plain.0) (atoms_made pre (PastOf op es ∷ post) split es here.1 plain.1 second.0))
      (ap (λ counts. are_tables (record { domains = domains; tables = counts }) (map (table_of ops) post)) (sym (map-append (λ (e : Formula). 1) pre (PastOf op es ∷ [])))
      ∙ made_from (pre ++ PastOf op es ∷ []) post (split ∙ sym (append_assoc pre (PastOf op es ∷ []) post)) second.1 kinds.1)
    where
      was_true : (b : Bool) → is_truth (truth_if b) ≡ true → b ≡ true
      was_true true is = refl
      was_true false is = absurd (false≢true is)
  made_from pre (_ ∷ post) split order typed = absurd (false≢true order)

-- ---- those of a specification

trees_of_each : (scope : Scope) (es : List Formula) → list_all (λ e. is_some (kind_of scope e)) es ≡ true → list_all (is_truth_formula scope) (flat_map past_trees es) ≡ true
trees_of_each scope [] is = refl
trees_of_each scope (e ∷ es) is =
    let parts = and_parts (is_some (kind_of scope e)) (list_all (λ e. is_some (kind_of scope e)) es) is in
    list_all-append (is_truth_formula scope) (past_trees e) (flat_map past_trees es) ∙ and_from _ _ (trees_typed scope e parts.0) (trees_of_each scope es parts.1)

trees_of_lines : (scope : Scope) (s : Specification) (ls : List Statement) → list_all (λ l. list_all (λ e. is_some (kind_of scope e)) (formulas_of s l.content)) ls ≡ true → list_all (is_truth_formula scope) (flat_map (trees_in_line s) ls) ≡ true
trees_of_lines scope s [] is = refl
trees_of_lines scope s (l ∷ ls) is =
    let parts = and_parts (list_all (λ e. is_some (kind_of scope e)) (formulas_of s l.content)) (list_all (λ l. list_all (λ e. is_some (kind_of scope e)) (formulas_of s l.content)) ls) is in
    list_all-append (is_truth_formula scope) (trees_in_line s l) (flat_map (trees_in_line s) ls) ∙ and_from _ _ (trees_of_each scope (formulas_of s l.content) parts.0) (trees_of_lines scope s ls parts.1)

pub tables_made : (s : Specification) → list_all (λ l. list_all (λ e. is_some (kind_of (scope_of_specification s) e)) (formulas_of s l.content)) s.lines ≡ true → AreOrdered s →
    are_tables (scope_of_specification s) (tables_of (past_operators s)) ≡ true
tables_made s kinds ordered =
    made_from (map (λ v. v.domain) s.variables) (past_operators s) [] (past_operators s) refl ordered.order
    (ap (λ es. list_all (is_truth_formula (scope_of_specification s)) es) (sym (added-nil (flat_map (trees_in_line s) s.lines)))
    ∙ added_typed (scope_of_specification s) [] (flat_map (trees_in_line s) s.lines) refl (trees_of_lines (scope_of_specification s) s s.lines kinds))
