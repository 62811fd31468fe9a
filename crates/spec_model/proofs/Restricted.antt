-- What stays of a well-typed specification is well typed.
use Rattle.std.proofs.Common.{◌≡◌, ◌≤◌, ℕ, suc, ◌+◌, Bool, true, false, not, ◌&&◌, ◌==◌, nat_le, List, [], ◌∷◌, ◌++◌, flat_map, filter, cond, length, refl, ap, ◌∙◌, subst, arith, inl, inr, ◌⊎◌}
use Rattle.std.proofs.lemmas.Bool.{and_parts, and_from, false≢true, both_ways, leb-true, le-leb}
use Rattle.std.proofs.lemmas.Bool.Decides.{Decides-int_eq}
use Rattle.std.proofs.lemmas.List.Filters.{length-filter_both, sum_by-filter_both}
use Rattle.std.proofs.lemmas.List.Sums.{sum_by-cons}
use Rattle.std.specs.Prelude.{ℤ, sum_by}
use Rattle.std.specs.List.{list_all}
use Rattle.std.specs.Ordering.{int_eq}
use borrow.Author.Tests.{eqb-true}
use Rattle.spec_model.specs.declared.expr.Compare.{Compare}
use Rattle.spec_model.specs.declared.expr.Compare.TheVariants.{Eq, Ne, Lt, Le, Gt, Ge}
use Rattle.spec_model.specs.declared.expr.Past.{Past}
use Rattle.spec_model.specs.declared.expr.Past.TheVariants.{Prev, Once, Historically, Since, Triggered}
use Rattle.spec_model.specs.Syntax.{Formula, Constant, Variable, NextOf, Negation, Conjunction, Disjunction, Implication, Equivalence, Comparison, Sum, Difference, Product, Remainder, PastOf, Entry, Formulas, Content, Initial, Safety, Recurring, PatternUse, TriggerUse, Statement, Specification}
use Rattle.spec_model.specs.Moves.{is_assumption}
use Rattle.spec_model.specs.Sizes.{compare_number, past_number, same_formula, same_formulas, past_trees, formulas_of, distinct}
use Rattle.spec_model.specs.FormulaSizes.{nodes_in}
use Rattle.spec_model.specs.WellTyped.{is_typed_content, is_typed_line, are_rising, is_hidden, have_few_levels}
use Rattle.spec_model.specs.Cores.{stays}
use Rattle.spec_model.specs.Laws.{RestrictedIsWellTyped}
use Rattle.spec_model.proofs.AllStates.{same_value-true}

-- ---- trees that are the same are equal

same_compare : (c d : Compare) → compare_number c ≡ compare_number d → c ≡ d
same_compare Eq Eq e = refl
same_compare Ne Ne e = refl
same_compare Lt Lt e = refl
same_compare Le Le e = refl
same_compare Gt Gt e = refl
same_compare Ge Ge e = refl
same_compare _ _ e = absurd (omega arith)

same_past : (o p : Past) → past_number o ≡ past_number p → o ≡ p
same_past Prev Prev e = refl
same_past Once Once e = refl
same_past Historically Historically e = refl
same_past Since Since e = refl
same_past Triggered Triggered e = refl
same_past _ _ e = absurd (omega arith)

same_whole : (m n : ℤ) → int_eq m n ≡ true → m ≡ n
same_whole m n e = let d = Decides-int_eq m n in grind arith

mutual
  pub same_formula-true : (f g : Formula) → same_formula f g ≡ true → f ≡ g
  same_formula-true (Constant v) (Constant w) e = ap Constant (same_value-true v w e)
  same_formula-true (Variable k) (Variable l) e = ap Variable (eqb-true k l e)
  same_formula-true (NextOf a) (NextOf b) e = ap NextOf (same_formula-true a b e)
  same_formula-true (Negation a) (Negation b) e = ap Negation (same_formula-true a b e)
  same_formula-true (Conjunction fs) (Conjunction gs) e = ap Conjunction (same_formulas-true fs gs e)
  same_formula-true (Disjunction fs) (Disjunction gs) e = ap Disjunction (same_formulas-true fs gs e)
  same_formula-true (Implication a b) (Implication c d) e = let p = and_parts _ _ e in let x = same_formula-true a c p.0 in let y = same_formula-true b d p.1 in cc
  same_formula-true (Equivalence a b) (Equivalence c d) e = let p = and_parts _ _ e in let x = same_formula-true a c p.0 in let y = same_formula-true b d p.1 in cc
  same_formula-true (Comparison o a b) (Comparison q c d) e =
      let p = and_parts (compare_number o == compare_number q && same_formula a c) (same_formula b d) e in
      let r = and_parts (compare_number o == compare_number q) (same_formula a c) p.0 in
      let z = same_compare o q (eqb-true (compare_number o) (compare_number q) r.0) in
      let x = same_formula-true a c r.1 in
      let y = same_formula-true b d p.1 in
      cc
  same_formula-true (Sum a b) (Sum c d) e = let p = and_parts _ _ e in let x = same_formula-true a c p.0 in let y = same_formula-true b d p.1 in cc
  same_formula-true (Difference a b) (Difference c d) e = let p = and_parts _ _ e in let x = same_formula-true a c p.0 in let y = same_formula-true b d p.1 in cc
  same_formula-true (Product a b) (Product c d) e = let p = and_parts _ _ e in let x = same_formula-true a c p.0 in let y = same_formula-true b d p.1 in cc
  same_formula-true (Remainder a m) (Remainder b n) e = let p = and_parts _ _ e in let x = same_formula-true a b p.0 in let y = same_whole m n p.1 in cc
  same_formula-true (PastOf o fs) (PastOf q gs) e =
      let p = and_parts (past_number o == past_number q) (same_formulas fs gs) e in
      let x = same_past o q (eqb-true (past_number o) (past_number q) p.0) in
      let y = same_formulas-true fs gs p.1 in
      cc
  same_formula-true (Entry h m) (Entry i n) e = let p = and_parts _ _ e in let x = eqb-true h i p.0 in let y = eqb-true m n p.1 in cc
  same_formula-true _ _ e = absurd (false≢true e)

  pub same_formulas-true : (fs gs : Formulas) → same_formulas fs gs ≡ true → fs ≡ gs
  same_formulas-true Formulas.none Formulas.none e = refl
  same_formulas-true (Formulas.one_more a fs) (Formulas.one_more b gs) e = let p = and_parts _ _ e in let x = same_formula-true a b p.0 in let y = same_formulas-true fs gs p.1 in cc
  same_formulas-true _ _ e = absurd (false≢true e)

-- ---- filtered lists

module _ {X : Type 0} where
  filter-filter : (p q : X → Bool) (xs : List X) → filter q (filter p xs) ≡ filter (λ x. p x && q x) xs
  filter-filter p q [] = refl
  filter-filter p q (x ∷ xs) = at (p x) (filter-filter p q xs)
    where
      at : (b : Bool) → filter q (filter p xs) ≡ filter (λ x. p x && q x) xs →
          filter q (cond b (x ∷ filter p xs) (filter p xs)) ≡ cond (b && q x) (x ∷ filter (λ x. p x && q x) xs) (filter (λ x. p x && q x) xs)
      at true e = ap (λ ys. cond (q x) (x ∷ ys) ys) e
      at false e = e

  -- where each one that passes a test passes one of two others, these pass as many together
  covered : (p q r : X → Bool) → ((x : X) → p x ≡ true → (q x ≡ true) ⊎ (r x ≡ true)) → (xs : List X) →
      length (filter p xs) ≤ length (filter q xs) + length (filter r xs)
  covered p q r each [] = omega arith
  covered p q r each (x ∷ xs) = at (p x) (q x) (r x) (each x) (covered p q r each xs)
    where
      at : (a b c : Bool) → (a ≡ true → (b ≡ true) ⊎ (c ≡ true)) → length (filter p xs) ≤ length (filter q xs) + length (filter r xs) →
          length (cond a (x ∷ filter p xs) (filter p xs)) ≤ length (cond b (x ∷ filter q xs) (filter q xs)) + length (cond c (x ∷ filter r xs) (filter r xs))
      at true false false h e = elim (h refl) [ inl first ↦ absurd (false≢true first) | inr second ↦ absurd (false≢true second) ]
      at true false true h e = omega arith
      at true true false h e = omega arith
      at true true true h e = omega arith
      at false false false h e = omega arith
      at false false true h e = omega arith
      at false true false h e = omega arith
      at false true true h e = omega arith

  none_pass : (xs : List X) → length (filter (λ (x : X). false) xs) ≡ 0
  none_pass [] = refl
  none_pass (x ∷ xs) = none_pass xs

  all_pass : (xs : List X) → filter (λ (x : X). true) xs ≡ xs
  all_pass [] = refl
  all_pass (x ∷ xs) = ap (λ ys. x ∷ ys) (all_pass xs)

  fewer_pass : (p q : X → Bool) → ((x : X) → p x ≡ true → q x ≡ true) → (xs : List X) → length (filter p xs) ≤ length (filter q xs)
  fewer_pass p q each xs = let c = covered p q (λ x. false) (λ x e. inl (each x e)) xs in let z = none_pass xs in omega arith

  pub list_all-filter : (p keep : X → Bool) (xs : List X) → list_all p xs ≡ true → list_all p (filter keep xs) ≡ true
  list_all-filter p keep [] e = e
  list_all-filter p keep (x ∷ xs) e = let parts = and_parts (p x) (list_all p xs) e in at (keep x) parts.0 (list_all-filter p keep xs parts.1)
    where
      at : (b : Bool) → p x ≡ true → list_all p (filter keep xs) ≡ true → list_all p (cond b (x ∷ filter keep xs) (filter keep xs)) ≡ true
      at true here rest = and_from _ _ here rest
      at false here rest = rest

  pub sum_by-filter-le : (f : X → ℕ) (keep : X → Bool) (xs : List X) → sum_by f (filter keep xs) ≤ sum_by f xs
  sum_by-filter-le f keep xs = let both = sum_by-filter_both keep (λ x. not (keep x)) (λ x. refl) f xs in omega arith

  pub length-filter-le : (keep : X → Bool) (xs : List X) → length (filter keep xs) ≤ length xs
  length-filter-le keep xs = let both = length-filter_both keep (λ x. not (keep x)) (λ x. refl) xs in omega arith

-- ---- different trees

abbrev passing : (Formula → Bool) → List Formula → ℕ
passing q es = length (filter q (distinct es))

-- the different trees of the first list are no more than those of the second, and so are those that pass a test
abbrev AreFewer : List Formula → List Formula → Type 0
AreFewer es fs = (q : Formula → Bool) → passing q es ≤ passing q fs

abbrev differs : Formula → Formula → Bool
differs e f = not (same_formula e f)

not_both : (b : Bool) → (not b && b) ≡ true → false ≡ true
not_both true e = e
not_both false e = e

-- a different tree is the same as at most one
once : (e : Formula) (es : List Formula) → passing (same_formula e) es ≤ 1
once e [] = omega arith
once e (f ∷ fs) = at (same_formula e f) refl (once e fs)
  where
    at : (b : Bool) → same_formula e f ≡ b → passing (same_formula e) fs ≤ 1 → length (cond b (f ∷ filter (same_formula e) (filter (differs f) (distinct fs))) (filter (same_formula e) (filter (differs f) (distinct fs)))) ≤ 1
    at true is rest =
        let equal = same_formula-true e f is in
        let joined = ap (λ gs. length gs) (filter-filter (differs f) (same_formula e) (distinct fs)) in
        let few = fewer_pass (λ g. differs f g && same_formula e g) (λ g. false) (λ g both. not_both (same_formula f g) (subst (λ h. (differs f g && same_formula h g) ≡ true) equal both)) (distinct fs) in
        let none = none_pass (distinct fs) in
        omega arith
    at false is rest =
        let joined = ap (λ gs. length gs) (filter-filter (differs f) (same_formula e) (distinct fs)) in
        let few = fewer_pass (λ g. differs f g && same_formula e g) (same_formula e) (λ g both. (and_parts (differs f g) (same_formula e g) both).1) (distinct fs) in
        omega arith

-- what passes a test and is not the same as one
abbrev passes_else : Formula → (Formula → Bool) → Formula → Bool
passes_else e q g = differs e g && q g

else_or_same : (same other : Bool) → other ≡ true → ((not same && other) ≡ true) ⊎ (same ≡ true)
else_or_same true other e = inr refl
else_or_same false other e = inl e

-- one more tree in front, in both lists or in the second alone
fewer_both : (e : Formula) (es fs : List Formula) → AreFewer es fs → AreFewer (e ∷ es) (e ∷ fs)
fewer_both e es fs fewer q = at (q e) (filter-filter (differs e) q (distinct es)) (filter-filter (differs e) q (distinct fs)) (fewer (passes_else e q))
  where
    at : (b : Bool) → filter q (filter (differs e) (distinct es)) ≡ filter (passes_else e q) (distinct es) → filter q (filter (differs e) (distinct fs)) ≡ filter (passes_else e q) (distinct fs) →
        passing (passes_else e q) es ≤ passing (passes_else e q) fs →
        length (cond b (e ∷ filter q (filter (differs e) (distinct es))) (filter q (filter (differs e) (distinct es)))) ≤ length (cond b (e ∷ filter q (filter (differs e) (distinct fs))) (filter q (filter (differs e) (distinct fs))))
    at true x y le = let x' = ap (λ gs. length gs) x in let y' = ap (λ gs. length gs) y in omega arith
    at false x y le = let x' = ap (λ gs. length gs) x in let y' = ap (λ gs. length gs) y in omega arith

fewer_before : (e : Formula) (fs : List Formula) → AreFewer fs (e ∷ fs)
fewer_before e fs q = at (q e) refl (filter-filter (differs e) q (distinct fs))
  where
    at : (b : Bool) → q e ≡ b → filter q (filter (differs e) (distinct fs)) ≡ filter (passes_else e q) (distinct fs) →
        passing q fs ≤ length (cond b (e ∷ filter q (filter (differs e) (distinct fs))) (filter q (filter (differs e) (distinct fs))))
    at true is x =
        let x' = ap (λ gs. length gs) x in
        let parts = covered q (passes_else e q) (same_formula e) (λ g. else_or_same (same_formula e g) (q g)) (distinct fs) in
        let one = once e fs in
        omega arith
    at false is x =
        let x' = ap (λ gs. length gs) x in
        let more = fewer_pass q (passes_else e q) (λ g passes. else_of g (same_formula e g) refl passes) (distinct fs) in
        omega arith
      where
        else_of : (g : Formula) (same : Bool) → same_formula e g ≡ same → q g ≡ true → (not same && q g) ≡ true
        else_of g true same passes = absurd (let equal = same_formula-true e g same in both_ways (q g) (subst (λ h. q h ≡ false) equal is) passes)
        else_of g false same passes = passes

-- the same for several
all_before : (es fs gs : List Formula) → AreFewer fs gs → AreFewer (es ++ fs) (es ++ gs)
all_before [] fs gs fewer = fewer
all_before (e ∷ es) fs gs fewer = fewer_both e (es ++ fs) (es ++ gs) (all_before es fs gs fewer)

all_more : (es fs gs : List Formula) → AreFewer fs gs → AreFewer fs (es ++ gs)
all_more [] fs gs fewer = fewer
all_more (e ∷ es) fs gs fewer = λ q. let before = all_more es fs gs fewer q in let last = fewer_before e (es ++ gs) q in omega arith

fewer_trees : (trees : Statement → List Formula) (keep : Statement → Bool) (ls : List Statement) → AreFewer (flat_map trees (filter keep ls)) (flat_map trees ls)
fewer_trees trees keep [] = λ q. omega arith
fewer_trees trees keep (l ∷ ls) = at (keep l) (fewer_trees trees keep ls)
  where
    at : (b : Bool) → AreFewer (flat_map trees (filter keep ls)) (flat_map trees ls) → AreFewer (flat_map trees (cond b (l ∷ filter keep ls) (filter keep ls))) (trees l ++ flat_map trees ls)
    at true fewer = all_before (trees l) _ _ fewer
    at false fewer = all_more (trees l) _ _ fewer

pub fewer_distinct : (trees : Statement → List Formula) (keep : Statement → Bool) (ls : List Statement) → length (distinct (flat_map trees (filter keep ls))) ≤ length (distinct (flat_map trees ls))
fewer_distinct trees keep ls =
    let fewer = fewer_trees trees keep ls (λ f. true) in
    let all = ap (λ gs. length gs) (all_pass (distinct (flat_map trees (filter keep ls)))) in
    let all' = ap (λ gs. length gs) (all_pass (distinct (flat_map trees ls))) in
    omega arith

-- ---- rising numbers

rising_lower : (m n : ℕ) (ls : List Statement) → m ≤ n → are_rising n ls ≡ true → are_rising m ls ≡ true
rising_lower m n [] le e = e
rising_lower m n (l ∷ ls) le e =
    let parts = and_parts (nat_le n l.number) _ e in
    let above = leb-true n l.number parts.0 in
    and_from _ _ (le-leb m l.number (omega arith)) parts.1

pub rising-filter : (keep : Statement → Bool) (least : ℕ) (ls : List Statement) → are_rising least ls ≡ true → are_rising least (filter keep ls) ≡ true
rising-filter keep least [] e = e
rising-filter keep least (l ∷ ls) e =
    let parts = and_parts (nat_le least l.number) _ e in
    let inner = and_parts (nat_le l.number 4097) _ parts.1 in
    let above = leb-true least l.number parts.0 in
    at (keep l) parts.0 inner.0 (rising-filter keep (suc l.number) ls inner.1) (omega arith)
  where
    at : (b : Bool) → nat_le least l.number ≡ true → nat_le l.number 4097 ≡ true → are_rising (suc l.number) (filter keep ls) ≡ true → least ≤ suc l.number →
        are_rising least (cond b (l ∷ filter keep ls) (filter keep ls)) ≡ true
    at true x y rest le = and_from _ _ x (and_from _ _ y rest)
    at false x y rest le = rising_lower least (suc l.number) _ le rest

-- ---- specifications

-- With other lines each line is as well typed and as large as before.
module _ (s : Specification) (others : List Statement) where
  abbrev changed : Specification
  changed = record s { lines = others }

  pub same_formulas_of : (c : Content) → formulas_of changed c ≡ formulas_of s c
  same_formulas_of (Initial e) = refl
  same_formulas_of (Safety e) = refl
  same_formulas_of (Recurring e) = refl
  same_formulas_of (PatternUse p es) = refl
  same_formulas_of (TriggerUse t) = refl

  same_content : (asm : Bool) (c : Content) → is_typed_content changed asm c ≡ is_typed_content s asm c
  same_content b (Initial e) = refl
  same_content b (Safety e) = refl
  same_content b (Recurring e) = refl
  same_content b (PatternUse p es) = refl
  same_content b (TriggerUse t) = refl

  pub typed_lines : (ls : List Statement) → list_all (is_typed_line s) ls ≡ true → list_all (is_typed_line changed) ls ≡ true
  typed_lines [] e = e
  typed_lines (l ∷ ls) e =
      let parts = and_parts (is_typed_line s l) _ e in
      and_from _ _ (same_content (is_assumption l.role) l.content ∙ parts.0) (typed_lines ls parts.1)

  abbrev pub is_flat : Specification → Statement → Bool
  is_flat t l = have_few_levels (formulas_of t l.content)

  pub flat_lines : (ls : List Statement) → list_all (is_flat s) ls ≡ true → list_all (is_flat changed) ls ≡ true
  flat_lines [] e = e
  flat_lines (l ∷ ls) e =
      let parts = and_parts (is_flat s l) _ e in
      and_from _ _ (ap have_few_levels (same_formulas_of l.content) ∙ parts.0) (flat_lines ls parts.1)

  abbrev pub nodes_of : Specification → Statement → ℕ
  nodes_of t l = sum_by nodes_in (formulas_of t l.content)

  pub same_nodes : (ls : List Statement) → sum_by (nodes_of changed) ls ≡ sum_by (nodes_of s) ls
  same_nodes [] = refl
  same_nodes (l ∷ ls) =
      let here = ap (sum_by nodes_in) (same_formulas_of l.content) in
      let rest = same_nodes ls in
      let a = sum_by-cons (nodes_of changed) l ls in
      let b = sum_by-cons (nodes_of s) l ls in
      omega arith

  abbrev pub trees_of : Specification → Statement → List Formula
  trees_of t l = flat_map past_trees (formulas_of t l.content)

  pub same_trees : (ls : List Statement) → flat_map (trees_of changed) ls ≡ flat_map (trees_of s) ls
  same_trees [] = refl
  same_trees (l ∷ ls) = ap (λ fs. flat_map past_trees fs ++ flat_map (trees_of changed) ls) (same_formulas_of l.content) ∙ ap (λ fs. trees_of s l ++ fs) (same_trees ls)

pub restricted_is_well_typed : (s : Specification) → RestrictedIsWellTyped s
restricted_is_well_typed s typed kept =
    let stayed : List Statement = filter (stays kept) s.lines in
    record {
      few_names = typed.few_names;
      different_names = typed.different_names;
      spelled_names = typed.spelled_names;
      few_variables = typed.few_variables;
      different_variables = typed.different_variables;
      spelled_variables = typed.spelled_variables;
      domains = typed.domains;
      patterns = typed.patterns;
      triggers = typed.triggers;
      lines = typed_lines s stayed stayed (list_all-filter _ (stays kept) s.lines typed.lines);
      roles = list_all-filter _ (stays kept) s.lines typed.roles;
      few_lines = let few = typed.few_lines in let le = length-filter-le (stays kept) s.lines in omega arith;
      rising = rising-filter (stays kept) 1 s.lines typed.rising;
      few_nodes =
          let few = typed.few_nodes in
          let same = same_nodes s stayed stayed in
          let le = sum_by-filter-le (nodes_of s stayed s) (stays kept) s.lines in
          omega arith;
      few_levels = flat_lines s stayed stayed (list_all-filter _ (stays kept) s.lines typed.few_levels);
      few_pattern_levels = typed.few_pattern_levels;
      few_hidden =
          let few = typed.few_hidden in
          let same = ap (λ fs. length (distinct fs)) (same_trees s stayed stayed) in
          let trees = fewer_distinct (trees_of s stayed s) (stays kept) s.lines in
          let hidden = sum_by-filter-le (λ (l : Statement). cond (is_hidden l.content) 1 0) (stays kept) s.lines in
          omega arith;
    }
