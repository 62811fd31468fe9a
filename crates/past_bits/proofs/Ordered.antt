-- The operators of a specification stand so that those within one come before it.
use Rattle.std.proofs.Common.{◌≡◌, ℕ, Bool, true, false, ◌&&◌, ◌||◌, ◌==◌, List, [], ◌∷◌, ◌++◌, flat_map, cond, refl, sym, ap, ◌∙◌, append_assoc, append-nil, eq-eqb}
use Rattle.std.specs.List.{list_any, list_all}
use Rattle.std.specs.Bool.{beq}
use Rattle.std.proofs.lemmas.Bool.{and_parts, and_from, false≢true}
use Rattle.std.proofs.lemmas.Bool.Decides.{Decides-int_eq}
use Rattle.std.proofs.lemmas.List.Folds.{list_any-append, list_all-append}
use Rattle.spec_model.specs.declared.value.Value.{Value}
use Rattle.spec_model.specs.declared.value.Value.TheVariants as value
use Rattle.spec_model.specs.Values.{same_value}
use Rattle.spec_model.specs.Syntax.{Formula, Constant, Variable, NextOf, Negation, Conjunction, Disjunction, Implication, Equivalence, Comparison, Sum, Difference, Product, Remainder, PastOf, Entry, Formulas, Statement, Specification}
use Rattle.spec_model.specs.Sizes.{same_formula, same_formulas, compare_number, past_number, past_trees, past_trees_of_all, formulas_of, past_operators}
use Rattle.spec_model.specs.Typing.{count_of, operands_of}
use Rattle.past_bits.specs.Entries.{with_operator, added}
use Rattle.past_bits.proofs.Places.{added-append}
use Rattle.past_bits.proofs.Collected.{added-nil}
use Rattle.past_bits.proofs.Plain.{is_plain, are_plain}

-- ---- a tree is the same as itself

beq-same : (b : Bool) → beq b b ≡ true
beq-same true = refl
beq-same false = refl

eqb-same : (n : ℕ) → (n == n) ≡ true
eqb-same n = eq-eqb n n refl

same_value-same : (v : Value) → same_value v v ≡ true
same_value-same (value.Bool b) = beq-same b
same_value-same (value.Int z) = (Decides-int_eq z z).1 refl
same_value-same (value.Name n) = eqb-same n

mutual
  pub same_formula-same : (e : Formula) → same_formula e e ≡ true
  same_formula-same (Constant v) = same_value-same v
  same_formula-same (Variable k) = eqb-same k
  same_formula-same (NextOf e) = same_formula-same e
  same_formula-same (Negation e) = same_formula-same e
  same_formula-same (Conjunction es) = same_formulas-same es
  same_formula-same (Disjunction es) = same_formulas-same es
  same_formula-same (Implication a b) = and_from _ _ (same_formula-same a) (same_formula-same b)
  same_formula-same (Equivalence a b) = and_from _ _ (same_formula-same a) (same_formula-same b)
  same_formula-same (Comparison c a b) = and_from _ _ (and_from _ _ (eqb-same (compare_number c)) (same_formula-same a)) (same_formula-same b)
  same_formula-same (Sum a b) = and_from _ _ (same_formula-same a) (same_formula-same b)
  same_formula-same (Difference a b) = and_from _ _ (same_formula-same a) (same_formula-same b)
  same_formula-same (Product a b) = and_from _ _ (same_formula-same a) (same_formula-same b)
  same_formula-same (Remainder a n) = and_from _ _ (same_formula-same a) ((Decides-int_eq n n).1 refl)
  same_formula-same (PastOf op es) = and_from _ _ (eqb-same (past_number op)) (same_formulas-same es)
  same_formula-same (Entry h n) = and_from _ _ (eqb-same h) (eqb-same n)

  same_formulas-same : (es : Formulas) → same_formulas es es ≡ true
  same_formulas-same Formulas.none = refl
  same_formulas-same (Formulas.one_more e es) = and_from _ _ (same_formula-same e) (same_formulas-same es)

-- ---- lists of operators

abbrev pub is_operator : Formula → Bool
is_operator (PastOf op es) = true
is_operator _ = false

abbrev pub inner_trees : Formula → List Formula
inner_trees (PastOf op es) = past_trees_of_all es
inner_trees _ = []

-- whether each of some trees is there
abbrev pub covers : List Formula → List Formula → Bool
covers ops fs = list_all (λ f. list_any (same_formula f) ops) fs

-- each is a past operator with its operands, and those within it come before it
abbrev pub is_in_order : List Formula → List Formula → Bool
is_in_order before [] = true
is_in_order before (e ∷ es) = (is_operator e && is_plain false e) && (covers before (inner_trees e) && is_in_order (before ++ e ∷ []) es)

or_left : (a b : Bool) → a ≡ true → (a || b) ≡ true
or_left true b is = refl
or_left false b is = absurd (false≢true is)

or_right : (a b : Bool) → b ≡ true → (a || b) ≡ true
or_right true b is = refl
or_right false b is = is

pub covers_more : (ops more fs : List Formula) → covers ops fs ≡ true → covers (ops ++ more) fs ≡ true
covers_more ops more [] is = refl
covers_more ops more (f ∷ fs) is =
    let parts = and_parts (list_any (same_formula f) ops) (covers ops fs) is in
    and_from _ _ (list_any-append (same_formula f) ops more ∙ or_left _ _ parts.0) (covers_more ops more fs parts.1)

covers_with : (ops fs : List Formula) (e : Formula) → covers ops fs ≡ true → covers (with_operator ops e) fs ≡ true
covers_with ops fs e is = at (list_any (same_formula e) ops)
  where
    at : (b : Bool) → covers (cond b ops (ops ++ e ∷ [])) fs ≡ true
    at true = is
    at false = covers_more ops (e ∷ []) fs is

covers_added : (ops fs es : List Formula) → covers ops fs ≡ true → covers (added ops es) fs ≡ true
covers_added ops fs [] is = is
covers_added ops fs (e ∷ es) is = covers_added (with_operator ops e) fs es (covers_with ops fs e is)

has_itself : (ops : List Formula) (e : Formula) → list_any (same_formula e) (with_operator ops e) ≡ true
has_itself ops e = at (list_any (same_formula e) ops) refl
  where
    at : (b : Bool) → list_any (same_formula e) ops ≡ b → list_any (same_formula e) (cond b ops (ops ++ e ∷ [])) ≡ true
    at true is = is
    at false is = list_any-append (same_formula e) ops (e ∷ []) ∙ or_right (list_any (same_formula e) ops) _ (or_left (same_formula e e) false (same_formula-same e))

in_order_push : (before ops : List Formula) (e : Formula) → is_in_order before ops ≡ true → (is_operator e && is_plain false e) ≡ true → covers (before ++ ops) (inner_trees e) ≡ true →
    is_in_order before (ops ++ e ∷ []) ≡ true
in_order_push before [] e order good inner = and_from _ _ good (and_from _ _ (ap (λ fs. covers fs (inner_trees e)) (sym (append-nil before)) ∙ inner) refl)
in_order_push before (f ∷ ops) e order good inner =
    let first = and_parts (is_operator f && is_plain false f) (covers before (inner_trees f) && is_in_order (before ++ f ∷ []) ops) order in
    let second = and_parts (covers before (inner_trees f)) (is_in_order (before ++ f ∷ []) ops) first.1 in
    and_from _ _ first.0 (and_from _ _ second.0 (in_order_push (before ++ f ∷ []) ops e second.1 good (ap (λ fs. covers fs (inner_trees e)) (append_assoc before (f ∷ []) ops) ∙ inner)))

in_order_with : (ops : List Formula) (e : Formula) → is_in_order [] ops ≡ true → (is_operator e && is_plain false e) ≡ true → covers ops (inner_trees e) ≡ true → is_in_order [] (with_operator ops e) ≡ true
in_order_with ops e order good inner = at (list_any (same_formula e) ops)
  where
    at : (b : Bool) → is_in_order [] (cond b ops (ops ++ e ∷ [])) ≡ true
    at true = order
    at false = in_order_push [] ops e order good inner

-- ---- what adding some trees keeps

pub record IsKept (ops fs : List Formula) : Type 0 where
  pub order : is_in_order [] (added ops fs) ≡ true
  pub all : covers (added ops fs) fs ≡ true

abbrev pub Keeps : List Formula → Type 0
Keeps fs = (ops : List Formula) → is_in_order [] ops ≡ true → IsKept ops fs

keeps_none : Keeps []
keeps_none = λ ops order. record { order = order; all = refl }

keeps_both : (xs ys : List Formula) → Keeps xs → Keeps ys → Keeps (xs ++ ys)
keeps_both xs ys first second = λ ops order.
    let one = first ops order in
    let two = second (added ops xs) one.order in
    record {
      order = ap (λ fs. is_in_order [] fs) (added-append ops xs ys) ∙ two.order;
      all = ap (λ fs. covers fs (xs ++ ys)) (added-append ops xs ys) ∙ (list_all-append (λ f. list_any (same_formula f) (added (added ops xs) ys)) xs ys ∙ and_from _ _ (covers_added (added ops xs) xs ys one.all) two.all);
    }

keeps_operator : (e : Formula) → (is_operator e && is_plain false e) ≡ true → Keeps (inner_trees e) → Keeps (inner_trees e ++ e ∷ [])
keeps_operator e good inner = λ ops order.
    let one = inner ops order in
    record {
      order = ap (λ fs. is_in_order [] fs) (added-append ops (inner_trees e) (e ∷ [])) ∙ in_order_with (added ops (inner_trees e)) e one.order good one.all;
      all =
          ap (λ fs. covers fs (inner_trees e ++ e ∷ [])) (added-append ops (inner_trees e) (e ∷ []))
          ∙ (list_all-append (λ f. list_any (same_formula f) (with_operator (added ops (inner_trees e)) e)) (inner_trees e) (e ∷ [])
          ∙ and_from _ _ (covers_with (added ops (inner_trees e)) (inner_trees e) e one.all) (and_from _ _ (has_itself (added ops (inner_trees e)) e) refl));
    }

mutual
  pub keeps_trees : (n : Bool) (e : Formula) → is_plain n e ≡ true → Keeps (past_trees e)
  keeps_trees n (Constant v) is = keeps_none
  keeps_trees n (Variable k) is = keeps_none
  keeps_trees n (NextOf e) is = keeps_trees n e (and_parts n (is_plain n e) is).1
  keeps_trees n (Negation e) is = keeps_trees n e is
  keeps_trees n (Conjunction es) is = keeps_each n es is
  keeps_trees n (Disjunction es) is = keeps_each n es is
  keeps_trees n (Implication a b) is = let parts = and_parts (is_plain n a) (is_plain n b) is in keeps_both (past_trees a) (past_trees b) (keeps_trees n a parts.0) (keeps_trees n b parts.1)
  keeps_trees n (Equivalence a b) is = let parts = and_parts (is_plain n a) (is_plain n b) is in keeps_both (past_trees a) (past_trees b) (keeps_trees n a parts.0) (keeps_trees n b parts.1)
  keeps_trees n (Comparison c a b) is = let parts = and_parts (is_plain n a) (is_plain n b) is in keeps_both (past_trees a) (past_trees b) (keeps_trees n a parts.0) (keeps_trees n b parts.1)
  keeps_trees n (Sum a b) is = let parts = and_parts (is_plain n a) (is_plain n b) is in keeps_both (past_trees a) (past_trees b) (keeps_trees n a parts.0) (keeps_trees n b parts.1)
  keeps_trees n (Difference a b) is = let parts = and_parts (is_plain n a) (is_plain n b) is in keeps_both (past_trees a) (past_trees b) (keeps_trees n a parts.0) (keeps_trees n b parts.1)
  keeps_trees n (Product a b) is = let parts = and_parts (is_plain n a) (is_plain n b) is in keeps_both (past_trees a) (past_trees b) (keeps_trees n a parts.0) (keeps_trees n b parts.1)
  keeps_trees n (Remainder a k) is = keeps_trees n a is
  keeps_trees n (PastOf op es) is = keeps_operator (PastOf op es) is (keeps_each false es (and_parts (count_of es == operands_of op) (are_plain false es) is).1)
  keeps_trees n (Entry h k) is = keeps_none

  keeps_each : (n : Bool) (es : Formulas) → are_plain n es ≡ true → Keeps (past_trees_of_all es)
  keeps_each n Formulas.none is = keeps_none
  keeps_each n (Formulas.one_more e es) is = let parts = and_parts (is_plain n e) (are_plain n es) is in keeps_both (past_trees e) (past_trees_of_all es) (keeps_trees n e parts.0) (keeps_each n es parts.1)

keeps_list : (es : List Formula) → list_all (is_plain true) es ≡ true → Keeps (flat_map past_trees es)
keeps_list [] is = keeps_none
keeps_list (e ∷ es) is = let parts = and_parts (is_plain true e) (list_all (is_plain true) es) is in keeps_both (past_trees e) (flat_map past_trees es) (keeps_trees true e parts.0) (keeps_list es parts.1)

abbrev pub trees_in_line : Specification → Statement → List Formula
trees_in_line s l = flat_map past_trees (formulas_of s l.content)

keeps_lines : (s : Specification) (ls : List Statement) → list_all (λ l. list_all (is_plain true) (formulas_of s l.content)) ls ≡ true → Keeps (flat_map (trees_in_line s) ls)
keeps_lines s [] is = keeps_none
keeps_lines s (l ∷ ls) is =
    let parts = and_parts (list_all (is_plain true) (formulas_of s l.content)) (list_all (λ l. list_all (is_plain true) (formulas_of s l.content)) ls) is in
    keeps_both (trees_in_line s l) (flat_map (trees_in_line s) ls) (keeps_list (formulas_of s l.content) parts.0) (keeps_lines s ls parts.1)

-- the operators of a specification whose formulas are plain
pub record AreOrdered (s : Specification) : Type 0 where
  pub order : is_in_order [] (past_operators s) ≡ true
  pub all : covers (past_operators s) (flat_map (trees_in_line s) s.lines) ≡ true

pub are_ordered : (s : Specification) → list_all (λ l. list_all (is_plain true) (formulas_of s l.content)) s.lines ≡ true → AreOrdered s
are_ordered s is =
    let kept = keeps_lines s s.lines is [] refl in
    let same = added-nil (flat_map (trees_in_line s) s.lines) in
    record { order = ap (λ fs. is_in_order [] fs) (sym same) ∙ kept.order; all = ap (λ fs. covers fs (flat_map (trees_in_line s) s.lines)) (sym same) ∙ kept.all }
