-- A pattern's lines read a position and the next one.
use Rattle.std.proofs.Common.{◌≡◌, ℕ, Bool, true, false, not, ◌&&◌, ◌==◌, List, [], ◌∷◌, ◌++◌, length, refl, arith}
use Rattle.std.proofs.lemmas.Bool.{and_parts, and_from, false≢true}
use borrow.Author.Tests.{eqb-true}
use Rattle.spec_model.specs.Syntax.{Formula, Constant, Variable, NextOf, Negation, Conjunction, Disjunction, Implication, Equivalence, Comparison, Sum, Difference, Product, Remainder, PastOf, Entry, Formulas}
use Rattle.spec_model.specs.Sizes.{past_trees, past_trees_of_all}
use Rattle.spec_model.specs.WellMade.{is_stepwise, are_stepwise}
use Rattle.spec_model.specs.WellTyped.{is_nested_well, are_nested_well}

no_elements : {X : Type 0} (xs : List X) → (length xs == 0) ≡ true → xs ≡ []
no_elements [] is = refl
no_elements (x ∷ xs) is = let none = eqb-true (length (x ∷ xs)) 0 is in absurd (omega (arith, none))

empty_parts : {X : Type 0} (xs ys : List X) → xs ++ ys ≡ [] → (xs ≡ []) × (ys ≡ [])
empty_parts [] ys e = (refl, e)
empty_parts (x ∷ xs) ys e = absurd (cc)

both : (a b c d : Bool) → (a && b) ≡ true → (a ≡ true → c ≡ true) → (b ≡ true → d ≡ true) → (c && d) ≡ true
both a b c d e first second = let parts = and_parts a b e in and_from c d (first parts.0) (second parts.1)

mutual
  stepwise : (m : ℕ) (u p : Bool) (e : Formula) → is_nested_well m u p e ≡ true → past_trees e ≡ [] → is_stepwise u e ≡ true
  stepwise m u p (Constant v) well none = refl
  stepwise m u p (Variable k) well none = refl
  stepwise m u p (NextOf e) well none =
      let parts = and_parts (not u) _ well in
      let inner = and_parts (not p) _ parts.1 in
      and_from (not u) _ parts.0 (stepwise m true p e inner.1 none)
  stepwise m u p (Negation e) well none = stepwise m u p e well none
  stepwise m u p (Conjunction es) well none = all_stepwise m u p es well none
  stepwise m u p (Disjunction es) well none = all_stepwise m u p es well none
  stepwise m u p (Implication a b) well none = both _ _ _ _ well (λ w. stepwise m u p a w (empty_parts (past_trees a) _ none).0) (λ w. stepwise m u p b w (empty_parts (past_trees a) _ none).1)
  stepwise m u p (Equivalence a b) well none = both _ _ _ _ well (λ w. stepwise m u p a w (empty_parts (past_trees a) _ none).0) (λ w. stepwise m u p b w (empty_parts (past_trees a) _ none).1)
  stepwise m u p (Comparison c a b) well none = both _ _ _ _ well (λ w. stepwise m u p a w (empty_parts (past_trees a) _ none).0) (λ w. stepwise m u p b w (empty_parts (past_trees a) _ none).1)
  stepwise m u p (Sum a b) well none = both _ _ _ _ well (λ w. stepwise m u p a w (empty_parts (past_trees a) _ none).0) (λ w. stepwise m u p b w (empty_parts (past_trees a) _ none).1)
  stepwise m u p (Difference a b) well none = both _ _ _ _ well (λ w. stepwise m u p a w (empty_parts (past_trees a) _ none).0) (λ w. stepwise m u p b w (empty_parts (past_trees a) _ none).1)
  stepwise m u p (Product a b) well none = both _ _ _ _ well (λ w. stepwise m u p a w (empty_parts (past_trees a) _ none).0) (λ w. stepwise m u p b w (empty_parts (past_trees a) _ none).1)
  stepwise m u p (Remainder a n) well none = stepwise m u p a well none
  stepwise m u p (PastOf op es) well none = let last = empty_parts (past_trees_of_all es) _ none in absurd (cc)
  stepwise m u p (Entry h n) well none = absurd (false≢true well)

  all_stepwise : (m : ℕ) (u p : Bool) (es : Formulas) → are_nested_well m u p es ≡ true → past_trees_of_all es ≡ [] → are_stepwise u es ≡ true
  all_stepwise m u p Formulas.none well none = refl
  all_stepwise m u p (Formulas.one_more e es) well none =
      let parts = and_parts (is_nested_well m u p e) _ well in
      let nones = empty_parts (past_trees e) _ none in
      and_from (is_stepwise u e) _ (stepwise m u p e parts.0 nones.0) (all_stepwise m u p es parts.1 nones.1)

pub line_stepwise : (m : ℕ) (e : Formula) → is_nested_well m false false e ≡ true → (length (past_trees e) == 0) ≡ true → is_stepwise false e ≡ true
line_stepwise m e well none = stepwise m false false e well (no_elements (past_trees e) none)
