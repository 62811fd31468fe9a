-- The operators that are collected are the different ones of the specification, in order.
use Rattle.std.proofs.Common.{◌≡◌, ℕ, zero, suc, ◌<◌, ◌≤◌, Bool, true, false, not, ◌&&◌, ◌||◌, cond, List, [], ◌∷◌, ◌++◌, length, map, flat_map, filter, get_or, drop, Some, None, option_map, unwrap_or, slice_get, refl, sym, ap, ◌∙◌, subst, arith, append_assoc, append-nil}
use Rattle.std.specs.List.{list_any}
use Rattle.std.proofs.lemmas.Bool.{false≢true}
use Rattle.std.proofs.lemmas.List.{drop_all, map-append}
use Rattle.std.proofs.lemmas.List.Folds.{list_any-append}
use Rattle.std.proofs.lemmas.Grind.{flat_map-append}
use Rattle.spec_model.specs.declared.expr.Expr.{Expr}
use Rattle.spec_model.specs.declared.spec.Line.{Line}
use Rattle.spec_model.specs.declared.spec.Trigger.{Trigger}
use Rattle.spec_model.specs.Syntax.{Formula, Formulas, formulas, listed, TriggerData, Statement}
use Rattle.spec_model.specs.Views.{formula, regular, line_data, trigger_data}
use Rattle.spec_model.specs.Sizes.{same_formula, past_trees, past_trees_of_all, atoms_of, distinct}
use Rattle.spec_model.proofs.Restricted.{same_formula-true}
use Rattle.game_values.specs.Safety.{formulas_in}
use Rattle.past_bits.specs.Entries.{with_entries, each_with_entries, added}
use Rattle.past_bits.proofs.Places.{added-append, swapped}

-- ---- lists of formulas

pub past_trees-formulas : (es : List Formula) → past_trees_of_all (formulas es) ≡ flat_map past_trees es
past_trees-formulas [] = refl
past_trees-formulas (e ∷ es) = ap (λ fs. past_trees e ++ fs) (past_trees-formulas es)

pub each-map : (ops : List Formula) (es : List Expr) → formulas (map (λ e. with_entries ops (formula e)) es) ≡ each_with_entries ops (formulas_in es)
each-map ops [] = refl
each-map ops (e ∷ es) = ap (λ fs. Formulas.one_more (with_entries ops (formula e)) fs) (each-map ops es)

pub listed-formulas : (es : List Formula) → listed (formulas es) ≡ es
listed-formulas [] = refl
listed-formulas (e ∷ es) = ap (λ fs. e ∷ fs) (listed-formulas es)

pub listed-each : (ops : List Formula) (es : List Expr) → listed (each_with_entries ops (formulas_in es)) ≡ map (λ e. with_entries ops (formula e)) es
listed-each ops [] = refl
listed-each ops (e ∷ es) = ap (λ fs. with_entries ops (formula e) ∷ fs) (listed-each ops es)

-- copies with entries, as formulas
pub each_folded : (ops : List Formula) (copies es : List Expr) → map formula copies ≡ map (λ e. with_entries ops (formula e)) es → formulas_in copies ≡ each_with_entries ops (formulas_in es)
each_folded ops copies es are = ap formulas are ∙ each-map ops es

pub ruleset listed_parts = (past_trees-formulas, append-nil)

pub ruleset each_parts = (each-map, listed-formulas)

pub ruleset table_parts = (each-map, listed-each)

-- ---- triggers

abbrev trigger_atoms : List Trigger → ℕ → List Formula
trigger_atoms ts k = unwrap_or (option_map (λ (tr : TriggerData). atoms_of tr.cause ++ atoms_of tr.effect) (slice_get (map trigger_data ts) k)) []

pub atoms_at : (ts : List Trigger) (k : ℕ) (t : Trigger) → k < length ts → t ≡ get_or ts k t → trigger_atoms ts k ≡ atoms_of (regular t.cause) ++ atoms_of (regular t.effect)
atoms_at [] k t below is = absurd (omega arith)
atoms_at (u ∷ ts) zero t below is = ap (λ (v : Trigger). atoms_of (regular v.cause) ++ atoms_of (regular v.effect)) (sym is)
atoms_at (u ∷ ts) (suc k) t below is = atoms_at ts k t (omega arith) is

pub no_atoms : (ts : List Trigger) (k : ℕ) → length ts ≤ k → trigger_atoms ts k ≡ []
no_atoms [] k past = refl
no_atoms (u ∷ ts) zero past = absurd (omega arith)
no_atoms (u ∷ ts) (suc k) past = no_atoms ts k (omega arith)

pub ruleset trigger_parts = (atoms_at, no_atoms, flat_map-append, added-append)

-- ---- those that are added, one after another, are the different ones

module _ {X : Type 0} where
  filter-filter : (p q : X → Bool) (xs : List X) → filter q (filter p xs) ≡ filter (λ x. p x && q x) xs
  filter-filter p q [] = refl
  filter-filter p q (x ∷ xs) = at (p x) (filter-filter p q xs)
    where
      at : (b : Bool) → filter q (filter p xs) ≡ filter (λ x. p x && q x) xs →
          filter q (cond b (x ∷ filter p xs) (filter p xs)) ≡ cond (b && q x) (x ∷ filter (λ x. p x && q x) xs) (filter (λ x. p x && q x) xs)
      at true e = ap (λ ys. cond (q x) (x ∷ ys) ys) e
      at false e = e

  same_tests : (p q : X → Bool) → ((x : X) → p x ≡ q x) → (xs : List X) → filter p xs ≡ filter q xs
  same_tests p q each xs = ap (λ test. filter test xs) (λ i x. each x i)

-- a tree that equals none of these
abbrev is_new : List Formula → Formula → Bool
is_new ops f = not (list_any (same_formula f) ops)

same-same : (e f : Formula) → same_formula f e ≡ same_formula e f
same-same e f = at (same_formula f e) (same_formula e f) refl refl
  where
    at : (a b : Bool) → same_formula f e ≡ a → same_formula e f ≡ b → a ≡ b
    at true true is was = refl
    at true false is was = absurd (false≢true (sym was ∙ swapped e f is))
    at false true is was = absurd (false≢true (sym is ∙ swapped f e was))
    at false false is was = refl

-- where a tree is there, one that is new differs from it
new_differs : (ops : List Formula) (e : Formula) → list_any (same_formula e) ops ≡ true → (f : Formula) → (not (same_formula e f) && is_new ops f) ≡ is_new ops f
new_differs ops e there f = at (same_formula e f) refl
  where
    at : (b : Bool) → same_formula e f ≡ b → (not b && is_new ops f) ≡ is_new ops f
    at true same = ap not (sym (subst (λ g. list_any (same_formula g) ops ≡ true) (same_formula-true e f same) there))
    at false same = refl

new_of_more : (ops : List Formula) (e f : Formula) → (not (same_formula e f) && is_new ops f) ≡ is_new (ops ++ e ∷ []) f
new_of_more ops e f = bools (same_formula e f) (list_any (same_formula f) ops) ∙ ap not (ap (λ b. list_any (same_formula f) ops || (b || false)) (sym (same-same e f)) ∙ sym (list_any-append (same_formula f) ops (e ∷ [])))
  where
    bools : (a b : Bool) → (not a && not b) ≡ not (b || (a || false))
    bools true true = refl
    bools true false = refl
    bools false true = refl
    bools false false = refl

pub added-distinct : (es ops : List Formula) → added ops es ≡ ops ++ filter (is_new ops) (distinct es)
added-distinct [] ops = sym (append-nil ops)
added-distinct (e ∷ es) ops = at (list_any (same_formula e) ops) refl (added-distinct es ops) (added-distinct es (ops ++ e ∷ []))
  where
    at : (b : Bool) → list_any (same_formula e) ops ≡ b → added ops es ≡ ops ++ filter (is_new ops) (distinct es) →
        added (ops ++ e ∷ []) es ≡ (ops ++ e ∷ []) ++ filter (is_new (ops ++ e ∷ [])) (distinct es) →
        added (cond b ops (ops ++ e ∷ [])) es ≡ ops ++ cond (not b) (e ∷ filter (is_new ops) (filter (λ f. not (same_formula e f)) (distinct es))) (filter (is_new ops) (filter (λ f. not (same_formula e f)) (distinct es)))
    at true there rest more =
        rest ∙ ap (λ fs. ops ++ fs) (sym (filter-filter (λ f. not (same_formula e f)) (is_new ops) (distinct es) ∙ same_tests _ (is_new ops) (new_differs ops e there) (distinct es)))
    at false absent rest more =
        more ∙ (append_assoc ops (e ∷ []) (filter (is_new (ops ++ e ∷ [])) (distinct es))
        ∙ ap (λ fs. ops ++ (e ∷ fs)) (sym (filter-filter (λ f. not (same_formula e f)) (is_new ops) (distinct es) ∙ same_tests _ (is_new (ops ++ e ∷ [])) (new_of_more ops e) (distinct es))))

all_new : (es : List Formula) → filter (is_new []) es ≡ es
all_new [] = refl
all_new (e ∷ es) = ap (λ fs. e ∷ fs) (all_new es)

pub added-nil : (es : List Formula) → added [] es ≡ distinct es
added-nil es = added-distinct es [] ∙ all_new (distinct es)

pub ruleset lines_parts = (added-nil, added-append)

-- after the last line
pub collected : (trees : Statement → List Formula) (ops : List Formula) (lines : List Line) (k : ℕ) → length lines ≤ k →
    added ops (flat_map trees (map line_data (drop k lines))) ≡ added [] (flat_map trees (map line_data lines)) → ops ≡ distinct (flat_map trees (map line_data lines))
collected trees ops lines k past so_far =
    ap (λ ls. added ops (flat_map trees (map line_data ls))) (sym (drop_all k lines past)) ∙ (so_far ∙ added-nil (flat_map trees (map line_data lines)))
