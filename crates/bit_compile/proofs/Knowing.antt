-- Well-made formulas and tables can be compiled.
use Rattle.std.proofs.Common.{◌≡◌, ℕ, zero, suc, ◌<◌, ◌≤◌, inl, inr, ◌⊎◌, true, false, ◌&&◌, List, [], ◌∷◌, ◌++◌, map, length, take, is_some, option_map, slice_get, refl, sym, ◌∙◌, ap, arith}
use Rattle.std.specs.List.{list_all, AllByRecursion}
use Rattle.std.proofs.lemmas.Bool.{and_parts, false≢true}
use Rattle.std.proofs.lemmas.List.{length-map}
use Rattle.std.proofs.lemmas.Option.{slice_get_past}
use Rattle.spec_model.specs.declared.game.Hidden.{Hidden}
use Rattle.spec_model.specs.Syntax.{Formula, Constant, Variable, NextOf, Negation, Conjunction, Disjunction, Implication, Equivalence, Comparison, Sum, Difference, Product, Remainder, PastOf, Entry, Formulas, formulas, VariableData}
use Rattle.spec_model.specs.Views.{formula}
use Rattle.spec_model.specs.GameViews.{hidden_data}
use Rattle.spec_model.specs.Typing.{Scope, kind_of, kind_of_domain, are_truths, is_truth}
use Rattle.spec_model.specs.Games.{GameData}
use Rattle.spec_model.specs.WellMade.{is_domain, is_table, are_tables, is_step_formula, is_state_formula, is_stepwise}
use Rattle.game_values.proofs.WholeTables.{table_whole}
use Rattle.game_values.proofs.TableSteps.{table_atoms}
use Rattle.bit_compile.specs.Compiled.{values_in}
use Rattle.bit_compile.specs.Known.{IsKnown, AreKnown, IsReadable}
use Rattle.bit_compile.proofs.Intervals.{interval, countable_sum, countable_difference, countable_product, countable_remainder}
use Rattle.bit_compile.proofs.Meanings.{truth_holds, some_truth, both_compared, both_summed, both_subtracted, both_multiplied, one_reduced}

some_below : {X : Type 0} (xs : List X) (k : ℕ) {Y : Type 0} (f : X → Y) → is_some (option_map f (slice_get xs k)) ≡ true → k < length xs
some_below xs k f some = by_cases below_or_past
  where
    below_or_past : (k < length xs) ⊎ (length xs ≤ k)
    below_or_past = grind arith

    by_cases : (k < length xs) ⊎ (length xs ≤ k) → k < length xs
    by_cases (inl less) = less
    by_cases (inr past) = absurd (false≢true (sym (ap (λ o. is_some (option_map f o)) (slice_get_past xs k past)) ∙ some))

pub variable_below : (g : GameData) (sc : Scope) → sc.domains ≡ map (λ v. v.domain) g.variables → (n : ℕ) → is_some (option_map kind_of_domain (slice_get sc.domains n)) ≡ true → n < length g.variables
variable_below g sc domains n k =
    let long : length sc.domains ≡ length g.variables = ap length domains ∙ length-map g.variables (λ v. v.domain) in
    let there = some_below sc.domains n kind_of_domain k in
    omega (arith, long, there)

module _ (g : GameData) (sc : Scope) (domains : sc.domains ≡ map (λ v. v.domain) g.variables) (made : list_all is_domain sc.domains ≡ true) where
  mutual
    pub known : (e : Formula) → is_some (kind_of sc e) ≡ true → IsKnown g e
    known (Constant v) k = tt
    known (Variable n) k = variable_below g sc domains n k
    known (NextOf e) k = known e k
    known (Negation e) k = known e (some_truth (kind_of sc e) (truth_holds _ k))
    known (Conjunction es) k = each_known es (truth_holds (are_truths sc es) k)
    known (Disjunction es) k = each_known es (truth_holds (are_truths sc es) k)
    known (Implication a b) k =
        let ks = and_parts (is_truth (kind_of sc a)) (is_truth (kind_of sc b)) (truth_holds (is_truth (kind_of sc a) && is_truth (kind_of sc b)) k) in
        (known a (some_truth (kind_of sc a) ks.0), known b (some_truth (kind_of sc b) ks.1))
    known (Equivalence a b) k =
        let ks = and_parts (is_truth (kind_of sc a)) (is_truth (kind_of sc b)) (truth_holds (is_truth (kind_of sc a) && is_truth (kind_of sc b)) k) in
        (known a (some_truth (kind_of sc a) ks.0), known b (some_truth (kind_of sc b) ks.1))
    known (Comparison c a b) k = let ks = both_compared c (kind_of sc a) (kind_of sc b) k in (known a ks.0, known b ks.1)
    known (Sum a b) k =
        let ks = both_summed (kind_of sc a) (kind_of sc b) k in
        (known a ks.0, known b ks.1, countable_sum (kind_of sc a) (kind_of sc b) (values_in g a) (values_in g b) k (interval g sc domains made a) (interval g sc domains made b))
    known (Difference a b) k =
        let ks = both_subtracted (kind_of sc a) (kind_of sc b) k in
        (known a ks.0, known b ks.1, countable_difference (kind_of sc a) (kind_of sc b) (values_in g a) (values_in g b) k (interval g sc domains made a) (interval g sc domains made b))
    known (Product a b) k =
        let ks = both_multiplied (kind_of sc a) (kind_of sc b) k in
        (known a ks.0, known b ks.1, countable_product (kind_of sc a) (kind_of sc b) (values_in g a) (values_in g b) k (interval g sc domains made a) (interval g sc domains made b))
    known (Remainder a n) k = (known a (one_reduced (kind_of sc a) n k), countable_remainder (kind_of sc a) n (values_in g a) k)
    known (PastOf op es) k = tt
    known (Entry h n) k = tt

    each_known : (es : Formulas) → are_truths sc es ≡ true → AreKnown g es
    each_known Formulas.none k = tt
    each_known (Formulas.one_more e es) k =
        let ks = and_parts (is_truth (kind_of sc e)) (are_truths sc es) k in
        (known e (some_truth (kind_of sc e) ks.0), each_known es ks.1)

  pub step_known : (e : Formula) → is_step_formula sc e ≡ true → IsKnown g e
  step_known e h = known e (some_truth (kind_of sc e) (and_parts (is_truth (kind_of sc e)) (is_stepwise false e) h).0)

  atoms_known : (es : List Formula) → list_all (is_state_formula sc) es ≡ true → AreKnown g (formulas es)
  atoms_known [] all = tt
  atoms_known (e ∷ es) all =
      let parts = and_parts (is_state_formula sc e) (list_all (is_state_formula sc) es) all in
      let step = (and_parts (is_step_formula sc e) _ parts.0).0 in
      (step_known e step, atoms_known es parts.1)

  pub table_readable : (h : Hidden) → is_table sc (hidden_data h) ≡ true → IsReadable g h
  table_readable h e = (table_whole sc h e, atoms_known (map formula h.atoms.items) (table_atoms sc (hidden_data h) e))

pub tables_readable : (g : GameData) (sc : Scope) → sc.domains ≡ map (λ v. v.domain) g.variables → list_all is_domain sc.domains ≡ true → (hs : List Hidden) → are_tables sc (map hidden_data hs) ≡ true → AllByRecursion (IsReadable g) hs
tables_readable g sc domains made [] e = tt
tables_readable g sc domains made (h ∷ hs) e =
    let parts = and_parts (is_table sc (hidden_data h)) _ e in
    (table_readable g sc domains made h parts.0, tables_readable g (record sc { tables = sc.tables ++ length (hidden_data h).tables ∷ [] }) domains made hs parts.1)

-- what is told of each domain, from what is told of each variable
pub domains_made : (vs : List VariableData) → list_all (λ v. is_domain v.domain) vs ≡ true → list_all is_domain (map (λ v. v.domain) vs) ≡ true
domains_made [] e = refl
domains_made (v ∷ vs) e =
    let parts = and_parts (is_domain v.domain) (list_all (λ v. is_domain v.domain) vs) e in
    ap (λ b. b && list_all is_domain (map (λ v. v.domain) vs)) parts.0 ∙ domains_made vs parts.1

pub readable_before : (g : GameData) (hs : List Hidden) (k : ℕ) → AllByRecursion (IsReadable g) hs → AllByRecursion (IsReadable g) (take k hs)
readable_before g [] zero all = tt
readable_before g [] (suc k) all = tt
readable_before g (h ∷ hs) zero all = tt
readable_before g (h ∷ hs) (suc k) all = (all.0, readable_before g hs k all.1)
