-- Where past operators are banned, there is none.
use Rattle.std.proofs.Common.{◌≡◌, ℕ, ◌+◌, Bool, true, false, if◌then◌else◌, List, [], ◌∷◌, ◌++◌, drop, get_or, Option, refl, sym, ◌∙◌}
use Rattle.std.proofs.lemmas.Bool.{false≢true}
use Rattle.spec_model.specs.Syntax.{Formula, Variable, NextOf, Conjunction, Formulas, formulas}
use Rattle.spec_model.specs.Sizes.{past_trees, past_trees_of_all}
use Rattle.spectra_trees.specs.Faults.{WrongType, WideInt, number_of}
use Rattle.spectra_trees.specs.declared.tree.PrefixWord.{PrefixWord}
use Rattle.spectra_trees.specs.declared.tree.PrefixWord.TheVariants as prefixes
use Rattle.spectra_trees.specs.declared.tree.BinaryWord.{BinaryWord}
use Rattle.spectra_trees.specs.declared.tree.BinaryWord.TheVariants as binary
use Rattle.spectra_resolved.specs.declared.spot.Spot.{Spot}
use Rattle.spectra_resolved.specs.declared.spot.Mark.{Mark}
use Rattle.spectra_resolved.specs.declared.tree.Leaf.{Leaf}
use Rattle.spectra_resolved.specs.declared.tree.Leaf.TheVariants as leaf
use Rattle.spectra_resolved.specs.declared.tree.QuantifierWord.{QuantifierWord}
use Rattle.spectra_resolved.specs.declared.tree.QuantifierWord.TheVariants as quantifiers
use Rattle.spectra_resolved.specs.Resolved.{ResolvedTree, tree, Form, ResolvedTrees}
use Rattle.spectra_copies.specs.Levels.{is_row_word}
use Rattle.spectra_judge.specs.Findings.{fault_if}
use Rattle.spectra_judge.specs.Kinds.{Anything, is_truth}
use Rattle.spectra_judge.specs.Operators.{is_past, is_past_prefix}
use Rattle.spectra_judge.specs.declared.around.Around.{Around}
use Rattle.spectra_judge.specs.Around.{under_next, within, in_next, next_faults}
use Rattle.spectra_judge.specs.Known.{Known, Setting}
use Rattle.spectra_judge.specs.Judged.{kind_of, wrong, binary_faults, remainder_faults, operator_faults, index_faults, is_wrong, first_of, faults, form_faults, operand_faults, bound_faults, copy_faults}
use Rattle.spectra_judge.proofs.Empty.{empty_parts, no_fault}
use Rattle.spectra_cases.specs.Formulas.{no_formula, leaf_formula, prefix_formula, binary_formula, Reading, One, Here, Outside, is_comparing, reading_of, cases_of, numbers_below, chosen, equals, index_side, quantified_formula, side, form_side, each_formula, formula_of}

neither : (xs ys : List Formula) → xs ≡ [] → ys ≡ [] → xs ++ ys ≡ []
neither xs ys e f = λ i. e i ++ f i

-- what has no past operator, and what is made of such without one
abbrev NoPast : Formula → Type 0
NoPast f = past_trees f ≡ []

abbrev KeepsNoPast : (Formula → Formula) → Type 0
KeepsNoPast make = (f : Formula) → NoPast f → NoPast (make f)

-- ---- cases of indexes

equal_past : (under : Bool) (f : Formula) (i : ℕ) → NoPast f → NoPast (equals under f i)
equal_past true f i e = neither (past_trees f) [] e refl
equal_past false f i e = neither (past_trees f) [] e refl

cases_past : (is_number with_element : ℕ → Formula) → ((i : ℕ) → NoPast (is_number i)) → ((v : ℕ) → NoPast (with_element v)) → (first : ℕ) (is : List ℕ)
    → past_trees_of_all (formulas (cases_of is_number with_element first is)) ≡ []
cases_past is_number with_element e h first [] = refl
cases_past is_number with_element e h first (i ∷ is) =
    neither (past_trees (Conjunction (formulas (is_number i ∷ with_element (first + i) ∷ [])))) (past_trees_of_all (formulas (cases_of is_number with_element first is)))
    (neither (past_trees (is_number i)) (past_trees (with_element (first + i)) ++ []) (e i) (neither (past_trees (with_element (first + i))) [] (h (first + i)) refl))
    (cases_past is_number with_element e h first is)

chosen_past : (is_number with_element : ℕ → Formula) → ((i : ℕ) → NoPast (is_number i)) → ((v : ℕ) → NoPast (with_element v)) → (first n : ℕ)
    → NoPast (chosen is_number with_element first n)
chosen_past is_number with_element e h first n = cases_past is_number with_element e h first (numbers_below 0 n)

index_past : (r : Reading) (first n : ℕ) (here outside : ℕ → Formula) (make : Formula → Formula) → ((i : ℕ) → NoPast (here i)) → ((i : ℕ) → NoPast (outside i)) → KeepsNoPast make
    → NoPast (index_side r first n here outside make)
index_past (One v) first n here outside make e h keeps = keeps (Variable v) refl
index_past Here first n here outside make e h keeps = keeps (chosen here Variable first n) (chosen_past here Variable e (λ v. refl) first n)
index_past Outside first n here outside make e h keeps = chosen_past outside (λ v. make (Variable v)) h (λ v. keeps (Variable v) refl) first n

quantified_past : (word : QuantifierWord) (fs : Formulas) → past_trees_of_all fs ≡ [] → NoPast (quantified_formula word fs)
quantified_past quantifiers.ForAll fs e = e
quantified_past quantifiers.Exists fs e = e

-- ---- expressions

module _ (s : Setting) (params : ℕ) (banned : s.bans.past ≡ true) where
  abbrev known : Known
  known = s.known

  none_here : (next : Option Mark) (at : Mark) → operator_faults s true next at ≡ [] → ⊥
  none_here next at none = false≢true (sym (no_fault s.bans.past (number_of WrongType) at.spot (empty_parts (fault_if s.bans.past (number_of WrongType) at.spot) (in_next next at) none).0) ∙ banned)

  leaf_past : (l : Leaf) → NoPast (leaf_formula params l)
  leaf_past (leaf.Truth b) = refl
  leaf_past (leaf.Number z) = refl
  leaf_past (leaf.EnumName n) = refl
  leaf_past (leaf.Variable k) = refl
  leaf_past (leaf.Parameter k) = refl
  leaf_past (leaf.Own k) = refl
  leaf_past (leaf.Define k) = refl
  leaf_past (leaf.Bound at) = refl
  leaf_past (leaf.Hole h) = refl

  prefix_past : (word : PrefixWord) (f : Formula) (next : Option Mark) (at : Mark) → operator_faults s (is_past_prefix word) next at ≡ [] → NoPast f → NoPast (prefix_formula word f)
  prefix_past prefixes.Not f next at none e = e
  prefix_past prefixes.Prev f next at none e = absurd (none_here next at none)
  prefix_past prefixes.Once f next at none e = absurd (none_here next at none)
  prefix_past prefixes.Historically f next at none e = absurd (none_here next at none)

  binary_past : (word : BinaryWord) (f g : Formula) (next : Option Mark) (at : Mark) → operator_faults s (is_past word) next at ≡ [] → NoPast f → NoPast g → NoPast (binary_formula word f g)
  binary_past binary.Implies f g next at none e h = neither (past_trees f) (past_trees g) e h
  binary_past binary.Iff f g next at none e h = neither (past_trees f) (past_trees g) e h
  binary_past binary.Since f g next at none e h = absurd (none_here next at none)
  binary_past binary.Triggered f g next at none e h = absurd (none_here next at none)
  binary_past binary.Eq f g next at none e h = neither (past_trees f) (past_trees g) e h
  binary_past binary.Ne f g next at none e h = neither (past_trees f) (past_trees g) e h
  binary_past binary.Lt f g next at none e h = neither (past_trees f) (past_trees g) e h
  binary_past binary.Le f g next at none e h = neither (past_trees f) (past_trees g) e h
  binary_past binary.Gt f g next at none e h = neither (past_trees f) (past_trees g) e h
  binary_past binary.Ge f g next at none e h = neither (past_trees f) (past_trees g) e h
  binary_past binary.Add f g next at none e h = neither (past_trees f) (past_trees g) e h
  binary_past binary.Sub f g next at none e h = neither (past_trees f) (past_trees g) e h
  binary_past binary.Mul f g next at none e h = neither (past_trees f) (past_trees g) e h

  -- an operator with its operands: in a row, in a comparison, or alone
  joined_past : (row comparing : Bool) (own alone : Formula) (make : Formula → Formula) (rowed : Formula) → NoPast rowed → NoPast (make own) → NoPast (make alone)
      → NoPast (if row then rowed else (if comparing then make own else make alone))
  joined_past true comparing own alone make rowed e f g = e
  joined_past false true own alone make rowed e f g = f
  joined_past false false own alone make rowed e f g = g

  mutual
    side_past : (t : ResolvedTree) (o : Around) (under : Bool) (make : Formula → Formula) → KeepsNoPast make → faults s o t ≡ [] → NoPast (side known params t under make)
    side_past (tree first at form) o under make keeps none = form_past form o at under make keeps none

    form_past : (form : Form) (o : Around) (at : Mark) (under : Bool) (make : Formula → Formula) → KeepsNoPast make → form_faults s o at form ≡ [] → NoPast (form_side known params form under make)
    form_past (Form.LeafOf l) o at under make keeps none = keeps (leaf_formula params l) (leaf_past l)
    form_past (Form.PredicateOf k ts) o at under make keeps none = keeps no_formula refl
    form_past (Form.MisuseOf m ts) o at under make keeps none = keeps no_formula refl
    form_past (Form.Next t) o at under make keeps none =
        side_past t (under_next at o) true (λ f. make (NextOf f)) (λ f e. keeps (NextOf f) e) (empty_parts (next_faults s.bans o at) (faults s (under_next at o) t) none).1
    form_past (Form.Prefix word t) o at under make keeps none =
        let inner = within (is_past_prefix word) at o in
        let parts = empty_parts (operator_faults s (is_past_prefix word) o.next at) (faults s inner t ++ wrong (is_truth (kind_of known t)) at.spot) none in
        let more = empty_parts (faults s inner t) (wrong (is_truth (kind_of known t)) at.spot) parts.1 in
        keeps (prefix_formula word (formula_of known params t)) (prefix_past word (formula_of known params t) o.next at parts.0 (side_past t inner false (λ f. f) (λ f e. e) more.0))
    form_past (Form.Binary word a b) o at under make keeps none =
        let inner = within (is_past word) at o in
        let own = binary_faults word (kind_of known a) (kind_of known b) at.spot in
        let parts = empty_parts (faults s inner a) (operator_faults s (is_past word) o.next at ++ (faults s inner b ++ own)) none in
        let more = empty_parts (operator_faults s (is_past word) o.next at) (faults s inner b ++ own) parts.1 in
        let last = empty_parts (faults s inner b) own more.1 in
        let joins : (f g : Formula) → NoPast f → NoPast g → NoPast (binary_formula word f g) = λ f g. binary_past word f g o.next at more.0 in
        let comparison = side known params a false (λ f. side known params b false (λ g. binary_formula word f g)) in
        let alone = binary_formula word (formula_of known params a) (formula_of known params b) in
        joined_past (is_row_word word) (is_comparing word) comparison alone make (side known params a under (λ f. side known params b under (λ g. make (binary_formula word f g))))
        (side_past a inner under (λ f. side known params b under (λ g. make (binary_formula word f g)))
        (λ f e. side_past b inner under (λ g. make (binary_formula word f g)) (λ g h. keeps (binary_formula word f g) (joins f g e h)) last.0) parts.0)
        (keeps comparison (side_past a inner false (λ f. side known params b false (λ g. binary_formula word f g)) (λ f e. side_past b inner false (binary_formula word f) (λ g h. joins f g e h) last.0) parts.0))
        (keeps alone (joins (formula_of known params a) (formula_of known params b) (side_past a inner false (λ f. f) (λ f e. e) parts.0) (side_past b inner false (λ f. f) (λ f e. e) last.0)))
    form_past (Form.Mod t number_at n) o at under make keeps none =
        side_past t o under (λ f. make (Formula.Remainder f n)) (λ f e. keeps (Formula.Remainder f n) e) (empty_parts (faults s o t) (remainder_faults (kind_of known t) at.spot number_at n) none).0
    form_past (Form.And ts operators) o at under make keeps none = keeps (Conjunction (each_formula known params ts)) (each_past ts o at.spot (at.spot ∷ operators) none)
    form_past (Form.Or ts operators) o at under make keeps none = keeps (Formula.Disjunction (each_formula known params ts)) (each_past ts o at.spot (at.spot ∷ operators) none)
    form_past (Form.Index first n t) o at under make keeps none =
        let inner = (empty_parts (faults s o t) (index_faults s o at first n (kind_of known t) (first_of t)) none).0 in
        index_past (reading_of (get_or known.variables first Anything) first n (kind_of known t)) first n
        (λ i. side known params t false (λ f. equals false f i)) (λ i. side known params t under (λ f. equals under f i)) make
        (λ i. side_past t o false (λ f. equals false f i) (λ f e. equal_past false f i e) inner) (λ i. side_past t o under (λ f. equals under f i) (λ f e. equal_past under f i e) inner) keeps
    form_past (Form.Quantified word variable extent low high ts) o at under make keeps none =
        let behind = (empty_parts (bound_faults s o at low high) (fault_if (is_wrong extent) (number_of WideInt) at.spot ++ copy_faults s o ts) none).1 in
        keeps (quantified_formula word (each_formula known params ts)) (quantified_past word (each_formula known params ts)
        (copies_past ts o (empty_parts (fault_if (is_wrong extent) (number_of WideInt) at.spot) (copy_faults s o ts) behind).1))

    each_past : (ts : ResolvedTrees) (o : Around) (at : Spot) (operators : List Spot) → operand_faults s o at operators ts ≡ [] → past_trees_of_all (each_formula known params ts) ≡ []
    each_past ResolvedTrees.none o at operators none = refl
    each_past (ResolvedTrees.one_more t ts) o at operators none =
        let own = wrong (is_truth (kind_of known t)) (get_or operators 0 at) in
        let parts = empty_parts (faults s o t) (own ++ operand_faults s o at (drop 1 operators) ts) none in
        let more = empty_parts own (operand_faults s o at (drop 1 operators) ts) parts.1 in
        neither (past_trees (formula_of known params t)) (past_trees_of_all (each_formula known params ts)) (side_past t o false (λ f. f) (λ f e. e) parts.0) (each_past ts o at (drop 1 operators) more.1)

    copies_past : (ts : ResolvedTrees) (o : Around) → copy_faults s o ts ≡ [] → past_trees_of_all (each_formula known params ts) ≡ []
    copies_past ResolvedTrees.none o none = refl
    copies_past (ResolvedTrees.one_more t ts) o none =
        let own = wrong (is_truth (kind_of known t)) (first_of t) in
        let parts = empty_parts (faults s o t) (own ++ copy_faults s o ts) none in
        neither (past_trees (formula_of known params t)) (past_trees_of_all (each_formula known params ts)) (side_past t o false (λ f. f) (λ f e. e) parts.0) (copies_past ts o (empty_parts own (copy_faults s o ts) parts.1).1)

  pub no_past : (t : ResolvedTree) (o : Around) → faults s o t ≡ [] → NoPast (formula_of known params t)
  no_past t o none = side_past t o false (λ f. f) (λ f e. e) none
