-- The size of a formula, from what is measured of its expression.
use Rattle.std.proofs.Common.{◌≡◌, ℕ, zero, suc, ◌+◌, ◌*◌, min, max, Bool, true, false, if◌then◌else◌, List, [], ◌∷◌, length, get_or, refl, sym, ap, ◌∙◌, arith}
use Rattle.std.specs.Prelude.{pos}
use Rattle.std.proofs.Math.Nat.{mul-add, mul_comm, suc-mul}
use Rattle.spec_model.specs.declared.value.Value.TheVariants as value
use Rattle.spec_model.specs.declared.value.Value.{Value}
use Rattle.spec_model.specs.Syntax.{Formula, Constant, Variable, NextOf, Conjunction, Disjunction, Remainder, Formulas, formulas}
use Rattle.spec_model.specs.FormulaSizes.{nodes_in, nodes_in_each, levels_in, levels_in_each}
use Rattle.spectra_trees.specs.declared.tree.PrefixWord.{PrefixWord}
use Rattle.spectra_trees.specs.declared.tree.PrefixWord.TheVariants as prefixes
use Rattle.spectra_trees.specs.declared.tree.BinaryWord.{BinaryWord}
use Rattle.spectra_trees.specs.declared.tree.BinaryWord.TheVariants as binary
use Rattle.spectra_resolved.specs.declared.tree.Leaf.{Leaf}
use Rattle.spectra_resolved.specs.declared.tree.Leaf.TheVariants as leaf
use Rattle.spectra_resolved.specs.declared.tree.QuantifierWord.{QuantifierWord}
use Rattle.spectra_resolved.specs.declared.tree.QuantifierWord.TheVariants as quantifiers
use Rattle.spectra_resolved.specs.Resolved.{ResolvedTree, tree, Form, ResolvedTrees}
use Rattle.spectra_copies.specs.Levels.{is_row_word}
use Rattle.spectra_judge.specs.Kinds.{Anything}
use Rattle.spectra_judge.specs.Known.{Known}
use Rattle.spectra_judge.specs.Judged.{kind_of}
use Rattle.spectra_cases.specs.Formulas.{Reading, One, Here, Outside, reading_of, is_comparing, no_formula, leaf_formula, prefix_formula, binary_formula, cases_of, numbers_below, chosen, equals, index_side, quantified_formula, side, form_side, each_formula, formula_of}
use Rattle.spectra_cases.specs.Sizes.{SizeOf, WrapOf, held, size_of, one, above, joined, no_wrap, around, choice_wrap, closed, whole, equation_size, both_sides, together, index_measured, measured, form_measured, each_measured}
use Rattle.spectra_cases.proofs.Held.{held_add, held_max, held_one, held_mul, nodes_around, levels_around, node_step, node_sum, level_last, level_step, level_sum}

abbrev greatest : ℕ
greatest = 18_446_744_073_709_551_615

-- what cases make of the size that they are around
abbrev pub wrapped : WrapOf → SizeOf → SizeOf
wrapped w s = record { nodes = held (held (s.nodes * w.times) + w.more); levels = max (held (s.levels + w.above)) w.least }

-- several formulas
abbrev pub sizes_of : Formulas → SizeOf
sizes_of fs = record { nodes = held (nodes_in_each fs); levels = held (levels_in_each fs) }

-- ---- operators

one_held : held 1 ≡ 1
one_held = omega arith

constant_one : (v : Value) → size_of (Constant v) ≡ one
constant_one v = λ i. record { nodes = one_held i; levels = one_held i }

variable_one : (v : ℕ) → size_of (Variable v) ≡ one
variable_one v = λ i. record { nodes = one_held i; levels = one_held i }

leaf_one : (p : ℕ) (l : Leaf) → size_of (leaf_formula p l) ≡ one
leaf_one p (leaf.Truth b) = constant_one (value.Bool b)
leaf_one p (leaf.Number z) = constant_one (value.Int z)
leaf_one p (leaf.EnumName n) = constant_one (value.Name (min n 65_535))
leaf_one p (leaf.Variable k) = variable_one k
leaf_one p (leaf.Parameter k) = variable_one k
leaf_one p (leaf.Own k) = variable_one (p + k)
leaf_one p (leaf.Define k) = constant_one (value.Bool true)
leaf_one p (leaf.Bound at) = constant_one (value.Bool true)
leaf_one p (leaf.Hole h) = constant_one (value.Bool true)

next_size : (f : Formula) → size_of (NextOf f) ≡ above (size_of f)
next_size f = λ i. record { nodes = held_one greatest (nodes_in f) i; levels = held_one greatest (levels_in f) i }

remainder_size : (f : Formula) (n : _) → size_of (Remainder f n) ≡ above (size_of f)
remainder_size f n = λ i. record { nodes = held_one greatest (nodes_in f) i; levels = held_one greatest (levels_in f) i }

-- a past operator before one operand
past_nodes : (n : ℕ) → held (1 + (n + 0)) ≡ held (held n + 1)
past_nodes n = omega arith

past_levels : (n : ℕ) → held (1 + max n 0) ≡ held (held n + 1)
past_levels n = omega arith

prefix_size : (word : PrefixWord) (f : Formula) → size_of (prefix_formula word f) ≡ above (size_of f)
prefix_size prefixes.Not f = λ i. record { nodes = held_one greatest (nodes_in f) i; levels = held_one greatest (levels_in f) i }
prefix_size prefixes.Prev f = λ i. record { nodes = past_nodes (nodes_in f) i; levels = past_levels (levels_in f) i }
prefix_size prefixes.Once f = λ i. record { nodes = past_nodes (nodes_in f) i; levels = past_levels (levels_in f) i }
prefix_size prefixes.Historically f = λ i. record { nodes = past_nodes (nodes_in f) i; levels = past_levels (levels_in f) i }

two_nodes : (a b : ℕ) → held (1 + (a + b)) ≡ held (held (held a + held b) + 1)
two_nodes a b = omega arith

two_levels : (a b : ℕ) → held (1 + max a b) ≡ held (max (held a) (held b) + 1)
two_levels a b = omega arith

pair_nodes : (a b : ℕ) → held (1 + (a + (b + 0))) ≡ held (held (held a + held b) + 1)
pair_nodes a b = omega arith

pair_levels : (a b : ℕ) → held (1 + max a (max b 0)) ≡ held (max (held a) (held b) + 1)
pair_levels a b = omega arith

binary_size : (word : BinaryWord) (f g : Formula) → size_of (binary_formula word f g) ≡ joined (size_of f) (size_of g)
binary_size binary.Implies f g = λ i. record { nodes = two_nodes (nodes_in f) (nodes_in g) i; levels = two_levels (levels_in f) (levels_in g) i }
binary_size binary.Iff f g = λ i. record { nodes = two_nodes (nodes_in f) (nodes_in g) i; levels = two_levels (levels_in f) (levels_in g) i }
binary_size binary.Since f g = λ i. record { nodes = pair_nodes (nodes_in f) (nodes_in g) i; levels = pair_levels (levels_in f) (levels_in g) i }
binary_size binary.Triggered f g = λ i. record { nodes = pair_nodes (nodes_in f) (nodes_in g) i; levels = pair_levels (levels_in f) (levels_in g) i }
binary_size binary.Eq f g = λ i. record { nodes = two_nodes (nodes_in f) (nodes_in g) i; levels = two_levels (levels_in f) (levels_in g) i }
binary_size binary.Ne f g = λ i. record { nodes = two_nodes (nodes_in f) (nodes_in g) i; levels = two_levels (levels_in f) (levels_in g) i }
binary_size binary.Lt f g = λ i. record { nodes = two_nodes (nodes_in f) (nodes_in g) i; levels = two_levels (levels_in f) (levels_in g) i }
binary_size binary.Le f g = λ i. record { nodes = two_nodes (nodes_in f) (nodes_in g) i; levels = two_levels (levels_in f) (levels_in g) i }
binary_size binary.Gt f g = λ i. record { nodes = two_nodes (nodes_in f) (nodes_in g) i; levels = two_levels (levels_in f) (levels_in g) i }
binary_size binary.Ge f g = λ i. record { nodes = two_nodes (nodes_in f) (nodes_in g) i; levels = two_levels (levels_in f) (levels_in g) i }
binary_size binary.Add f g = λ i. record { nodes = two_nodes (nodes_in f) (nodes_in g) i; levels = two_levels (levels_in f) (levels_in g) i }
binary_size binary.Sub f g = λ i. record { nodes = two_nodes (nodes_in f) (nodes_in g) i; levels = two_levels (levels_in f) (levels_in g) i }
binary_size binary.Mul f g = λ i. record { nodes = two_nodes (nodes_in f) (nodes_in g) i; levels = two_levels (levels_in f) (levels_in g) i }

conjunction_size : (fs : Formulas) → size_of (Conjunction fs) ≡ above (sizes_of fs)
conjunction_size fs = λ i. record { nodes = held_one greatest (nodes_in_each fs) i; levels = held_one greatest (levels_in_each fs) i }

disjunction_size : (fs : Formulas) → size_of (Disjunction fs) ≡ above (sizes_of fs)
disjunction_size fs = λ i. record { nodes = held_one greatest (nodes_in_each fs) i; levels = held_one greatest (levels_in_each fs) i }

quantified_size : (word : QuantifierWord) (fs : Formulas) → size_of (quantified_formula word fs) ≡ above (sizes_of fs)
quantified_size quantifiers.ForAll fs = conjunction_size fs
quantified_size quantifiers.Exists fs = disjunction_size fs

none_held : held 0 ≡ 0
none_held = omega arith

more_size : (f : Formula) (fs : Formulas) → sizes_of (Formulas.one_more f fs) ≡ together (size_of f) (sizes_of fs)
more_size f fs =
    λ i. record { nodes = sym (held_add greatest (nodes_in f) (nodes_in_each fs)) i; levels = held_max greatest (levels_in f) (levels_in_each fs) i }

equals_size : (under : Bool) (f : Formula) (i : ℕ) (own : SizeOf) → size_of f ≡ own → size_of (equals under f i) ≡ joined (if under then above own else own) one
equals_size true f i own is =
    binary_size binary.Eq (NextOf f) (Constant (value.Int (pos i))) ∙ (λ j. joined ((next_size f ∙ ap above is) j) (constant_one (value.Int (pos i)) j))
equals_size false f i own is =
    binary_size binary.Eq f (Constant (value.Int (pos i))) ∙ (λ j. joined (is j) (constant_one (value.Int (pos i)) j))

-- ---- cases

-- no cases change nothing
unwrapped : (g : Formula) → wrapped no_wrap (size_of g) ≡ size_of g
unwrapped g = λ i. record { nodes = nodes (nodes_in g) i; levels = levels (levels_in g) i }
  where
    nodes : (n : ℕ) → held (held (held n * 1) + 0) ≡ held n
    nodes n = omega arith

    levels : (n : ℕ) → max (held (held n + 0)) 0 ≡ held n
    levels n = omega arith

-- what no index is left of
plain : (make : Formula → Formula) (own result : SizeOf) (f : Formula) → size_of f ≡ own → ((g : Formula) → size_of g ≡ own → size_of (make g) ≡ result) → size_of (make f) ≡ wrapped no_wrap result
plain make own result f is makes = sym (unwrapped (make f)) ∙ ap (wrapped no_wrap) (makes f is)

wrapped_around : (o i : WrapOf) (s : SizeOf) → wrapped o (wrapped i s) ≡ wrapped (around o i) s
wrapped_around o i s =
    λ j. record {
      nodes = nodes_around greatest s.nodes i.times i.more o.times o.more j;
      levels = levels_around greatest s.levels i.above i.least o.above o.least j;
    }

numbers_long : (from n : ℕ) → length (numbers_below from n) ≡ n
numbers_long from zero = refl
numbers_long from (suc n) = ap suc (numbers_long (suc from) n)

module _ (is_number with_element : ℕ → Formula) (first : ℕ) (e r : SizeOf) (equations : (i : ℕ) → size_of (is_number i) ≡ e) (elements : (v : ℕ) → size_of (with_element v) ≡ r) where
  abbrev all : List ℕ → Formulas
  all is = formulas (cases_of is_number with_element first is)

  abbrev each : ℕ
  each = e.nodes + 1 + r.nodes

  cases_nodes : (is : List ℕ) → held (nodes_in_each (all is)) ≡ held (length is * each)
  cases_nodes [] = omega arith
  cases_nodes (i ∷ is) =
      node_step greatest (nodes_in (is_number i)) (nodes_in (with_element (first + i))) (nodes_in_each (all is)) (length is * each) e.nodes r.nodes
      (ap (λ (s : SizeOf). s.nodes) (equations i)) (ap (λ (s : SizeOf). s.nodes) (elements (first + i))) (cases_nodes is)
      ∙ ap held (sym (suc-mul (length is) each))

  cases_levels : (i : ℕ) (is : List ℕ) → held (levels_in_each (all (i ∷ is))) ≡ held (1 + max e.levels r.levels)
  cases_levels i [] =
      level_last greatest (levels_in (is_number i)) (levels_in (with_element (first + i))) e.levels r.levels (ap (λ (s : SizeOf). s.levels) (equations i)) (ap (λ (s : SizeOf). s.levels) (elements (first + i)))
  cases_levels i (j ∷ is) =
      level_step greatest (levels_in (is_number i)) (levels_in (with_element (first + i))) (levels_in_each (all (j ∷ is))) e.levels r.levels
      (ap (λ (s : SizeOf). s.levels) (equations i)) (ap (λ (s : SizeOf). s.levels) (elements (first + i))) (cases_levels j is)

  pub chosen_size : (n : ℕ) → size_of (chosen is_number with_element first (suc n)) ≡ wrapped (choice_wrap (suc n) e) r
  chosen_size n =
      λ j. record {
        nodes = node_sum greatest (nodes_in_each (all (numbers_below 0 (suc n)))) (suc n * (e.nodes + 1)) (r.nodes * suc n) (held (suc n * held (e.nodes + 1))) nodes (held_mul greatest (suc n) (e.nodes + 1)) j;
        levels = level_sum greatest (levels_in_each (all (numbers_below 0 (suc n)))) e.levels r.levels (cases_levels 0 (numbers_below 1 n)) j;
      }
    where
      nodes : held (nodes_in_each (all (numbers_below 0 (suc n)))) ≡ held (suc n * (e.nodes + 1) + r.nodes * suc n)
      nodes =
          cases_nodes (numbers_below 0 (suc n))
          ∙ ap (λ m. held (m * each)) (numbers_long 0 (suc n))
          ∙ ap held (mul-add (suc n) (e.nodes + 1) r.nodes ∙ ap (λ m. suc n * (e.nodes + 1) + m) (mul_comm (suc n) r.nodes))

-- ---- expressions

module _ (k : Known) (p : ℕ) where
  -- The size that is made of a part has its cases around the size that is made of its formulas, all of which have one size.
  abbrev pub IsSized : ResolvedTree → Type 0
  IsSized t = (under : Bool) (make : Formula → Formula) (result : SizeOf) → ((f : Formula) → size_of f ≡ (measured k t under).own → size_of (make f) ≡ result)
      → size_of (side k p t under make) ≡ wrapped (measured k t under).wrap result

  pair_sized : (a b : ResolvedTree) (under : Bool) (make : Formula → Formula → Formula) (result : SizeOf) → IsSized a → IsSized b
      → ((f g : Formula) → size_of f ≡ (measured k a under).own → size_of g ≡ (measured k b under).own → size_of (make f g) ≡ result)
      → size_of (side k p a under (λ f. side k p b under (λ g. make f g))) ≡ wrapped (around (measured k a under).wrap (measured k b under).wrap) result
  pair_sized a b under make result first second makes =
      first under (λ f. side k p b under (λ g. make f g)) (wrapped (measured k b under).wrap result) (λ f is. second under (make f) result (λ g same. makes f g is same))
      ∙ wrapped_around (measured k a under).wrap (measured k b under).wrap result

  whole_sized : (t : ResolvedTree) → IsSized t → size_of (formula_of k p t) ≡ closed (measured k t false)
  whole_sized t is = is false (λ f. f) (measured k t false).own (λ f same. same)

  binary_sized : (row comparing : Bool) (word : BinaryWord) (a b : ResolvedTree) (under : Bool) (make : Formula → Formula) (result : SizeOf) → IsSized a → IsSized b
      → ((f : Formula) → size_of f ≡ (if row then both_sides (measured k a (if row then under else false)) (measured k b (if row then under else false))
      else (if comparing then whole (closed (both_sides (measured k a (if row then under else false)) (measured k b (if row then under else false))))
      else whole (joined (closed (measured k a (if row then under else false))) (closed (measured k b (if row then under else false)))))).own → size_of (make f) ≡ result)
      → size_of (if row then side k p a under (λ f. side k p b under (λ g. make (binary_formula word f g)))
      else (if comparing then make (side k p a false (λ f. side k p b false (λ g. binary_formula word f g)))
      else make (binary_formula word (side k p a false (λ f. f)) (side k p b false (λ g. g)))))
      ≡ wrapped (if row then both_sides (measured k a (if row then under else false)) (measured k b (if row then under else false))
      else (if comparing then whole (closed (both_sides (measured k a (if row then under else false)) (measured k b (if row then under else false))))
      else whole (joined (closed (measured k a (if row then under else false))) (closed (measured k b (if row then under else false)))))).wrap result
  binary_sized true comparing word a b under make result first second makes =
      pair_sized a b under (λ f g. make (binary_formula word f g)) result first second (λ f g is same. makes (binary_formula word f g) (binary_size word f g ∙ (λ i. joined (is i) (same i))))
  binary_sized false true word a b under make result first second makes =
      plain make (closed (both_sides (measured k a false) (measured k b false))) result (side k p a false (λ f. side k p b false (λ g. binary_formula word f g)))
      (pair_sized a b false (binary_formula word) (joined (measured k a false).own (measured k b false).own) first second (λ f g is same. binary_size word f g ∙ (λ i. joined (is i) (same i))))
      makes
  binary_sized false false word a b under make result first second makes =
      plain make (joined (closed (measured k a false)) (closed (measured k b false))) result (binary_formula word (side k p a false (λ f. f)) (side k p b false (λ g. g)))
      (binary_size word (side k p a false (λ f. f)) (side k p b false (λ g. g)) ∙ (λ i. joined (whole_sized a first i) (whole_sized b second i)))
      makes

  -- an equation of an index
  equation_sized : (t : ResolvedTree) → IsSized t → (under : Bool) (i : ℕ) → size_of (side k p t under (λ f. equals under f i)) ≡ equation_size under (measured k t under)
  equation_sized t is under i =
      is under (λ f. equals under f i) (joined (if under then above (measured k t under).own else (measured k t under).own) one) (λ f same. equals_size under f i (measured k t under).own same)

  index_sized : (r : Reading) (first n : ℕ) (here outside : ℕ → Formula) (e o : SizeOf) (make : Formula → Formula) (result : SizeOf)
      → ((i : ℕ) → size_of (here i) ≡ e) → ((i : ℕ) → size_of (outside i) ≡ o) → ((f : Formula) → size_of f ≡ (index_measured r (suc n) e o).own → size_of (make f) ≡ result)
      → size_of (index_side r first (suc n) here outside make) ≡ wrapped (index_measured r (suc n) e o).wrap result
  index_sized (One v) first n here outside e o make result is_here is_outside makes = plain make one result (Variable v) (variable_one v) makes
  index_sized Here first n here outside e o make result is_here is_outside makes =
      plain make (wrapped (choice_wrap (suc n) e) one) result (chosen here Variable first (suc n)) (chosen_size here Variable first e one is_here variable_one n) makes
  index_sized Outside first n here outside e o make result is_here is_outside makes =
      chosen_size outside (λ v. make (Variable v)) first o result is_outside (λ v. makes (Variable v) (variable_one v)) n

  array_sized : (first n : ℕ) (t : ResolvedTree) → IsSized t → (under : Bool) (make : Formula → Formula) (result : SizeOf)
      → ((f : Formula) → size_of f ≡ (form_measured k (Form.Index first n t) under).own → size_of (make f) ≡ result)
      → size_of (form_side k p (Form.Index first n t) under make) ≡ wrapped (form_measured k (Form.Index first n t) under).wrap result
  array_sized first zero t is under make result makes = plain make one result (Variable first) (variable_one first) makes
  array_sized first (suc n) t is under make result makes =
      index_sized (reading_of (get_or k.variables first Anything) first (suc n) (kind_of k t)) first n (λ i. side k p t false (λ f. equals false f i)) (λ i. side k p t under (λ f. equals under f i))
      (equation_size false (measured k t false)) (equation_size under (measured k t under)) make result (equation_sized t is false) (equation_sized t is under) makes

  mutual
    pub sized : (t : ResolvedTree) → IsSized t
    sized (tree first at form) under make result makes = form_sized form under make result makes

    form_sized : (form : Form) (under : Bool) (make : Formula → Formula) (result : SizeOf) → ((f : Formula) → size_of f ≡ (form_measured k form under).own → size_of (make f) ≡ result)
        → size_of (form_side k p form under make) ≡ wrapped (form_measured k form under).wrap result
    form_sized (Form.LeafOf l) under make result makes = plain make one result (leaf_formula p l) (leaf_one p l) makes
    form_sized (Form.PredicateOf number ts) under make result makes = plain make one result no_formula (constant_one (value.Bool true)) makes
    form_sized (Form.MisuseOf m ts) under make result makes = plain make one result no_formula (constant_one (value.Bool true)) makes
    form_sized (Form.Next t) under make result makes = sized t true (λ f. make (NextOf f)) result (λ f is. makes (NextOf f) (next_size f ∙ ap above is))
    form_sized (Form.Prefix word t) under make result makes =
        plain make (above (closed (measured k t false))) result (prefix_formula word (formula_of k p t)) (prefix_size word (formula_of k p t) ∙ ap above (whole_sized t (sized t))) makes
    form_sized (Form.Binary word a b) under make result makes = binary_sized (is_row_word word) (is_comparing word) word a b under make result (sized a) (sized b) makes
    form_sized (Form.Mod t number_at n) under make result makes = sized t under (λ f. make (Remainder f n)) result (λ f is. makes (Remainder f n) (remainder_size f n ∙ ap above is))
    form_sized (Form.And ts operators) under make result makes =
        plain make (above (each_measured k ts)) result (Conjunction (each_formula k p ts)) (conjunction_size (each_formula k p ts) ∙ ap above (each_sized ts)) makes
    form_sized (Form.Or ts operators) under make result makes =
        plain make (above (each_measured k ts)) result (Disjunction (each_formula k p ts)) (disjunction_size (each_formula k p ts) ∙ ap above (each_sized ts)) makes
    form_sized (Form.Index first n t) under make result makes = array_sized first n t (sized t) under make result makes
    form_sized (Form.Quantified word variable extent low high ts) under make result makes =
        plain make (above (each_measured k ts)) result (quantified_formula word (each_formula k p ts)) (quantified_size word (each_formula k p ts) ∙ ap above (each_sized ts)) makes

    each_sized : (ts : ResolvedTrees) → sizes_of (each_formula k p ts) ≡ each_measured k ts
    each_sized ResolvedTrees.none = λ i. record { nodes = none_held i; levels = none_held i }
    each_sized (ResolvedTrees.one_more t ts) = more_size (formula_of k p t) (each_formula k p ts) ∙ (λ i. together (whole_sized t (sized t) i) (each_sized ts i))

  pub size_is : (t : ResolvedTree) → size_of (formula_of k p t) ≡ closed (measured k t false)
  size_is t = whole_sized t (sized t)
