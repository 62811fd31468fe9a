-- Which specifications are well typed: each formula has its kind and stands where it may, and no limit is passed.
use Rattle.std.specs.Prelude.{ℕ, suc, ◌+◌, ◌*◌, ◌≤◌, length, Bool, true, false, not, ◌&&◌, ◌||◌, ◌==◌, nat_lt, nat_le, List, [], ◌∷◌, ◌++◌, Some, None, map, replicate, option_map, unwrap_or, slice_get, sum_by, All, IsTrue}
use Rattle.std.specs.List.{list_all}
use Rattle.spec_model.specs.declared.value.Value.TheVariants as value
use Rattle.spec_model.specs.Values.{DomainData, TruthValues, WholeNumbers, Enumeration, same_names}
use Rattle.spec_model.specs.Syntax.{Formula, Constant, Variable, NextOf, Negation, Conjunction, Disjunction, Implication, Equivalence, Comparison, Sum, Difference, Product, Remainder, PastOf, Entry, Formulas, Regular, Atom, Sequence, Choice, Repetition, Regulars, Content, Initial, Safety, Recurring, PatternUse, TriggerUse, Statement, PatternData, TriggerData, Specification}
use Rattle.spec_model.specs.declared.spec.Role.{Role}
use Rattle.spec_model.specs.declared.spec.Role.TheVariants.{Monitor}
use Rattle.spec_model.specs.Moves.{has_next, is_assumption}
use Rattle.spec_model.specs.Sizes.{atoms_of, past_trees, domain_size, formulas_of, product}
use Rattle.spec_model.specs.Steps.{is_output_variable}
use Rattle.spec_model.specs.Typing.{Scope, kind_of, is_truth}
use Rattle.spec_model.specs.WellMade.{all_differ, is_domain}
use Rattle.spec_model.specs.Names.{IsName, IsVariableName}
use Rattle.spec_model.specs.FormulaSizes.{nodes_in, levels_in}
use Rattle.spec_model.specs.TriggerStates.{trigger_atoms, trigger_states}
pub use Rattle.spec_model.specs.Patterns.{tells_one, letters_of, is_determined}
pub use Rattle.spec_model.specs.Sizes.{is_hidden, all_hidden}

-- ---- what stands in a formula

-- each enum name in it is one of so many, and `next` and past operators don't stand in one another
abbrev mutual
  pub is_nested_well : (names : ℕ) → (under_next under_past : Bool) → Formula → Bool
  is_nested_well m n p (Constant (value.Bool b)) = true
  is_nested_well m n p (Constant (value.Int z)) = true
  is_nested_well m n p (Constant (value.Name k)) = nat_lt k m
  is_nested_well m n p (Variable k) = true
  is_nested_well m n p (NextOf e) = not n && (not p && is_nested_well m true p e)
  is_nested_well m n p (Negation e) = is_nested_well m n p e
  is_nested_well m n p (Conjunction es) = are_nested_well m n p es
  is_nested_well m n p (Disjunction es) = are_nested_well m n p es
  is_nested_well m n p (Implication a b) = is_nested_well m n p a && is_nested_well m n p b
  is_nested_well m n p (Equivalence a b) = is_nested_well m n p a && is_nested_well m n p b
  is_nested_well m n p (Comparison c a b) = is_nested_well m n p a && is_nested_well m n p b
  is_nested_well m n p (Sum a b) = is_nested_well m n p a && is_nested_well m n p b
  is_nested_well m n p (Difference a b) = is_nested_well m n p a && is_nested_well m n p b
  is_nested_well m n p (Product a b) = is_nested_well m n p a && is_nested_well m n p b
  is_nested_well m n p (Remainder a k) = is_nested_well m n p a
  is_nested_well m n p (PastOf op es) = not n && are_nested_well m n true es
  is_nested_well m n p (Entry h k) = false

  pub are_nested_well : (names : ℕ) → (under_next under_past : Bool) → Formulas → Bool
  are_nested_well m n p Formulas.none = true
  are_nested_well m n p (Formulas.one_more e es) = is_nested_well m n p e && are_nested_well m n p es

-- whether it reads a variable that a test tells: anywhere, or under a `next`
abbrev mutual
  pub reads_some : (ℕ → Bool) → Formula → Bool
  reads_some test (Constant v) = false
  reads_some test (Variable k) = test k
  reads_some test (NextOf e) = reads_some test e
  reads_some test (Negation e) = reads_some test e
  reads_some test (Conjunction es) = some_reads test es
  reads_some test (Disjunction es) = some_reads test es
  reads_some test (Implication a b) = reads_some test a || reads_some test b
  reads_some test (Equivalence a b) = reads_some test a || reads_some test b
  reads_some test (Comparison c a b) = reads_some test a || reads_some test b
  reads_some test (Sum a b) = reads_some test a || reads_some test b
  reads_some test (Difference a b) = reads_some test a || reads_some test b
  reads_some test (Product a b) = reads_some test a || reads_some test b
  reads_some test (Remainder a n) = reads_some test a
  reads_some test (PastOf op es) = some_reads test es
  reads_some test (Entry h n) = false

  pub some_reads : (ℕ → Bool) → Formulas → Bool
  some_reads test Formulas.none = false
  some_reads test (Formulas.one_more e es) = reads_some test e || some_reads test es

abbrev mutual
  pub shifts_some : (ℕ → Bool) → Formula → Bool
  shifts_some test (Constant v) = false
  shifts_some test (Variable k) = false
  shifts_some test (NextOf e) = reads_some test e
  shifts_some test (Negation e) = shifts_some test e
  shifts_some test (Conjunction es) = some_shifts test es
  shifts_some test (Disjunction es) = some_shifts test es
  shifts_some test (Implication a b) = shifts_some test a || shifts_some test b
  shifts_some test (Equivalence a b) = shifts_some test a || shifts_some test b
  shifts_some test (Comparison c a b) = shifts_some test a || shifts_some test b
  shifts_some test (Sum a b) = shifts_some test a || shifts_some test b
  shifts_some test (Difference a b) = shifts_some test a || shifts_some test b
  shifts_some test (Product a b) = shifts_some test a || shifts_some test b
  shifts_some test (Remainder a n) = shifts_some test a
  shifts_some test (PastOf op es) = some_shifts test es
  shifts_some test (Entry h n) = false

  pub some_shifts : (ℕ → Bool) → Formulas → Bool
  some_shifts test Formulas.none = false
  some_shifts test (Formulas.one_more e es) = shifts_some test e || some_shifts test es

-- a Boolean formula with its names and its nesting right, and one that has no `next` besides
abbrev pub is_typed : Scope → (names : ℕ) → Formula → Bool
is_typed sc names e = is_truth (kind_of sc e) && is_nested_well names false false e

abbrev pub is_typed_state : Scope → (names : ℕ) → Formula → Bool
is_typed_state sc names e = is_typed sc names e && not (has_next e)

-- ---- variables

-- a domain with a value, none twice, and each enum name one of so many
abbrev pub is_domain_of : (names : ℕ) → DomainData → Bool
is_domain_of names TruthValues = is_domain TruthValues
is_domain_of names (WholeNumbers lo hi) = is_domain (WholeNumbers lo hi)
is_domain_of names (Enumeration ks) = is_domain (Enumeration ks) && list_all (λ k. nat_lt k names) ks

-- ---- lines

abbrev pub scope_of_specification : Specification → Scope
scope_of_specification s = record { domains = map (λ v. v.domain) s.variables; tables = [] }

abbrev pub has_arguments : Specification → ℕ → List Formula → Bool
has_arguments s p es = unwrap_or (option_map (λ (p : PatternData). p.params == length es) (slice_get s.patterns p)) false

-- An initial assumption reads no variable of the system, and another one none under a `next`.
abbrev pub is_typed_content : Specification → (is_asm : Bool) → Content → Bool
is_typed_content s asm (Initial e) =
    is_typed_state (scope_of_specification s) (length s.names) e && not (asm && reads_some (is_output_variable s.variables) e)
is_typed_content s asm (Safety e) = is_typed (scope_of_specification s) (length s.names) e && not (asm && shifts_some (is_output_variable s.variables) e)
is_typed_content s asm (Recurring e) = is_typed_state (scope_of_specification s) (length s.names) e
is_typed_content s asm (PatternUse p es) = has_arguments s p es && list_all (is_typed_state (scope_of_specification s) (length s.names)) es
is_typed_content s asm (TriggerUse t) = nat_lt t (length s.triggers)

abbrev pub is_typed_line : Specification → Statement → Bool
is_typed_line s l = is_typed_content s (is_assumption l.role) l.content

-- a monitor's line is initial or holds at each position
abbrev pub is_monitor_content : Content → Bool
is_monitor_content (Initial e) = true
is_monitor_content (Safety e) = true
is_monitor_content _ = false

abbrev pub fits_role : Statement → Bool
fits_role l = of_role l.role
  where
    of_role : Role → Bool
    of_role Monitor = is_monitor_content l.content
    of_role _ = true

-- line numbers rise from 1, up to one more than there may be lines
abbrev pub are_rising : (least : ℕ) → List Statement → Bool
are_rising least [] = true
are_rising least (l ∷ ls) = nat_le least l.number && (nat_le l.number 4097 && are_rising (suc l.number) ls)

-- ---- patterns

abbrev pub scope_of_pattern : PatternData → Scope
scope_of_pattern p = record { domains = replicate p.params TruthValues ++ p.domains; tables = [] }

-- a line of a pattern has no past operator
abbrev pub is_pattern_line : PatternData → (names : ℕ) → Formula → Bool
is_pattern_line p names e = is_typed (scope_of_pattern p) names e && length (past_trees e) == 0

abbrev pub is_parameter : PatternData → ℕ → Bool
is_parameter p k = nat_lt k p.params

-- how a pattern's own variables begin: no parameter is read
abbrev pub is_first_line : PatternData → (names : ℕ) → Formula → Bool
is_first_line p names e = is_pattern_line p names e && (not (has_next e) && not (reads_some (is_parameter p) e))

-- how they go on: no parameter is read under a `next`
abbrev pub is_step_line : PatternData → (names : ℕ) → Formula → Bool
is_step_line p names e = is_pattern_line p names e && not (shifts_some (is_parameter p) e)

abbrev pub is_typed_pattern : (names : ℕ) → PatternData → Bool
is_typed_pattern names p =
    nat_le p.params 8
    && (list_all (is_domain_of names) p.domains
    && (nat_le (product (map domain_size p.domains)) 64
    && (list_all (is_first_line p names) p.first
    && (list_all (is_step_line p names) p.step
    && (list_all (λ e. is_pattern_line p names e && not (has_next e)) p.goals
    && is_determined p)))))

-- ---- triggers

abbrev mutual
  -- the brackets of a regular expression with its repeats written out: at least one piece, and one that is repeated
  pub positions_in : Regular → ℕ
  positions_in (Atom e) = 1
  positions_in (Sequence rs) = positions_in_each rs
  positions_in (Choice rs) = positions_in_each rs
  positions_in (Repetition r low None) = (low + 1) * positions_in r
  positions_in (Repetition r low (Some high)) = high * positions_in r

  pub positions_in_each : Regulars → ℕ
  positions_in_each Regulars.none = 0
  positions_in_each (Regulars.one_more r rs) = positions_in r + positions_in_each rs

abbrev pub has_some : Regulars → Bool
has_some Regulars.none = false
has_some (Regulars.one_more r rs) = true

abbrev mutual
  -- no repeat has an upper number below its lower one, or a number above 256, and each choice has an alternative
  pub repeats_well : Regular → Bool
  repeats_well (Atom e) = true
  repeats_well (Sequence rs) = each_repeats_well rs
  repeats_well (Choice rs) = has_some rs && each_repeats_well rs
  repeats_well (Repetition r low None) = nat_le low 256 && repeats_well r
  repeats_well (Repetition r low (Some high)) = nat_le low high && (nat_le high 256 && repeats_well r)

  pub each_repeats_well : Regulars → Bool
  each_repeats_well Regulars.none = true
  each_repeats_well (Regulars.one_more r rs) = repeats_well r && each_repeats_well rs

abbrev pub is_typed_side : Specification → Regular → Bool
is_typed_side s r = repeats_well r && (nat_le (positions_in r) 64 && list_all (is_typed_state (scope_of_specification s) (length s.names)) (atoms_of r))

abbrev pub is_typed_trigger : Specification → TriggerData → Bool
is_typed_trigger s t = is_typed_side s t.cause && (is_typed_side s t.effect && (nat_le (length (trigger_atoms t)) 8 && nat_le (trigger_states t) 256))

-- ---- limits

-- none of the formulas is nested too deep
abbrev pub have_few_levels : List Formula → Bool
have_few_levels es = list_all (λ e. nat_le (levels_in e) 512) es

-- the formulas of a pattern's lines
abbrev pub pattern_formulas : PatternData → List Formula
pattern_formulas p = p.first ++ (p.step ++ p.goals)

-- every node of a specification's formulas
abbrev pub all_nodes : Specification → ℕ
all_nodes s =
    sum_by (λ l. sum_by nodes_in (formulas_of s l.content)) s.lines + sum_by (λ p. sum_by nodes_in (pattern_formulas p)) s.patterns

-- ---- specifications

-- One line and one node more than a text may have are room for a guarantee that is forced.
pub record WellTyped (s : Specification) : Type 0 where
  pub few_names : length s.names ≤ 65_535
  pub different_names : IsTrue (all_differ same_names s.names)
  pub spelled_names : All IsName s.names
  pub few_variables : length s.variables ≤ 1024
  pub different_variables : IsTrue (all_differ same_names (map (λ v. v.name) s.variables))
  pub spelled_variables : All (λ v. IsVariableName v.name) s.variables
  pub domains : IsTrue (list_all (λ v. is_domain_of (length s.names) v.domain) s.variables)
  pub patterns : IsTrue (list_all (is_typed_pattern (length s.names)) s.patterns)
  pub triggers : IsTrue (list_all (is_typed_trigger s) s.triggers)
  pub lines : IsTrue (list_all (is_typed_line s) s.lines)
  pub roles : IsTrue (list_all fits_role s.lines)
  pub few_lines : length s.lines ≤ 4097
  pub rising : IsTrue (are_rising 1 s.lines)
  pub few_nodes : all_nodes s ≤ 1_000_001
  pub few_levels : IsTrue (list_all (λ l. have_few_levels (formulas_of s l.content)) s.lines)
  pub few_pattern_levels : IsTrue (list_all (λ p. have_few_levels (pattern_formulas p)) s.patterns)
  pub few_hidden : all_hidden s ≤ 1024
