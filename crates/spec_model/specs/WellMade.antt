-- Which games are well made: each formula has its kind, each domain and each hidden table is whole.
use Rattle.std.specs.Prelude.{ℕ, ◌*◌, ◌^◌, ◌≤◌, length, int_le, Bool, true, false, not, ◌&&◌, ◌||◌, ◌==◌, nat_lt, List, [], ◌∷◌, ◌++◌, is_some, map, All, IsTrue}
use Rattle.std.specs.List.{list_any, list_all}
use Rattle.spec_model.specs.Values.{DomainData, TruthValues, WholeNumbers, Enumeration, same_names}
use Rattle.spec_model.specs.Syntax.{Formula, Constant, Variable, NextOf, Negation, Conjunction, Disjunction, Implication, Equivalence, Comparison, Sum, Difference, Product, Remainder, PastOf, Entry, Formulas, VariableData}
use Rattle.spec_model.specs.Moves.{has_next}
use Rattle.spec_model.specs.Names.{IsVariableName}
use Rattle.spec_model.specs.Typing.{Scope, kind_of, is_truth, whole}
use Rattle.spec_model.specs.Games.{GameData, HiddenData}
use Rattle.spec_model.specs.Steps.{is_output_variable, waits_for_output}

-- ---- variables

-- no two of a list are the same
abbrev pub all_differ : {X : Type 0} → (X → X → Bool) → List X → Bool
all_differ same [] = true
all_differ same (x ∷ xs) = not (list_any (same x) xs) && all_differ same xs

-- the domain has a value, none twice, and at most 4,096 whole numbers, none past 10^12 either way
abbrev pub is_domain : DomainData → Bool
is_domain TruthValues = true
is_domain (WholeNumbers lo hi) = int_le lo hi && is_some (whole lo hi)
is_domain (Enumeration names) = nat_lt 0 (length names) && all_differ (λ m n. m == n) names

-- ---- formulas

-- The formula reads one state, or one and the next: no past operator stands in it, and under `next` neither `next` nor an entry.
abbrev mutual
  pub is_stepwise : (under_next : Bool) → Formula → Bool
  is_stepwise u (Constant v) = true
  is_stepwise u (Variable k) = true
  is_stepwise u (NextOf e) = not u && is_stepwise true e
  is_stepwise u (Negation e) = is_stepwise u e
  is_stepwise u (Conjunction es) = are_stepwise u es
  is_stepwise u (Disjunction es) = are_stepwise u es
  is_stepwise u (Implication a b) = is_stepwise u a && is_stepwise u b
  is_stepwise u (Equivalence a b) = is_stepwise u a && is_stepwise u b
  is_stepwise u (Comparison c a b) = is_stepwise u a && is_stepwise u b
  is_stepwise u (Sum a b) = is_stepwise u a && is_stepwise u b
  is_stepwise u (Difference a b) = is_stepwise u a && is_stepwise u b
  is_stepwise u (Product a b) = is_stepwise u a && is_stepwise u b
  is_stepwise u (Remainder a n) = is_stepwise u a
  is_stepwise u (PastOf op es) = false
  is_stepwise u (Entry h n) = not u

  pub are_stepwise : (under_next : Bool) → Formulas → Bool
  are_stepwise u Formulas.none = true
  are_stepwise u (Formulas.one_more e es) = is_stepwise u e && are_stepwise u es

-- whether some output is read under `next`
abbrev mutual
  pub awaits_output : List VariableData → (under_next : Bool) → Formula → Bool
  awaits_output vs u (Constant v) = false
  awaits_output vs u (Variable k) = u && is_output_variable vs k
  awaits_output vs u (NextOf e) = awaits_output vs true e
  awaits_output vs u (Negation e) = awaits_output vs u e
  awaits_output vs u (Conjunction es) = some_awaits_output vs u es
  awaits_output vs u (Disjunction es) = some_awaits_output vs u es
  awaits_output vs u (Implication a b) = awaits_output vs u a || awaits_output vs u b
  awaits_output vs u (Equivalence a b) = awaits_output vs u a || awaits_output vs u b
  awaits_output vs u (Comparison c a b) = awaits_output vs u a || awaits_output vs u b
  awaits_output vs u (Sum a b) = awaits_output vs u a || awaits_output vs u b
  awaits_output vs u (Difference a b) = awaits_output vs u a || awaits_output vs u b
  awaits_output vs u (Product a b) = awaits_output vs u a || awaits_output vs u b
  awaits_output vs u (Remainder a n) = awaits_output vs u a
  awaits_output vs u (PastOf op es) = some_awaits_output vs u es
  awaits_output vs u (Entry h n) = false

  pub some_awaits_output : List VariableData → (under_next : Bool) → Formulas → Bool
  some_awaits_output vs u Formulas.none = false
  some_awaits_output vs u (Formulas.one_more e es) = awaits_output vs u e || some_awaits_output vs u es

-- a Boolean formula over a state and the next one, and one over a state alone
abbrev pub is_step_formula : Scope → Formula → Bool
is_step_formula sc e = is_truth (kind_of sc e) && is_stepwise false e

abbrev pub is_state_formula : Scope → Formula → Bool
is_state_formula sc e = is_step_formula sc e && not (has_next e)

-- ---- hidden tables

-- how many entries the table has: one for each value and letter
abbrev pub cell_count : HiddenData → ℕ
cell_count h = h.values * 2 ^ length h.atoms

-- It has a value; its first and next values are among its values; nothing is left out; and its atoms are well made.
abbrev pub is_table : Scope → HiddenData → Bool
is_table sc h =
    nat_lt h.first h.values
    && (list_all (λ v. nat_lt v h.values) h.next
    && (length h.next == cell_count h
    && (list_all (λ table. length table == cell_count h) h.tables
    && list_all (is_state_formula sc) h.atoms)))

-- each is, where the atoms of one read only the tables before it
abbrev pub are_tables : Scope → List HiddenData → Bool
are_tables sc [] = true
are_tables sc (h ∷ hs) = is_table sc h && are_tables (record sc { tables = sc.tables ++ length h.tables ∷ [] }) hs

-- ---- games

-- what the lines and the goals of a game may read
abbrev pub scope_of : GameData → Scope
scope_of g = record { domains = map (λ v. v.domain) g.variables; tables = map (λ h. length h.tables) g.hidden }

abbrev pub is_initial_assumption : GameData → Formula → Bool
is_initial_assumption g e = is_state_formula (scope_of g) e && not (waits_for_output g e)

abbrev pub is_safety_assumption : GameData → Formula → Bool
is_safety_assumption g e = is_step_formula (scope_of g) e && not (awaits_output g.variables false e)

pub record WellMade (g : GameData) : Type 0 where
  pub few_variables : length g.variables ≤ 1024
  pub names : IsTrue (all_differ same_names (map (λ v. v.name) g.variables))
  pub spelled : All (λ v. IsVariableName v.name) g.variables
  pub domains : IsTrue (list_all (λ v. is_domain v.domain) g.variables)
  pub hidden : IsTrue (are_tables (record { domains = map (λ v. v.domain) g.variables; tables = [] }) g.hidden)
  pub initial_asm : IsTrue (list_all (λ l. is_initial_assumption g l.1) g.initial_asm)
  pub initial_gar : IsTrue (list_all (λ l. is_state_formula (scope_of g) l.1) g.initial_gar)
  pub safe_asm : IsTrue (list_all (λ l. is_safety_assumption g l.1) g.safe_asm)
  pub safe_gar : IsTrue (list_all (λ l. is_step_formula (scope_of g) l.1) g.safe_gar)
  pub assume : IsTrue (list_all (λ goal. is_state_formula (scope_of g) goal.holds) g.assume)
  pub goals : IsTrue (list_all (λ goal. is_state_formula (scope_of g) goal.holds) g.goals)
