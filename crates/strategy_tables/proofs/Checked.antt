-- Where no check of a table fails, each rule holds at each node.
use Rattle.std.proofs.Common.{◌≡◌, ℕ, zero, suc, Bool, true, false, not, ◌&&◌, cond, List, [], ◌∷◌, ◌++◌, Option, Some, None, find, slice_get, refl, sym, ◌∙◌, ap, subst}
use Rattle.std.proofs.lemmas.Bool.{and_parts, and_from}
use Rattle.std.proofs.lemmas.List.Folds.{list_all-append}
use Rattle.std.specs.List.{list_all}
use Rattle.spec_model.specs.Games.{GameData}
use Rattle.strategy_tables.specs.Tables.{NodeData, SystemTable, EnvironmentTable}
use Rattle.strategy_tables.specs.Rules.{Check, rule_1, rule_2, rule_3, rule_4, rule_5, rule_6, rule_7, rule_8, rule_9, rule_10, system_checks_from, system_checks, environment_checks_from, environment_checks, first_flaw}

abbrev all_hold : List Check → Bool
all_hold checks = list_all (λ c. c.holds) checks

all_hold-none : (checks : List Check) → first_flaw checks ≡ None → all_hold checks ≡ true
all_hold-none [] none = refl
all_hold-none (c ∷ checks) none = at c.holds refl none (λ none. all_hold-none checks none)
  where
    at : (b : Bool) → c.holds ≡ b → cond (not b) (Some c) (find (λ c. not c.holds) checks) ≡ None → (find (λ c. not c.holds) checks ≡ None → list_all (λ (c : Check). c.holds) checks ≡ true) → (c.holds && list_all (λ (c : Check). c.holds) checks) ≡ true
    at true is none rest = and_from _ _ is (rest none)
    at false is none rest = absurd (cc)

-- ---- a system's table

pub record AtSystemNode (g : GameData) (nodes : List NodeData) (v : NodeData) : Type 0 where
  pub numbered : rule_2 g v ≡ true
  pub row : rule_3 g nodes v ≡ true
  pub moves : rule_4 g nodes v ≡ true

pub record SystemRules (g : GameData) (t : SystemTable) : Type 0 where
  pub first : rule_1 g t ≡ true
  pub each : (i : ℕ) (v : NodeData) → slice_get t.nodes i ≡ Some v → AtSystemNode g t.nodes v
  pub k_most : rule_5 g t ≡ true

system_each : (g : GameData) (nodes : List NodeData) (from : ℕ) (vs : List NodeData) → all_hold (system_checks_from g nodes from vs) ≡ true → (i : ℕ) (v : NodeData) → slice_get vs i ≡ Some v → AtSystemNode g nodes v
system_each g nodes from [] e i v is = absurd (cc)
system_each g nodes from (w ∷ vs) e zero v is =
    let same : w ≡ v = cc in
    let one = and_parts (rule_2 g w) _ e in
    let two = and_parts (rule_3 g nodes w) _ one.1 in
    let three = and_parts (rule_4 g nodes w) _ two.1 in
    subst (AtSystemNode g nodes) same (record { numbered = one.0; row = two.0; moves = three.0 })
system_each g nodes from (w ∷ vs) e (suc i) v is =
    let one = and_parts (rule_2 g w) _ e in
    let two = and_parts (rule_3 g nodes w) _ one.1 in
    let three = and_parts (rule_4 g nodes w) _ two.1 in
    system_each g nodes (suc from) vs three.1 i v is

pub system_rules : (g : GameData) (t : SystemTable) → first_flaw (system_checks g t) ≡ None → SystemRules g t
system_rules g t none =
    let first = and_parts (rule_1 g t) _ (all_hold-none (system_checks g t) none) in
    let parts = and_parts (all_hold (system_checks_from g t.nodes 0 t.nodes)) _ (sym (list_all-append (λ (c : Check). c.holds) (system_checks_from g t.nodes 0 t.nodes) _) ∙ first.1) in
    record { first = first.0; each = system_each g t.nodes 0 t.nodes parts.0; k_most = (and_parts (rule_5 g t) true parts.1).0 }

-- ---- an environment's table

pub record AtEnvironmentNode (g : GameData) (t : EnvironmentTable) (v : NodeData) : Type 0 where
  pub numbered : rule_7 g t v ≡ true
  pub row : rule_8 g t.nodes v ≡ true
  pub moves : rule_9 g t.nodes v ≡ true

pub record EnvironmentRules (g : GameData) (t : EnvironmentTable) : Type 0 where
  pub first : rule_6 g t ≡ true
  pub each : (i : ℕ) (v : NodeData) → slice_get t.nodes i ≡ Some v → AtEnvironmentNode g t v
  pub m_most : rule_10 g t ≡ true

environment_each : (g : GameData) (t : EnvironmentTable) (from : ℕ) (vs : List NodeData) → all_hold (environment_checks_from g t from vs) ≡ true → (i : ℕ) (v : NodeData) → slice_get vs i ≡ Some v → AtEnvironmentNode g t v
environment_each g t from [] e i v is = absurd (cc)
environment_each g t from (w ∷ vs) e zero v is =
    let same : w ≡ v = cc in
    let one = and_parts (rule_7 g t w) _ e in
    let two = and_parts (rule_8 g t.nodes w) _ one.1 in
    let three = and_parts (rule_9 g t.nodes w) _ two.1 in
    subst (AtEnvironmentNode g t) same (record { numbered = one.0; row = two.0; moves = three.0 })
environment_each g t from (w ∷ vs) e (suc i) v is =
    let one = and_parts (rule_7 g t w) _ e in
    let two = and_parts (rule_8 g t.nodes w) _ one.1 in
    let three = and_parts (rule_9 g t.nodes w) _ two.1 in
    environment_each g t (suc from) vs three.1 i v is

pub environment_rules : (g : GameData) (t : EnvironmentTable) → first_flaw (environment_checks g t) ≡ None → EnvironmentRules g t
environment_rules g t none =
    let first = and_parts (rule_6 g t) _ (all_hold-none (environment_checks g t) none) in
    let parts = and_parts (all_hold (environment_checks_from g t 0 t.nodes)) _ (sym (list_all-append (λ (c : Check). c.holds) (environment_checks_from g t 0 t.nodes) _) ∙ first.1) in
    record { first = first.0; each = environment_each g t 0 t.nodes parts.0; m_most = (and_parts (rule_10 g t) true parts.1).0 }
