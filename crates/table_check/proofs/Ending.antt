-- The first check that fails, node by node.
use Rattle.std.proofs.Common.{◌≡◌, ℕ, suc, Bool, true, false, not, cond, if◌then◌else◌, List, [], ◌∷◌, ◌++◌, Option, Some, None, find, refl, sym, ap, ◌∙◌}
use Rattle.spec_model.specs.Games.{GameData}
use Rattle.strategy_tables.specs.Tables.{NodeData, EnvironmentTable}
use Rattle.strategy_tables.specs.Rules.{Check, rule_2, rule_3, rule_4, rule_7, rule_8, rule_9, system_checks_from, environment_checks_from, first_flaw}
use Rattle.table_check.specs.declared.checking.CheckEnd.{CheckEnd}
use Rattle.table_check.specs.declared.checking.CheckEnd.TheVariants.{Sound, Flaw, Limit}
use Rattle.table_check.specs.Ends.{end_of}
use Rattle.table_check.specs.Nodes.{system_rule_at, environment_rule_at}

-- ---- three checks at a node

module _ (p q r : ℕ) (i : ℕ) (rest : List Check) where
  abbrev three : (a b c : Bool) → List Check
  three a b c = record { rule = p; node = i; holds = a } ∷ record { rule = q; node = i; holds = b } ∷ record { rule = r; node = i; holds = c } ∷ rest

  abbrev first_of_three : (a b c : Bool) → Option ℕ
  first_of_three a b c = if a then (if b then (if c then None else Some r) else Some q) else Some p

  none_fails : (a b c : Bool) → first_of_three a b c ≡ None → first_flaw (three a b c) ≡ first_flaw rest
  none_fails true true true e = refl
  none_fails true true false e = absurd (cc)
  none_fails true false c e = absurd (cc)
  none_fails false b c e = absurd (cc)

  one_fails : (a b c : Bool) (n : ℕ) → first_of_three a b c ≡ Some n → end_of (first_flaw (three a b c)) ≡ Flaw n i
  one_fails true true true n e = absurd (cc)
  one_fails true true false n e = let same : r ≡ n = cc in ap (λ (m : ℕ). Flaw m i) same
  one_fails true false c n e = let same : q ≡ n = cc in ap (λ (m : ℕ). Flaw m i) same
  one_fails false b c n e = let same : p ≡ n = cc in ap (λ (m : ℕ). Flaw m i) same

pub system_passes : (g : GameData) (nodes : List NodeData) (i : ℕ) (v : NodeData) (vs : List NodeData) → system_rule_at g nodes v ≡ None → first_flaw (system_checks_from g nodes i (v ∷ vs)) ≡ first_flaw (system_checks_from g nodes (suc i) vs)
system_passes g nodes i v vs e = none_fails 2 3 4 i (system_checks_from g nodes (suc i) vs) (rule_2 g v) (rule_3 g nodes v) (rule_4 g nodes v) e

pub system_fails : (g : GameData) (nodes : List NodeData) (i : ℕ) (v : NodeData) (vs : List NodeData) (n : ℕ) → system_rule_at g nodes v ≡ Some n → end_of (first_flaw (system_checks_from g nodes i (v ∷ vs))) ≡ Flaw n i
system_fails g nodes i v vs n e = one_fails 2 3 4 i (system_checks_from g nodes (suc i) vs) (rule_2 g v) (rule_3 g nodes v) (rule_4 g nodes v) n e

pub environment_passes : (g : GameData) (t : EnvironmentTable) (i : ℕ) (v : NodeData) (vs : List NodeData) → environment_rule_at g t v ≡ None → first_flaw (environment_checks_from g t i (v ∷ vs)) ≡ first_flaw (environment_checks_from g t (suc i) vs)
environment_passes g t i v vs e = none_fails 7 8 9 i (environment_checks_from g t (suc i) vs) (rule_7 g t v) (rule_8 g t.nodes v) (rule_9 g t.nodes v) e

pub environment_fails : (g : GameData) (t : EnvironmentTable) (i : ℕ) (v : NodeData) (vs : List NodeData) (n : ℕ) → environment_rule_at g t v ≡ Some n → end_of (first_flaw (environment_checks_from g t i (v ∷ vs))) ≡ Flaw n i
environment_fails g t i v vs n e = one_fails 7 8 9 i (environment_checks_from g t (suc i) vs) (rule_7 g t v) (rule_8 g t.nodes v) (rule_9 g t.nodes v) n e

-- ---- a check before the nodes', and one after

abbrev whole : (rule : ℕ) (holds : Bool) → List Check
whole rule holds = record { rule = rule; node = 0; holds = holds } ∷ []

pub first_fails : (rule : ℕ) (holds : Bool) (others : List Check) → holds ≡ false → end_of (first_flaw (record { rule = rule; node = 0; holds = holds } ∷ others)) ≡ Flaw rule 0
first_fails rule holds others e = ap (λ (b : Bool). end_of (first_flaw (record { rule = rule; node = 0; holds = b } ∷ others))) e

module _ (rule : ℕ) (holds : Bool) (passes : holds ≡ true) where
  begins : (others : List Check) → first_flaw (record { rule = rule; node = 0; holds = holds } ∷ others) ≡ first_flaw others
  begins others = ap (λ (b : Bool). first_flaw (record { rule = rule; node = 0; holds = b } ∷ others)) passes

  -- one at a node fails
  pub node_fails : (each last : List Check) (end : CheckEnd) → end ≡ end_of (first_flaw each) → (end ≡ Sound → ⊥) → end ≡ end_of (first_flaw ((record { rule = rule; node = 0; holds = holds } ∷ each) ++ last))
  node_fails each last end is fails = at each is ∙ ap end_of (sym (begins (each ++ last)))
    where
      at : (each : List Check) → end ≡ end_of (first_flaw each) → end ≡ end_of (first_flaw (each ++ last))
      at [] is = absurd (fails is)
      at (c ∷ each) is = by c.holds refl is (λ is. at each is)
        where
          by : (b : Bool) → c.holds ≡ b → end ≡ end_of (cond (not b) (Some c) (first_flaw each)) → (end ≡ end_of (first_flaw each) → end ≡ end_of (first_flaw (each ++ last))) → end ≡ end_of (cond (not c.holds) (Some c) (first_flaw (each ++ last)))
          by true e is later = later is ∙ ap (λ (b : Bool). end_of (cond (not b) (Some c) (first_flaw (each ++ last)))) (sym e)
          by false e is later = is ∙ ap (λ (b : Bool). end_of (cond (not b) (Some c) (first_flaw (each ++ last)))) (sym e)

  -- none does, so the last one decides
  pub last_decides : (each : List Check) → Sound ≡ end_of (first_flaw each) → (n : ℕ) (b : Bool) → (if b then Sound else Flaw n 0) ≡ end_of (first_flaw ((record { rule = rule; node = 0; holds = holds } ∷ each) ++ record { rule = n; node = 0; holds = b } ∷ []))
  last_decides each none n b = alone b ∙ (at each none ∙ ap end_of (sym (begins (each ++ whole n b))))
    where
      alone : (b : Bool) → (if b then Sound else Flaw n 0) ≡ end_of (first_flaw (whole n b))
      alone true = refl
      alone false = refl

      at : (each : List Check) → Sound ≡ end_of (first_flaw each) → end_of (first_flaw (whole n b)) ≡ end_of (first_flaw (each ++ whole n b))
      at [] none = refl
      at (c ∷ each) none = by c.holds refl none (λ none. at each none)
        where
          by : (h : Bool) → c.holds ≡ h → Sound ≡ end_of (cond (not h) (Some c) (first_flaw each)) → (Sound ≡ end_of (first_flaw each) → end_of (first_flaw (whole n b)) ≡ end_of (first_flaw (each ++ whole n b))) → end_of (first_flaw (whole n b)) ≡ end_of (cond (not c.holds) (Some c) (first_flaw (each ++ whole n b)))
          by true e none later = later none ∙ ap (λ (h : Bool). end_of (cond (not h) (Some c) (first_flaw (each ++ whole n b)))) (sym e)
          by false e none later = absurd (cc)
