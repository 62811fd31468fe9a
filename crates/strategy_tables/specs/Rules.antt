-- The rules that a table is checked by: five for a system's, five for an environment's. Each looks at one node and at those that may
-- come next, or sums up all.
use Rattle.std.specs.Prelude.{ℕ, suc, ◌+◌, ◌-◌, max, Bool, not, ◌&&◌, ◌||◌, nat_le, nat_lt, ◌==◌, if◌then◌else◌, List, [], ◌∷◌, ◌++◌, Option, Some, None, length, map, sum, find}
use Rattle.std.specs.List.{list_all}
use Rattle.spec_model.specs.Games.{GameData}
use Rattle.spec_model.specs.Steps.{below}
use Rattle.gr1_law.specs.Layers.{goal_sets, assumption_sets}
use Rattle.strategy_tables.specs.Tables.{NodeData, SystemTable, EnvironmentTable, each_target, system_row, environment_row, goal_holds, asm_holds, turned}

-- goal and assumption are numbers of the game's
abbrev pub is_numbered : GameData → NodeData → Bool
is_numbered g v = (nat_le 1 v.goal && nat_le v.goal (length (goal_sets g))) && (nat_le 1 v.asm && nat_le v.asm (length (assumption_sets g)))

-- ---- a system's table

-- 1: there is a first node for each legal first input
abbrev pub rule_1 : GameData → SystemTable → Bool
rule_1 g t = system_row g t.nodes None t.first

-- 2: goal and assumption are there, and the rank is at least 1
abbrev pub rule_2 : GameData → NodeData → Bool
rule_2 g v = is_numbered g v && nat_le 1 v.rank

-- 3: there is a next node for each legal input
abbrev pub rule_3 : GameData → List NodeData → NodeData → Bool
rule_3 g nodes v = system_row g nodes (Some v.state) v.next

-- 4: once the goal holds the next is aimed at; before, the rank falls, or rank and assumption stay and the assumption is false
abbrev pub moves_on : GameData → NodeData → NodeData → Bool
moves_on g v w =
    if goal_holds g v then w.goal == turned (length (goal_sets g)) v.goal
    else (w.goal == v.goal) && (nat_lt w.rank v.rank || ((w.rank == v.rank) && ((w.asm == v.asm) && not (asm_holds g v))))

abbrev pub rule_4 : GameData → List NodeData → NodeData → Bool
rule_4 g nodes v = each_target nodes v (moves_on g v)

-- 5: k is at least one more than the greatest ranks of the goals together
abbrev pub greatest_rank : List NodeData → ℕ → ℕ
greatest_rank [] j = 0
greatest_rank (v ∷ vs) j = max (if v.goal == j then v.rank else 0) (greatest_rank vs j)

abbrev pub greatest_ranks : GameData → List NodeData → List ℕ
greatest_ranks g nodes = map (λ j. greatest_rank nodes (suc j)) (below (length (goal_sets g)))

abbrev pub rule_5 : GameData → SystemTable → Bool
rule_5 g t = nat_le (1 + sum (greatest_ranks g t.nodes)) t.k

-- ---- an environment's table

-- 6: the first input is legal, and there is a first node for each legal reply
abbrev pub rule_6 : GameData → EnvironmentTable → Bool
rule_6 g t = environment_row g t.nodes None t.reply t.first

-- 7: the layer is from 1 to n, and goal and assumption are there
abbrev pub rule_7 : GameData → EnvironmentTable → NodeData → Bool
rule_7 g t v = (nat_le 1 v.layer && nat_le v.layer t.n) && is_numbered g v

-- 8: the next input is legal, and there is a next node for each legal reply
abbrev pub rule_8 : GameData → List NodeData → NodeData → Bool
rule_8 g nodes v = environment_row g nodes (Some v.state) v.reply v.next

-- the assumption waited for from the node on
abbrev pub updated : GameData → NodeData → ℕ
updated g v = if asm_holds g v then turned (length (assumption_sets g)) v.asm else v.asm

-- 9: once the goal holds the layer falls; before, layer and goal stay, the assumption is the one waited for, the rank is at least 1,
-- and at the next node the goal holds, or its assumption, or the rank is lower
abbrev pub denies_on : GameData → NodeData → NodeData → Bool
denies_on g v w =
    if goal_holds g v then nat_lt w.layer v.layer
    else (w.layer == v.layer) && ((w.goal == v.goal) && ((w.asm == updated g v) && (nat_le 1 v.rank && (goal_holds g w || (asm_holds g w || nat_lt w.rank v.rank)))))

abbrev pub rule_9 : GameData → List NodeData → NodeData → Bool
rule_9 g nodes v = each_target nodes v (denies_on g v)

-- the number that a denying node gives for an assumption: for the one waited for from there on its rank, or one more where its own
-- assumption is false, and at least 1 for its own
abbrev pub given : GameData → NodeData → ℕ → ℕ
given g v i = max (if updated g v == i then (if asm_holds g v then v.rank else suc v.rank) else 0) (if v.asm == i then 1 else 0)

-- whether the node denies this goal in this layer
abbrev pub denies : GameData → NodeData → (layer goal : ℕ) → Bool
denies g v layer goal = (v.layer == layer) && ((v.goal == goal) && not (goal_holds g v))

-- the greatest number that is given for an assumption by those that deny the goal in the layer
abbrev pub bound : GameData → List NodeData → (layer goal i : ℕ) → ℕ
bound g [] layer goal i = 0
bound g (v ∷ vs) layer goal i = max (if denies g v layer goal then given g v i else 0) (bound g vs layer goal i)

abbrev pub bounds : GameData → List NodeData → (layer goal : ℕ) → List ℕ
bounds g nodes layer goal = map (λ i. bound g nodes layer goal (suc i)) (below (length (assumption_sets g)))

-- 10: m is at least 1, and more than the bounds of each layer and goal together
abbrev pub rule_10 : GameData → EnvironmentTable → Bool
rule_10 g t = nat_le 1 t.m && list_all (λ v. nat_lt (sum (bounds g t.nodes v.layer v.goal)) t.m) t.nodes

-- ---- all of them, in order

-- a rule at a node (at none: 0), and whether it holds there
pub record Check : Type 0 where
  pub rule : ℕ
  pub node : ℕ
  pub holds : Bool

abbrev pub system_checks_from : GameData → List NodeData → ℕ → List NodeData → List Check
system_checks_from g nodes i [] = []
system_checks_from g nodes i (v ∷ vs) =
    record { rule = 2; node = i; holds = rule_2 g v } ∷ record { rule = 3; node = i; holds = rule_3 g nodes v } ∷ record { rule = 4; node = i; holds = rule_4 g nodes v } ∷ system_checks_from g nodes (suc i) vs

abbrev pub system_checks : GameData → SystemTable → List Check
system_checks g t = record { rule = 1; node = 0; holds = rule_1 g t } ∷ system_checks_from g t.nodes 0 t.nodes ++ record { rule = 5; node = 0; holds = rule_5 g t } ∷ []

abbrev pub environment_checks_from : GameData → EnvironmentTable → ℕ → List NodeData → List Check
environment_checks_from g t i [] = []
environment_checks_from g t i (v ∷ vs) =
    record { rule = 7; node = i; holds = rule_7 g t v } ∷ record { rule = 8; node = i; holds = rule_8 g t.nodes v } ∷ record { rule = 9; node = i; holds = rule_9 g t.nodes v } ∷ environment_checks_from g t (suc i) vs

abbrev pub environment_checks : GameData → EnvironmentTable → List Check
environment_checks g t = record { rule = 6; node = 0; holds = rule_6 g t } ∷ environment_checks_from g t 0 t.nodes ++ record { rule = 10; node = 0; holds = rule_10 g t } ∷ []

-- the first that fails; a table is sound where there is none
abbrev pub first_flaw : List Check → Option Check
first_flaw checks = find (λ c. not c.holds) checks
