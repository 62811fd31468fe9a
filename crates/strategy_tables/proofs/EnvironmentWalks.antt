-- A play that an environment's table goes along with: its denials wait for the assumption aimed at, and its shifts lower the layer.
use Rattle.std.proofs.Common.{◌≡◌, ℕ, zero, suc, ◌+◌, ◌-◌, ◌<◌, ◌≤◌, max, ◌==◌, ◌⊎◌, inl, inr, Bool, true, false, not, ◌&&◌, ◌||◌, nat_le, nat_lt, if◌then◌else◌, List, [], ◌∷◌, length, slice_index, slice_get, sum, Some, refl, sym, ◌∙◌, ap, subst, arith}
use Rattle.std.proofs.lemmas.Bool.{and_parts, and_from, or_cases, false≢true}
use borrow.Author.Tests.{eqb-true, eq-eqb, leb-true, ltb-true}
use Rattle.spec_model.specs.Rules.{Run}
use Rattle.spec_model.specs.Unrealizable.{NoteData}
use Rattle.spec_model.specs.Games.{GameData, State}
use Rattle.spec_model.specs.GameRuns.{state_at}
use Rattle.spec_model.specs.Steps.{is_state}
use Rattle.gr1_law.specs.Layers.{goal_sets, goal_set, assumption_sets, assumption_set}
use Rattle.gr1_law.specs.Counter.{CounterMemory, next_assumption, note_of}
use Rattle.gr1_law.specs.Trails.{FollowedTrail}
use Rattle.strategy_tables.specs.Tables.{NodeData, EnvironmentTable, goal_holds, asm_holds, turned}
use Rattle.strategy_tables.specs.Rules.{is_numbered, updated, denies_on, denies, given, bound, bounds}
use Rattle.strategy_tables.specs.Sound.{HasStates}
use Rattle.strategy_tables.proofs.Finding.{all_at, target_at}
use Rattle.strategy_tables.proofs.Numbers.{at_number, length-at_numbers, turned-less}
use Rattle.strategy_tables.proofs.Checked.{EnvironmentRules}
use Rattle.strategy_tables.proofs.Walks.{Walk}
use Rattle.strategy_tables.proofs.SystemWalks.{Numbered, numbered}

-- what is remembered at a node, goals and assumptions counted from 0
abbrev pub counter_of : GameData → NodeData → CounterMemory
counter_of g v = record { denying = not (goal_holds g v); layer = v.layer; goal = v.goal - 1; before = v.asm - 1; index = updated g v - 1 }

-- the positions up to the one that meets the assumption waited for, the node's own included
abbrev pub wait_of : GameData → NodeData → ℕ
wait_of g v = if asm_holds g v then 1 else suc v.rank

abbrev pub counts_of : GameData → List NodeData → ℕ → ℕ → List ℕ
counts_of g nodes layer goal = bounds g nodes layer (suc goal)

-- a walk with a note of each position
pub record NotedWalk (g : GameData) (nodes : List NodeData) (h : Run) (notes : List NoteData) (node : ℕ → NodeData) : Type 0 where
  pub walk : Walk g nodes h node
  pub noted_all : length notes ≡ length h
  pub noted : (p : ℕ) → p < length h → slice_get notes p ≡ Some (note_of g (counter_of g (node p)))

-- a denying node gives its number to the bound
given-bound : (g : GameData) (nodes : List NodeData) (i j : ℕ) (v : NodeData) → slice_get nodes i ≡ Some v → goal_holds g v ≡ false → given g v j ≤ bound g nodes v.layer v.goal j
given-bound g [] i j v is fails = absurd (cc)
given-bound g (w ∷ nodes) zero j v is fails =
    let same : w ≡ v = cc in
    let denies_it : denies g v v.layer v.goal ≡ true = and_from _ _ (eq-eqb v.layer v.layer refl) (and_from _ _ (eq-eqb v.goal v.goal refl) (ap not fails)) in
    let here : (if denies g v v.layer v.goal then given g v j else 0) ≡ given g v j = ap (λ (b : Bool). if b then given g v j else 0) denies_it in
    subst (λ (w : NodeData). given g v j ≤ max (if denies g w v.layer v.goal then given g w j else 0) (bound g nodes v.layer v.goal j)) (sym same)
    (at_most (if denies g v v.layer v.goal then given g v j else 0) (given g v j) (bound g nodes v.layer v.goal j) here)
  where
    at_most : (a b c : ℕ) → a ≡ b → b ≤ max a c
    at_most a b c same = omega (arith, same)
given-bound g (w ∷ nodes) (suc i) j v is fails = later (if denies g w v.layer v.goal then given g w j else 0) (given g v j) (bound g nodes v.layer v.goal j) (given-bound g nodes i j v is fails)
  where
    later : (a b c : ℕ) → b ≤ c → b ≤ max a c
    later a b c le = omega (arith, le)

not_false : (b : Bool) → not b ≡ true → b ≡ false
not_false true e = absurd (false≢true e)
not_false false e = refl

not_true : (b : Bool) → not b ≡ false → b ≡ true
not_true true e = refl
not_true false e = absurd (false≢true (sym e))

-- ---- one node, and one that comes next

module _ (g : GameData) (t : EnvironmentTable) (rules : EnvironmentRules g t) (i : ℕ) (v : NodeData) (is : slice_get t.nodes i ≡ Some v) where
  rule_seven : ((nat_le 1 v.layer && nat_le v.layer t.n) ≡ true) × (is_numbered g v ≡ true)
  rule_seven = and_parts (nat_le 1 v.layer && nat_le v.layer t.n) (is_numbered g v) (rules.each i v is).numbered

  pub of_node : Numbered g v
  of_node = numbered g v rule_seven.1

  pub layer_some : 1 ≤ v.layer
  layer_some = leb-true 1 v.layer (and_parts (nat_le 1 v.layer) (nat_le v.layer t.n) rule_seven.0).0

  pub layer_most : v.layer ≤ t.n
  layer_most = leb-true v.layer t.n (and_parts (nat_le 1 v.layer) (nat_le v.layer t.n) rule_seven.0).1

  goal_back : suc (v.goal - 1) ≡ v.goal
  goal_back = omega (arith, of_node.goal_some)

  pub sum_few : sum (counts_of g t.nodes v.layer (v.goal - 1)) < t.m
  sum_few =
      let each = all_at (λ v. nat_lt (sum (bounds g t.nodes v.layer v.goal)) t.m) t.nodes (and_parts (nat_le 1 t.m) _ rules.m_most).1 i v is in
      subst (λ (j : ℕ). sum (bounds g t.nodes v.layer j) < t.m) (sym goal_back) (ltb-true (sum (bounds g t.nodes v.layer v.goal)) t.m each)

  pub wait_some : 1 ≤ wait_of g v
  wait_some = at (asm_holds g v)
    where
      at : (b : Bool) → 1 ≤ (if b then 1 else suc v.rank)
      at true = omega arith
      at false = omega arith

  -- its wait is at most what it gives for its own assumption
  wait-given : wait_of g v ≤ given g v v.asm
  wait-given = at (asm_holds g v) (v.asm == v.asm) (eq-eqb v.asm v.asm refl) (updated g v == v.asm) refl refl
    where
      at : (b same : Bool) → same ≡ true → (aims : Bool) → updated g v == v.asm ≡ aims → asm_holds g v ≡ b → (if b then 1 else suc v.rank) ≤ max (if aims then (if b then v.rank else suc v.rank) else 0) (if same then 1 else 0)
      at true true e aims is_aimed holds = omega arith
      at true false e aims is_aimed holds = absurd (false≢true e)
      at false same e true is_aimed fails = omega arith
      at false same e false is_aimed fails =
          let stays : updated g v ≡ v.asm = ap (λ (b : Bool). if b then turned (length (assumption_sets g)) v.asm else v.asm) fails in
          absurd (false≢true (sym is_aimed ∙ eq-eqb (updated g v) v.asm stays))

  pub wait_most : goal_holds g v ≡ false → wait_of g v ≤ slice_index (counts_of g t.nodes v.layer (v.goal - 1)) (v.asm - 1)
  wait_most fails =
      let e : suc (v.asm - 1) ≡ v.asm = omega (arith, of_node.asm_some) in
      let at = at_number (λ j. bound g t.nodes v.layer (suc (v.goal - 1)) (suc j)) (length (assumption_sets g)) (v.asm - 1) (omega (arith, of_node.asm_some, of_node.asm_most)) in
      let same : bound g t.nodes v.layer (suc (v.goal - 1)) (suc (v.asm - 1)) ≡ bound g t.nodes v.layer v.goal v.asm = ap (λ (j : ℕ). bound g t.nodes v.layer j (suc (v.asm - 1))) goal_back ∙ ap (bound g t.nodes v.layer v.goal) e in
      let most = given-bound g t.nodes i v.asm v is fails in
      omega (arith, at, same, most, wait-given)

  module _ (place j : ℕ) (w : NodeData) (in_row : slice_get v.next place ≡ Some j) (in_table : slice_get t.nodes j ≡ Some w) where
    on : denies_on g v w ≡ true
    on = target_at t.nodes v (denies_on g v) (rules.each i v is).moves place j w in_row in_table

    pub shifts : goal_holds g v ≡ true → w.layer < v.layer
    shifts holds = ltb-true w.layer v.layer (subst (λ (b : Bool). (if b then nat_lt w.layer v.layer else (w.layer == v.layer) && ((w.goal == v.goal) && ((w.asm == updated g v) && (nat_le 1 v.rank && (goal_holds g w || (asm_holds g w || nat_lt w.rank v.rank)))))) ≡ true) holds on)

    -- what a denying node asks of the next
    record Denied : Type 0 where
      layer : w.layer ≡ v.layer
      goal : w.goal ≡ v.goal
      asm : w.asm ≡ updated g v
      rank : 1 ≤ v.rank
      falls : (goal_holds g w || (asm_holds g w || nat_lt w.rank v.rank)) ≡ true

    denied : goal_holds g v ≡ false → Denied
    denied fails =
        let all = subst (λ (b : Bool). (if b then nat_lt w.layer v.layer else (w.layer == v.layer) && ((w.goal == v.goal) && ((w.asm == updated g v) && (nat_le 1 v.rank && (goal_holds g w || (asm_holds g w || nat_lt w.rank v.rank)))))) ≡ true) fails on in
        let one = and_parts (w.layer == v.layer) _ all in
        let two = and_parts (w.goal == v.goal) _ one.1 in
        let three = and_parts (w.asm == updated g v) _ two.1 in
        let four = and_parts (nat_le 1 v.rank) _ three.1 in
        record { layer = eqb-true w.layer v.layer one.0; goal = eqb-true w.goal v.goal two.0; asm = eqb-true w.asm (updated g v) three.0; rank = leb-true 1 v.rank four.0; falls = four.1 }

    pub same_layer : goal_holds g v ≡ false → w.layer ≡ v.layer
    same_layer fails = (denied fails).layer

    pub same_goal : goal_holds g v ≡ false → w.goal - 1 ≡ v.goal - 1
    same_goal fails = ap (λ (j : ℕ). j - 1) (denied fails).goal

    pub aims : goal_holds g v ≡ false → w.asm - 1 ≡ (if asm_holds g v then next_assumption g (v.asm - 1) else v.asm - 1)
    aims fails = ap (λ (j : ℕ). j - 1) (denied fails).asm ∙ at (asm_holds g v)
      where
        at : (b : Bool) → (if b then turned (length (assumption_sets g)) v.asm else v.asm) - 1 ≡ (if b then next_assumption g (v.asm - 1) else v.asm - 1)
        at true = turned-less (length (assumption_sets g)) v.asm of_node.asm_some
        at false = refl

    pub lower : goal_holds g v ≡ false → goal_holds g w ≡ false → asm_holds g v ≡ false → wait_of g w < wait_of g v
    lower fails fails' missed =
        let d = denied fails in
        let here : wait_of g v ≡ suc v.rank = ap (λ (b : Bool). if b then 1 else suc v.rank) missed in
        elim (or_cases (goal_holds g w) _ d.falls) [
          | inl holds ↦ absurd (false≢true (sym fails' ∙ holds))
          | inr more ↦ by_asm (asm_holds g w) refl d.rank here more
        ]
      where
        by_asm : (b : Bool) → asm_holds g w ≡ b → 1 ≤ v.rank → wait_of g v ≡ suc v.rank → (b || nat_lt w.rank v.rank) ≡ true → wait_of g w < wait_of g v
        by_asm true holds some here e = let there : wait_of g w ≡ 1 = ap (λ (b : Bool). if b then 1 else suc w.rank) holds in omega (arith, there, here, some)
        by_asm false misses some here e = let there : wait_of g w ≡ suc w.rank = ap (λ (b : Bool). if b then 1 else suc w.rank) misses in let less = ltb-true w.rank v.rank e in omega (arith, there, here, less)

-- ---- along a run

pub trail : (g : GameData) (t : EnvironmentTable) → HasStates g t.nodes → EnvironmentRules g t → (h : Run) (notes : List NoteData) (node : ℕ → NodeData) → NotedWalk g t.nodes h notes node →
    FollowedTrail g t.n t.m (counts_of g t.nodes) h notes (λ p. counter_of g (node p)) (λ p. wait_of g (node p))
trail g t states rules h notes node noted =
    record {
      noted_all = noted.noted_all;
      states = λ p inner. subst (λ (s : State). is_state g s ≡ true) (noted.walk.states p inner) (states (noted.walk.number p) (node p) (noted.walk.in_table p inner));
      noted = noted.noted;
      denying = λ p inner. ap (λ (s : State). not (goal_set g ((node p).goal - 1) s)) (noted.walk.states p inner);
      layer_some = λ p inner. layer_some g t rules (noted.walk.number p) (node p) (noted.walk.in_table p inner);
      goal_in = λ p inner. let of = of_node g t rules (noted.walk.number p) (node p) (noted.walk.in_table p inner) in omega (arith, of.goal_some, of.goal_most);
      before_in = λ p inner. let of = of_node g t rules (noted.walk.number p) (node p) (noted.walk.in_table p inner) in omega (arith, of.asm_some, of.asm_most);
      counted = λ p inner denies. length-at_numbers (λ j. bound g t.nodes (node p).layer (suc ((node p).goal - 1)) (suc j)) (length (assumption_sets g));
      sum_few = λ p inner denies. sum_few g t rules (noted.walk.number p) (node p) (noted.walk.in_table p inner);
      rank_some = λ p inner denies. wait_some g t rules (noted.walk.number p) (node p) (noted.walk.in_table p inner);
      rank_most = λ p inner denies. wait_most g t rules (noted.walk.number p) (node p) (noted.walk.in_table p inner) (not_false _ denies);
      start = λ some. layer_most g t rules (noted.walk.number 0) (node 0) (noted.walk.in_table 0 some);
      shifts = λ p inner shifting. shifts g t rules (noted.walk.number p) (node p) (noted.walk.in_table p (omega (arith, inner))) (noted.walk.place p) (noted.walk.number (suc p)) (node (suc p)) (noted.walk.moves p inner) (noted.walk.in_table (suc p) inner) (not_true _ shifting);
      same_layer = λ p inner denies. same_layer g t rules (noted.walk.number p) (node p) (noted.walk.in_table p (omega (arith, inner))) (noted.walk.place p) (noted.walk.number (suc p)) (node (suc p)) (noted.walk.moves p inner) (noted.walk.in_table (suc p) inner) (not_false _ denies);
      same_goal = λ p inner denies. same_goal g t rules (noted.walk.number p) (node p) (noted.walk.in_table p (omega (arith, inner))) (noted.walk.place p) (noted.walk.number (suc p)) (node (suc p)) (noted.walk.moves p inner) (noted.walk.in_table (suc p) inner) (not_false _ denies);
      aims = λ p inner denies.
          aims g t rules (noted.walk.number p) (node p) (noted.walk.in_table p (omega (arith, inner))) (noted.walk.place p) (noted.walk.number (suc p)) (node (suc p)) (noted.walk.moves p inner) (noted.walk.in_table (suc p) inner) (not_false _ denies)
          ∙ ap (λ (s : State). if assumption_set g ((node p).asm - 1) s then next_assumption g ((node p).asm - 1) else (node p).asm - 1) (noted.walk.states p (omega (arith, inner)));
      lower = λ p inner denies denies' misses.
          lower g t rules (noted.walk.number p) (node p) (noted.walk.in_table p (omega (arith, inner))) (noted.walk.place p) (noted.walk.number (suc p)) (node (suc p)) (noted.walk.moves p inner) (noted.walk.in_table (suc p) inner) (not_false _ denies) (not_false _ denies')
          (ap (assumption_set g ((node p).asm - 1)) (noted.walk.states p (omega (arith, inner))) ∙ misses);
    }
