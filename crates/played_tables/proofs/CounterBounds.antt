-- Numbers of an environment's table: those of a node are in range, and the bounds of a layer and a goal are together less than M.
use Rattle.std.proofs.Common.{◌≡◌, ℕ, zero, suc, ◌+◌, ◌<◌, ◌≤◌, ◌==◌, max, Bool, true, false, not, ◌&&◌, nat_le, nat_lt, if◌then◌else◌, List, [], ◌∷◌, length, map, sum, slice_index, Some, slice_get, refl, sym, ◌∙◌, ap, subst, arith}
use Rattle.std.proofs.lemmas.Bool.{and_parts, and_from, eqb-true, le-leb, lt-ltb}
use Rattle.std.specs.List.{list_all}
use Rattle.spec_model.specs.Values.{Assignment}
use Rattle.spec_model.specs.Games.{GameData, State}
use Rattle.spec_model.specs.Steps.{below}
use Rattle.gr1_law.specs.Layers.{goal_set, goal_sets, assumption_set, assumption_sets}
use Rattle.gr1_law.specs.EnvLayers.{EnvLayerSets, denial_count}
use Rattle.gr1_law.specs.Counter.{CounterMemory, next_assumption, IsGiven}
use Rattle.gr1_law.specs.CounterLaws.{IsLostWith}
use Rattle.gr1_law.specs.FollowedPlays.{NumberFollows}
use Rattle.gr1_law.proofs.CounterSteps.{CounterStands}
use Rattle.gr1_law.proofs.Following as following
use Rattle.gr1_law.proofs.FollowedPlays.{number_follows}
use Rattle.strategy_tables.specs.Tables.{NodeData, EnvironmentTable, goal_holds, asm_holds}
use Rattle.strategy_tables.specs.Rules.{rule_7, rule_10, updated, given as given_for, denies, bound, bounds}
use Rattle.strategy_tables.proofs.Numbers.{at_number, length-at_numbers}
use Rattle.played_tables.specs.CounterPlayed.{IsNodeOf}
use Rattle.played_tables.proofs.Ranks.{sum_most}
use Rattle.played_tables.proofs.CounterTargets.{goal_is, asm_is, updated_is}

pub numbers_in : (g : GameData) (e : EnvLayerSets) (n : ℕ) (t : EnvironmentTable) (v : NodeData) (k : CounterMemory) (r : ℕ) → IsNodeOf v v.state k r v.reply → CounterStands g e n v.state k → n ≤ t.n → rule_7 g t v ≡ true
numbers_in g e n t v k r is stands enough =
    let layer = is.layer in
    let goal = is.goal in
    let asm = is.asm in
    let low = stands.layer in
    and_from _ _
    (and_from _ _ (le-leb 1 v.layer (omega (arith, layer, low))) (le-leb v.layer t.n (omega (arith, layer, stands.few, enough))))
    (and_from _ _ (and_from _ _ (le-leb 1 v.goal (omega (arith, goal))) (le-leb v.goal (length (goal_sets g)) (omega (arith, goal, stands.goal_in))))
    (and_from _ _ (le-leb 1 v.asm (omega (arith, asm))) (le-leb v.asm (length (assumption_sets g)) (omega (arith, asm, stands.before_in)))))

-- a node, with what is remembered there
pub record Stood (g : GameData) (e : EnvLayerSets) (n : ℕ) (v : NodeData) : Type 0 where
  pub memory : CounterMemory
  pub rank : ℕ
  pub given : IsGiven g e (Some v.state) memory rank v.reply
  pub is : IsNodeOf v v.state memory rank v.reply
  pub stands : CounterStands g e n v.state memory

not_false : (c : Bool) → not c ≡ true → c ≡ false
not_false true is = sym is
not_false false is = refl

module _ (g : GameData) (e : EnvLayerSets) (n : ℕ) (counts : ℕ → ℕ → List ℕ) (lost : IsLostWith g e n counts) where
  -- ---- what one node gives

  module _ (v : NodeData) (at : Stood g e n v) (denying : at.memory.denying ≡ true) where
    abbrev k : CounterMemory
    k = at.memory

    abbrev count : ℕ → ℕ
    count i = slice_index (counts k.layer k.goal) i

    number : NumberFollows g counts v.state k at.stands.rank at.rank v.reply
    number = number_follows g e n counts lost v.state k at.stands at.stands.rank at.stands.ranked at.rank v.reply at.given

    own_most : at.stands.rank ≤ count k.before
    own_most = following.rank_at_most g e lost.layers n counts lost.delays v.state k at.stands at.stands.rank at.stands.ranked

    own_some : 1 ≤ at.stands.rank
    own_some = following.rank_some g e lost.layers n counts lost.delays v.state k at.stands at.stands.rank at.stands.ranked

    waited : (i : ℕ) (d : Bool) → (updated g v == suc i) ≡ d → (if d then (if asm_holds g v then v.rank else suc v.rank) else 0) ≤ count i
    waited i false is = omega arith
    waited i true is = by_met (assumption_set g k.before v.state) refl
      where
        index : k.index ≡ i
        index =
            let same = eqb-true (updated g v) (suc i) is in
            let index = updated_is g v v.state k at.rank v.reply at.is at.stands.index in
            omega (arith, same, index)

        rank : v.rank ≡ at.rank
        rank = at.is.rank denying

        met : asm_holds g v ≡ assumption_set g k.before v.state
        met = asm_is g v v.state k at.rank v.reply at.is

        by_met : (d : Bool) → assumption_set g k.before v.state ≡ d → (if asm_holds g v then v.rank else suc v.rank) ≤ count i
        by_met true holds =
            subst (λ (d : Bool). (if d then v.rank else suc v.rank) ≤ count i) (sym (met ∙ holds))
            (let most = number.at_most denying in let here = ap count index in omega (arith, most, here, rank))
        by_met false fails =
            subst (λ (d : Bool). (if d then v.rank else suc v.rank) ≤ count i) (sym (met ∙ fails))
            (let less = number.lower denying fails in
            let stays : k.index ≡ k.before = at.stands.index ∙ ap (λ (d : Bool). if d then next_assumption g k.before else k.before) fails in
            let here = ap count (sym stays ∙ index) in
            omega (arith, less, own_most, here, rank))

    own : (i : ℕ) (d : Bool) → (v.asm == suc i) ≡ d → (if d then 1 else 0) ≤ count i
    own i false is = omega arith
    own i true is =
        let same = eqb-true v.asm (suc i) is in
        let asm = at.is.asm in
        let before : k.before ≡ i = omega (arith, same, asm) in
        let here = ap count before in
        omega (arith, own_some, own_most, here)

    gives_few : (i : ℕ) → given_for g v (suc i) ≤ count i
    gives_few i =
        let a = waited i (updated g v == suc i) refl in
        let b = own i (v.asm == suc i) refl in
        omega (arith, a, b)

  -- ---- of all

  module _ (layer goal : ℕ) where
    denier : (v : NodeData) (at : Stood g e n v) → denies g v layer (suc goal) ≡ true → (at.memory.denying ≡ true) × (at.memory.layer ≡ layer) × (at.memory.goal ≡ goal)
    denier v at is =
        let parts = and_parts (v.layer == layer) _ is in
        let others = and_parts (v.goal == suc goal) _ parts.1 in
        let layers = eqb-true v.layer layer parts.0 in
        let goals = eqb-true v.goal (suc goal) others.0 in
        let own_layer = at.is.layer in
        let own_goal = at.is.goal in
        let fails : goal_set g at.memory.goal v.state ≡ false = sym (goal_is g v v.state at.memory at.rank v.reply at.is) ∙ not_false (goal_holds g v) others.1 in
        (at.stands.denying ∙ ap not fails, omega (arith, layers, own_layer), omega (arith, goals, own_goal))

    bound_most : (nodes : List NodeData) → ((i : ℕ) (v : NodeData) → slice_get nodes i ≡ Some v → Stood g e n v) → (i : ℕ) → bound g nodes layer (suc goal) (suc i) ≤ slice_index (counts layer goal) i
    bound_most [] each i = omega arith
    bound_most (v ∷ vs) each i = by_denying (denies g v layer (suc goal)) refl (bound_most vs (λ j w there. each (suc j) w there) i)
      where
        here : Stood g e n v
        here = each 0 v refl

        by_denying : (d : Bool) → denies g v layer (suc goal) ≡ d → bound g vs layer (suc goal) (suc i) ≤ slice_index (counts layer goal) i → max (if d then given_for g v (suc i) else 0) (bound g vs layer (suc goal) (suc i)) ≤ slice_index (counts layer goal) i
        by_denying false is others = omega (arith, others)
        by_denying true is others =
            let told = denier v here is in
            let few = gives_few v here told.0 i in
            let same : slice_index (counts here.memory.layer here.memory.goal) i ≡ slice_index (counts layer goal) i = ap (λ (a : ℕ). slice_index (counts a here.memory.goal) i) told.1 ∙ ap (λ (j : ℕ). slice_index (counts layer j) i) told.2 in
            omega (arith, few, same, others)

  module _ (nodes : List NodeData) (each : (i : ℕ) (v : NodeData) → slice_get nodes i ≡ Some v → Stood g e n v) where
    node_few : (v : NodeData) → Stood g e n v → sum (bounds g nodes v.layer v.goal) < denial_count g n counts
    node_few v at = subst (λ (a : ℕ). sum (bounds g nodes a v.goal) < denial_count g n counts) (sym at.is.layer) (subst (λ (j : ℕ). sum (bounds g nodes at.memory.layer j) < denial_count g n counts) (sym at.is.goal) few)
      where
        layer : ℕ
        layer = at.memory.layer

        f : ℕ → ℕ
        f i = bound g nodes at.memory.layer (suc at.memory.goal) (suc i)

        counted : length (counts at.memory.layer at.memory.goal) ≡ length (assumption_sets g)
        counted = following.counted g e lost.layers n counts lost.delays v.state at.memory at.stands

        long : length (map (λ i. bound g nodes at.memory.layer (suc at.memory.goal) (suc i)) (below (length (assumption_sets g)))) ≡ length (counts at.memory.layer at.memory.goal)
        long = length-at_numbers (λ i. bound g nodes at.memory.layer (suc at.memory.goal) (suc i)) (length (assumption_sets g)) ∙ sym counted

        most : sum (bounds g nodes at.memory.layer (suc at.memory.goal)) ≤ sum (counts at.memory.layer at.memory.goal)
        most = sum_most (bounds g nodes at.memory.layer (suc at.memory.goal)) (counts at.memory.layer at.memory.goal) long (λ i inner.
            let here = at_number (λ i. bound g nodes at.memory.layer (suc at.memory.goal) (suc i)) (length (assumption_sets g)) i (omega (arith, inner, long, counted)) in
            let one = bound_most at.memory.layer at.memory.goal nodes each i in
            omega (arith, here, one))

        few : sum (bounds g nodes at.memory.layer (suc at.memory.goal)) < denial_count g n counts
        few = let all = following.sum_few g e lost.layers n counts lost.delays v.state at.memory at.stands in omega (arith, most, all)

    all_few : (m : ℕ) → denial_count g n counts ≤ m → (vs : List NodeData) → ((i : ℕ) (v : NodeData) → slice_get vs i ≡ Some v → Stood g e n v) → list_all (λ (v : NodeData). nat_lt (sum (bounds g nodes v.layer v.goal)) m) vs ≡ true
    all_few m enough [] stood = refl
    all_few m enough (v ∷ vs) stood =
        let here = node_few v (stood 0 v refl) in
        and_from _ _ (lt-ltb (sum (bounds g nodes v.layer v.goal)) m (omega (arith, here, enough))) (all_few m enough vs (λ i w there. stood (suc i) w there))

  pub m_most : (t : EnvironmentTable) → ((i : ℕ) (v : NodeData) → slice_get t.nodes i ≡ Some v → Stood g e n v) → denial_count g n counts ≤ t.m → rule_10 g t ≡ true
  m_most t each enough = and_from _ _ (le-leb 1 t.m (omega (arith, enough))) (all_few t.nodes each t.m enough t.nodes each)
