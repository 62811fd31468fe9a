-- The nodes that come next: once the goal holds the layer falls; before, layer and goal stay, and the rank falls until the assumption
-- waited for holds.
use Rattle.std.proofs.Common.{◌≡◌, ℕ, suc, ◌-◌, ◌<◌, ◌≤◌, Bool, true, false, not, ◌&&◌, ◌||◌, ◌==◌, nat_lt, nat_le, if◌then◌else◌, List, [], ◌∷◌, Some, length, filter, slice_get, refl, sym, ◌∙◌, ap, subst, arith}
use Rattle.std.proofs.lemmas.Bool.{and_from, or_left, or_right, eq-eqb, lt-ltb, le-leb}
use Rattle.std.specs.List.{list_all}
use Rattle.spec_model.specs.Values.{Assignment}
use Rattle.spec_model.specs.Games.{GameData, State, outputs_of}
use Rattle.spec_model.specs.Steps.{Before, is_output, legal_output, reached}
use Rattle.spec_model.proofs.AllStates.{Every}
use Rattle.gr1_law.specs.Layers.{goal_set, goal_sets, assumption_set, assumption_sets}
use Rattle.gr1_law.specs.EnvLayers.{EnvLayerSets}
use Rattle.gr1_law.specs.Counter.{CounterMemory, next_assumption, IsGiven, IsNoted}
use Rattle.gr1_law.specs.CounterLaws.{IsLostWith}
use Rattle.gr1_law.specs.FollowedPlays.{NumberFollows}
use Rattle.gr1_law.proofs.CounterSteps.{CounterStands, CounterReady, ready_after, given_leads, stands_next}
use Rattle.gr1_law.proofs.CounterTrails.{IsFollowed, follows_on}
use Rattle.gr1_law.proofs.FollowedPlays.{number_follows}
use Rattle.strategy_tables.specs.Tables.{NodeData, passes_if_some, goal_holds, asm_holds, turned}
use Rattle.strategy_tables.specs.Rules.{updated, denies_on, rule_9}
use Rattle.played_tables.specs.CounterPlayed.{IsNodeOf, LeadsTo, LeadEach, IsRow}
use Rattle.played_tables.proofs.CounterRows.{row_outputs}

-- ---- what holds at a node

module _ (g : GameData) (v : NodeData) (s : State) (k : CounterMemory) (r : ℕ) (x : Assignment) (is : IsNodeOf v s k r x) where
  pub goal_is : goal_holds g v ≡ goal_set g k.goal s
  goal_is = let e : v.goal - 1 ≡ k.goal = let same = is.goal in omega (arith, same) in ap (λ (j : ℕ). goal_set g j v.state) e ∙ ap (λ (s : State). goal_set g k.goal s) is.state

  pub asm_is : asm_holds g v ≡ assumption_set g k.before s
  asm_is = let e : v.asm - 1 ≡ k.before = let same = is.asm in omega (arith, same) in ap (λ (i : ℕ). assumption_set g i v.state) e ∙ ap (λ (s : State). assumption_set g k.before s) is.state

  -- the assumption waited for from there on, counted from 1
  pub updated_is : k.index ≡ (if assumption_set g k.before s then next_assumption g k.before else k.before) → updated g v ≡ suc k.index
  updated_is index = by_met (assumption_set g k.before s) refl index
    where
      by_met : (d : Bool) → assumption_set g k.before s ≡ d → k.index ≡ (if d then next_assumption g k.before else k.before) → updated g v ≡ suc k.index
      by_met true holds at =
          ap (λ (d : Bool). if d then turned (length (assumption_sets g)) v.asm else v.asm) (asm_is ∙ holds)
          ∙ (ap (turned (length (assumption_sets g))) is.asm ∙ (next (suc k.before == length (assumption_sets g)) ∙ ap suc (sym at)))
        where
          next : (b : Bool) → (if b then 1 else suc (suc k.before)) ≡ suc (if b then 0 else suc k.before)
          next true = refl
          next false = refl
      by_met false fails at = ap (λ (d : Bool). if d then turned (length (assumption_sets g)) v.asm else v.asm) (asm_is ∙ fails) ∙ (is.asm ∙ ap suc (sym at))

-- ---- a move

module _ (g : GameData) (e : EnvLayerSets) (n : ℕ) (counts : ℕ → ℕ → List ℕ) (lost : IsLostWith g e n counts) (nodes : List NodeData) (v : NodeData) (k : CounterMemory) (r : ℕ) (given : IsGiven g e (Some v.state) k r v.reply) (is : IsNodeOf v v.state k r v.reply) (stands : CounterStands g e n v.state k) where
  module _ (y : Assignment) (output : is_output g y ≡ true) (legal : legal_output g (Some v.state) v.reply y ≡ true) (m : ℕ) (to : LeadsTo g e nodes (Some v.state) k v.reply y m) where
    abbrev s' : State
    s' = reached g (Some v.state) v.reply y

    abbrev w : NodeData
    w = to.node

    ready : CounterReady g e n (Some v.state) k
    ready = ready_after g e lost.layers n v.state k stands

    new_stands : CounterStands g e n s' to.next
    new_stands = stands_next g e lost.layers n (Some v.state) k r v.reply given s' (given_leads g e lost.layers n (Some v.state) k r v.reply given y output legal) ready to.next to.noted

    follows : IsFollowed g e v.state s' k to.next
    follows = follows_on g e lost.layers n v.state k stands r v.reply given s' (given_leads g e lost.layers n (Some v.state) k r v.reply given y output legal) to.next to.noted

    number : NumberFollows g counts v.state k stands.rank r v.reply
    number = number_follows g e n counts lost v.state k stands stands.rank stands.ranked r v.reply given

    new_number : NumberFollows g counts s' to.next new_stands.rank to.rank to.reply
    new_number = number_follows g e n counts lost s' to.next new_stands new_stands.rank new_stands.ranked to.rank to.reply to.given

    abbrev nearer : Bool
    nearer = goal_holds g w || (asm_holds g w || nat_lt w.rank v.rank)

    abbrev stays : Bool
    stays = (w.layer == v.layer) && ((w.goal == v.goal) && ((w.asm == updated g v) && (nat_le 1 v.rank && nearer)))

    by_goal : (d : Bool) → goal_set g k.goal v.state ≡ d → (if d then nat_lt w.layer v.layer else stays) ≡ true → denies_on g v w ≡ true
    by_goal d here holds = ap (λ (d : Bool). if d then nat_lt w.layer v.layer else stays) (goal_is g v v.state k r v.reply is ∙ here) ∙ holds

    comes_nearer : k.denying ≡ true → nearer ≡ true
    comes_nearer denies = by_next_goal (goal_set g to.next.goal s') refl
      where
        new_goal : goal_holds g w ≡ goal_set g to.next.goal s'
        new_goal = goal_is g w s' to.next to.rank to.reply to.is

        new_asm : asm_holds g w ≡ assumption_set g to.next.before s'
        new_asm = asm_is g w s' to.next to.rank to.reply to.is

        by_next_asm : (d : Bool) → goal_set g to.next.goal s' ≡ false → assumption_set g to.next.before s' ≡ d → nearer ≡ true
        by_next_asm true off here = or_right (goal_holds g w) _ (or_left _ (nat_lt w.rank v.rank) (new_asm ∙ here))
        by_next_asm false off here =
            let denies_next : to.next.denying ≡ true = new_stands.denying ∙ ap not off in
            let low : new_stands.rank ≤ r = follows.reaches denies r v.reply given new_stands.rank new_stands.ranked in
            let less : to.rank < new_stands.rank = new_number.lower denies_next here in
            let own = is.rank denies in
            let new = to.is.rank denies_next in
            or_right (goal_holds g w) _ (or_right (asm_holds g w) _ (lt-ltb w.rank v.rank (omega (arith, low, less, own, new))))

        by_next_goal : (d : Bool) → goal_set g to.next.goal s' ≡ d → nearer ≡ true
        by_next_goal true here = or_left _ _ (new_goal ∙ here)
        by_next_goal false here = by_next_asm (assumption_set g to.next.before s') here refl

    pub denied_on : denies_on g v w ≡ true
    denied_on = at (goal_set g k.goal v.state) refl
      where
        at : (d : Bool) → goal_set g k.goal v.state ≡ d → denies_on g v w ≡ true
        at true here =
            let falls = follows.shifts (stands.denying ∙ ap not here) in
            let new = to.is.layer in
            let own = is.layer in
            by_goal true here (lt-ltb w.layer v.layer (omega (arith, falls, new, own)))
        at false here =
            let denies : k.denying ≡ true = stands.denying ∙ ap not here in
            let layer : (w.layer == v.layer) ≡ true = eq-eqb w.layer v.layer (to.is.layer ∙ (follows.layer denies ∙ sym is.layer)) in
            let goal : (w.goal == v.goal) ≡ true = eq-eqb w.goal v.goal (to.is.goal ∙ (ap suc (follows.goal denies) ∙ sym is.goal)) in
            let asm : (w.asm == updated g v) ≡ true = eq-eqb w.asm (updated g v) (to.is.asm ∙ (ap suc (follows.before denies) ∙ sym (updated_is g v v.state k r v.reply is stands.index))) in
            let some : 1 ≤ r = number.some y output legal in
            let own = is.rank denies in
            by_goal false here (and_from _ _ layer (and_from _ _ goal (and_from _ _ asm (and_from _ _ (le-leb 1 v.rank (omega (arith, some, own))) (comes_nearer denies)))))

  abbrev passes : ℕ → Bool
  passes m = passes_if_some (denies_on g v) (slice_get nodes m)

  all_pass : (ys : List Assignment) (row : List ℕ) → Every (λ y. (is_output g y ≡ true) × (legal_output g (Some v.state) v.reply y ≡ true)) ys → LeadEach g e nodes (Some v.state) k v.reply ys row → list_all passes row ≡ true
  all_pass [] [] fit all = refl
  all_pass [] (m ∷ ms) fit all = absurd all
  all_pass (y ∷ ys) [] fit all = absurd all
  all_pass (y ∷ ys) (m ∷ ms) fit all = and_from _ _ (ap (passes_if_some (denies_on g v)) all.0.there ∙ denied_on y fit.0.0 fit.0.1 m all.0) (all_pass ys ms fit.1 all.1)

  pub targets_pass : IsRow g e nodes (Some v.state) k v.reply v.next → rule_9 g nodes v ≡ true
  targets_pass row = all_pass (filter (legal_output g (Some v.state) v.reply) (outputs_of g)) v.next (row_outputs g (Some v.state) v.reply) row
