-- What the memory of a play tells of its state, and what the system forces from there.
use Rattle.std.proofs.Common.{◌≡◌, ℕ, zero, suc, ◌<◌, ◌==◌, Bool, true, false, not, ◌&&◌, ◌||◌, if◌then◌else◌, List, [], ◌∷◌, length, Some, None, refl, sym, ◌∙◌, subst, arith, IsTrue}
use Rattle.std.proofs.lemmas.Bool.{and_parts, false≢true}
use borrow.Author.Tests.{eqb-true, eqb-false}
use Rattle.spec_model.specs.Values.{Assignment}
use Rattle.spec_model.specs.Moves.{is_env, domains_of}
use Rattle.spec_model.specs.Games.{GameData, State, inputs_of, outputs_of}
use Rattle.spec_model.specs.Steps.{Before, is_input, legal_input}
use Rattle.spec_model.specs.Sets.{StateSet, IsPartOf, rest, pre_sys, system_forces, output_into}
use Rattle.spec_model.proofs.AllStates.{at_assignment}
use Rattle.spec_model.proofs.SetLaws.{system_forces_grows}
use Rattle.gr1_law.specs.Layers.{LayerSets, IsWinning, AreGreatestRanks, part_value, or_all_states, goal_sets, goal_set, assumption_set}
use Rattle.gr1_law.specs.Choice.{Memory, Standing, next_goal, goal_aimed, can_lead}
use Rattle.gr1_law.proofs.Parts.{InPart, in_part}
use Rattle.gr1_law.proofs.Searching.{all-every, some-found, find-passes, found-some}
use Rattle.gr1_law.proofs.Winning.{part_in_layer, part_solves, none_below, layer_in_z}

-- ---- what can be reached

implied : (a c : Bool) → a ≡ true → (not a || c) ≡ true → c ≡ true
implied true c here e = e
implied false c here e = absurd (false≢true here)

-- what is forced can be reached after each legal input
pub can_lead-forced : (g : GameData) (t : StateSet) (b : Before) (x : Assignment) → is_input g x ≡ true → legal_input g b x ≡ true → system_forces g t b ≡ true → can_lead g t b x ≡ true
can_lead-forced g t b x input legal forced =
    implied (legal_input g b x) (can_lead g t b x) legal
    (at_assignment (domains_of is_env g.variables) (λ x. (not (legal_input g b x) || can_lead g t b x) ≡ true) (all-every _ (inputs_of g) forced) x input)

pub can_lead_grows : (g : GameData) (t u : StateSet) (b : Before) (x : Assignment) → IsPartOf t u → can_lead g t b x ≡ true → can_lead g u b x ≡ true
can_lead_grows g t u b x part e =
    let found = some-found (output_into g t b x) (outputs_of g) e in
    let parts = and_parts _ _ (find-passes (output_into g t b x) (outputs_of g) found.0 found.1) in
    found-some (output_into g t b x) (output_into g u b x) (outputs_of g) found.0 found.1 (both_true parts.0 (part _ parts.1))
  where
    both_true : {a c : Bool} → a ≡ true → c ≡ true → (a && c) ≡ true
    both_true p q = cc

-- ---- goals in turn

pub some_goal : (g : GameData) (sets : List StateSet) → 0 < length (or_all_states g sets)
some_goal g [] = omega arith
some_goal g (a ∷ more) = omega arith

pub next_in : (g : GameData) (j : ℕ) → j < length (goal_sets g) → next_goal g j < length (goal_sets g)
next_in g j below = at (suc j == length (goal_sets g)) refl
  where
    at : (b : Bool) → (suc j == length (goal_sets g)) ≡ b → (if b then 0 else suc j) < length (goal_sets g)
    at true e = let end = eqb-true (suc j) (length (goal_sets g)) e in omega arith
    at false e = let inner = eqb-false (suc j) (length (goal_sets g)) e in grind (arith, inner, below)

-- ---- the state

-- before the first move the system can force the first state into Z
abbrev pub Ready : GameData → StateSet → LayerSets → Before → Memory → Type 0
Ready g z l None m = system_forces g z None ≡ true
Ready g z l (Some s) m = Standing g l s m

module _ (g : GameData) (z : StateSet) (l : LayerSets) (w : IsWinning g z l) where
  pub aimed_in : (b : Before) (m : Memory) → Ready g z l b m → goal_aimed g b m < length (goal_sets g)
  aimed_in None m ready = some_goal g _
  aimed_in (Some s) m ready = at (goal_set g m.goal s)
    where
      at : (b : Bool) → (if b then next_goal g m.goal else m.goal) < length (goal_sets g)
      at true = next_in g m.goal ready.goal_in
      at false = ready.goal_in

  -- a rank is at least 1
  pub rank_some : (j n : ℕ) (s : State) → IsTrue (l.y j n s) → (r : ℕ) × (n ≡ suc r)
  rank_some j zero s e = absurd (none_below g z l w.layers j s e)
  rank_some j (suc r) s e = (r, refl)

  module _ (ranks : List ℕ) (greatest : AreGreatestRanks g l ranks) (s : State) (m : Memory) (standing : Standing g l s m) where
    abbrev part_set : StateSet
    part_set = l.x m.goal m.rank m.index

    -- why the state is in its part
    reason : (r : ℕ) × (m.rank ≡ suc r) × InPart g z (l.y m.goal r) m.goal m.index (l.x m.goal m.rank m.index) s
    reason =
        let some = rank_some m.goal m.rank s standing.rank.here in (
          some.0,
          some.1,
          in_part g z (l.y m.goal some.0) m.goal m.index part_set s
              (subst (λ (n : ℕ). IsTrue (l.x m.goal n m.index s) → IsTrue (part_value g z (l.y m.goal some.0) m.goal m.index (l.x m.goal n m.index) s)) (sym some.1) (part_solves g z l w.layers m.goal some.0 m.index s) standing.part),
        )

    forced_of : (t : StateSet) → pre_sys g t s ≡ true → system_forces g t (Some s) ≡ true
    forced_of t e = (and_parts _ _ e).1

    pub part_in_rank : IsPartOf (l.x m.goal m.rank m.index) (l.y m.goal m.rank)
    part_in_rank =
        let some = rank_some m.goal m.rank s standing.rank.here in
        subst (λ (n : ℕ). IsPartOf (l.x m.goal n m.index) (l.y m.goal n)) (sym some.1) (part_in_layer g z l w.layers m.goal some.0 m.index standing.index_in)

    -- in each state of a play the next one can be forced into Z
    pub forces_z : system_forces g z (Some s) ≡ true
    forces_z = by_reason reason.2
      where
        by_reason : InPart g z (l.y m.goal reason.0) m.goal m.index (l.x m.goal m.rank m.index) s → system_forces g z (Some s) ≡ true
        by_reason (InPart.met holds forced) = forced_of z forced
        by_reason (InPart.lower forced) = system_forces_grows g (l.y m.goal reason.0) z (layer_in_z g z l w ranks greatest m.goal reason.0) (Some s) (forced_of (l.y m.goal reason.0) forced)
        by_reason (InPart.waiting fails forced) = system_forces_grows g part_set z (λ t e. layer_in_z g z l w ranks greatest m.goal m.rank t (part_in_rank t e)) (Some s) (forced_of part_set forced)

    -- where the goal doesn't hold, the next state can be forced into a lower layer, or the assumption is false and it can be
    -- forced into the same part
    pub data Progress : Type 0 where
      lower : (r : ℕ) → r < m.rank → system_forces g (l.y m.goal r) (Some s) ≡ true → Progress
      waiting : rest g (assumption_set g m.index) s ≡ true → system_forces g (l.x m.goal m.rank m.index) (Some s) ≡ true → system_forces g (l.y m.goal m.rank) (Some s) ≡ true → Progress

    pub progress : goal_set g m.goal s ≡ false → Progress
    progress unmet = by_reason reason.2
      where
        by_reason : InPart g z (l.y m.goal reason.0) m.goal m.index (l.x m.goal m.rank m.index) s → Progress
        by_reason (InPart.met holds forced) = absurd (false≢true (sym unmet ∙ holds))
        by_reason (InPart.lower forced) = Progress.lower reason.0 (omega (arith, reason.1)) (forced_of (l.y m.goal reason.0) forced)
        by_reason (InPart.waiting fails forced) = Progress.waiting fails (forced_of part_set forced) (system_forces_grows g part_set (l.y m.goal m.rank) part_in_rank (Some s) (forced_of part_set forced))
