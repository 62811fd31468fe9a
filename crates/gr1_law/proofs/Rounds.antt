-- Each round in which a goal isn't met lowers its potential, and so the goal is met within K rounds.
use Rattle.std.proofs.Common.{◌≡◌, ℕ, zero, suc, ◌+◌, ◌-◌, ◌<◌, ◌≤◌, ◌==◌, ◌⊎◌, inl, inr, Bool, true, false, not, if◌then◌else◌, List, [], ◌∷◌, length, map, get_or, slice_index, sum, refl, sym, ◌∙◌, ap, subst, arith}
use Rattle.std.specs.List.{list_all}
use Rattle.std.proofs.lemmas.Bool.{and_parts, false≢true}
use Rattle.std.proofs.lemmas.List.{length-map}
use Rattle.spec_model.specs.Rules.{Run, EachWithin}
use Rattle.spec_model.specs.Realizable.{Rounds, Kept}
use Rattle.spec_model.specs.Games.{GameData, GoalData, State}
use Rattle.spec_model.specs.GameRuns.{state_at, goals_in}
use Rattle.spec_model.specs.Steps.{is_state}
use Rattle.spec_model.specs.Sets.{no_states, holding}
use Rattle.spec_model.specs.WellMade.{WellMade, is_state_formula, scope_of}
use Rattle.gr1_law.specs.Layers.{or_all_states, goal_sets, goal_set, assumption_set, round_count}
use Rattle.gr1_law.specs.Choice.{Memory}
use Rattle.gr1_law.specs.Potential.{potential, ranks_ahead}
use Rattle.gr1_law.specs.Trails.{Lowers, RankedTrail}
use Rattle.spec_model.specs.GameRules.{rules_of_game}
use Rattle.gr1_law.proofs.Potential.{ahead_at_most, turn_lowers}
use Rattle.gr1_law.proofs.Present.{numbered, recurring_at}

-- ---- what a round has

-- in a round each assumption's set has some state
round_meets : (g : GameData) (gs : List GoalData) → list_all (λ (goal : GoalData). is_state_formula (scope_of g) goal.holds) gs ≡ true →
    (h : Run) (from cut : ℕ) → from < cut → ((t : ℕ) → t < cut → is_state g (state_at g h t) ≡ true) → EachWithin (goals_in g gs) h from cut →
    (i : ℕ) → i < length (or_all_states g (map (λ (goal : GoalData). holding g goal.holds) gs)) →
    (t : ℕ) × (from ≤ t) × (t < cut) × (get_or (or_all_states g (map (λ (goal : GoalData). holding g goal.holds) gs)) i no_states (state_at g h t) ≡ true)
round_meets g [] formed h from cut some states each zero below = (from, omega arith, some, states from some)
round_meets g [] formed h from cut some states each (suc i) below = absurd (omega arith)
round_meets g (a ∷ gs) formed h from cut some states each i below =
    let goal = recurring_at g (a ∷ gs) formed i (omega (arith, below, length-map gs (λ (goal : GoalData). holding g goal.holds))) in
    let met = each goal.0 goal.1 in
    (met.place, met.from_on, met.before, sym (goal.2.holds h met.place (states met.place met.before)) ∙ met.holds)

-- a stretch has a state of the set, or none
pub meets_or_not : (test : ℕ → Bool) (len from : ℕ) → ((t : ℕ) × (from ≤ t) × (t < from + len) × (test t ≡ true)) ⊎ ((t : ℕ) → from ≤ t → t < from + len → test t ≡ false)
meets_or_not test zero from = inr (λ t from_on before. absurd (omega arith))
meets_or_not test (suc len) from =
    elim (meets_or_not test len from) [
      | inl found ↦ inl (found.0, found.1, omega (arith, found.2), found.3)
      | inr none ↦ at (test (from + len)) refl none
    ]
  where
    at : (b : Bool) → test (from + len) ≡ b → ((t : ℕ) → from ≤ t → t < from + len → test t ≡ false) → ((t : ℕ) × (from ≤ t) × (t < from + suc len) × (test t ≡ true)) ⊎ ((t : ℕ) → from ≤ t → t < from + suc len → test t ≡ false)
    at true e none = inl (from + len, omega arith, omega arith, e)
    at false e none = inr (λ t from_on before. by_place t from_on (earlier_or_last t before))
      where
        earlier_or_last : (t : ℕ) → t < from + suc len → (t < from + len) ⊎ (t ≡ from + len)
        earlier_or_last t before = grind arith

        by_place : (t : ℕ) → from ≤ t → (t < from + len) ⊎ (t ≡ from + len) → test t ≡ false
        by_place t from_on (inl less) = none t from_on less
        by_place t from_on (inr same) = subst (λ (t : ℕ). test t ≡ false) (sym same) e

-- ---- the potential

module _ (g : GameData) (ranks : List ℕ) (h : Run) (memory : ℕ → Memory) (trail : RankedTrail g ranks h memory) where
  module _ (q : ℕ) (goal_in : q < length (goal_sets g)) where
    abbrev at : ℕ → ℕ
    at t = potential ranks q (memory t)

    -- it is at least 1 and at most all ranks together
    pub potential_some : (t : ℕ) → t < length h → 1 ≤ potential ranks q (memory t)
    potential_some t inner = omega (arith, trail.rank_some t inner)

    pub potential_at_most : (t : ℕ) → t < length h → potential ranks q (memory t) ≤ sum ranks
    potential_at_most t inner =
        let all = ahead_at_most ranks q (memory t).goal (omega (arith, trail.counted)) (omega (arith, trail.counted, trail.goal_in t inner)) in
        omega (arith, trail.rank_most t inner, all)

    -- A move lowers it, or it leaves it and the index as they were, and the index's assumption is false.
    data Falls (t : ℕ) : Type 0 where
      lowered : at (suc t) < at t → Falls t
      waited : at (suc t) ≡ at t → (memory (suc t)).index ≡ (memory t).index → assumption_set g (memory t).index (state_at g h t) ≡ false → Falls t

    falls : (t : ℕ) → suc t < length h → goal_set g q (state_at g h t) ≡ false → Falls t
    falls t inner unmet = by_move (trail.moves t inner)
      where
        not_true : (b : Bool) → not b ≡ true → b ≡ false
        not_true true e = absurd (cc)
        not_true false e = refl

        by_move : Lowers g (state_at g h t) (memory t) (memory (suc t)) → Falls t
        by_move (Lowers.met holds next) =
            let differ : (memory t).goal ≡ q → ⊥ = λ same. false≢true (sym unmet ∙ subst (λ (j : ℕ). goal_set g j (state_at g h t) ≡ true) same holds) in
            let next' = subst (λ (n : ℕ). (memory (suc t)).goal ≡ (if suc (memory t).goal == n then 0 else suc (memory t).goal)) (sym trail.counted) next in
            Falls.lowered
            (turn_lowers ranks q (memory t).goal (memory (suc t)).goal (memory t).rank (memory (suc t)).rank (omega (arith, trail.counted)) (omega (arith, trail.counted, trail.goal_in t (omega arith)))
            (trail.rank_most (suc t) inner) differ (trail.rank_some t (omega arith)) next')
        by_move (Lowers.lower fails same less) =
            let ahead : ranks_ahead ranks q (memory (suc t)).goal ≡ ranks_ahead ranks q (memory t).goal = ap (ranks_ahead ranks q) same in
            Falls.lowered (omega (arith, ahead, less))
        by_move (Lowers.waiting fails same rank index asm) =
            let ahead : ranks_ahead ranks q (memory (suc t)).goal ≡ ranks_ahead ranks q (memory t).goal = ap (ranks_ahead ranks q) same in
            Falls.waited (omega (arith, ahead, rank)) index (not_true (assumption_set g (memory t).index (state_at g h t)) (and_parts (is_state g (state_at g h t)) (not (assumption_set g (memory t).index (state_at g h t))) asm).1)

    -- ---- along the run

    -- none of the positions meets the goal
    abbrev pub Unmet : ℕ → ℕ → Type 0
    Unmet from to = (t : ℕ) → from ≤ t → t < to → goal_set g q (state_at g h t) ≡ false

    -- over a stretch the potential falls, or the index stays and its assumption is false all the while
    abbrev FallsOver : ℕ → ℕ → Type 0
    FallsOver from to =
        (at to < at from)
        ⊎ ((at to ≡ at from) × ((memory to).index ≡ (memory from).index) × ((t : ℕ) → from ≤ t → t < to → assumption_set g (memory from).index (state_at g h t) ≡ false))

    one_more : (from to : ℕ) → from ≤ to → FallsOver from to → Falls to → FallsOver from (suc to)
    one_more from to le (inl fallen) (Falls.lowered less) = inl (omega (arith, fallen, less))
    one_more from to le (inl fallen) (Falls.waited same index asm) = inl (omega (arith, fallen, same))
    one_more from to le (inr kept) (Falls.lowered less) = inl (omega (arith, kept.0, less))
    one_more from to le (inr kept) (Falls.waited same index asm) = inr (same ∙ kept.0, index ∙ kept.1, λ t from_on before. by_place t from_on (earlier_or_last t before))
      where
        earlier_or_last : (t : ℕ) → t < suc to → (t < to) ⊎ (t ≡ to)
        earlier_or_last t before = grind arith

        by_place : (t : ℕ) → from ≤ t → (t < to) ⊎ (t ≡ to) → assumption_set g (memory from).index (state_at g h t) ≡ false
        by_place t from_on (inl less) = kept.2 t from_on less
        by_place t from_on (inr is) =
            subst (λ (t : ℕ). assumption_set g (memory from).index (state_at g h t) ≡ false) (sym is)
            (subst (λ (i : ℕ). assumption_set g i (state_at g h to) ≡ false) kept.1 asm)

    falls_over : (len from : ℕ) → from + len < length h → Unmet from (from + len) → FallsOver from (from + len)
    falls_over zero from inner unmet = subst (FallsOver from) (zero_more from) (inr (refl, refl, λ t from_on before. absurd (omega arith)))
      where
        zero_more : (n : ℕ) → n ≡ n + zero
        zero_more n = omega arith
    falls_over (suc len) from inner unmet =
        let e : suc (from + len) ≡ from + suc len = omega arith in
        subst (FallsOver from) e
        (one_more from (from + len) (omega arith) (falls_over len from (omega arith) (λ t from_on before. unmet t from_on (omega arith)))
        (falls (from + len) (omega arith) (unmet (from + len) (omega arith) (omega arith))))

    module _ (made : WellMade g) where
      -- each round in which the goal isn't met lowers its potential
      pub round_lowers : (from cut : ℕ) → from < cut → cut < length h → EachWithin (goals_in g g.assume) h from cut → Unmet from cut → potential ranks q (memory cut) < potential ranks q (memory from)
      round_lowers from cut some inner each unmet =
          let e : from + (cut - from) ≡ cut = omega arith in
          by_fall (subst (FallsOver from) e (falls_over (cut - from) from (omega arith) (subst (Unmet from) (sym e) unmet)))
        where
          by_fall : FallsOver from cut → at cut < at from
          by_fall (inl fallen) = fallen
          by_fall (inr kept) =
              let met = round_meets g g.assume made.assume h from cut some (λ t before. trail.states t (omega arith)) each (memory from).index (trail.index_in from (omega arith)) in
              absurd (false≢true (sym (kept.2 met.0 met.1 met.2) ∙ met.3))

      rounds_end : (k from to : ℕ) → Rounds (rules_of_game g) h from to k → from ≤ to
      rounds_end zero from to same = omega arith
      rounds_end (suc k) from to rounds = omega (arith, rounds.1, rounds_end k rounds.0 to rounds.3)

      -- so there are fewer rounds before the last one than the potential
      pub rounds_few : (k from to : ℕ) → to ≤ length h → Rounds (rules_of_game g) h from to (suc k) → Unmet from to → k < at from
      rounds_few zero from to fits rounds unmet =
          let last : rounds.0 ≡ to = rounds.3 in
          potential_some from (omega (arith, rounds.1, last))
      rounds_few (suc k) from to fits rounds unmet =
          let end = rounds_end k rounds.3.0 to rounds.3.3 in
          let rest = rounds_few k rounds.0 to fits rounds.3 (λ t from_on before. unmet t (omega (arith, rounds.1)) before) in
          omega (arith, rest, round_lowers from rounds.0 rounds.1 (omega (arith, rounds.3.1, end)) rounds.2 (λ t from_on before. unmet t from_on (omega (arith, rounds.3.1, end))))

  -- ---- kept

  module _ (made : WellMade g) where
    -- with K rounds the stretch has a state of the goal's set
    met_within : (q : ℕ) → q < length (goal_sets g) → (from to : ℕ) → to ≤ length h → Rounds (rules_of_game g) h from to (suc (sum ranks)) →
        (t : ℕ) × (from ≤ t) × (t < to) × (goal_set g q (state_at g h t) ≡ true)
    met_within q in_goals from to fits rounds =
        let end = rounds_end q in_goals made (sum ranks) rounds.0 to rounds.3 in
        elim (meets_or_not (λ t. goal_set g q (state_at g h t)) (to - from) from) [
          | inl found ↦ (found.0, found.1, omega (arith, found.2, rounds.1, end), found.3)
          | inr none ↦
              let few = rounds_few q in_goals made (sum ranks) from to fits rounds (λ t from_on before. none t from_on (omega (arith, rounds.1, end))) in
              let most = potential_at_most q in_goals from (omega (arith, rounds.1, end)) in
              absurd (omega (arith, few, most))
        ]

    pub kept : Kept (rules_of_game g) (round_count ranks) h
    kept from to fits rounds goal among =
        let has = numbered g g.goals made.goals goal among in
        let e : round_count ranks ≡ suc (sum ranks) = omega arith in
        let rounds' = subst (Rounds (rules_of_game g) h from to) e rounds in
        let met = met_within has.0 has.1.there from to fits rounds' in
        record { place = met.0; from_on = met.1; before = met.2; holds = has.1.holds h met.0 (trail.states met.0 (omega (arith, met.2))) ∙ met.3 }
