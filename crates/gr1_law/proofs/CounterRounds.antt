-- Each denial at which an assumption fails lowers its potential, so any m denials in a row meet each assumption; and each shift
-- lowers the layer, so there are few.
use Rattle.std.proofs.Common.{◌≡◌, ℕ, zero, suc, ◌+◌, ◌-◌, ◌<◌, ◌≤◌, ◌==◌, ◌⊎◌, inl, inr, Bool, true, false, not, if◌then◌else◌, cond, List, [], ◌∷◌, length, take, slice_index, slice_get, sum, count_by, Some, refl, sym, ◌∙◌, ap, subst, arith}
use Rattle.std.proofs.lemmas.Bool.{false≢true}
use Rattle.std.proofs.lemmas.List.{take_all}
use Rattle.std.proofs.lemmas.List.Sums.{sum_by-cons}
use Rattle.std.proofs.lemmas.Option.{slice_get_past}
use Rattle.spec_model.specs.declared.game.Label.{Label}
use Rattle.spec_model.specs.Rules.{Run, RecurringGoal, HoldsWithin, EachWithin}
use Rattle.spec_model.specs.Unrealizable.{NoteData, Shift, Deny, is_shift, goal_of, IsDenied, Beaten}
use Rattle.spec_model.specs.Games.{GameData, State}
use Rattle.spec_model.specs.GameRuns.{state_at, goals_in}
use Rattle.spec_model.specs.GameRules.{rules_of_game}
use Rattle.spec_model.specs.WellMade.{WellMade}
use Rattle.gr1_law.specs.Layers.{goal_set, assumption_sets, assumption_set}
use Rattle.gr1_law.specs.Counter.{CounterMemory, next_assumption, note_of, label_at}
use Rattle.gr1_law.specs.CounterLaws.{LabelsDiffer}
use Rattle.gr1_law.specs.Potential.{ranks_ahead, denial_potential}
use Rattle.gr1_law.specs.Trails.{FollowedTrail}
use Rattle.gr1_law.proofs.Denied.{goal_there, labelled, labelled-found, labelled-holds}
use Rattle.gr1_law.proofs.Potential.{ahead_at_most, turn_lowers}
use Rattle.gr1_law.proofs.Present.{Numbered, numbered}
use Rattle.gr1_law.proofs.Rounds.{meets_or_not}

-- ---- shifts

abbrev shifts_in : NoteData → ℕ
shifts_in note = cond (is_shift note) 1 0

shifts-suc : (notes : List NoteData) (t : ℕ) (note : NoteData) → slice_get notes t ≡ Some note → count_by is_shift (take (suc t) notes) ≡ count_by is_shift (take t notes) + shifts_in note
shifts-suc [] t note is = absurd (cc)
shifts-suc (first ∷ notes) zero note is =
    let same : first ≡ note = cc in
    sum_by-cons shifts_in first [] ∙ ap (λ (note : NoteData). shifts_in note + zero) same ∙ omega arith
shifts-suc (first ∷ notes) (suc t) note is =
    let one = sum_by-cons shifts_in first (take (suc t) notes) in
    let other = sum_by-cons shifts_in first (take t notes) in
    let more = shifts-suc notes t note is in
    omega (arith, one, other, more)

module _ (g : GameData) (n m : ℕ) (counts : ℕ → ℕ → List ℕ) (h : Run) (notes : List NoteData) (memory : ℕ → CounterMemory) (rank : ℕ → ℕ) (trail : FollowedTrail g n m counts h notes memory rank) where
  abbrev shifts_before : ℕ → ℕ
  shifts_before t = count_by is_shift (take t notes)

  abbrev shifts_of : Bool → ℕ
  shifts_of denying = if denying then 0 else 1

  shifts_in-note : (k : CounterMemory) → shifts_in (note_of g k) ≡ shifts_of k.denying
  shifts_in-note k = at k.denying
    where
      at : (d : Bool) → shifts_in (if d then Deny (label_at g k.goal) else Shift) ≡ shifts_of d
      at true = refl
      at false = refl

  one_more : (t : ℕ) → t < length h → shifts_before (suc t) ≡ shifts_before t + shifts_of (memory t).denying
  one_more t inner = shifts-suc notes t (note_of g (memory t)) (trail.noted t inner) ∙ ap (λ (k : ℕ). shifts_before t + k) (shifts_in-note (memory t))

  -- the shifts before a position and its layer are together at most n
  shifts_and_layer : (t : ℕ) → t < length h → shifts_before t + (memory t).layer ≤ n
  shifts_and_layer zero inner = omega (arith, trail.start (omega arith))
  shifts_and_layer (suc t) inner = by_denying (memory t).denying refl (shifts_and_layer t (omega arith))
    where
      counted : (d : Bool) → (memory t).denying ≡ d → shifts_before (suc t) ≡ shifts_before t + shifts_of d
      counted d is = one_more t (omega arith) ∙ ap (λ (d : Bool). shifts_before t + shifts_of d) is

      by_denying : (d : Bool) → (memory t).denying ≡ d → shifts_before t + (memory t).layer ≤ n → shifts_before (suc t) + (memory (suc t)).layer ≤ n
      by_denying true denying before = omega (arith, before, counted true denying, trail.same_layer t inner denying)
      by_denying false shifting before = omega (arith, before, counted false shifting, trail.shifts t inner shifting)

  at_most_one : (d : Bool) → shifts_of d ≤ 1
  at_most_one true = omega arith
  at_most_one false = omega arith

  pub shifts_few : count_by is_shift notes ≤ n
  shifts_few = by_length (length h) refl
    where
      all : (len : ℕ) → length h ≡ len → shifts_before len ≡ count_by is_shift notes
      all len is = ap (count_by is_shift) (take_all len notes (omega (arith, is, trail.noted_all)))

      by_length : (len : ℕ) → length h ≡ len → count_by is_shift notes ≤ n
      by_length zero is = omega (arith, all zero is)
      by_length (suc t) is =
          let inner : t < length h = omega (arith, is) in
          omega (arith, shifts_and_layer t inner, one_more t inner, at_most_one (memory t).denying, all (suc t) is, trail.layer_some t inner)

  -- ---- the potential

  abbrev counts_at : ℕ → List ℕ
  counts_at t = counts (memory t).layer (memory t).goal

  module _ (q : ℕ) (q_in : q < length (assumption_sets g)) where
    abbrev at : ℕ → ℕ
    at t = denial_potential (counts_at t) q (rank t) (memory t)

    potential_some : (t : ℕ) → t < length h → (memory t).denying ≡ true → 1 ≤ at t
    potential_some t inner denying = omega (arith, trail.rank_some t inner denying)

    potential_at_most : (t : ℕ) → t < length h → (memory t).denying ≡ true → at t ≤ sum (counts_at t)
    potential_at_most t inner denying =
        let all = ahead_at_most (counts_at t) q (memory t).before (omega (arith, q_in, trail.counted t inner denying)) (omega (arith, trail.before_in t inner, trail.counted t inner denying)) in
        omega (arith, all, trail.rank_most t inner denying)

    module _ (t : ℕ) (inner : suc t < length h) (denying : (memory t).denying ≡ true) (most : rank (suc t) ≤ slice_index (counts_at (suc t)) (memory (suc t)).before) (less : assumption_set g (memory t).before (state_at g h t) ≡ false → rank (suc t) < rank t) (fails : assumption_set g q (state_at g h t) ≡ false) where
      here : t < length h
      here = omega (arith, inner)

      same_counts : counts_at (suc t) ≡ counts_at t
      same_counts = ap (λ (a : ℕ). counts a (memory (suc t)).goal) (trail.same_layer t inner denying) ∙ ap (counts (memory t).layer) (trail.same_goal t inner denying)

      ahead_same : ranks_ahead (counts_at (suc t)) q (memory (suc t)).before ≡ ranks_ahead (counts_at t) q (memory (suc t)).before
      ahead_same = ap (λ (ranks : List ℕ). ranks_ahead ranks q (memory (suc t)).before) same_counts

      by_met : (d : Bool) → assumption_set g (memory t).before (state_at g h t) ≡ d → (memory (suc t)).before ≡ (if d then next_assumption g (memory t).before else (memory t).before) → at (suc t) < at t
      by_met true holds aims =
          let differ : (memory t).before ≡ q → ⊥ = λ same. false≢true (sym fails ∙ subst (λ (i : ℕ). assumption_set g i (state_at g h t) ≡ true) same holds) in
          let next = subst (λ (len : ℕ). (memory (suc t)).before ≡ (if suc (memory t).before == len then 0 else suc (memory t).before)) (sym (trail.counted t here denying)) aims in
          let bound = subst (λ (ranks : List ℕ). rank (suc t) ≤ slice_index ranks (memory (suc t)).before) same_counts most in
          let lowers = turn_lowers (counts_at t) q (memory t).before (memory (suc t)).before (rank t) (rank (suc t)) (omega (arith, q_in, trail.counted t here denying)) (omega (arith, trail.before_in t here, trail.counted t here denying)) bound differ (trail.rank_some t here denying) next in
          omega (arith, lowers, ahead_same)
      by_met false missed aims =
          let ahead : ranks_ahead (counts_at t) q (memory (suc t)).before ≡ ranks_ahead (counts_at t) q (memory t).before = ap (ranks_ahead (counts_at t) q) aims in
          omega (arith, less missed, ahead_same, ahead)

      -- a denial at which the assumption fails lowers it
      pub potential_falls : denial_potential (counts_at (suc t)) q (rank (suc t)) (memory (suc t)) < denial_potential (counts_at t) q (rank t) (memory t)
      potential_falls = by_met (assumption_set g (memory t).before (state_at g h t)) refl (trail.aims t inner denying)

    -- over a stretch of denials at which the assumption fails it falls as often as there are positions
    falls_over : (len from : ℕ) → from + len < length h → ((t : ℕ) → from ≤ t → t ≤ from + len → (memory t).denying ≡ true) → ((t : ℕ) → from ≤ t → t < from + len → assumption_set g q (state_at g h t) ≡ false) →
        at (from + len) + len ≤ at from
    falls_over zero from inner denying fails =
        let e : from ≡ from + zero = omega arith in
        subst (λ (t : ℕ). at t + zero ≤ at from) e (omega arith)
    falls_over (suc len) from inner denying fails =
        let e : suc (from + len) ≡ from + suc len = omega arith in
        let last : (memory (suc (from + len))).denying ≡ true = denying (suc (from + len)) (omega arith) (omega arith) in
        let before = falls_over len from (omega arith) (λ t from_on before. denying t from_on (omega arith)) (λ t from_on before. fails t from_on (omega arith)) in
        let here = denying (from + len) (omega arith) (omega arith) in
        let once = potential_falls (from + len) (omega arith) here (trail.rank_most (suc (from + len)) (omega arith) last) (λ missed. trail.lower (from + len) (omega arith) here last missed) (fails (from + len) (omega arith) (omega arith)) in
        subst (λ (t : ℕ). at t + suc len ≤ at from) e (omega (arith, before, once))

    -- so more denials in a row than all counts together meet it
    meets : (from : ℕ) → from + sum (counts_at from) < length h → ((t : ℕ) → from ≤ t → t ≤ from + sum (counts_at from) → (memory t).denying ≡ true) →
        (t : ℕ) × (from ≤ t) × (t < from + sum (counts_at from)) × (assumption_set g q (state_at g h t) ≡ true)
    meets from inner denying =
        let len = sum (counts_at from) in
        elim (meets_or_not (λ t. assumption_set g q (state_at g h t)) len from) [
          | inl found ↦ found
          | inr fails ↦
              let over = falls_over len from inner denying fails in
              let few = potential_at_most from (omega arith) (denying from (omega arith) (omega arith)) in
              let some = potential_some (from + len) inner (denying (from + len) (omega arith) (omega arith)) in
              absurd (omega (arith, over, few, some))
        ]

  -- ---- what is denied

  -- a denied position is one of the run, and what is remembered of it denies the goal with the label
  denied_at : (t : ℕ) (l : Label) → slice_get notes t ≡ Some (Deny l) → (t < length h) × ((memory t).denying ≡ true) × (label_at g (memory t).goal ≡ l)
  denied_at t l is = by_place in_or_not
    where
      in_or_not : (t < length h) ⊎ (length h ≤ t)
      in_or_not = grind arith

      by_denying : (d : Bool) → (memory t).denying ≡ d → Some (if d then Deny (label_at g (memory t).goal) else Shift) ≡ Some (Deny l) → ((memory t).denying ≡ true) × (label_at g (memory t).goal ≡ l)
      by_denying true denying same = (denying, cc)
      by_denying false denying same = absurd (cc)

      by_place : (t < length h) ⊎ (length h ≤ t) → (t < length h) × ((memory t).denying ≡ true) × (label_at g (memory t).goal ≡ l)
      by_place (inl inner) = let parts = by_denying (memory t).denying refl (sym (trail.noted t inner) ∙ is) in (inner, parts.0, parts.1)
      by_place (inr past) = let none = slice_get_past notes t (omega (arith, past, trail.noted_all)) in absurd (cc)

  module _ (made : WellMade g) where
    -- more denials in a row than all counts together, those of a layer and a goal, meet an assumption
    met_within : (goal : RecurringGoal) (q : ℕ) → Numbered g g.assume goal q → (from : ℕ) → ((i : ℕ) → i < m → (from + i < length h) × ((memory (from + i)).denying ≡ true)) → from < length h → sum (counts_at from) < m → HoldsWithin goal h from (from + m)
    met_within goal q has from denied first few =
        let inner : from + sum (counts_at from) < length h = (denied (sum (counts_at from)) few).0 in
        let met = meets q has.there from inner (λ t from_on before. denying_at t from_on before) in
        record { place = met.0; from_on = met.1; before = omega (arith, met.2, few); holds = has.holds h met.0 (trail.states met.0 (omega (arith, met.2, inner))) ∙ met.3 }
      where
        denying_at : (t : ℕ) → from ≤ t → t ≤ from + sum (counts_at from) → (memory t).denying ≡ true
        denying_at t from_on before =
            let e : from + (t - from) ≡ t = omega (arith, from_on) in
            subst (λ (t : ℕ). (memory t).denying ≡ true) e (denied (t - from) (omega (arith, before, from_on, few))).1

    fair : 1 ≤ m → (from : ℕ) → ((i : ℕ) → i < m → IsDenied notes (from + i)) → EachWithin (goals_in g g.assume) h from (from + m)
    fair some from denials goal among = met_within goal has.0 has.1 from denied first.0 (trail.sum_few from first.0 first.1)
      where
        has : (q : ℕ) × Numbered g g.assume goal q
        has = numbered g g.assume made.assume goal among

        denied : (i : ℕ) → i < m → (from + i < length h) × ((memory (from + i)).denying ≡ true)
        denied i below = let parts = denied_at (from + i) (denials i below).0 (denials i below).1 in (parts.0, parts.1)

        first : (from < length h) × ((memory from).denying ≡ true)
        first =
            let e : from + 0 ≡ from = omega arith in
            let parts = denied 0 (omega arith) in
            subst (λ (t : ℕ). (t < length h) × ((memory t).denying ≡ true)) e parts

    module _ (differ : LabelsDiffer g) where
      not_false : (c : Bool) → true ≡ not c → c ≡ false
      not_false true is = absurd (false≢true (sym is))
      not_false false is = refl

      denied : (t : ℕ) (l : Label) → slice_get notes t ≡ Some (Deny l) → (goal : RecurringGoal) × (goal_of (goals_in g g.goals) l ≡ Some goal) × (goal.holds h t ≡ false)
      denied t l is =
          let parts = denied_at t l is in
          let here = trail.states t parts.0 in
          let fails = not_false (goal_set g (memory t).goal (state_at g h t)) (sym parts.1 ∙ trail.denying t parts.0) in
          let below = goal_there g (memory t).goal (state_at g h t) (trail.goal_in t parts.0) here fails in (
            labelled g made differ (memory t).goal below,
            subst (λ (l : Label). goal_of (goals_in g g.goals) l ≡ Some (labelled g made differ (memory t).goal below)) parts.2 (labelled-found g made differ (memory t).goal below),
            labelled-holds g made differ (memory t).goal below h t here ∙ fails,
          )

      same : (t : ℕ) (l l' : Label) → slice_get notes t ≡ Some (Deny l) → slice_get notes (suc t) ≡ Some (Deny l') → l ≡ l'
      same t l l' is is' =
          let parts = denied_at t l is in
          let parts' = denied_at (suc t) l' is' in
          sym parts.2 ∙ (ap (label_at g) (sym (trail.same_goal t parts'.0 parts.1)) ∙ parts'.2)

      pub beaten : 1 ≤ m → Beaten (rules_of_game g) n m h notes
      beaten some = record { noted = trail.noted_all; shifts = shifts_few; denied = denied; same = same; fair = fair some }
