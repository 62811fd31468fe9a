-- Where line numbers rise no two recurring guarantees have one label.
use Rattle.std.proofs.Common.{◌≡◌, ℕ, zero, suc, ◌<◌, ◌≤◌, ◌==◌, ◌&&◌, Bool, true, false, if◌then◌else◌, List, [], ◌∷◌, ◌++◌, flat_map, map, get_or, length, All, refl, sym, ap, subst, arith}
use Rattle.std.proofs.lemmas.List.{length-map}
use Rattle.std.proofs.lemmas.List.Elements.{All-head, All-tail}
use borrow.Author.Tests.{ne_eqb}
use Rattle.spec_model.specs.declared.game.Label.{Label}
use Rattle.spec_model.specs.Syntax.{Statement, Specification}
use Rattle.spec_model.specs.Rules.{Run, Rules, RecurringGoal}
use Rattle.spec_model.specs.Moves.{is_guarantee, recurrences, numbered_from, labelled}
use Rattle.spec_model.specs.Unrealizable.{same_label}
use Rattle.spec_model.specs.Games.{GameData, GoalData}
use Rattle.spec_model.specs.GameRuns.{goals_in}
use Rattle.spec_model.specs.Agreement.{Agrees}
use Rattle.spec_model.specs.Laws.{NumbersRise}
use Rattle.spec_model.proofs.AllStates.{Every}
use Rattle.spec_model.proofs.Listed.{every_weaker, every_join}
use Rattle.gr1_law.specs.CounterLaws.{LabelsDiffer}

-- ---- labels

parts_differ : (a b : Label) → a.part < b.part → same_label a b ≡ false
parts_differ a b less = at (a.line == b.line) (ne_eqb a.part b.part (λ same. omega arith))
  where
    at : (c : Bool) {d : Bool} → d ≡ false → (c && d) ≡ false
    at true e = e
    at false e = refl

lines_differ : (a b : Label) → a.line < b.line → same_label a b ≡ false
lines_differ a b less = ap (λ (c : Bool). c && (a.part == b.part)) (ne_eqb a.line b.line (λ same. omega arith))

-- no later goal of a list has the label of an earlier one
Distinct : List RecurringGoal → Type 0
Distinct [] = Unit {0}
Distinct (x ∷ xs) = Every (λ y. same_label x.label y.label ≡ false) xs × Distinct xs

distinct_append : (xs ys : List RecurringGoal) → Distinct xs → Distinct ys → Every (λ x. Every (λ y. same_label x.label y.label ≡ false) ys) xs → Distinct (xs ++ ys)
unfolding Distinct
distinct_append [] ys first rest apart = rest
distinct_append (x ∷ xs) ys first rest apart = (every_join _ xs ys first.0 apart.0, distinct_append xs ys first.1 rest apart.1)

-- ---- the goals of a line

of_line : (line part : ℕ) (gs : List (Run → ℕ → Bool)) → Every (λ goal. (goal.label.line ≡ line) × (part ≤ goal.label.part)) (numbered_from line part gs)
of_line line part [] = tt
of_line line part (goal ∷ gs) = ((refl, omega arith), every_weaker _ _ (λ goal facts. (facts.0, omega (arith, facts.1))) (numbered_from line (suc part) gs) (of_line line (suc part) gs))

numbered-distinct : (line part : ℕ) (gs : List (Run → ℕ → Bool)) → Distinct (numbered_from line part gs)
unfolding Distinct
numbered-distinct line part [] = tt
numbered-distinct line part (goal ∷ gs) = (
  every_weaker _ _ (λ other facts. parts_differ (record { line = line; part = part }) other.label (omega (arith, facts.1))) (numbered_from line (suc part) gs) (of_line line (suc part) gs),
  numbered-distinct line (suc part) gs,
)

labelled-distinct : (line : ℕ) (gs : List (Run → ℕ → Bool)) → Distinct (labelled line gs)
labelled-distinct line [] = numbered-distinct line 1 []
labelled-distinct line (goal ∷ []) = numbered-distinct line 0 (goal ∷ [])
labelled-distinct line (goal ∷ goal' ∷ gs) = numbered-distinct line 1 (goal ∷ goal' ∷ gs)

labelled-line : (line : ℕ) (gs : List (Run → ℕ → Bool)) → Every (λ goal. goal.label.line ≡ line) (labelled line gs)
labelled-line line [] = tt
labelled-line line (goal ∷ []) = (refl, tt)
labelled-line line (goal ∷ goal' ∷ gs) = every_weaker _ _ (λ goal facts. facts.0) (numbered_from line 1 (goal ∷ goal' ∷ gs)) (of_line line 1 (goal ∷ goal' ∷ gs))

-- ---- the goals of all lines

module _ (s : Specification) where
  abbrev goals_at : Statement → List RecurringGoal
  goals_at l = if is_guarantee l.role then labelled l.number (recurrences s l.content) else []

  at-line : (l : Statement) → Every (λ goal. goal.label.line ≡ l.number) (goals_at l)
  at-line l = at (is_guarantee l.role)
    where
      at : (c : Bool) → Every (λ goal. goal.label.line ≡ l.number) (if c then labelled l.number (recurrences s l.content) else [])
      at true = labelled-line l.number (recurrences s l.content)
      at false = tt

  at-distinct : (l : Statement) → Distinct (goals_at l)
  unfolding Distinct
  at-distinct l = at (is_guarantee l.role)
    where
      at : (c : Bool) → Distinct (if c then labelled l.number (recurrences s l.content) else [])
      at true = labelled-distinct l.number (recurrences s l.content)
      at false = tt

  later_lines : (k : ℕ) (ls : List Statement) → All (λ later. k < later.number) ls → Every (λ goal. k < goal.label.line) (flat_map goals_at ls)
  later_lines k [] above = tt
  later_lines k (l ∷ ls) above =
      let first : k < l.number = All-head (λ (later : Statement). k < later.number) l ls above in
      every_join _ (goals_at l) (flat_map goals_at ls) (every_weaker _ _ (λ goal same. omega (arith, same, first)) (goals_at l) (at-line l)) (later_lines k ls (All-tail (λ (later : Statement). k < later.number) l ls above))

  lines-distinct : (ls : List Statement) → NumbersRise ls → Distinct (flat_map goals_at ls)
  unfolding Distinct
  lines-distinct [] rise = tt
  lines-distinct (l ∷ ls) rise =
      distinct_append (goals_at l) (flat_map goals_at ls) (at-distinct l) (lines-distinct ls rise.1)
      (every_weaker _ _ (λ goal same. every_weaker _ _ (λ later above. lines_differ goal.label later.label (omega (arith, same, above))) (flat_map goals_at ls) (later_lines l.number ls rise.0)) (goals_at l) (at-line l))

-- ---- by number

abbrev label_of : RecurringGoal → Label
label_of goal = goal.label

abbrev no_label : Label
no_label = record { line = 0; part = 0 }

every_label : (P : Label → Type 0) (xs : List RecurringGoal) → Every (λ goal. P goal.label) xs → (j : ℕ) → j < length xs → P (get_or (map label_of xs) j no_label)
every_label P [] all j below = absurd (omega arith)
every_label P (x ∷ xs) all zero below = all.0
every_label P (x ∷ xs) all (suc j) below = every_label P xs all.1 j (omega arith)

distinct_at : (xs : List RecurringGoal) → Distinct xs → (i j : ℕ) → i < j → j < length xs → same_label (get_or (map label_of xs) i no_label) (get_or (map label_of xs) j no_label) ≡ false
unfolding Distinct
distinct_at [] all i j less below = absurd (omega arith)
distinct_at (x ∷ xs) all i zero less below = absurd (omega arith)
distinct_at (x ∷ xs) all zero (suc j) less below = every_label (λ l. same_label x.label l ≡ false) xs all.0 j (omega arith)
distinct_at (x ∷ xs) all (suc i) (suc j) less below = distinct_at xs all.1 i j (omega arith) (omega arith)

same_labels : (g : GameData) (goals : List GoalData) → map label_of (goals_in g goals) ≡ map (λ (goal : GoalData). goal.label) goals
same_labels g [] = refl
same_labels g (goal ∷ goals) = ap (λ (ls : List Label). goal.label ∷ ls) (same_labels g goals)

module _ (s : Specification) (g : GameData) (agrees : Agrees s g) (rise : NumbersRise s.lines) where
  goals-distinct : Distinct (goals_in g g.goals)
  goals-distinct = subst (λ (r : Rules). Distinct r.guarantees) (sym agrees.rules) (lines-distinct s s.lines rise)

  pub labels_differ : LabelsDiffer g
  labels_differ i j less below =
      let counted : length (goals_in g g.goals) ≡ length g.goals = length-map g.goals _ in
      subst (λ (ls : List Label). same_label (get_or ls i no_label) (get_or ls j no_label) ≡ false) (same_labels g g.goals)
      (distinct_at (goals_in g g.goals) goals-distinct i j less (omega (arith, below, counted)))
