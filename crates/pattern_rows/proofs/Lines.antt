-- The lines of a pattern may be asked for, and read what they are said to.
use Rattle.std.proofs.Common.{◌≡◌, ℕ, zero, suc, ◌<◌, ◌≤◌, Bool, true, false, not, ◌&&◌, ◌==◌, nat_lt, List, [], ◌∷◌, ◌++◌, length, map, replicate, get_or, refl, sym, ap, ◌∙◌, subst, arith}
use Rattle.std.specs.List.{list_all}
use Rattle.std.proofs.lemmas.Bool.{and_parts, and_from, false≢true}
use Rattle.std.proofs.lemmas.Bool.Decides.{nat_tests}
use borrow.Author.Tests.{eqb-true}
use Rattle.spec_model.specs.declared.value.Value.TheVariants as value
use Rattle.spec_model.specs.declared.expr.Expr.{Expr}
use Rattle.spec_model.specs.Values.{Assignment, truth_of, is_assignment}
use Rattle.spec_model.specs.Syntax.{Formula, PatternData, formulas}
use Rattle.spec_model.specs.Views.{formula}
use Rattle.spec_model.specs.Meaning.{holds_at}
use Rattle.spec_model.specs.Moves.{has_next}
use Rattle.spec_model.specs.Patterns.{two_positions, all_hold}
use Rattle.spec_model.specs.Sizes.{past_trees}
use Rattle.spec_model.specs.Typing.{kind_of, is_truth}
use Rattle.spec_model.specs.WellMade.{is_stepwise}
use Rattle.spec_model.specs.WellTyped.{is_nested_well, is_typed, is_pattern_line, is_first_line, is_step_line, is_parameter, reads_some, shifts_some, scope_of_pattern}
use Rattle.game_values.specs.Safety.{IsSafe, AreSafe}
use Rattle.game_values.proofs.Safe.{IsTyped, step_safe}
use Rattle.pattern_rows.specs.Patterns.{IsPattern, IsGoal, is_goal_line}
use Rattle.pattern_rows.specs.Rows.{may_begin, goal_holds}
use Rattle.pattern_rows.specs.Sights.{IsCell}
use Rattle.pattern_rows.proofs.Values.{all_within}
use Rattle.pattern_rows.proofs.Stepwise.{line_stepwise}
use Rattle.pattern_rows.proofs.Seen.{agrees}

-- ---- lines that may be asked for

typed_positions : (p : PatternData) (letter own next : Assignment) → length letter ≡ p.params → is_assignment p.domains own ≡ true → is_assignment p.domains next ≡ true →
    IsTyped (scope_of_pattern p) (two_positions (letter ++ own) (letter ++ next))
typed_positions p letter own next long now later k zero = all_within p.params p.domains letter own long now k
typed_positions p letter own next long now later k (suc t) = all_within p.params p.domains letter next long later k

line_parts : (p : PatternData) (names : ℕ) (e : Formula) → is_pattern_line p names e ≡ true → (is_truth (kind_of (scope_of_pattern p) e) ≡ true) × (is_stepwise false e ≡ true)
line_parts p names e is =
    let first = and_parts (is_typed (scope_of_pattern p) names e) (length (past_trees e) == 0) is in
    let second = and_parts (is_truth (kind_of (scope_of_pattern p) e)) (is_nested_well names false false e) first.0 in
    (second.0, line_stepwise names e second.1 first.1)

line_safe : (p : PatternData) (names : ℕ) (letter own next : Assignment) → length letter ≡ p.params → is_assignment p.domains own ≡ true → is_assignment p.domains next ≡ true →
    (e : Formula) → is_pattern_line p names e ≡ true → IsSafe (two_positions (letter ++ own) (letter ++ next)) e 0
line_safe p names letter own next long now later e is =
    let parts = line_parts p names e is in
    step_safe (scope_of_pattern p) (two_positions (letter ++ own) (letter ++ next)) (typed_positions p letter own next long now later) e (and_from (is_truth (kind_of (scope_of_pattern p) e)) (is_stepwise false e) parts.0 parts.1)

each_safe : (p : PatternData) (names : ℕ) (letter own next : Assignment) → length letter ≡ p.params → is_assignment p.domains own ≡ true → is_assignment p.domains next ≡ true →
    (test : Formula → Bool) → ((e : Formula) → test e ≡ true → is_pattern_line p names e ≡ true) → (es : List Formula) → list_all test es ≡ true → AreSafe (two_positions (letter ++ own) (letter ++ next)) (formulas es) 0
each_safe p names letter own next long now later test are [] is = tt
each_safe p names letter own next long now later test are (e ∷ es) is =
    let parts = and_parts (test e) (list_all test es) is in
    (line_safe p names letter own next long now later e (are e parts.0), each_safe p names letter own next long now later test are es parts.1)

first_is_line : (p : PatternData) (names : ℕ) (e : Formula) → is_first_line p names e ≡ true → is_pattern_line p names e ≡ true
first_is_line p names e is = (and_parts (is_pattern_line p names e) (not (has_next e) && not (reads_some (is_parameter p) e)) is).0

step_is_line : (p : PatternData) (names : ℕ) (e : Formula) → is_step_line p names e ≡ true → is_pattern_line p names e ≡ true
step_is_line p names e is = (and_parts (is_pattern_line p names e) (not (shifts_some (is_parameter p) e)) is).0

long_replicate : (n : ℕ) → length (replicate n (value.Bool false)) ≡ n
long_replicate zero = refl
long_replicate (suc n) = ap suc (long_replicate n)

pub step_lines_safe : (p : PatternData) (letter own next : Assignment) → IsPattern p → IsCell p letter own → is_assignment p.domains next ≡ true →
    AreSafe (two_positions (letter ++ own) (letter ++ next)) (formulas p.step) 0
step_lines_safe p letter own next shaped cell later =
    each_safe p shaped.names letter own next (eqb-true (length letter) p.params cell.long) cell.fits later (is_step_line p shaped.names) (step_is_line p shaped.names) p.step shaped.step

pub first_lines_safe : (p : PatternData) (letter own : Assignment) → IsPattern p → letter ≡ replicate p.params (value.Bool false) → is_assignment p.domains own ≡ true →
    AreSafe (two_positions (letter ++ own) (letter ++ own)) (formulas p.first) 0
first_lines_safe p letter own shaped none now =
    each_safe p shaped.names letter own own (ap length none ∙ long_replicate p.params) now now (is_first_line p shaped.names) (first_is_line p shaped.names) p.first shaped.first

pub goal_safe : (p : PatternData) (letter own : Assignment) (e : Formula) → IsGoal p e → IsCell p letter own → IsSafe (two_positions (letter ++ own) (letter ++ own)) e 0
goal_safe p letter own e goal cell =
    line_safe p goal.names letter own own (eqb-true (length letter) p.params cell.long) cell.fits cell.fits e (and_parts (is_pattern_line p goal.names e) (not (has_next e)) goal.line).0

-- ---- lines that read a position alone

not_true : (b : Bool) → not b ≡ true → b ≡ false
not_true true is = absurd (false≢true is)
not_true false is = refl

-- whatever comes next
alone : (p : PatternData) (names : ℕ) (now next other : Assignment) (e : Formula) → is_pattern_line p names e ≡ true → has_next e ≡ false → holds_at (two_positions now next) e 0 ≡ holds_at (two_positions now other) e 0
alone p names now next other e line none = ap truth_of (agrees (two_positions now next) (two_positions now other) false (λ k. false) (λ k spared. refl) (λ h n. refl) e (line_parts p names e line).1 none refl)

first_now : (p : PatternData) (names : ℕ) (e : Formula) → is_first_line p names e ≡ true → has_next e ≡ false
first_now p names e is =
    let parts = and_parts (is_pattern_line p names e) (not (has_next e) && not (reads_some (is_parameter p) e)) is in
    not_true (has_next e) (and_parts (not (has_next e)) (not (reads_some (is_parameter p) e)) parts.1).0

first_alone : (p : PatternData) (names : ℕ) (now next other : Assignment) (es : List Formula) → list_all (is_first_line p names) es ≡ true → list_all (λ e. holds_at (two_positions now next) e 0) es ≡ all_hold es now other
first_alone p names now next other [] is = refl
first_alone p names now next other (e ∷ es) is =
    let parts = and_parts (is_first_line p names e) (list_all (is_first_line p names) es) is in
    λ i. alone p names now next other e (first_is_line p names e parts.0) (first_now p names e parts.0) i && first_alone p names now next other es parts.1 i

pub first_lines_hold : (p : PatternData) (letter own : Assignment) → IsPattern p → letter ≡ replicate p.params (value.Bool false) →
    list_all (λ e. holds_at (two_positions (letter ++ own) (letter ++ own)) e 0) p.first ≡ may_begin p own
first_lines_hold p letter own shaped none =
    first_alone p shaped.names (letter ++ own) (letter ++ own) [] p.first shaped.first ∙ ap (λ l. all_hold p.first (l ++ own) []) none

and_true : (b : Bool) → (b && true) ≡ b
and_true true = refl
and_true false = refl

pub goal_line_holds : (p : PatternData) (letter own : Assignment) (e : Formula) → IsGoal p e → holds_at (two_positions (letter ++ own) (letter ++ own)) e 0 ≡ goal_holds e letter own
goal_line_holds p letter own e goal =
    let parts = and_parts (is_pattern_line p goal.names e) (not (has_next e)) goal.line in
    alone p goal.names (letter ++ own) (letter ++ own) [] e parts.0 (not_true (has_next e) parts.1) ∙ sym (and_true _)

-- ---- whatever the parameters are at first

past_parameters : (n k : ℕ) (l m own : Assignment) → length l ≡ n → length m ≡ n → n ≤ k → get_or (l ++ own) k (value.Bool false) ≡ get_or (m ++ own) k (value.Bool false)
past_parameters zero k [] [] own a b past = refl
past_parameters zero k (x ∷ l) m own a b past = absurd (omega arith)
past_parameters zero k [] (y ∷ m) own a b past = absurd (omega arith)
past_parameters (suc n) k [] m own a b past = absurd (omega arith)
past_parameters (suc n) k (x ∷ l) [] own a b past = absurd (omega arith)
past_parameters (suc n) zero (x ∷ l) (y ∷ m) own a b past = absurd (omega arith)
past_parameters (suc n) (suc k) (x ∷ l) (y ∷ m) own a b past = past_parameters n k l m own (omega arith) (omega arith) (omega arith)

not_below : (k n : ℕ) → nat_lt k n ≡ false → n ≤ k
not_below k n is = grind (arith, nat_tests)

first_spared : (p : PatternData) (names : ℕ) (e : Formula) → is_first_line p names e ≡ true → reads_some (is_parameter p) e ≡ false
first_spared p names e is =
    let parts = and_parts (is_pattern_line p names e) (not (has_next e) && not (reads_some (is_parameter p) e)) is in
    not_true (reads_some (is_parameter p) e) (and_parts (not (has_next e)) (not (reads_some (is_parameter p) e)) parts.1).1

first_of_any : (p : PatternData) (names : ℕ) (l m own : Assignment) → length l ≡ p.params → length m ≡ p.params → (es : List Formula) → list_all (is_first_line p names) es ≡ true → all_hold es (l ++ own) [] ≡ all_hold es (m ++ own) []
first_of_any p names l m own a b [] is = refl
first_of_any p names l m own a b (e ∷ es) is =
    let parts = and_parts (is_first_line p names e) (list_all (is_first_line p names) es) is in
    let here = agrees (two_positions (l ++ own) []) (two_positions (m ++ own) []) true (is_parameter p) (λ k spared. past_parameters p.params k l m own a b (not_below k p.params spared)) (λ h n. refl) e (line_parts p names e (first_is_line p names e parts.0)).1 (first_now p names e parts.0) (first_spared p names e parts.0) in
    λ i. truth_of (here i) && first_of_any p names l m own a b es parts.1 i

pub begins_with_any : (p : PatternData) (letter own : Assignment) → IsPattern p → length letter ≡ p.params → all_hold p.first (letter ++ own) [] ≡ may_begin p own
begins_with_any p letter own shaped long = first_of_any p shaped.names letter (replicate p.params (value.Bool false)) own long (long_replicate p.params) p.first shaped.first

-- a goal of the program is one of the pattern's
goal_among : (test : Formula → Bool) (es : List Expr) (k : ℕ) (e : Expr) → list_all test (map formula es) ≡ true → k < length es → e ≡ get_or es k e → test (formula e) ≡ true
goal_among test [] k e all below is = absurd (omega arith)
goal_among test (d ∷ es) zero e all below is = subst (λ x. test (formula x) ≡ true) (sym is) (and_parts (test (formula d)) (list_all test (map formula es)) all).0
goal_among test (d ∷ es) (suc k) e all below is = goal_among test es k e (and_parts (test (formula d)) (list_all test (map formula es)) all).1 (omega arith) is

pub goal_at : (p : PatternData) (shaped : IsPattern p) (es : List Expr) (k : ℕ) (e : Expr) → map formula es ≡ p.goals → k < length es → e ≡ get_or es k e → IsGoal p (formula e)
goal_at p shaped es k e same below is =
    record { names = shaped.names; line = goal_among (is_goal_line p shaped.names) es k e (subst (λ gs. list_all (is_goal_line p shaped.names) gs ≡ true) (sym same) shaped.goals) below is }
