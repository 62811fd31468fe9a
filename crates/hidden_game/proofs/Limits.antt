-- What a well-typed specification says of its patterns, triggers and tables: they have tables, and there are few.
use Rattle.std.proofs.Common.{◌≡◌, ◌≤◌, ◌<◌, ◌+◌, ◌^◌, ◌-◌, ℕ, zero, suc, Bool, true, ◌&&◌, List, [], ◌∷◌, ◌++◌, length, map, Some, None, Option, slice_get, option_map, get_or, sum_by, subst, refl, sym, ap, ◌∙◌, arith}
use Rattle.std.specs.List.{list_all}
use Rattle.std.proofs.lemmas.Bool.{and_parts}
use Rattle.std.proofs.lemmas.Option.{slice_get-map, slice_get-get_or}
use Rattle.std.proofs.lemmas.List.Sums.{sum_by-cons, sum_by-append}
use Rattle.spec_model.specs.Syntax.{Formula, Constant, Variable, NextOf, Negation, Conjunction, Disjunction, Implication, Equivalence, Comparison, Sum, Difference, Product, Remainder, PastOf, Entry, PatternData, TriggerData, Specification}
use Rattle.spec_model.specs.FormulaSizes.{nodes_in}
use Rattle.spec_model.specs.Sizes.{formulas_of, past_operators}
use Rattle.spec_model.specs.WellTyped.{WellTyped, is_typed_pattern, is_typed_trigger, pattern_formulas, all_nodes}
use Rattle.pattern_rows.specs.Laws.{HasTable}
use Rattle.pattern_rows.proofs.Filled.{typed_has_table}
use Rattle.trigger_dfa.specs.Narrow.{IsNarrow}
use Rattle.trigger_dfa.proofs.TypedTriggers.{typed_is_narrow}

-- what all of a list pass, each of it passes
one_of_all : {X : Type 0} (test : X → Bool) (xs : List X) (k : ℕ) (x : X) → list_all test xs ≡ true → slice_get xs k ≡ Some x → test x ≡ true
one_of_all test [] k x all there = absurd (cc)
one_of_all test (y ∷ xs) zero x all there = let same : y ≡ x = cc in subst (λ z. test z ≡ true) same (and_parts (test y) (list_all test xs) all).0
one_of_all test (y ∷ xs) (suc k) x all there = one_of_all test xs k x (and_parts (test y) (list_all test xs) all).1 there

pub pattern_has_table : (s : Specification) → WellTyped s → (k : ℕ) (p : PatternData) → slice_get s.patterns k ≡ Some p → HasTable p
pattern_has_table s typed k p there = typed_has_table (length s.names) p (one_of_all (is_typed_pattern (length s.names)) s.patterns k p typed.patterns there)

pub trigger_is_narrow : (s : Specification) → WellTyped s → (k : ℕ) (t : TriggerData) → slice_get s.triggers k ≡ Some t → IsNarrow t
trigger_is_narrow s typed k t there = typed_is_narrow s t (one_of_all (is_typed_trigger s) s.triggers k t typed.triggers there)

-- ---- goals of patterns

some_nodes : (e : Formula) → 1 ≤ nodes_in e
some_nodes (Constant v) = omega arith
some_nodes (Variable k) = omega arith
some_nodes (NextOf e) = omega arith
some_nodes (Negation e) = omega arith
some_nodes (Conjunction es) = omega arith
some_nodes (Disjunction es) = omega arith
some_nodes (Implication a b) = omega arith
some_nodes (Equivalence a b) = omega arith
some_nodes (Comparison c a b) = omega arith
some_nodes (Sum a b) = omega arith
some_nodes (Difference a b) = omega arith
some_nodes (Product a b) = omega arith
some_nodes (Remainder a n) = omega arith
some_nodes (PastOf op es) = omega arith
some_nodes (Entry h n) = omega arith

fewer_than_nodes : (es : List Formula) → length es ≤ sum_by nodes_in es
fewer_than_nodes [] = omega arith
fewer_than_nodes (e ∷ es) = let more = sum_by-cons nodes_in e es in let one = some_nodes e in let rest = fewer_than_nodes es in omega (arith, more, one, rest)

one_of_sum : {X : Type 0} (f : X → ℕ) (xs : List X) (k : ℕ) (x : X) → slice_get xs k ≡ Some x → f x ≤ sum_by f xs
one_of_sum f [] k x there = absurd (cc)
one_of_sum f (y ∷ xs) zero x there = let more = sum_by-cons f y xs in let same : f y ≡ f x = let e : y ≡ x = cc in ap f e in omega (arith, more, same)
one_of_sum f (y ∷ xs) (suc k) x there = let more = sum_by-cons f y xs in let rest = one_of_sum f xs k x there in omega (arith, more, rest)

-- a pattern has no more goals than all formulas have nodes
pub few_goals : (s : Specification) → WellTyped s → (k : ℕ) (p : PatternData) → slice_get s.patterns k ≡ Some p → length p.goals ≤ 1_000_001
few_goals s typed k p there =
    let goals = fewer_than_nodes p.goals in
    let steps = sum_by-append nodes_in p.step p.goals in
    let firsts = sum_by-append nodes_in p.first (p.step ++ p.goals) in
    let one = one_of_sum (λ (p : PatternData). sum_by nodes_in (pattern_formulas p)) s.patterns k p there in
    omega (arith, goals, steps, firsts, one, typed.few_nodes)

-- ---- elements

-- an element of the program's list is that of the specification's
pub element : {X Y : Type 0} (v : X → Y) (xs : List X) (k : ℕ) (x : X) → k < length xs → x ≡ get_or xs k x → slice_get (map v xs) k ≡ Some (v x)
element v xs k x inside is = slice_get-map v xs k ∙ ap (λ o. option_map v o) (slice_get-get_or xs k x inside ∙ ap Some (sym is))

-- there is one at each place
pub some_element : {X Y : Type 0} (v : X → Y) (xs : List X) (k : ℕ) → k < length xs → (y : Y) × (slice_get (map v xs) k ≡ Some y)
some_element v [] k inside = absurd (omega arith)
some_element v (x ∷ xs) zero inside = (v x, refl)
some_element v (x ∷ xs) (suc k) inside = some_element v xs k (omega arith)
