-- The formulas of lines and goals, one after the other.
use Rattle.std.proofs.Common.{◌≡◌, ℕ, ◌+◌, ◌<◌, Bool, true, List, [], ◌∷◌, ◌++◌, append_assoc, map, take, drop, length, get_or, refl, sym, ◌∙◌, ap, subst}
use Rattle.std.specs.List.{Contains, list_all}
use Rattle.std.proofs.lemmas.Bool.{and_parts, and_from}
use Rattle.std.proofs.lemmas.List.{map-append, take-append-drop}
use Rattle.std.proofs.lemmas.List.Elements.{Contains-append_left}
use Rattle.std.proofs.lemmas.List.Folds.{list_all-append, list_all-map}
use Rattle.spec_model.specs.Syntax.{Formula}
use Rattle.spec_model.specs.Diagrams.{Function}
use Rattle.spec_model.specs.Games.{GameData, GoalData}
use Rattle.spec_model.specs.WellMade.{WellMade, scope_of, is_step_formula, is_state_formula}
use Rattle.bit_compile.proofs.CyclesLemmas.{take_next}
use Rattle.bit_compile.proofs.Filled.{map_contains}
use Rattle.bit_compile.proofs.Folding.{drop_next}
use Rattle.bdd_sets.specs.declared.lines.Side.TheVariants.{Assumptions, Guarantees}
use Rattle.bdd_sets.specs.NamedGame.{formulas_of}
use Rattle.bdd_sets.proofs.LineLemmas.{first_formulas, safety_formulas}
use Rattle.line_functions.specs.Functions.{line_function, IsOfLine, IsOfOne}
use Rattle.line_functions.proofs.ProductLemmas.{function_named}

-- ---- all in order

six_joined : {X Y Z : Type 0} (f : X → Z) (h : Y → Z) (a b c d : List X) (p q : List Y) →
    (((((map f a) ++ map f b) ++ map f c) ++ map f d) ++ map h p) ++ map h q ≡ map f (a ++ (b ++ (c ++ d))) ++ map h (p ++ q)
six_joined f h a b c d p q =
    let four = append_assoc (map f a ++ map f b) (map f c) (map f d) ∙ append_assoc (map f a) (map f b) (map f c ++ map f d) in
    let mapped = map-append f a (b ++ (c ++ d)) ∙ ap (λ xs. map f a ++ xs) (map-append f b (c ++ d) ∙ ap (λ xs. map f b ++ xs) (map-append f c d)) in
    append_assoc (((map f a ++ map f b) ++ map f c) ++ map f d) (map h p) (map h q)
    ∙ (ap (λ xs. xs ++ (map h p ++ map h q)) (four ∙ sym mapped) ∙ ap (λ xs. map f (a ++ (b ++ (c ++ d))) ++ xs) (sym (map-append h p q)))

-- those of four lists of one kind and of two of another, each added to what was there
pub in_order : {X Y Z : Type 0} (f : X → Z) (h : Y → Z) (a b c d : List X) (p q : List Y) (none one two three four five six : List Z) → none ≡ [] → one ≡ none ++ map f a →
    two ≡ one ++ map f b → three ≡ two ++ map f c → four ≡ three ++ map f d →
    five ≡ four ++ map h p → six ≡ five ++ map h q → six ≡ map f (a ++ (b ++ (c ++ d))) ++ map h (p ++ q)
in_order f h a b c d p q none one two three four five six is_none is_one is_two is_three is_four is_five is_six =
    let first = is_one ∙ ap (λ xs. xs ++ map f a) is_none in
    let third = is_three ∙ ap (λ xs. xs ++ map f c) (is_two ∙ ap (λ xs. xs ++ map f b) first) in
    let fifth = is_five ∙ ap (λ xs. xs ++ map h p) (is_four ∙ ap (λ xs. xs ++ map f d) third) in
    is_six ∙ (ap (λ xs. xs ++ map h q) fifth ∙ six_joined f h a b c d p q)

-- ---- each is a formula over a state and the next one

all_joined : {X : Type 0} (p : X → Bool) (xs ys : List X) → list_all p xs ≡ true → list_all p ys ≡ true → list_all p (xs ++ ys) ≡ true
all_joined p xs ys first second = list_all-append p xs ys ∙ and_from (list_all p xs) (list_all p ys) first second

steps : (g : GameData) (goals : List GoalData) → list_all (λ goal. is_state_formula (scope_of g) goal.holds) goals ≡ true → list_all (λ goal. is_step_formula (scope_of g) goal.holds) goals ≡ true
steps g [] all = refl
steps g (goal ∷ goals) all =
    let parts = and_parts (is_state_formula (scope_of g) goal.holds) _ all in
    and_from (is_step_formula (scope_of g) goal.holds) _ (and_parts (is_step_formula (scope_of g) goal.holds) _ parts.0).0 (steps g goals parts.1)

pub formulas_made : (g : GameData) → WellMade g → list_all (is_step_formula (scope_of g)) (formulas_of g) ≡ true
formulas_made g well =
    let p = is_step_formula (scope_of g) in
    let line : ℕ × Formula → Bool = λ l. p l.1 in
    let goal : GoalData → Bool = λ x. p x.holds in
    let safe_lines : List (ℕ × Formula) = g.safe_asm ++ g.safe_gar in
    let later : List (ℕ × Formula) = g.initial_gar ++ safe_lines in
    let safe = all_joined line g.safe_asm g.safe_gar (safety_formulas g Assumptions well) (safety_formulas g Guarantees well) in
    let lines = all_joined line g.initial_asm later (first_formulas g Assumptions well) (all_joined line g.initial_gar safe_lines (first_formulas g Guarantees well) safe) in
    let goals = all_joined goal g.assume g.goals (steps g g.assume well.assume) (steps g g.goals well.goals) in
    let said : List Formula = map (λ (l : ℕ × Formula). l.1) (g.initial_asm ++ later) in
    let held : List Formula = map (λ (x : GoalData). x.holds) (g.assume ++ g.goals) in
    all_joined p said held (list_all-map p (λ (l : ℕ × Formula). l.1) (g.initial_asm ++ later) ∙ lines) (list_all-map p (λ (x : GoalData). x.holds) (g.assume ++ g.goals) ∙ goals)

-- ---- one more

pub formula_next : {X : Type 0} (p : Formula → Bool) (seen : X → Formula) (xs : List X) (i : ℕ) (x : X) → i < length xs → x ≡ get_or xs i x → list_all p (map seen (drop i xs)) ≡ true →
    (p (seen x) ≡ true) × (list_all p (map seen (drop (i + 1) xs)) ≡ true)
formula_next p seen xs i x less is all = and_parts (p (seen x)) _ (sym (ap (λ rest. list_all p (map seen rest)) (drop_next xs i x less is)) ∙ all)

pub functions_longer : {X : Type 0} (f : Formula → Function) (seen : X → Formula) (xs : List X) (i : ℕ) (x : X) → i < length xs → x ≡ get_or xs i x →
    map f (map seen (take i xs)) ++ f (seen x) ∷ [] ≡ map f (map seen (take (i + 1) xs))
functions_longer f seen xs i x less is =
    sym (ap (λ so_far. map f (map seen so_far)) (take_next xs i x less is) ∙ (ap (map f) (map-append seen (take i xs) (x ∷ [])) ∙ map-append f (map seen (take i xs)) (seen x ∷ [])))

-- ---- functions are named

line_named : (g : GameData) (es : List Formula) (f : Function) → Contains (map (line_function g) es) f → IsOfOne g es f
line_named g es f there =
    let found = map_contains (line_function g) es f there in
    (found.0, found.1, subst (IsOfLine g found.0) found.2 (function_named g found.0))

taken : {X : Type 0} (seen : X → Formula) (xs : List X) (i : ℕ) (e : Formula) → Contains (map seen (take i xs)) e → Contains (map seen xs) e
taken seen xs i e there =
    subst (λ es. Contains es e) (sym (map-append seen (take i xs) (drop i xs)) ∙ ap (map seen) (take-append-drop i xs)) (Contains-append_left (map seen (take i xs)) (map seen (drop i xs)) e there)

pub lines_named : {X : Type 0} (g : GameData) (seen : X → Formula) (xs : List X) (i : ℕ) (f : Function) → Contains (map (line_function g) (map seen (take i xs))) f → IsOfOne g (map seen xs) f
lines_named g seen xs i f there = let found = line_named g (map seen (take i xs)) f there in (found.0, taken seen xs i found.0 found.1, found.2)
