-- The tables that are left to be read, and the cases of several formulas.
use Rattle.std.proofs.Common.{◌≡◌, ℕ, zero, suc, ◌+◌, ◌<◌, ◌≤◌, true, List, [], ◌∷◌, ◌++◌, map, length, take, drop, get_or, refl, sym, ap, subst, arith}
use Rattle.spec_model.specs.declared.expr.Expr.{Expr}
use Rattle.spec_model.specs.declared.game.Hidden.{Hidden}
use Rattle.spec_model.specs.declared.value.Value.{Value}
use Rattle.spec_model.specs.declared.value.Value.TheVariants as value
use Rattle.spec_model.specs.Syntax.{Formula, Constant, Variable, NextOf, Negation, Conjunction, Disjunction, Implication, Equivalence, Comparison, Sum, Difference, Product, Remainder, PastOf, Entry}
use Rattle.spec_model.specs.Views.{formula}
use Rattle.spec_model.specs.FormulaSizes.{nodes_in, nodes_in_each}
use Rattle.spec_model.specs.Games.{GameData}
use Rattle.spec_model.specs.Diagrams.{Function}
use Rattle.game_values.specs.Safety.{formulas_in}
use Rattle.game_values.specs.declared.seen.At.{At}
use Rattle.game_values.specs.declared.seen.At.TheVariants.{Next}
use Rattle.bit_compile.specs.Compiled.{Case, Entries, truth_in, truths_in, cases_in, values_in}
use Rattle.bit_compile.specs.CaseRoots.{true_cases}
use Rattle.bit_compile.specs.Known.{IsKnown, AreKnown}
use Rattle.bit_compile.proofs.Folding.{drop_next}

-- how many nodes the tables' atoms have
abbrev pub atoms_left : List Hidden → ℕ
atoms_left [] = 0
atoms_left (h ∷ hs) = nodes_in_each (formulas_in h.atoms.items) + atoms_left hs

pub atoms_before : (hs : List Hidden) (k : ℕ) (h : Hidden) → k < length hs → h ≡ get_or hs k h → nodes_in_each (formulas_in h.atoms.items) + atoms_left (take k hs) ≤ atoms_left hs
atoms_before [] k h less e = absurd (omega arith)
atoms_before (x ∷ hs) zero h less e = let same : nodes_in_each (formulas_in h.atoms.items) ≡ nodes_in_each (formulas_in x.atoms.items) = ap (λ (y : Hidden). nodes_in_each (formulas_in y.atoms.items)) e in omega (arith, same)
atoms_before (x ∷ hs) (suc k) h less e = let rest = atoms_before hs k h (omega arith) e in omega (arith, rest)

abbrev pub truth_case : GameData → Entries → At → Expr → Case
truth_case g entries at e = record { value = value.Bool true; holds = truth_in g entries at (formula e) }

pub truths-each : (g : GameData) (entries : Entries) (at : At) (es : List Expr) → map (truth_case g entries at) es ≡ true_cases (truths_in g entries at (formulas_in es))
truths-each g entries at [] = refl
truths-each g entries at (e ∷ es) = ap (λ (cs : List Case). truth_case g entries at e ∷ cs) (truths-each g entries at es)

take_at : {X : Type 0} (xs : List X) (i : ℕ) (x : X) → i < length xs → x ≡ get_or xs i x → take (suc i) xs ≡ take i xs ++ x ∷ []
take_at [] i x h e = absurd (omega arith)
take_at (y ∷ xs) zero x h e = ap (λ z. z ∷ []) (sym e)
take_at (y ∷ xs) (suc i) x h e = ap (λ zs. y ∷ zs) (take_at xs i x (omega arith) e)

pub take_next : {X : Type 0} (xs : List X) (i : ℕ) (x : X) → i < length xs → x ≡ get_or xs i x → take (i + 1) xs ≡ take i xs ++ x ∷ []
take_next xs i x h e = let next : i + 1 ≡ suc i = omega arith in rw next (take_at xs i x h e)

take_past : {X : Type 0} (xs : List X) (i : ℕ) → length xs ≤ i → take i xs ≡ xs
take_past [] zero h = refl
take_past [] (suc i) h = refl
take_past (y ∷ xs) zero h = absurd (omega arith)
take_past (y ∷ xs) (suc i) h = ap (λ zs. y ∷ zs) (take_past xs i (omega arith))

pub take_all : {X : Type 0} (xs : List X) (i : ℕ) → length xs ≤ i → take i xs ≡ xs
take_all xs i h = take_past xs i h

map-value : (f : Value → Function) (vs : List Value) → map (λ (c : Case). c.value) (map (λ v. record { value = v; holds = f v }) vs) ≡ vs
map-value f [] = refl
map-value f (v ∷ vs) = ap (λ ws. v ∷ ws) (map-value f vs)

-- the values of a formula's cases
pub values-cases : (g : GameData) (entries : Entries) (at : At) (e : Formula) → map (λ (c : Case). c.value) (cases_in g entries at e) ≡ values_in g e
values-cases g entries at (Constant v) = refl
values-cases g entries at (Variable k) = map-value _ _
values-cases g entries at (NextOf e) = values-cases g entries Next e
values-cases g entries at (Negation e) = refl
values-cases g entries at (Conjunction es) = refl
values-cases g entries at (Disjunction es) = refl
values-cases g entries at (Implication a b) = refl
values-cases g entries at (Equivalence a b) = refl
values-cases g entries at (Comparison c a b) = refl
values-cases g entries at (Sum a b) = map-value _ _
values-cases g entries at (Difference a b) = map-value _ _
values-cases g entries at (Product a b) = map-value _ _
values-cases g entries at (Remainder a n) = map-value _ _
values-cases g entries at (PastOf op es) = refl
values-cases g entries at (Entry h n) = refl

-- an entry that is there doesn't depend on what stands for missing ones
pub got : {X : Type 0} (xs : List X) (i : ℕ) (d d' : X) → i < length xs → get_or xs i d ≡ get_or xs i d'
got [] i d d' h = absurd (omega arith)
got (x ∷ xs) zero d d' h = refl
got (x ∷ xs) (suc i) d d' h = got xs i d d' (omega arith)

-- ---- the next of several formulas

pub known_next : (g : GameData) (es : List Expr) (i : ℕ) (e : Expr) → i < length es → e ≡ get_or es i e → AreKnown g (formulas_in (drop i es)) → IsKnown g (formula e) × AreKnown g (formulas_in (drop (i + 1) es))
known_next g es i e h is known = subst (λ (ds : List Expr). AreKnown g (formulas_in ds)) (drop_next es i e h is) known

pub heavier_next : (es : List Expr) (i : ℕ) (e : Expr) → i < length es → e ≡ get_or es i e → nodes_in_each (formulas_in (drop i es)) ≡ nodes_in (formula e) + nodes_in_each (formulas_in (drop (i + 1) es))
heavier_next es i e h is = ap (λ (ds : List Expr). nodes_in_each (formulas_in ds)) (drop_next es i e h is)
