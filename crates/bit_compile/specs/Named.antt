-- Named sets: those that the diagram of a formula is made of. Each is what a part of the formula stands for, and the first
-- several members of a conjunction or disjunction count as a part.
use Rattle.std.specs.Prelude.{◌≡◌, ◌⊎◌, ◌==◌, ◌<◌, ◌^◌, ◌/◌, ◌%◌, ◌&&◌, ◌||◌, ℕ, zero, suc, ℤ, nat_abs, Bool, true, false, List, [], ◌∷◌, ◌++◌, map, length, take, get_or, slice_get}
use Rattle.std.specs.List.{Contains, list_any}
use Rattle.std.specs.Prelude.{Some as some}
use Rattle.std.specs.Bool.{beq}
use Rattle.spec_model.specs.declared.value.Value.{Value}
use Rattle.spec_model.specs.declared.value.Value.TheVariants as value
use Rattle.spec_model.specs.declared.expr.Compare.TheVariants.{Eq}
use Rattle.spec_model.specs.Values.{DomainData, number_of, rank_of, same_value, values_of}
use Rattle.spec_model.specs.Meaning.{compare_values}
use Rattle.spec_model.specs.Syntax.{Formula, Constant, Variable, NextOf, Negation, Conjunction, Disjunction, Implication, Equivalence, Comparison, Sum, Difference, Product, Remainder, PastOf, Entry, Formulas, formulas}
use Rattle.spec_model.specs.Games.{HiddenData, GameData}
use Rattle.spec_model.specs.Diagrams.{Function}
use Rattle.game_values.specs.declared.seen.At.{At}
use Rattle.game_values.specs.declared.seen.At.TheVariants.{Now, Next}
use Rattle.bit_compile.specs.declared.operation.Operation.{Operation}
use Rattle.bit_compile.specs.declared.operation.Operation.TheVariants.{Add, Sub, Mul, Mod}
use Rattle.bit_compile.specs.declared.folds.Fold.{Fold}
use Rattle.bit_compile.specs.declared.folds.Fold.TheVariants.{All, Some}
use Rattle.bit_compile.specs.Domains.{state_domains, table_domain}
use Rattle.bit_compile.specs.Codes.{domain_in, level_at, width_at}
use Rattle.bit_compile.specs.NamedCodes.{IsOfNumber}
use Rattle.bit_compile.specs.Compiled.{Case, Entries, is_code, coded, only, both_truths, some_pair, gives, never, is_not, place_of, variable_domain, values_in, numbers_below, truth_in, truths_in, cases_in, entries_of, is_letter, lettered, in_table, leads, following, all_of, folded, has_some_value}
use Rattle.spec_model.specs.Steps.{below}

-- where a truth value is true, or false
abbrev pub IsTruth : Function → Function → Type 0
IsTruth truth f = (f ≡ truth) ⊎ (f ≡ is_not truth)

-- ---- several members

-- the first several of these, joined
abbrev pub IsFirstOf : Fold → List Function → Function → Type 0
IsFirstOf fold fs f = (k : ℕ) × (f ≡ folded fold (take k fs))

abbrev pub case_in : List Case → ℕ → Case
case_in cs i = get_or cs i (record { value = value.Bool false; holds = never })

-- both are true
abbrev pub IsBoth : Function → Function → Function → Type 0
IsBoth g h f = f ≡ (λ s. g s && h s)

-- where the value x is had and one of the others, and the two pass
abbrev pub row_with : (Value → Value → Bool) → Case → List Case → Function
row_with test x ys s = list_any (λ y. test x.value y.value && (x.holds s && y.holds s)) ys

-- one pair of the row is had, or what came before or some pair that passes among the first several
abbrev pub IsOfRow : (Value → Value → Bool) → Function → Case → List Case → Function → Type 0
IsOfRow test sum x ys f = ((j : ℕ) × IsBoth x.holds (case_in ys j).holds f) ⊎ ((j : ℕ) × (f ≡ (λ s. sum s || row_with test x (take j ys) s)))

-- one pair is had, or some pair that passes among the first several, row by row
abbrev pub IsOfPairs : (Value → Value → Bool) → List Case → List Case → Function → Type 0
IsOfPairs test xs ys f = (i : ℕ) × IsOfRow test (some_pair test (take i xs) ys) (case_in xs i) ys f

-- the first several atoms are as the letter has them
abbrev pub begins_letter : ℕ → List Function → ℕ → Function
begins_letter zero atoms n s = true
begins_letter (suc k) [] n s = true
begins_letter (suc k) (f ∷ atoms) n s = beq (f s) (n % 2 == 1) && begins_letter k atoms (n / 2) s

-- that, or one atom's complement
abbrev pub IsOfLetter : List Function → ℕ → Function → Type 0
IsOfLetter atoms n f = ((k : ℕ) × (f ≡ begins_letter k atoms n)) ⊎ ((k : ℕ) × (f ≡ is_not (get_or atoms k never)))

-- ---- values

-- where one of these values is had, or on the way to it
abbrev pub IsOfEach : List Value → (had : Value → Function) → (IsOn : Value → Function → Type 0) → Function → Type 0
IsOfEach vs had IsOn f = (v : Value) × Contains vs v × ((f ≡ had v) ⊎ IsOn v f)

-- the code of a value of the domain
abbrev pub IsOfCoded : List DomainData → At → ℕ → DomainData → Function → Type 0
IsOfCoded ds at k d = IsOfEach (values_of d) (λ v. is_code ds at k (rank_of d v)) (λ v. IsOfNumber (level_at ds at k) (width_at ds k) (rank_of d v))

-- a result of the operation
abbrev pub IsOfResults : Operation → List Case → List Case → List Value → Function → Type 0
IsOfResults op as' bs vs = IsOfEach vs (λ v. some_pair (gives op v) as' bs) (λ v. IsOfPairs (gives op v) as' bs)

-- a letter of the atoms
abbrev pub IsOfLettered : List Function → Function → Type 0
IsOfLettered atoms =
    IsOfEach (values_of (numbers_below (2 ^ length atoms))) (λ v. is_letter atoms (nat_abs (number_of v))) (λ v. IsOfLetter atoms (nat_abs (number_of v)))

-- the divisor's one value, or a remainder
abbrev pub IsOfRemainders : List Case → (n : ℤ) → List Value → Function → Type 0
IsOfRemainders xs n vs f = (f ≡ (λ s. true)) ⊎ IsOfResults Mod xs (only (value.Int n)) vs f

-- a truth value, and its pairs with the cases of another
abbrev pub IsOfSameWith : List Case → Function → Function → Type 0
IsOfSameWith xs h f = IsTruth h f ⊎ IsOfPairs same_value xs (both_truths h) f

-- two truth values, and their pairs
abbrev pub IsOfSame : Function → Function → Function → Type 0
IsOfSame g h f = IsTruth g f ⊎ IsOfSameWith (both_truths g) h f

-- ---- formulas

-- where a formula is true, where it is false, or what else is named
abbrev pub IsTruthOr : Function → Type 0 → Function → Type 0
IsTruthOr truth Other f = IsTruth truth f ⊎ Other

-- the codes of a variable's values
abbrev pub IsOfVariable : GameData → At → ℕ → Function → Type 0
IsOfVariable g at k f =
    IsOfNumber (level_at (state_domains g) at (place_of g k)) (width_at (state_domains g) (place_of g k)) 1 f ⊎ IsOfCoded (state_domains g) at (place_of g k) (variable_domain g k) f

module _ (g : GameData) (entries : Entries) where
  abbrev mutual
    -- where a part of the formula is true or false or has a value, or a step from the parts to the whole
    pub IsOfParts : At → Formula → Function → Type 0
    IsOfParts at (Constant v) f = f ≡ (λ s. true)
    IsOfParts at (Variable k) f = IsOfVariable g at k f
    IsOfParts at (NextOf e) f = IsOfParts Next e f
    IsOfParts at (Negation e) f = IsTruthOr (truth_in g entries at e) (IsOfParts at e f) f
    IsOfParts at (Conjunction es) f = AreOfFormulas at es f ⊎ IsFirstOf All (truths_in g entries at es) f
    IsOfParts at (Disjunction es) f = AreOfFormulas at es f ⊎ IsFirstOf Some (truths_in g entries at es) f
    IsOfParts at (Implication a b) f = IsTruthOr (truth_in g entries at a) (IsOfParts at a f) f ⊎ IsTruthOr (truth_in g entries at b) (IsOfParts at b f) f
    IsOfParts at (Equivalence a b) f =
        (IsTruthOr (truth_in g entries at a) (IsOfParts at a f) f ⊎ IsTruthOr (truth_in g entries at b) (IsOfParts at b f) f)
        ⊎ IsOfSame (truth_in g entries at a) (truth_in g entries at b) f
    IsOfParts at (Comparison c a b) f =
        (IsTruthOr (truth_in g entries at a) (IsOfParts at a f) f ⊎ IsTruthOr (truth_in g entries at b) (IsOfParts at b f) f)
        ⊎ IsOfPairs (compare_values c) (cases_in g entries at a) (cases_in g entries at b) f
    IsOfParts at (Sum a b) f =
        (IsTruthOr (truth_in g entries at a) (IsOfParts at a f) f ⊎ IsTruthOr (truth_in g entries at b) (IsOfParts at b f) f)
        ⊎ IsOfResults Add (cases_in g entries at a) (cases_in g entries at b) (values_in g (Sum a b)) f
    IsOfParts at (Difference a b) f =
        (IsTruthOr (truth_in g entries at a) (IsOfParts at a f) f ⊎ IsTruthOr (truth_in g entries at b) (IsOfParts at b f) f)
        ⊎ IsOfResults Sub (cases_in g entries at a) (cases_in g entries at b) (values_in g (Difference a b)) f
    IsOfParts at (Product a b) f =
        (IsTruthOr (truth_in g entries at a) (IsOfParts at a f) f ⊎ IsTruthOr (truth_in g entries at b) (IsOfParts at b f) f)
        ⊎ IsOfResults Mul (cases_in g entries at a) (cases_in g entries at b) (values_in g (Product a b)) f
    IsOfParts at (Remainder a n) f =
        IsTruthOr (truth_in g entries at a) (IsOfParts at a f) f ⊎ IsOfRemainders (cases_in g entries at a) n (values_in g (Remainder a n)) f
    IsOfParts at (PastOf op es) f = ⊥
    IsOfParts at (Entry h n) f = ⊥

    pub AreOfFormulas : At → Formulas → Function → Type 0
    AreOfFormulas at Formulas.none f = ⊥
    AreOfFormulas at (Formulas.one_more e es) f = IsTruthOr (truth_in g entries at e) (IsOfParts at e f) f ⊎ AreOfFormulas at es f

  -- the formula itself with its parts
  abbrev pub IsOfFormula : At → Formula → Function → Type 0
  IsOfFormula at e f = IsTruthOr (truth_in g entries at e) (IsOfParts at e f) f

-- ---- hidden tables

-- the letters of a table's atoms, and their pairs with values where a truth table is true
abbrev pub IsOfCells : List Bool → List Case → List Function → Function → Type 0
IsOfCells table xs atoms f = IsOfLettered atoms f ⊎ IsOfPairs (in_table table (2 ^ length atoms)) xs (lettered atoms) f

-- the values of the table numbered k, and these
abbrev pub IsOfTable : List DomainData → ℕ → HiddenData → List Function → List Bool → Function → Type 0
IsOfTable ds k h atoms table f = IsOfCoded ds Now k (table_domain h) f ⊎ IsOfCells table (coded ds Now k (table_domain h)) atoms f

-- the atoms of the table numbered k, and one of its entries, whose atoms read only the entries of earlier tables
abbrev pub IsOfHidden : GameData → Entries → ℕ → HiddenData → Function → Type 0
IsOfHidden g entries k h f =
    AreOfFormulas g entries Now (formulas h.atoms) f
    ⊎ ((table : List Bool) × Contains h.tables table × IsOfTable (state_domains g) k h (map (truth_in g entries Now) h.atoms) table f)

-- one of these tables
abbrev pub IsOfTables : GameData → List HiddenData → Function → Type 0
IsOfTables g hs f = (before : List HiddenData) × (h : HiddenData) × (after : List HiddenData) × (hs ≡ before ++ h ∷ after) × IsOfHidden g (entries_of g before) (length before) h f

-- ---- the proper states

-- the codes of the values at one place, the first several of them together
abbrev pub IsOfSlot : List DomainData → At → ℕ → Function → Type 0
IsOfSlot ds at k f = IsOfCoded ds at k (domain_in ds k) f ⊎ IsFirstOf Some (map (λ c. c.holds) (coded ds at k (domain_in ds k))) f

-- those of each place, the first several places together
abbrev pub IsOfProper : List DomainData → At → Function → Type 0
IsOfProper ds at f = ((k : ℕ) × (k < length ds) × IsOfSlot ds at k f) ⊎ ((k : ℕ) × (f ≡ all_of (map (has_some_value ds at) (below k))))

-- ---- next values of hidden tables

-- where the table leads to one of these values
abbrev pub IsOfLed : List ℕ → ℕ → List Case → List Case → List Value → Function → Type 0
IsOfLed next letters vs ls tos = IsOfEach tos (λ to. some_pair (leads next letters to) vs ls) (λ to. IsOfPairs (leads next letters to) vs ls)

-- the values of the table numbered k, the letters of its atoms, and where they lead to
abbrev pub IsOfFollowing : List DomainData → ℕ → HiddenData → List Function → Function → Type 0
IsOfFollowing ds k h atoms f =
    IsOfCoded ds Now k (table_domain h) f ⊎ (IsOfLettered atoms f ⊎ IsOfLed h.next (2 ^ length atoms) (coded ds Now k (table_domain h)) (lettered atoms) (values_of (table_domain h)) f)

-- those, the next values, and the pairs of both that are the same
abbrev pub IsOfUpdate : List DomainData → ℕ → HiddenData → List Function → Function → Type 0
IsOfUpdate ds k h atoms f =
    IsOfFollowing ds k h atoms f ⊎ (IsOfCoded ds Next k (table_domain h) f ⊎ IsOfPairs (compare_values Eq) (coded ds Next k (table_domain h)) (following ds k h atoms) f)

-- what the update of the table numbered k is made of, and the entries of hidden tables
abbrev pub IsNamedUpdate : GameData → ℕ → Function → Type 0
IsNamedUpdate g k f =
    IsOfTables g g.hidden f
    ⊎ ((h : HiddenData) × (slice_get g.hidden k ≡ some h) × IsOfUpdate (state_domains g) k h (map (truth_in g (entries_of g (take k g.hidden)) Now) h.atoms) f)

-- ---- what a formula is made of

-- its parts, and the entries of hidden tables
abbrev pub IsNamedOf : GameData → Formula → Function → Type 0
IsNamedOf g e f = IsOfFormula g (entries_of g g.hidden) Now e f ⊎ IsOfTables g g.hidden f
