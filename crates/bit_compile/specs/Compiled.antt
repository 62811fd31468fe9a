-- The function of the bits that a formula of a game stands for: what it reads is compared with the codes of the values.
use Rattle.std.specs.Prelude.{ℕ, ◌+◌, ◌*◌, ◌^◌, ℤ, pos, ◌+ℤ◌, ◌-ℤ◌, ◌*ℤ◌, Bool, true, false, not, ◌&&◌, ◌||◌, List, [], ◌∷◌, ◌++◌, Option, None, Some, option_map, slice_get, slice_index, get_or, map, length, take, count_by, ◌-◌, ◌==◌, nat_abs, int_lt, if◌then◌else◌}
use Rattle.std.specs.List.{list_any, list_all}
use Rattle.std.specs.Int.{int_rem_euclid, int_min, int_max}
use Rattle.std.specs.Bool.{beq}
use Rattle.spec_model.specs.declared.value.Value.{Value}
use Rattle.spec_model.specs.declared.value.Value.TheVariants as value
use Rattle.spec_model.specs.declared.expr.Compare.TheVariants.{Eq}
use Rattle.spec_model.specs.declared.value.Owner.{Owner}
use Rattle.spec_model.specs.declared.value.Owner.TheVariants.{Env, Sys}
use Rattle.spec_model.specs.Values.{DomainData, TruthValues, WholeNumbers, same_value, truth_of, number_of, values_of, rank_of}
use Rattle.spec_model.specs.Syntax.{Formula, Constant, Variable, NextOf, Negation, Conjunction, Disjunction, Implication, Equivalence, Comparison, Sum, Difference, Product, Remainder, PastOf, Entry, Formulas}
use Rattle.spec_model.specs.Meaning.{compare_values}
use Rattle.spec_model.specs.Moves.{is_env}
use Rattle.spec_model.specs.Games.{HiddenData, GameData, letter_of}
use Rattle.spec_model.specs.Diagrams.{Function}
use Rattle.game_values.specs.declared.seen.At.{At}
use Rattle.game_values.specs.declared.seen.At.TheVariants.{Now, Next}
use Rattle.bit_compile.specs.declared.operation.Operation.{Operation}
use Rattle.bit_compile.specs.declared.operation.Operation.TheVariants.{Add, Sub, Mul, Mod}
use Rattle.bit_compile.specs.Domains.{state_domains, table_domain}
use Rattle.bit_compile.specs.Codes.{has_number, level_at, width_at, domain_in}
use Rattle.bit_compile.specs.declared.folds.Fold.{Fold}
use Rattle.bit_compile.specs.declared.folds.Fold.TheVariants as fold
use Rattle.spec_model.specs.Steps.{below}

-- the place of a variable among the values of a state, which come after the hidden tables: inputs, then outputs
abbrev pub place_of : GameData → ℕ → ℕ
place_of g k = length g.hidden + of_owner (option_map (λ v. v.owner) (slice_get g.variables k))
  where
    of_owner : Option Owner → ℕ
    of_owner None = 0
    of_owner (Some Env) = count_by (λ v. is_env v.owner) (take k g.variables)
    of_owner (Some Sys) = count_by (λ v. is_env v.owner) g.variables + count_by (λ v. not (is_env v.owner)) (take k g.variables)

abbrev pub variable_domain : GameData → ℕ → DomainData
variable_domain g k = get_or (map (λ v. v.domain) g.variables) k TruthValues

-- ---- values

abbrev pub combined : Operation → ℤ → ℤ → ℤ
combined Add x y = x +ℤ y
combined Sub x y = x -ℤ y
combined Mul x y = x *ℤ y
combined Mod x y = if int_lt (pos 0) y then int_rem_euclid x y else pos 0

-- the first number of a list that rises, and the last
abbrev pub least : List Value → ℤ
least vs = number_of (get_or vs 0 (value.Bool false))

abbrev pub greatest : List Value → ℤ
greatest vs = number_of (get_or vs (length vs - 1) (value.Bool false))

-- the least and the greatest product of the ends of two intervals
abbrev pub least_product : (a b c d : ℤ) → ℤ
least_product a b c d = int_min (int_min (a *ℤ c) (a *ℤ d)) (int_min (b *ℤ c) (b *ℤ d))

abbrev pub greatest_product : (a b c d : ℤ) → ℤ
greatest_product a b c d = int_max (int_max (a *ℤ c) (a *ℤ d)) (int_max (b *ℤ c) (b *ℤ d))

-- an interval with all that an operation gives, of the numbers from the least to the greatest of each list
abbrev pub span_of : Operation → List Value → List Value → DomainData
span_of Add as' bs = WholeNumbers (least as' +ℤ least bs) (greatest as' +ℤ greatest bs)
span_of Sub as' bs = WholeNumbers (least as' -ℤ greatest bs) (greatest as' -ℤ least bs)
span_of Mul as' bs = WholeNumbers (least_product (least as') (greatest as') (least bs) (greatest bs)) (greatest_product (least as') (greatest as') (least bs) (greatest bs))
span_of Mod as' bs = WholeNumbers (pos 0) (greatest bs -ℤ pos 1)

-- the values that a formula may have
abbrev pub values_in : GameData → Formula → List Value
values_in g (Constant v) = v ∷ []
values_in g (Variable k) = values_of (variable_domain g k)
values_in g (NextOf e) = values_in g e
values_in g (Sum a b) = values_of (span_of Add (values_in g a) (values_in g b))
values_in g (Difference a b) = values_of (span_of Sub (values_in g a) (values_in g b))
values_in g (Product a b) = values_of (span_of Mul (values_in g a) (values_in g b))
values_in g (Remainder a n) = values_of (span_of Mod (values_in g a) (value.Int n ∷ []))
values_in g _ = values_of TruthValues

abbrev pub numbers_below : ℕ → DomainData
numbers_below n = WholeNumbers (pos 0) (pos n -ℤ pos 1)

-- ---- cases

-- a value, and where it is had
pub record Case : Type 0 where
  pub value : Value
  pub holds : Function

-- the bits of the slot numbered k are the code n
abbrev pub is_code : List DomainData → At → ℕ → ℕ → Function
is_code ds at k n = has_number (level_at ds at k) (width_at ds k) n

-- each value of a domain, where the slot has its code
abbrev pub coded : List DomainData → At → ℕ → DomainData → List Case
coded ds at k d = map (λ v. record { value = v; holds = is_code ds at k (rank_of d v) }) (values_of d)

-- one value, had everywhere
abbrev pub only : Value → List Case
only v = record { value = v; holds = λ s. true } ∷ []

-- false and true
abbrev pub both_truths : Function → List Case
both_truths f = record { value = value.Bool false; holds = λ s. not (f s) } ∷ record { value = value.Bool true; holds = f } ∷ []

-- some value of the first cases and some of the second pass the test, and are had
abbrev pub some_pair : (Value → Value → Bool) → List Case → List Case → Function
some_pair test as' bs s = list_any (λ a. list_any (λ b. test a.value b.value && (a.holds s && b.holds s)) bs) as'

-- whether an operation on two numbers gives this value
abbrev pub gives : Operation → Value → Value → Value → Bool
gives op v x y = same_value (value.Int (combined op (number_of x) (number_of y))) v

-- each of these values, where the operation gives it
abbrev pub results : Operation → List Case → List Case → List Value → List Case
results op as' bs vs = map (λ v. record { value = v; holds = some_pair (gives op v) as' bs }) vs

-- ---- formulas

abbrev pub all_of : List Function → Function
all_of fs s = list_all (λ f. f s) fs

abbrev pub some_of : List Function → Function
some_of fs s = list_any (λ f. f s) fs

abbrev pub is_not : Function → Function
is_not f s = not (f s)

abbrev pub implied : Function → Function → Function
implied f g s = not (f s) || g s

abbrev pub same_truth : Function → Function → Function
same_truth f g s = beq (f s) (g s)

-- what each entry of the hidden tables stands for
abbrev pub Entries : Type 0
Entries = List (List Function)

abbrev pub never : Function
never s = false

abbrev pub entry_of : Entries → ℕ → ℕ → Function
entry_of entries h n = get_or (get_or entries h []) n never

module _ (g : GameData) (entries : Entries) where
  abbrev mutual
    -- where a formula is true, of present values or of next ones
    pub truth_in : At → Formula → Function
    truth_in at (Constant v) = λ s. truth_of v
    truth_in at (Variable k) = is_code (state_domains g) at (place_of g k) 1
    truth_in at (NextOf e) = truth_in Next e
    truth_in at (Negation e) = is_not (truth_in at e)
    truth_in at (Conjunction es) = all_of (truths_in at es)
    truth_in at (Disjunction es) = some_of (truths_in at es)
    truth_in at (Implication a b) = implied (truth_in at a) (truth_in at b)
    truth_in at (Equivalence a b) = same_truth (truth_in at a) (truth_in at b)
    truth_in at (Comparison c a b) = some_pair (compare_values c) (cases_in at a) (cases_in at b)
    truth_in at (Entry h n) = entry_of entries h n
    truth_in at _ = never

    pub truths_in : At → Formulas → List Function
    truths_in at Formulas.none = []
    truths_in at (Formulas.one_more e es) = truth_in at e ∷ truths_in at es

    -- each value that a formula may have, and where it has it
    pub cases_in : At → Formula → List Case
    cases_in at (Constant v) = only v
    cases_in at (Variable k) = coded (state_domains g) at (place_of g k) (variable_domain g k)
    cases_in at (NextOf e) = cases_in Next e
    cases_in at (Sum a b) = results Add (cases_in at a) (cases_in at b) (values_in g (Sum a b))
    cases_in at (Difference a b) = results Sub (cases_in at a) (cases_in at b) (values_in g (Difference a b))
    cases_in at (Product a b) = results Mul (cases_in at a) (cases_in at b) (values_in g (Product a b))
    cases_in at (Remainder a n) = results Mod (cases_in at a) (only (value.Int n)) (values_in g (Remainder a n))
    cases_in at (Negation e) = both_truths (is_not (truth_in at e))
    cases_in at (Conjunction es) = both_truths (all_of (truths_in at es))
    cases_in at (Disjunction es) = both_truths (some_of (truths_in at es))
    cases_in at (Implication a b) = both_truths (implied (truth_in at a) (truth_in at b))
    cases_in at (Equivalence a b) = both_truths (same_truth (truth_in at a) (truth_in at b))
    cases_in at (Comparison c a b) = both_truths (some_pair (compare_values c) (cases_in at a) (cases_in at b))
    cases_in at (Entry h n) = both_truths (entry_of entries h n)
    cases_in at (PastOf op es) = both_truths never

-- ---- hidden tables

-- the atoms have this letter
abbrev pub is_letter : List Function → ℕ → Function
is_letter atoms n s = letter_of (map (λ a. a s) atoms) == n

-- each letter, where the atoms have it
abbrev pub lettered : List Function → List Case
lettered atoms = map (λ v. record { value = v; holds = is_letter atoms (nat_abs (number_of v)) }) (values_of (numbers_below (2 ^ length atoms)))

-- whether a truth table is true at a value and a letter
abbrev pub in_table : List Bool → ℕ → Value → Value → Bool
in_table table letters v letter = get_or table (nat_abs (number_of v) * letters + nat_abs (number_of letter)) false

-- the table numbered k has some value, its atoms some letter, and its truth table is true at the two
abbrev pub table_truth : List DomainData → ℕ → HiddenData → List Function → List Bool → Function
table_truth ds k h atoms table = some_pair (in_table table (2 ^ length atoms)) (coded ds Now k (table_domain h)) (lettered atoms)

-- the entries of one table more
abbrev pub table_entries : GameData → Entries → HiddenData → List Function
table_entries g entries h = map (table_truth (state_domains g) (length entries) h (map (truth_in g entries Now) h.atoms)) h.tables

-- those of each table in order, after the ones so far: the atoms of one read only the entries of earlier ones
abbrev pub entries_after : GameData → Entries → List HiddenData → Entries
entries_after g entries [] = entries
entries_after g entries (h ∷ hs) = entries_after g (entries ++ table_entries g entries h ∷ []) hs

abbrev pub entries_of : GameData → List HiddenData → Entries
entries_of g hs = entries_after g [] hs

-- where a formula over a state and the next one is true
abbrev pub compiled : GameData → Formula → Function
compiled g e = truth_in g (entries_of g g.hidden) Now e

-- ---- next values of hidden tables

-- whether a table's next value at a value and a letter is this one
abbrev pub leads : List ℕ → ℕ → Value → Value → Value → Bool
leads next letters to v letter = slice_index next (nat_abs (number_of v) * letters + nat_abs (number_of letter)) == nat_abs (number_of to)

-- each of these values, where the table leads to it from one of the first by one of the letters
abbrev pub led_to : List ℕ → ℕ → List Case → List Case → List Value → List Case
led_to next letters vs ls tos = map (λ to. record { value = to; holds = some_pair (leads next letters to) vs ls }) tos

-- the values of the table numbered k, where its present value and the letter of its atoms lead to them
abbrev pub following : List DomainData → ℕ → HiddenData → List Function → List Case
following ds k h atoms = led_to h.next (2 ^ length atoms) (coded ds Now k (table_domain h)) (lettered atoms) (values_of (table_domain h))

-- its next value is the one that follows
abbrev pub table_update : List DomainData → ℕ → HiddenData → List Function → Function
table_update ds k h atoms = some_pair (compare_values Eq) (coded ds Next k (table_domain h)) (following ds k h atoms)

-- that of each table in order, after the entries so far
abbrev pub updates_after : GameData → Entries → List HiddenData → List Function
updates_after g entries [] = []
updates_after g entries (h ∷ hs) = table_update (state_domains g) (length entries) h (map (truth_in g entries Now) h.atoms) ∷ updates_after g (entries ++ table_entries g entries h ∷ []) hs

-- where the next value of each hidden table is the one that follows
abbrev pub updates_of : GameData → List Function
updates_of g = updates_after g [] g.hidden

-- ---- functions joined in a row

abbrev pub folded : Fold → List Function → Function
folded fold.All fs = all_of fs
folded fold.Some fs = some_of fs

-- ---- which bits are of a state

-- the slot numbered k has the code of one of its values
abbrev pub has_some_value : List DomainData → At → ℕ → Function
has_some_value ds at k = some_of (map (λ c. c.holds) (coded ds at k (domain_in ds k)))

-- each slot has
abbrev pub proper : List DomainData → At → Function
proper ds at = all_of (map (has_some_value ds at) (below (length ds)))
