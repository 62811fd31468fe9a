-- Which hidden tables and variables a formula names, and at which time: each by its slot among the values of a state.
use Rattle.std.specs.Prelude.{ℕ, ◌==◌, Bool, true, false, ◌&&◌, ◌||◌, List, [], ◌∷◌, ◌++◌, length, get_or, map, filter}
use Rattle.spec_model.specs.Syntax.{Formula, Constant, Variable, NextOf, Negation, Conjunction, Disjunction, Implication, Equivalence, Comparison, Sum, Difference, Product, Remainder, PastOf, Entry, Formulas, formulas}
use Rattle.spec_model.specs.Games.{HiddenData, GameData}
use Rattle.spec_model.specs.Steps.{below}
use Rattle.game_values.specs.declared.seen.At.{At}
use Rattle.game_values.specs.declared.seen.At.TheVariants.{Now, Next}
use Rattle.bit_compile.specs.Domains.{state_domains}
use Rattle.bit_compile.specs.Compiled.{place_of}
use Rattle.line_functions.specs.declared.slots.TimedSlot.{TimedSlot}

abbrev pub same_time : At → At → Bool
same_time Now Now = true
same_time Next Next = true
same_time _ _ = false

-- Whether a formula, read at a time, names the slot numbered k at the time that is asked about. A variable names its own slot, and
-- an entry of a hidden table names it where it is marked that the table's entries do.
module _ (g : GameData) (k : ℕ) (asked : At) (marks : List Bool) where
  abbrev mutual
    pub names : At → Formula → Bool
    names at (Constant v) = false
    names at (Variable x) = same_time at asked && (place_of g x == k)
    names at (NextOf e) = names Next e
    names at (Negation e) = names at e
    names at (Conjunction es) = some_names at es
    names at (Disjunction es) = some_names at es
    names at (Implication a b) = names at a || names at b
    names at (Equivalence a b) = names at a || names at b
    names at (Comparison c a b) = names at a || names at b
    names at (Sum a b) = names at a || names at b
    names at (Difference a b) = names at a || names at b
    names at (Product a b) = names at a || names at b
    names at (Remainder a n) = names at a
    names at (PastOf op es) = some_names at es
    names at (Entry h n) = same_time at asked && get_or marks h false

    pub some_names : At → Formulas → Bool
    some_names at Formulas.none = false
    some_names at (Formulas.one_more e es) = names at e || some_names at es

-- ---- hidden tables

-- Whether a table's entries name the slot numbered k, at the time of the entry: it is the table's own, which comes after those that
-- are marked, or an atom of the table names it.
abbrev pub table_names : GameData → ℕ → (marks : List Bool) → HiddenData → Bool
table_names g k marks h = (length marks == k) || some_names g k Now marks Now (formulas h.atoms)

-- those of each table in order, after the ones so far: the atoms of one read only the entries of earlier ones
abbrev pub marks_after : GameData → ℕ → List Bool → List HiddenData → List Bool
marks_after g k marks [] = marks
marks_after g k marks (h ∷ hs) = marks_after g k (marks ++ table_names g k marks h ∷ []) hs

-- for each hidden table, whether its entries name the slot
abbrev pub marks_of : GameData → ℕ → List Bool
marks_of g k = marks_after g k [] g.hidden

-- ---- formulas over a state and the next one

-- whether the formula names the slot numbered k at this time, itself or through the atoms of its tables
abbrev pub is_named : GameData → Formula → At → ℕ → Bool
is_named g e time k = names g k time (marks_of g k) Now e

abbrev pub slot_at : At → ℕ → TimedSlot
slot_at time k = record { at = time; slot = k }

-- all slots that it names at this time, in the order of a state
abbrev pub named_at : GameData → Formula → At → List TimedSlot
named_at g e time = map (slot_at time) (filter (is_named g e time) (below (length (state_domains g))))

-- those that it names at present, and then those that it names at the next time
abbrev pub named_in : GameData → Formula → List TimedSlot
named_in g e = named_at g e Now ++ named_at g e Next
