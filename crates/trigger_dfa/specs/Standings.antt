-- The hidden table of a trigger.
use Rattle.std.specs.Prelude.{ℕ, suc, ◌^◌, Bool, true, false, not, ◌&&◌, if◌then◌else◌, List, [], ◌∷◌, ◌++◌, Option, Some, None, length, map, flat_map, filter}
use Rattle.std.specs.Bool.{beq}
use Rattle.std.specs.Cmp.Lexicographic.{pointwise}
use Rattle.spec_model.specs.Syntax.{Formula, TriggerData}
use Rattle.spec_model.specs.Games.{HiddenData}
use Rattle.spec_model.specs.TriggerStates.{Written, Positions, written, brackets, firsts, followers, members, read_of, letters, said_by, has_last, reached_sets, trigger_atoms}

-- ---- where a trigger stands

-- whether it waits for the effect, and which positions of that side may just have been read, once a letter of the side was
pub record Standing : Type 0 where
  pub waits : Bool
  pub read : Option Positions

abbrev pub at_start : Bool → Standing
at_start waits = record { waits = waits; read = None }

abbrev pub at_set : Bool → Positions → Standing
at_set waits set = record { waits = waits; read = Some set }

abbrev pub side_of : TriggerData → Bool → Written
side_of tr waits = written (if waits then tr.effect else tr.cause)

-- the positions that may be read next
abbrev pub next_positions : Written → Option Positions → List ℕ
next_positions w None = firsts 0 w
next_positions w (Some set) = flat_map (followers 0 w) (members 0 set)

-- a set with a last position is the start of the other side
abbrev pub settled : Bool → Written → Positions → Standing
settled waits w set = if has_last w set then at_start (not waits) else at_set waits set

-- the standing after a position of the run, of which a test tells each bracket
abbrev pub standing_after : TriggerData → (Formula → Bool) → Standing → Standing
standing_after tr test s =
    settled s.waits (side_of tr s.waits) (read_of test (next_positions (side_of tr s.waits) s.read) 0 (brackets (side_of tr s.waits)))

-- ---- values

-- every set that is reached: breadth first, by rising letters
abbrev pub all_sets : List Formula → Written → List Positions
all_sets atoms w = reached_sets atoms w (2 ^ length (brackets w))

-- those of them that are values
abbrev pub value_sets : List Formula → Written → List Positions
value_sets atoms w = filter (λ set. not (has_last w set)) (all_sets atoms w)

abbrev pub side_standings : TriggerData → Bool → List Standing
side_standings tr waits = at_start waits ∷ map (at_set waits) (value_sets (trigger_atoms tr) (side_of tr waits))

-- the standing of each value: the cause's, then the effect's
abbrev pub standings : TriggerData → List Standing
standings tr = side_standings tr false ++ side_standings tr true

abbrev pub same_read : Option Positions → Option Positions → Bool
same_read None None = true
same_read (Some a) (Some b) = pointwise beq a b
same_read _ _ = false

abbrev pub same_standing : Standing → Standing → Bool
same_standing s s' = beq s.waits s'.waits && same_read s.read s'.read

-- the first place at which the test holds
abbrev pub first_place : {X : Type 0} → (X → Bool) → List X → ℕ
first_place test [] = 0
first_place test (x ∷ xs) = if test x then 0 else suc (first_place test xs)

abbrev pub value_of : TriggerData → Standing → ℕ
value_of tr s = first_place (same_standing s) (standings tr)

-- ---- the table

-- what each standing has for each letter
abbrev pub by_standing : {X : Type 0} → TriggerData → (Standing → X) → List X
by_standing tr f =
    flat_map
    (λ s. map (λ letter. f (standing_after tr (said_by (trigger_atoms tr) letter) s)) (letters (length (trigger_atoms tr))))
    (standings tr)

-- its one truth table tells where no effect is pending
abbrev pub table_of : TriggerData → HiddenData
table_of tr =
    record {
      values = length (standings tr);
      first = 0;
      atoms = trigger_atoms tr;
      next = by_standing tr (value_of tr);
      tables = by_standing tr (λ s. not s.waits) ∷ [];
    }
