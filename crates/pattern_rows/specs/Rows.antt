-- The hidden table of a pattern: its values are the assignments of the own variables, and its letters those of the parameters.
use Rattle.std.specs.Prelude.{ℕ, zero, suc, Bool, true, false, List, [], ◌∷◌, ◌++◌, length, map, flat_map, replicate, not, ◌&&◌, nat_le}
use Rattle.std.specs.List.{position_or_len}
use Rattle.spec_model.specs.declared.value.Value.TheVariants as value
use Rattle.spec_model.specs.Values.{Assignment, assignments_of}
use Rattle.spec_model.specs.Syntax.{Formula, Variable, PatternData}
use Rattle.spec_model.specs.Patterns.{all_hold}
use Rattle.spec_model.specs.Steps.{below}
use Rattle.spec_model.specs.Games.{HiddenData}
use Rattle.spec_model.specs.Sizes.{domain_size, product}

-- the values of so many parameters at each letter, in the order of the letters: the first parameter is bit 0
abbrev pub letters : ℕ → List Assignment
letters zero = [] ∷ []
letters (suc n) = flat_map (λ l. (value.Bool false ∷ l) ∷ (value.Bool true ∷ l) ∷ []) (letters n)

-- whether the own variables may have these values at first, and whether these may follow others
abbrev pub may_begin : PatternData → Assignment → Bool
may_begin p own = all_hold p.first (replicate p.params (value.Bool false) ++ own) []

abbrev pub may_follow : PatternData → (letter own next : Assignment) → Bool
may_follow p letter own next = all_hold p.step (letter ++ own) (letter ++ next)

abbrev pub goal_holds : Formula → (letter own : Assignment) → Bool
goal_holds goal letter own = all_hold (goal ∷ []) (letter ++ own) []

-- what is at each value and letter
abbrev pub by_cell : {X : Type 0} → PatternData → ((letter own : Assignment) → X) → List X
by_cell p f = flat_map (λ own. map (λ letter. f letter own) (letters p.params)) (assignments_of p.domains)

-- The values are numbered in the order of the assignments, the last variable changing fastest. The atoms are the parameters.
-- Each next value is the first that the lines allow, and each goal has a truth table.
abbrev pub rows_of : PatternData → HiddenData
rows_of p =
    record {
      values = length (assignments_of p.domains);
      first = position_or_len (may_begin p) (assignments_of p.domains);
      atoms = map (λ k. Variable k) (below p.params);
      next = by_cell p (λ letter own. position_or_len (may_follow p letter own) (assignments_of p.domains));
      tables = map (λ goal. by_cell p (goal_holds goal)) p.goals;
    }

-- more than 8 parameters, or more than 64 values of the own variables
abbrev pub is_wide : PatternData → Bool
is_wide p = not (nat_le p.params 8 && nat_le (product (map domain_size p.domains)) 64)
