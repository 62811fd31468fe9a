-- What holds of the table of every pattern that is determined, on every run.
use Rattle.std.specs.Prelude.{◌≡◌, ℕ, zero, suc, ◌+◌, ◌*◌, ◌^◌, Bool, true, false, ◌&&◌, ◌==◌, nat_lt, List, [], length, map, Some, slice_get, slice_index, get_or}
use Rattle.std.specs.List.{list_all}
use Rattle.spec_model.specs.declared.value.Value.TheVariants as value
use Rattle.spec_model.specs.Values.{Assignment, assignments_of}
use Rattle.spec_model.specs.Syntax.{Formula, PatternData}
use Rattle.spec_model.specs.Patterns.{own_at, pattern_holds, is_determined}
use Rattle.spec_model.specs.Games.{HiddenData, letter_of}
use Rattle.spec_model.specs.WellMade.{cell_count}
use Rattle.pattern_rows.specs.Patterns.{IsPattern}
use Rattle.pattern_rows.specs.Rows.{rows_of, is_wide}

-- the cell of a table at a value and a letter
abbrev pub cell_in : HiddenData → ℕ → List Bool → ℕ
cell_in h value bits = value * 2 ^ length h.atoms + letter_of bits

-- the table's value at each position, where its atoms have these values
abbrev pub value_at_time : HiddenData → (ℕ → List Bool) → ℕ → ℕ
value_at_time h bits zero = h.first
value_at_time h bits (suc t) = slice_index h.next (cell_in h (value_at_time h bits t) (bits t))

-- the parameters have these truth values at each position
abbrev pub arguments_of : (ℕ → List Bool) → ℕ → Assignment
arguments_of bits t = map (λ b. value.Bool b) (bits t)

-- On every run and at every position, the table's value is the number of the own variables' values, and the entry for each
-- goal is whether it holds.
pub record IsTableOf (p : PatternData) : Type 0 where
  pub value : (bits : ℕ → List Bool) → ((t : ℕ) → length (bits t) ≡ p.params) → (t : ℕ) →
      slice_get (assignments_of p.domains) (value_at_time (rows_of p) bits t) ≡ Some (own_at p (arguments_of bits) t)
  pub entry : (bits : ℕ → List Bool) → ((t : ℕ) → length (bits t) ≡ p.params) → (t part : ℕ) (goal : Formula) → slice_get p.goals part ≡ Some goal →
      get_or (get_or (rows_of p).tables part []) (cell_in (rows_of p) (value_at_time (rows_of p) bits t) (bits t)) false ≡ pattern_holds p (arguments_of bits) goal t

-- ---- whole tables, and patterns that have one

-- It has a value; its first and next values are among its values; and nothing is left out.
abbrev pub is_filled : HiddenData → Bool
is_filled h =
    nat_lt h.first h.values && (list_all (λ v. nat_lt v h.values) h.next && (length h.next == cell_count h && list_all (λ table. length table == cell_count h) h.tables))

-- the call that gives tables is not refused for the pattern, want of memory aside
pub record HasTable (p : PatternData) : Type 0 where
  pub pattern : IsPattern p
  pub narrow : is_wide p ≡ false
  pub determined : is_determined p ≡ true
