-- Slots of neighbouring levels, and the levels that they have under an order.
use Rattle.std.specs.Prelude.{◌+◌, ◌==◌, ◌++◌, ℕ, zero, suc, if◌then◌else◌, List, [], ◌∷◌, length, slice_index_or}
use Rattle.std.specs.List.{sum_by, range_with_len}
use Rattle.std.specs.List.Sorted.{IsPermutation}

-- how many levels the slot has
abbrev pub width_at : List ℕ → ℕ → ℕ
width_at widths slot = slice_index_or widths slot 0

-- how many levels these slots have together
abbrev pub total : List ℕ → List ℕ → ℕ
total widths slots = sum_by (width_at widths) slots

-- how many levels the slots before this one have
abbrev pub start_in : List ℕ → List ℕ → ℕ → ℕ
start_in widths [] slot = 0
start_in widths (before ∷ order) slot = if before == slot then 0 else width_at widths before + start_in widths order slot

-- the new levels of the levels of the first so many slots
abbrev pub levels_upto : List ℕ → List ℕ → ℕ → List ℕ
levels_upto widths order zero = []
levels_upto widths order (suc slot) = levels_upto widths order slot ++ range_with_len (start_in widths order slot) (width_at widths slot)

-- the new level of each level that there is where the slots stand as they are numbered
abbrev pub levels_under : List ℕ → List ℕ → List ℕ
levels_under widths order = levels_upto widths order (length widths)

-- the slots as they are numbered
abbrev pub slots_of : List ℕ → List ℕ
slots_of widths = range_with_len 0 (length widths)

-- the order has each slot once
abbrev pub IsOrder : List ℕ → List ℕ → Type 0
IsOrder widths order = IsPermutation (slots_of widths) order
