-- The standings of a trigger, and the cells, values and entries of its table, along a run.
use Rattle.std.specs.Prelude.{ℕ, zero, suc, ◌+◌, ◌*◌, ◌^◌, Bool, false, [], length, map, slice_index, get_or}
use Rattle.spec_model.specs.Syntax.{TriggerData}
use Rattle.spec_model.specs.Meaning.{Reading, holds_at}
use Rattle.spec_model.specs.Games.{HiddenData, letter_of}
use Rattle.trigger_dfa.specs.Standings.{Standing, at_start, standing_after}

-- ---- where a trigger stands

-- the standing at each position of a run
abbrev pub standing_along : Reading → TriggerData → ℕ → Standing
standing_along r tr zero = at_start false
standing_along r tr (suc t) = standing_after tr (λ e. holds_at r e t) (standing_along r tr t)

-- ---- along a run

abbrev pub cell_along : HiddenData → Reading → (v t : ℕ) → ℕ
cell_along h r v t = v * 2 ^ length h.atoms + letter_of (map (λ e. holds_at r e t) h.atoms)

-- the value at each position, which the table gives from the first one on
abbrev pub value_along : HiddenData → Reading → ℕ → ℕ
value_along h r zero = h.first
value_along h r (suc t) = slice_index h.next (cell_along h r (value_along h r t) t)

abbrev pub entry_along : HiddenData → Reading → (part t : ℕ) → Bool
entry_along h r part t = get_or (get_or h.tables part []) (cell_along h r (value_along h r t) t) false
