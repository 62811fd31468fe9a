-- The answers that cells hold.
use Rattle.std.specs.Prelude.{ℕ, ◌-◌, ◌∷◌, List, map, nat_lt, if◌then◌else◌}
use Rattle.bdd_cache.specs.declared.answer.Answer.{Answer}
use Rattle.bdd_cache.specs.declared.cell.Cell.{Cell}

-- the operation that the rest of a cell tells: below 2^31 that with three nodes
abbrev pub operation_in : ℕ → ℕ
operation_in rest = if nat_lt rest 2147483648 then 1 else rest - 2147483648

-- the third node that it tells
abbrev pub third_in : ℕ → ℕ
third_in rest = if nat_lt rest 2147483648 then rest else 0

-- the answer in a cell
abbrev pub answer_in : Cell → Answer
answer_in cell = record { op = operation_in cell.rest; a = cell.a; b = cell.b; c = third_in cell.rest; r = cell.r }

-- the answers of a table: that of each cell, and one that fits into none
abbrev pub answers_in : Answer → List Cell → List Answer
answers_in wide cells = wide ∷ map answer_in cells
