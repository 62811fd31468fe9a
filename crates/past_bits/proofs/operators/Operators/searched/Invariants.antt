use Rattle.std.proofs.Common.{◌≡◌, ◌+◌, map, drop}
use Rattle.spec_model.specs.Syntax.{PastOf}
use Rattle.game_values.specs.Safety.{formulas_in}
use Rattle.past_bits.specs.Entries.{place_of}
use Rattle.past_bits.specs.Bits.{tree_of}
use Rattle.past_bits.proofs.operators.Operators.searched.Given as goal

-- the place is past those seen so far
abbrev pub invariant-loop-k : goal.invariant-loop-k
invariant-loop-k l = l.k + place_of (map tree_of (drop l.k l.self)) (PastOf l.op (formulas_in l.operands)) ≡ place_of (map tree_of l.self) (PastOf l.op (formulas_in l.operands))
