use Rattle.std.proofs.Common.{◌≡◌, ◌∷◌, take}
use Rattle.pattern_rows.proofs.choices.prepended.Given as goal

abbrev pub invariant-loop-x : goal.invariant-loop-x
invariant-loop-x l = l.list.items ≡ l.fn.head ∷ take l.x-index l.tail
