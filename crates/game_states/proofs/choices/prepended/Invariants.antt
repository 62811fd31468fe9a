use Rattle.std.proofs.Common.{◌≡◌, ◌∷◌, take}
use Rattle.game_states.proofs.choices.prepended.Given as goal

abbrev pub invariant-loop-x : goal.invariant-loop-x
invariant-loop-x g l = l.list.items ≡ l.fn.head ∷ take l.x-index l.tail
