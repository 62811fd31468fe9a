use Rattle.bdd_reorder.specs.Turns.{origin, IsTurn, turns_left}
use Rattle.bdd_reorder.proofs.parts.part.Given as goal

-- the part is being copied
abbrev pub invariant-loop-turn : goal.invariant-loop-turn
invariant-loop-turn l = IsTurn (origin l.fn.from l.fn.to l.levels l.a l.fn.memo.copies.items) l.from l.to l.memo.copies.items l.frames.items l.turn

abbrev pub decreases-loop-turn : goal.decreases-loop-turn
decreases-loop-turn l = turns_left l.fn.from.state.table l.frames.items l.turn
