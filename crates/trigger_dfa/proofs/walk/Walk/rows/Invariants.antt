use Rattle.std.proofs.Common.{◌≡◌, ◌++◌, flat_map, take}
use Rattle.trigger_dfa.specs.Rows.{row_of}
use Rattle.trigger_dfa.specs.Words.{joined_word}
use Rattle.trigger_dfa.proofs.walk.Walk.rows.Given as goal

abbrev pub invariant-loop-set : goal.invariant-loop-set
invariant-loop-set l =
    l.next.items ≡ l.fn.next.items ++ (row_of l.self l.sets l.start l.other l.self.firsts ++ flat_map (λ set. row_of l.self l.sets l.start l.other (joined_word 0 l.self.follow.items set)) (take l.set-index l.sets))
