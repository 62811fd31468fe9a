use Rattle.std.proofs.Common.{◌≡◌, ◌++◌, map, take, bit_and}
use Rattle.trigger_dfa.specs.Rows.{number_in}
use Rattle.trigger_dfa.proofs.walk.Walk.row.Given as goal

abbrev pub invariant-loop-mask : goal.invariant-loop-mask
invariant-loop-mask l =
    l.next.items ≡ l.initial.next.items ++ map (λ mask. number_in l.self.lasts l.sets l.start l.other (bit_and l.after mask)) (take l.mask-index l.self.masks.items)
