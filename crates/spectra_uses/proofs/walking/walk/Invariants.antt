use Rattle.std.proofs.Common.{◌+◌, ◌-◌, length, map}
use Rattle.spectra_uses.specs.Searching.{marked}
use Rattle.spectra_uses.specs.Walking.{IsWalk}
use Rattle.spectra_uses.proofs.walking.walk.Given as goal

-- those before the head have been followed
abbrev pub invariant-loop-head : goal.invariant-loop-head
invariant-loop-head l = IsWalk (map (λ us. us.items) l.links) l.from l.fn.marks.items l.marks.items l.reached.items l.head

abbrev pub decreases-loop-head : goal.decreases-loop-head
decreases-loop-head l = length l.marks.items - (marked l.fn.marks.items + l.head)
