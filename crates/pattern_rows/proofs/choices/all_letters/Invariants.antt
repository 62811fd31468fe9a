use Rattle.std.proofs.Common.{◌≡◌, map}
use Rattle.pattern_rows.specs.Rows.{letters}
use Rattle.pattern_rows.proofs.choices.all_letters.Given as goal

abbrev pub invariant-loop-i : goal.invariant-loop-i
invariant-loop-i l = map (λ c. c.items) l.all.items ≡ letters l.i
