use Rattle.std.proofs.Common.{◌≡◌, replicate, None}
use Rattle.hidden_game.proofs.tables.nothing_kept.Given as goal

abbrev pub invariant-loop-k : goal.invariant-loop-k
invariant-loop-k l = l.kept.items ≡ replicate l.k None
