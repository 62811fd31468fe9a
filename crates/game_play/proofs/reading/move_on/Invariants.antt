use Rattle.std.proofs.Common.{◌≡◌, ◌++◌, map, take, drop, pos}
use Rattle.spec_model.specs.declared.value.Value.TheVariants as value
use Rattle.spec_model.specs.GameViews.{hidden_data}
use Rattle.game_play.specs.Sights.{nexts_at}
use Rattle.game_play.proofs.reading.move_on.Given as goal

-- the values so far are written, the others are as they were
abbrev pub invariant-loop-k : goal.invariant-loop-k
invariant-loop-k l = l.out ≡ take l.k (map (λ v. value.Int (pos v)) (nexts_at (map hidden_data l.fn.hidden) l.fn.cells)) ++ drop l.k l.fn.out
