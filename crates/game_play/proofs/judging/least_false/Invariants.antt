use Rattle.std.proofs.Common.{◌≡◌, drop, map}
use Rattle.spec_model.specs.Views.{formula}
use Rattle.game_play.specs.Judged.{judged_in, numbers_false, AreSafeIn}
use Rattle.spec_model.specs.FirstBroken.{lesser, least as least_lem}
use Rattle.game_play.proofs.judging.least_false.Given as goal

-- what was found and what is left give the answer
abbrev pub invariant-loop-k : goal.invariant-loop-k
invariant-loop-k l =
    record {
      safe : AreSafeIn l.m (drop l.k l.lines);
      same : lesser l.found (least_lem (numbers_false (judged_in l.m) (drop l.k l.late) (map (λ l'. (l'.0, formula l'.1)) (drop l.k l.lines)))) ≡ least_lem (numbers_false (judged_in l.m) l.late (map (λ l'. (l'.0, formula l'.1)) l.lines));
    }
