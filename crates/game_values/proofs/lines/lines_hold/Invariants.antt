use Rattle.std.proofs.Common.{◌≡◌, drop, map}
use Rattle.spec_model.specs.Views.{formula}
use Rattle.game_values.specs.Moments.{moment_data}
use Rattle.game_values.specs.Lines.{AreLinesSafe, lines_at}
use Rattle.game_values.proofs.lines.lines_hold.Given as goal

abbrev pub invariant-loop-k : goal.invariant-loop-k
invariant-loop-k l =
    record {
      safe : AreLinesSafe (map (λ r. moment_data r.moment) l.seen) l.before l.at (map (λ l'. formula l'.1) (drop l.k l.lines));
      same : lines_at (map (λ r. moment_data r.moment) l.seen) l.before l.at (drop l.k l.late) (map (λ l'. formula l'.1) (drop l.k l.lines)) ≡ lines_at (map (λ r. moment_data r.moment) l.seen) l.before l.at l.late (map (λ l'. formula l'.1) l.lines);
    }
