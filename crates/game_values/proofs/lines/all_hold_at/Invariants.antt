use Rattle.std.proofs.Common.{◌≡◌, drop, map, false}
use Rattle.std.specs.List.{list_all}
use Rattle.spec_model.specs.Views.{formula}
use Rattle.game_values.specs.Moments.{moment_data}
use Rattle.game_values.specs.Lines.{AreLinesSafe, line_at}
use Rattle.game_values.proofs.lines.all_hold_at.Given as goal

abbrev pub invariant-loop-line : goal.invariant-loop-line
invariant-loop-line l =
    record {
      safe : AreLinesSafe (map (λ r. moment_data r.moment) l.seen) l.before l.at (map (λ l'. formula l'.1) (drop l.line-index l.lines));
      same : list_all (line_at (map (λ r. moment_data r.moment) l.seen) l.before l.at false) (map (λ l'. formula l'.1) (drop l.line-index l.lines)) ≡ list_all (line_at (map (λ r. moment_data r.moment) l.seen) l.before l.at false) (map (λ l'. formula l'.1) l.lines);
    }
