use Rattle.std.proofs.Common.{◌≡◌, ◌++◌, map, drop}
use Rattle.spec_model.specs.Views.{formula, line_data, spec_data}
use Rattle.hidden_game.specs.GameOf.{lines_for}
use Rattle.hidden_game.proofs.source.Source.lines.Given as goal

abbrev pub invariant-loop-line : goal.invariant-loop-line
invariant-loop-line l =
    map (λ e. (e.0, formula e.1)) l.all.items ++ lines_for (spec_data l.self.spec.now) l.player l.time (map line_data (drop l.line-index l.self.spec.now.lines.items))
    ≡ lines_for (spec_data l.self.spec.now) l.player l.time (spec_data l.self.spec.now).lines
