use Rattle.std.proofs.Common.{◌≡◌, ◌++◌, map, drop}
use Rattle.spec_model.specs.Views.{line_data, spec_data}
use Rattle.spec_model.specs.GameViews.{hidden_data}
use Rattle.hidden_game.specs.GameOf.{tables_for}
use Rattle.hidden_game.specs.Sources.{AreKept}
use Rattle.hidden_game.proofs.source.Source.add_line_tables.Given as goal

-- the tables so far and those of the lines that are left
abbrev pub invariant-loop-line : goal.invariant-loop-line
invariant-loop-line l =
    record {
      made : map hidden_data l.hidden.items ++ tables_for (spec_data l.self.spec.now) (map line_data (drop l.line-index l.self.spec.now.lines.items))
          ≡ map hidden_data l.initial.hidden.items ++ tables_for (spec_data l.self.spec.now) (spec_data l.self.spec.now).lines;
      kept : AreKept (spec_data l.self.spec.now).patterns l.kept;
    }
