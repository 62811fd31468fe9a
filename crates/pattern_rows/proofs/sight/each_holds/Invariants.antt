use Rattle.std.proofs.Common.{◌≡◌, map, drop}
use Rattle.std.specs.List.{list_all}
use Rattle.spec_model.specs.Views.{formula}
use Rattle.spec_model.specs.Meaning.{holds_at}
use Rattle.game_values.specs.Safety.{AreSafe, formulas_in}
use Rattle.pattern_rows.specs.Sights.{reading_in}
use Rattle.pattern_rows.proofs.sight.each_holds.Given as goal

-- what is left decides, and may be asked for
abbrev pub invariant-loop-line : goal.invariant-loop-line
invariant-loop-line l =
    record {
      safe : AreSafe (reading_in l.s) (formulas_in (drop l.line-index l.lines)) 0;
      same : list_all (λ e. holds_at (reading_in l.s) e 0) (map formula (drop l.line-index l.lines)) ≡ list_all (λ e. holds_at (reading_in l.s) e 0) (map formula l.lines);
    }
