use Rattle.std.proofs.Common.{◌≡◌, ◌++◌, map, drop, flat_map}
use Rattle.spec_model.specs.Views.{formula, domain_data}
use Rattle.spectra_resolved.specs.TextViews.{pattern_line_data}
use Rattle.spectra_judge.specs.KindViews.{kind_data, known_data}
use Rattle.spectra_patterns.specs.Patterns.{domain_of, first_in, step_in, goals_in}
use Rattle.spectra_patterns.proofs.patterns.made_of.Given as goal

-- the lines of each sort so far and those of what is left are all
abbrev pub invariant-loop-line : goal.invariant-loop-line
invariant-loop-line l =
    record {
      params : l.made.params ≡ l.pattern.params;
      domains : map domain_data l.made.domains.items ≡ map domain_of (map kind_data l.own);
      first : map formula l.made.first.items ++ flat_map (first_in (known_data l.by.known) l.by.params) (map pattern_line_data (drop l.line-index l.lines)) ≡ flat_map (first_in (known_data l.by.known) l.by.params) (map pattern_line_data l.lines);
      step : map formula l.made.step.items ++ flat_map (step_in (known_data l.by.known) l.by.params) (map pattern_line_data (drop l.line-index l.lines)) ≡ flat_map (step_in (known_data l.by.known) l.by.params) (map pattern_line_data l.lines);
      goals : map formula l.made.goals.items ++ flat_map (goals_in (known_data l.by.known) l.by.params) (map pattern_line_data (drop l.line-index l.lines)) ≡ flat_map (goals_in (known_data l.by.known) l.by.params) (map pattern_line_data l.lines);
    }
