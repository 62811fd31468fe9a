use Rattle.std.proofs.Common.{◌≡◌, map, drop, true, None}
use Rattle.std.specs.List.{list_all}
use Rattle.spec_model.specs.Values.{is_assignment}
use Rattle.spec_model.specs.Views.{pattern_data}
use Rattle.pattern_rows.specs.Rows.{may_begin}
use Rattle.pattern_rows.specs.ToldRows.{scan}
use Rattle.pattern_rows.proofs.numbering.first_own.Given as goal

-- what is left leads to the answer
abbrev pub invariant-loop-k : goal.invariant-loop-k
invariant-loop-k l =
    record {
      fits : list_all (is_assignment (pattern_data l.pattern).domains) (map (λ c. c.items) (drop l.k l.owns)) ≡ true;
      same : scan (may_begin (pattern_data l.pattern)) l.found l.k (map (λ c. c.items) (drop l.k l.owns)) ≡ scan (may_begin (pattern_data l.pattern)) None 0 (map (λ c. c.items) l.owns);
    }
