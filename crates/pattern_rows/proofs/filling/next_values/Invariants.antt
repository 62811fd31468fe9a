use Rattle.std.proofs.Common.{◌≡◌, ◌++◌, map, flat_map, drop, true}
use Rattle.std.specs.List.{list_all}
use Rattle.spec_model.specs.Values.{is_assignment}
use Rattle.spec_model.specs.Views.{pattern_data}
use Rattle.pattern_rows.specs.ToldRows.{next_after, are_told_after}
use Rattle.pattern_rows.proofs.filling.next_values.Given as goal

-- what is left decides
abbrev pub invariant-loop-own : goal.invariant-loop-own
invariant-loop-own l =
    record {
      fits : list_all (is_assignment (pattern_data l.pattern).domains) (map (λ c. c.items) (drop l.own-index l.owns)) ≡ true;
      added :
          l.next.items ++ flat_map (next_after (pattern_data l.pattern) (map (λ c. c.items) l.owns) (map (λ c. c.items) l.letters)) (map (λ c. c.items) (drop l.own-index l.owns))
          ≡ flat_map (next_after (pattern_data l.pattern) (map (λ c. c.items) l.owns) (map (λ c. c.items) l.letters)) (map (λ c. c.items) l.owns);
      told :
          list_all (are_told_after (pattern_data l.pattern) (map (λ c. c.items) l.owns) (map (λ c. c.items) l.letters)) (map (λ c. c.items) (drop l.own-index l.owns))
          ≡ list_all (are_told_after (pattern_data l.pattern) (map (λ c. c.items) l.owns) (map (λ c. c.items) l.letters)) (map (λ c. c.items) l.owns);
    }
