use Rattle.std.proofs.Common.{◌≡◌, ◌++◌, map, flat_map, drop, true}
use Rattle.std.specs.List.{list_all}
use Rattle.spec_model.specs.Values.{is_assignment}
use Rattle.spec_model.specs.Views.{formula, pattern_data}
use Rattle.pattern_rows.specs.Rows.{goal_holds}
use Rattle.pattern_rows.proofs.filling.entries.Given as goal

-- what is left leads to the answer
abbrev pub invariant-loop-own : goal.invariant-loop-own
invariant-loop-own l =
    record {
      fits : list_all (is_assignment (pattern_data l.pattern).domains) (map (λ c. c.items) (drop l.own-index l.owns)) ≡ true;
      added :
          l.table.items ++ flat_map (λ own. map (λ letter. goal_holds (formula l.goal) letter own) (map (λ c. c.items) l.letters)) (map (λ c. c.items) (drop l.own-index l.owns))
          ≡ flat_map (λ own. map (λ letter. goal_holds (formula l.goal) letter own) (map (λ c. c.items) l.letters)) (map (λ c. c.items) l.owns);
    }
