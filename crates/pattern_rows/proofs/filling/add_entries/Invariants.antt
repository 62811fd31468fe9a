use Rattle.std.proofs.Common.{◌≡◌, ◌==◌, ◌++◌, map, drop, true, length}
use Rattle.std.specs.List.{list_all}
use Rattle.spec_model.specs.Views.{formula, pattern_data}
use Rattle.pattern_rows.specs.Rows.{goal_holds}
use Rattle.pattern_rows.proofs.filling.add_entries.Given as goal

-- what is left leads to the answer
abbrev pub invariant-loop-letter : goal.invariant-loop-letter
invariant-loop-letter l =
    record {
      long : list_all (λ s. length s == (pattern_data l.pattern).params) (map (λ c. c.items) (drop l.letter-index l.letters)) ≡ true;
      added :
          l.table.items ++ map (λ letter. goal_holds (formula l.goal) letter l.own) (map (λ c. c.items) (drop l.letter-index l.letters))
          ≡ l.fn.table.items ++ map (λ letter. goal_holds (formula l.goal) letter l.own) (map (λ c. c.items) l.letters);
    }
