use Rattle.std.proofs.Common.{◌≡◌, ◌==◌, ◌++◌, map, drop, true, length}
use Rattle.std.specs.List.{list_all}
use Rattle.spec_model.specs.Views.{pattern_data}
use Rattle.pattern_rows.specs.ToldRows.{next_after, are_told_after}
use Rattle.pattern_rows.proofs.found.add_each.Given as goal

-- what is left decides
abbrev pub invariant-loop-letter : goal.invariant-loop-letter
invariant-loop-letter l =
    record {
      long : list_all (λ s. length s == (pattern_data l.pattern).params) (map (λ c. c.items) (drop l.letter-index l.letters)) ≡ true;
      added :
          l.next.items ++ next_after (pattern_data l.pattern) (map (λ c. c.items) l.owns) (map (λ c. c.items) (drop l.letter-index l.letters)) l.own
          ≡ l.fn.next.items ++ next_after (pattern_data l.pattern) (map (λ c. c.items) l.owns) (map (λ c. c.items) l.letters) l.own;
      told :
          are_told_after (pattern_data l.pattern) (map (λ c. c.items) l.owns) (map (λ c. c.items) (drop l.letter-index l.letters)) l.own
          ≡ are_told_after (pattern_data l.pattern) (map (λ c. c.items) l.owns) (map (λ c. c.items) l.letters) l.own;
    }
