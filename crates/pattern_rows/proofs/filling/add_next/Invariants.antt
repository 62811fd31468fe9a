use Rattle.std.proofs.Common.{◌≡◌, ◌++◌, ◌*◌, map, drop}
use Rattle.spec_model.specs.Views.{pattern_data}
use Rattle.pattern_rows.specs.ToldRows.{next_after, are_told_after}
use Rattle.pattern_rows.proofs.filling.add_next.Given as goal

-- what is left decides
abbrev pub invariant-loop-c : goal.invariant-loop-c
invariant-loop-c l =
    record {
      added :
          l.next.items ++ next_after (pattern_data l.pattern) (map (λ c. c.items) l.owns) (drop (64 * l.c) (map (λ c. c.items) l.letters)) l.own
          ≡ l.fn.next.items ++ next_after (pattern_data l.pattern) (map (λ c. c.items) l.owns) (map (λ c. c.items) l.letters) l.own;
      told :
          are_told_after (pattern_data l.pattern) (map (λ c. c.items) l.owns) (drop (64 * l.c) (map (λ c. c.items) l.letters)) l.own
          ≡ are_told_after (pattern_data l.pattern) (map (λ c. c.items) l.owns) (map (λ c. c.items) l.letters) l.own;
    }
