use Rattle.std.proofs.Common.{◌≡◌, ℕ, ◌<◌, length, map, drop, get_or, None}
use Rattle.spec_model.specs.Views.{pattern_data}
use Rattle.pattern_rows.specs.Rows.{may_follow}
use Rattle.pattern_rows.specs.ToldRows.{scan}
use Rattle.pattern_rows.specs.Blocks.{letter_in}
use Rattle.pattern_rows.proofs.found.find.Given as goal

-- at each letter what is left leads to the answer
abbrev pub invariant-loop-k : goal.invariant-loop-k
invariant-loop-k l =
    record {
      sized : length l.found ≡ length l.letters;
      same : (i : ℕ) → i < length l.letters →
          scan (may_follow (pattern_data l.pattern) (letter_in (map (λ c. c.items) l.letters) i) l.own) (get_or l.found i None) l.k (map (λ c. c.items) (drop l.k l.owns))
          ≡ scan (may_follow (pattern_data l.pattern) (letter_in (map (λ c. c.items) l.letters) i) l.own) None 0 (map (λ c. c.items) l.owns);
    }
