use Rattle.std.proofs.Common.{◌≡◌, ℕ, ◌<◌, ◌*◌, [], length, map, take, drop, get_or}
use Rattle.pattern_rows.specs.Blocks.{AreWordsOf}
use Rattle.pattern_rows.proofs.words.block_words.Given as goal

abbrev pub invariant-loop-c : goal.invariant-loop-c
invariant-loop-c l =
    record {
      many : length l.blocks.items ≡ l.c;
      words : (j : ℕ) → j < l.c → AreWordsOf (take 64 (drop (64 * j) (map (λ c. c.items) l.letters))) (get_or (map (λ c. c.items) l.blocks.items) j []);
    }
