use Rattle.std.proofs.Common.{◌≡◌, ℕ, ◌<◌, false, length, map, get_or}
use Rattle.spec_model.specs.declared.value.Value.TheVariants as value
use Rattle.spec_model.specs.Values.{truth_of}
use Rattle.pattern_rows.specs.Wides.{bit}
use Rattle.pattern_rows.specs.Blocks.{letter_in}
use Rattle.pattern_rows.proofs.words.parameter_words.Given as goal

abbrev pub invariant-loop-k : goal.invariant-loop-k
invariant-loop-k l =
    record {
      many : length l.words.items ≡ l.k;
      written : (i j : ℕ) → i < length l.letters → j < l.k → bit (get_or l.words.items j 0) i ≡ truth_of (get_or (letter_in (map (λ c. c.items) l.letters) i) j (value.Bool false));
    }
