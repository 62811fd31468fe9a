use Rattle.std.proofs.Common.{◌≡◌, ℕ, ◌<◌, ◌≤◌, false, map, get_or}
use Rattle.spec_model.specs.declared.value.Value.TheVariants as value
use Rattle.spec_model.specs.Values.{truth_of}
use Rattle.pattern_rows.specs.Wides.{bit}
use Rattle.pattern_rows.specs.Blocks.{letter_in}
use Rattle.pattern_rows.proofs.words.parameter_word.Given as goal

abbrev pub invariant-loop-l : goal.invariant-loop-l
invariant-loop-l l =
    record {
      written : (j : ℕ) → j < l.l → bit l.word j ≡ truth_of (get_or (letter_in (map (λ c. c.items) l.letters) j) l.k (value.Bool false));
      free : (j : ℕ) → l.l ≤ j → bit l.word j ≡ false;
    }
