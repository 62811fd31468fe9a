-- What is at each of up to 64 letters: bit l of a word is for letter l.
use Rattle.std.specs.Prelude.{◌==◌, ℕ, Bool}
use Rattle.std.specs.Int.{bit_at}
use Rattle.spec_model.specs.declared.value.Value.{Value}
use Rattle.spec_model.specs.declared.value.Value.TheVariants as value
use Rattle.pattern_rows.specs.declared.wide.Wide.{Wide}
use Rattle.pattern_rows.specs.declared.wide.Wide.TheVariants.{Same, Truths}

abbrev pub bit : ℕ → ℕ → Bool
bit word l = bit_at word l == 1

abbrev pub value_in : Wide → ℕ → Value
value_in (Same v) l = v
value_in (Truths word) l = value.Bool (bit word l)
