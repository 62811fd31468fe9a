-- Which of two moments is read, as a time.
use Rattle.std.specs.Prelude.{ℕ}
use Rattle.game_values.specs.declared.seen.At.{At}
use Rattle.game_values.specs.declared.seen.At.TheVariants.{Now, Next}

abbrev pub time_of : At → ℕ
time_of Now = 0
time_of Next = 1
