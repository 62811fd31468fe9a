use Rattle.std.proofs.Common.{◌≡◌, map, take}
use Rattle.serde_json.specs.View.{view}
use Rattle.strategy_text.specs.Written.{count_json}
use Rattle.strategy_text.proofs.writing.small_numbers.Given as goal

abbrev pub invariant-loop-n : goal.invariant-loop-n
invariant-loop-n l = map view l.list.items ≡ map count_json (take l.n-index l.numbers)
