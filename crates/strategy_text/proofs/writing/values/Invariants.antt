use Rattle.std.proofs.Common.{◌≡◌, map, take, string_bytes}
use Rattle.serde_json.specs.View.{view}
use Rattle.strategy_text.specs.Written.{value_json}
use Rattle.strategy_text.proofs.writing.values.Given as goal

abbrev pub invariant-loop-value : goal.invariant-loop-value
invariant-loop-value l = map view l.list.items ≡ map (value_json (map string_bytes l.names)) (take l.value-index l.values)
