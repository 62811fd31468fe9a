use Rattle.std.proofs.Common.{◌≡◌, map, drop}
use Rattle.serde_json.specs.View.{view}
use Rattle.strategy_text.specs.Reading.{all_read, small_of}
use Rattle.strategy_text.proofs.Lists.{before}
use Rattle.strategy_text.proofs.parts.smalls.Given as goal

-- what is left decides
abbrev pub invariant-loop-json : goal.invariant-loop-json
invariant-loop-json l = before l.numbers.items (all_read small_of (drop l.json-index (map view l.list))) ≡ all_read small_of (map view l.list)
