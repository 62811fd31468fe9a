use Rattle.std.proofs.Common.{◌≡◌, map, take}
use Rattle.game_play.specs.Sights.{cell_in}
use Rattle.serde_json.specs.View.{view}
use Rattle.strategy_text.specs.Written.{count_json}
use Rattle.strategy_text.proofs.writing.cells.Given as goal

abbrev pub invariant-loop-value : goal.invariant-loop-value
invariant-loop-value l = map view l.list.items ≡ map count_json (take l.value-index (map cell_in l.hidden))
