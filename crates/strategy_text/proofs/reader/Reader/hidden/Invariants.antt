use Rattle.std.proofs.Common.{◌≡◌, map, drop}
use Rattle.game_play.specs.Sights.{cell_in}
use Rattle.serde_json.specs.View.{view}
use Rattle.spec_model.specs.Games.{HiddenData}
use Rattle.strategy_text.specs.Reading.{each_read, count_below, hidden_of}
use Rattle.strategy_text.specs.Views.{reader_game}
use Rattle.strategy_text.proofs.Lists.{before}
use Rattle.strategy_text.proofs.reader.Reader.hidden.Given as goal

-- what is left decides
abbrev pub invariant-loop-i : goal.invariant-loop-i
invariant-loop-i l =
    before (map cell_in l.cells.items) (each_read (λ (h : HiddenData). count_below h.values) (drop l.i (reader_game l.self).hidden) (drop l.i (map view l.list)))
    ≡ hidden_of (reader_game l.self) (map view l.list)
