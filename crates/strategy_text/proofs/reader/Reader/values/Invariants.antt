use Rattle.std.proofs.Common.{◌≡◌, map, drop, vec_len}
use Rattle.serde_json.specs.View.{view}
use Rattle.spec_model.specs.Moves.{is_of, domains_of}
use Rattle.strategy_text.specs.Reading.{each_read, value_of, values_of}
use Rattle.strategy_text.specs.Views.{reader_names, reader_game}
use Rattle.strategy_text.proofs.Lists.{before}
use Rattle.strategy_text.proofs.reader.Reader.values.Given as goal

-- what is left decides
abbrev pub invariant-loop-var : goal.invariant-loop-var
invariant-loop-var l =
    before l.values.items (each_read (value_of (reader_names l.self)) (domains_of (is_of l.owner) (drop l.var-index (reader_game l.self).variables)) (drop (vec_len l.values) (map view l.list)))
    ≡ values_of (reader_names l.self) (reader_game l.self) l.owner (map view l.list)
