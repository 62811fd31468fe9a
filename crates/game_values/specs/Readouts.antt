-- What a readout of the program stands for.
use Rattle.std.specs.Prelude.{map}
use Rattle.spec_model.specs.Games.{Readout as ReadoutData}
use Rattle.game_values.specs.declared.read.Readout.{Readout}

abbrev pub readout_data : Readout → ReadoutData
readout_data r = record { entries = map (λ es. es.items) r.moment.entries.items; next = r.next.items }
