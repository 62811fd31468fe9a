-- What a mention of a name stands for.
use Rattle.spectra_resolved.specs.declared.spot.Mention.{Mention}
use Rattle.spectra_resolved.specs.Spots.{MentionData}

-- what the program's stand for
abbrev pub mention_data : Mention → MentionData
mention_data m = record { text = m.text.now; at = m.at }
