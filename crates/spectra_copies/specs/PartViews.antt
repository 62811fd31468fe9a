-- What the program's quantifiers stand for.
use Rattle.std.specs.Prelude.{map}
use Rattle.spectra_resolved.specs.Resolved.{Form}
use Rattle.spectra_resolved.specs.Chained.{trees}
use Rattle.spectra_resolved.specs.Views.{resolved_data}
use Rattle.spectra_copies.specs.declared.parts.Quantifier.{Quantifier}

abbrev pub quantifier_data : Quantifier → Form
quantifier_data q = Form.Quantified q.word q.variable q.extent (resolved_data q.low.now) (resolved_data q.high.now) (trees (map resolved_data q.copies.now))
