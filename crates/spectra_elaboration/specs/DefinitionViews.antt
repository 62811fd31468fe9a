-- What the program puts in for definitions.
use Rattle.spectra_elaboration.specs.declared.definitions.Definitions.{Definitions}
use Rattle.spectra_elaboration.specs.Putting.{Bodies}
use Rattle.spectra_elaboration.specs.PuttingViews.{bodies_data}

abbrev pub definitions_data : Definitions → Bodies
definitions_data d = bodies_data d.bodies.items
