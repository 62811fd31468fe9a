-- What the program's basis of bounds stands for.
use Rattle.spectra_judge.specs.KindViews.{known_data}
use Rattle.spectra_bounds.specs.TypeViews.{constants_data}
use Rattle.spectra_elaboration.specs.DefinitionViews.{definitions_data}
use Rattle.spectra_bodies.specs.declared.basis.Basis as code_basis
use Rattle.spectra_bodies.specs.Faults.{Basis}

abbrev pub basis_data : code_basis.Basis → Basis
basis_data b = record { constants = constants_data b.constants.now; bodies = definitions_data b.definitions.now; known = known_data b.known }
