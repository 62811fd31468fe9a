-- What the program's sizes stand for.
use Rattle.spectra_cases.specs.declared.sizes.Size.{Size}
use Rattle.spectra_cases.specs.declared.sizes.Wrap.{Wrap}
use Rattle.spectra_cases.specs.declared.sizes.Side.{Side}
use Rattle.spectra_cases.specs.Sizes.{SizeOf, WrapOf, SideOf}

abbrev pub size_data : Size → SizeOf
size_data s = record { nodes = s.nodes; levels = s.levels }

abbrev pub wrap_data : Wrap → WrapOf
wrap_data w = record { times = w.times; more = w.more; above = w.above; least = w.least }

abbrev pub side_data : Side → SideOf
side_data s = record { own = size_data s.own; wrap = wrap_data s.wrap }
