-- What the program's constants and types stand for.
use Rattle.std.specs.Prelude.{map}
use Rattle.spectra_judge.specs.KindViews.{kind_data}
use Rattle.spectra_bounds.specs.declared.constants.Constant as code_constant
use Rattle.spectra_bounds.specs.declared.constants.Constants as code_constants
use Rattle.spectra_bounds.specs.Numbers.{Constant, Constants}

abbrev pub constant_data : code_constant.Constant → Constant
constant_data c = record { number = c.number; kind = kind_data c.kind }

abbrev pub constants_data : code_constants.Constants → Constants
constants_data c = record { numbers = c.numbers.items; kinds = map kind_data c.kinds.items }
