-- What the program's readings stand for.
use Rattle.spectra_cases.specs.declared.readings.Reading as code
use Rattle.spectra_cases.specs.declared.readings.Reading.TheVariants as variants
use Rattle.spectra_cases.specs.Formulas.{Reading, One, Here, Outside}

abbrev pub reading_data : code.Reading → Reading
reading_data (variants.One v) = One v
reading_data variants.Here = Here
reading_data variants.Outside = Outside
