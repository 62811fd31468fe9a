-- The names in a table of enum names.
use Rattle.std.specs.Prelude.{ℕ, List, map}
use Rattle.spectra_resolved.specs.declared.enum_names.EnumNames.{EnumNames}

abbrev pub names_in : EnumNames → List (List ℕ)
names_in names = map (λ k. k.now) names.texts.keys
