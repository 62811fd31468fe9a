-- The names that a list of the program's has.
use Rattle.std.specs.Prelude.{List, map}
use Rattle.std.specs.Borrow.{Bor}
use Rattle.spectra_trees.specs.declared.tree.Name.{Name}
use Rattle.spectra_trees.specs.Data.{NameData}
use Rattle.spectra_trees.specs.Views.{name_data}

abbrev pub names_data : List (Bor Name) → List NameData
names_data names = map (λ n. name_data n.now) names
