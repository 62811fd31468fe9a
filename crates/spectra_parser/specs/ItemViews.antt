-- What the program's parts of items stand for.
use Rattle.std.specs.Prelude.{option_map}
use Rattle.spectra_trees.specs.declared.tree.Name.{Name}
use Rattle.spectra_trees.specs.declared.tree.ExprTree.{ExprTree}
use Rattle.spectra_trees.specs.declared.tree.TypeTree.{TypeTree}
use Rattle.spectra_parser.specs.declared.lines.Said.{Said as SaidTree}
use Rattle.spectra_trees.specs.Data.{NameData, Expression, TypeData}
use Rattle.spectra_trees.specs.Views.{name_data, expr_data, type_data, body_data}
use Rattle.spectra_parser.specs.ItemGrammar.{Said}

abbrev pub body_pair : Name × ExprTree → NameData × Expression
body_pair b = (name_data b.0, expr_data b.1)

abbrev pub parameter_pair : TypeTree × Name → TypeData × NameData
parameter_pair p = (type_data p.0, name_data p.1)

abbrev pub said_data : SaidTree → Said
said_data s = (option_map name_data s.name, body_data s.body)
