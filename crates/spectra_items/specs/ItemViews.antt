-- The plain data of a predicate's, a pattern's and a line's item, and of small name spaces.
use Rattle.std.specs.Prelude.{List, map, option_map}
use Rattle.spectra_trees.specs.declared.tree.Name.{Name}
use Rattle.spectra_trees.specs.declared.tree.TypeTree.{TypeTree}
use Rattle.spectra_trees.specs.declared.tree.ExprTree.{ExprTree}
use Rattle.spectra_trees.specs.declared.tree.PredicateItem.{PredicateItem}
use Rattle.spectra_trees.specs.declared.tree.PatternItem.{PatternItem}
use Rattle.spectra_trees.specs.declared.tree.LineItem.{LineItem}
use Rattle.spectra_trees.specs.Data.{NameData, TypeData, Expression, PredicateData, PatternData, LineData}
use Rattle.spectra_trees.specs.Views.{name_data, expr_data, type_data, part_data, body_data}
use Rattle.spectra_resolved.specs.declared.spot.Mention.{Mention}
use Rattle.spectra_resolved.specs.declared.table.Named.{Named}
use Rattle.spectra_resolved.specs.declared.table.Table.{Table}
use Rattle.spectra_resolved.specs.MentionViews.{mention_data}
use Rattle.spectra_resolved.specs.Spaces.{Entry}
use Rattle.spectra_resolved.specs.Tables.{in_table}
use Rattle.spectra_resolved.specs.Looks.{Looking}

abbrev pub define_data : Name × ExprTree → NameData × Expression
define_data b = (name_data b.0, expr_data b.1)

abbrev pub parameters_data : List (TypeTree × Name) → List (TypeData × NameData)
parameters_data params = map (λ a. (type_data a.0, name_data a.1)) params

abbrev pub predicate_data : PredicateItem → PredicateData
predicate_data p = record { at = p.at; name = name_data p.name; params = parameters_data p.params.items; body = expr_data p.body }

abbrev pub pattern_item_data : PatternItem → PatternData
pattern_item_data p = record { at = p.at; name = name_data p.name; params = map name_data p.params.items; parts = map part_data p.parts.items }

abbrev pub line_item_data : LineItem → LineData
line_item_data l = record { at = l.at; role = l.role; name = option_map name_data l.name; body = body_data l.body }

-- a declaration of a name
abbrev pub entry_data : Mention × Named → Entry
entry_data e = (mention_data e.0, e.1)

-- a look-up by a table alone
abbrev pub table_look : Table → Looking
table_look t = λ text. in_table t text
