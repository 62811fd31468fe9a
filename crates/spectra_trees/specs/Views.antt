-- The plain data that the program's trees stand for.
use Rattle.std.specs.Prelude.{map, string_bytes, option_map, List}
use Rattle.spectra_trees.specs.declared.tree.Name.{Name}
use Rattle.spectra_trees.specs.declared.tree.ExprTree.{ExprTree}
use Rattle.spectra_trees.specs.declared.tree.ExprForm.{ExprForm, fold-ExprForm}
use Rattle.spectra_trees.specs.declared.tree.ExprForm.TheOpen.{ExprForm-F, ExprTree-F}
use Rattle.spectra_trees.specs.declared.tree.RegexTree.{RegexTree, fold-RegexTree}
use Rattle.spectra_trees.specs.declared.tree.RegexTree.TheOpen.{RegexTree-F}
use Rattle.spectra_trees.specs.declared.tree.RepeatTree.{RepeatTree}
use Rattle.spectra_trees.specs.declared.tree.RepeatTree.TheVariants as repeats
use Rattle.spectra_trees.specs.declared.tree.TypeTree.{TypeTree}
use Rattle.spectra_trees.specs.declared.tree.TypeForm.{TypeForm}
use Rattle.spectra_trees.specs.declared.tree.TypeForm.TheVariants as types
use Rattle.spectra_trees.specs.declared.tree.Part.{Part}
use Rattle.spectra_trees.specs.declared.tree.PartForm.{PartForm}
use Rattle.spectra_trees.specs.declared.tree.PartForm.TheVariants as parts
use Rattle.spectra_trees.specs.declared.tree.BodyTree.{BodyTree}
use Rattle.spectra_trees.specs.declared.tree.BodyTree.TheVariants as bodies
use Rattle.spectra_trees.specs.declared.tree.Length.{Length}
use Rattle.spectra_trees.specs.declared.tree.Item.{Item}
use Rattle.spectra_trees.specs.declared.tree.Item.TheVariants as items
use Rattle.spectra_trees.specs.declared.tree.Tree.{Tree}
use Rattle.spectra_trees.specs.Data.{NameData, Expression, Form, expression, expressions, TypeData, TypeShape, RegexData, regexes, RepeatData, PartData, PartShape, BodyData, LengthData, ItemData, TreeData}
use Rattle.spectra_trees.specs.declared.lexeme.Spelled.{Spelled}
use Rattle.spectra_trees.specs.Lexemes.{Lexeme}

abbrev pub name_data : Name → NameData
name_data n = record { text = string_bytes n.text; line = n.line; column = n.column }

-- one level of an expression, with each part already seen as its plain data
abbrev pub form_step : ExprForm-F Form Expression → Form
form_step ExprForm-F.True = Form.True
form_step ExprForm-F.False = Form.False
form_step (ExprForm-F.Number negative digits) = Form.Number negative (string_bytes digits)
form_step (ExprForm-F.Read n) = Form.Read (name_data n)
form_step (ExprForm-F.Call n es) = Form.Call (name_data n) (expressions es.items)
form_step (ExprForm-F.Next a) = Form.Next a.value
form_step (ExprForm-F.Prefix op a) = Form.Prefix op a.value
form_step (ExprForm-F.Binary op a b) = Form.Binary op a.value b.value
form_step (ExprForm-F.Mod a at digits) = Form.Mod a.value at (string_bytes digits)
form_step (ExprForm-F.And es ops) = Form.And (expressions es.items) ops.items
form_step (ExprForm-F.Or es ops) = Form.Or (expressions es.items) ops.items
form_step (ExprForm-F.Index n a) = Form.Index (name_data n) a.value
form_step (ExprForm-F.ForAll n low high body) = Form.ForAll (name_data n) low.value high.value body.value
form_step (ExprForm-F.Exists n low high body) = Form.Exists (name_data n) low.value high.value body.value

abbrev pub expr_step : ExprTree-F Form Expression → Expression
expr_step e = expression e.first e.at e.form

abbrev pub form_data : ExprForm → Form
form_data = fold-ExprForm Form Expression form_step expr_step

abbrev pub expr_data : ExprTree → Expression
expr_data e = expression e.first e.at (form_data e.form)

abbrev pub type_shape : TypeForm → TypeShape
type_shape types.Boolean = TypeShape.Boolean
type_shape (types.Range low high) = TypeShape.Range (expr_data low) (expr_data high)
type_shape (types.Names names) = TypeShape.Names (map name_data names.items)
type_shape (types.Named n) = TypeShape.Named (name_data n)

abbrev pub type_data : TypeTree → TypeData
type_data t = record { at = t.at; form = type_shape t.form }

abbrev pub repeat_data : RepeatTree → RepeatData
repeat_data repeats.Star = RepeatData.Star
repeat_data repeats.Plus = RepeatData.Plus
repeat_data repeats.Optional = RepeatData.Optional
repeat_data (repeats.Exactly digits) = RepeatData.Exactly (string_bytes digits)
repeat_data (repeats.Between low high) = RepeatData.Between (string_bytes low) (string_bytes high)

abbrev pub regex_step : RegexTree-F RegexData → RegexData
regex_step (RegexTree-F.Atom e) = RegexData.Atom (expr_data e.value)
regex_step (RegexTree-F.Cat rs) = RegexData.Cat (regexes rs.items)
regex_step (RegexTree-F.Alt rs) = RegexData.Alt (regexes rs.items)
regex_step (RegexTree-F.Repeat r times) = RegexData.Repeat r.value (repeat_data times)

abbrev pub regex_data : RegexTree → RegexData
regex_data = fold-RegexTree RegexData regex_step

abbrev pub part_shape : PartForm → PartShape
part_shape (parts.Own t n) = PartShape.Own (type_data t) (name_data n)
part_shape (parts.Initial e) = PartShape.Initial (expr_data e)
part_shape (parts.Always e) = PartShape.Always (expr_data e)
part_shape (parts.Recurring e) = PartShape.Recurring (expr_data e)

abbrev pub part_data : Part → PartData
part_data p = record { at = p.at; form = part_shape p.form }

abbrev pub body_data : BodyTree → BodyData
body_data (bodies.Initial e) = BodyData.Initial (expr_data e)
body_data (bodies.Always e) = BodyData.Always (expr_data e)
body_data (bodies.Recurring e) = BodyData.Recurring (expr_data e)
body_data (bodies.Trigger at cause effect) = BodyData.Trigger at (regex_data cause) (regex_data effect)
body_data (bodies.Call n es) = BodyData.Call (name_data n) (map expr_data es.items)

abbrev pub length_data : Length → LengthData
length_data l = record { bracket = l.bracket; digits = string_bytes l.digits }

abbrev pub item_data : Item → ItemData
item_data (items.Variable v) =
    ItemData.Variable (record { at = v.at; owner = v.owner; domain = type_data v.domain; length = option_map length_data v.length; name = name_data v.name })
item_data (items.Alias t) = ItemData.Alias (record { at = t.at; name = name_data t.name; body = type_data t.body })
item_data (items.Define d) = ItemData.Define (record { at = d.at; bodies = map (λ b. (name_data b.0, expr_data b.1)) d.bodies.items })
item_data (items.Predicate p) =
    ItemData.Predicate (record { at = p.at; name = name_data p.name; params = map (λ a. (type_data a.0, name_data a.1)) p.params.items; body = expr_data p.body })
item_data (items.Pattern p) = ItemData.Pattern (record { at = p.at; name = name_data p.name; params = map name_data p.params.items; parts = map part_data p.parts.items })
item_data (items.Monitor m) = ItemData.Monitor (record { at = m.at; domain = type_data m.domain; name = name_data m.name; parts = map part_data m.parts.items })
item_data (items.Statement l) = ItemData.Statement (record { at = l.at; role = l.role; name = option_map name_data l.name; body = body_data l.body })

abbrev pub tree_data : Tree → TreeData
tree_data t = record { header = name_data t.header; imports = map name_data t.imports.items; items = map item_data t.items.items }

-- ---- tokens

-- what the program's tokens stand for
abbrev pub lexeme_of : Spelled → Lexeme
lexeme_of t = record { class = t.class; text = t.text.now; at = t.at; number = t.number }

abbrev pub lexemes_of : List Spelled → List Lexeme
lexemes_of ts = map lexeme_of ts
