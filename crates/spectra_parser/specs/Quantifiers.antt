-- The places of the variables of quantifiers in what definitions and lines say, in the order of the text.
use Rattle.std.specs.Prelude.{◌≡◌, ◌<◌, ◌⊎◌, List, [], ◌∷◌, ◌++◌, flat_map, All}
use Rattle.spectra_trees.specs.declared.tree.Place.{Place}
use Rattle.spectra_trees.specs.Data.{NameData, Expression, expression, Form, Expressions, RegexData, Regexes, PartData, PartShape, BodyData, ItemData, TreeData}

-- ---- places

abbrev pub place_of_name : NameData → Place
place_of_name n = record { line = n.line; column = n.column }

abbrev pub IsBefore : Place → Place → Type 0
IsBefore p q = (p.line < q.line) ⊎ ((p.line ≡ q.line) × (p.column < q.column))

-- each stands before all that follow
abbrev pub AreRising : List Place → Type 0
AreRising [] = Unit {0}
AreRising (p ∷ ps) = All (IsBefore p) ps × AreRising ps

-- ---- expressions

abbrev mutual
  pub quantified_in : Expression → List Place
  quantified_in (expression first at form) = form_quantified form

  pub form_quantified : Form → List Place
  form_quantified Form.True = []
  form_quantified Form.False = []
  form_quantified (Form.Number negative digits) = []
  form_quantified (Form.Read name) = []
  form_quantified (Form.Call name es) = each_quantified es
  form_quantified (Form.Next e) = quantified_in e
  form_quantified (Form.Prefix word e) = quantified_in e
  form_quantified (Form.Binary word a b) = quantified_in a ++ quantified_in b
  form_quantified (Form.Mod e number digits) = quantified_in e
  form_quantified (Form.And es operators) = each_quantified es
  form_quantified (Form.Or es operators) = each_quantified es
  form_quantified (Form.Index name e) = quantified_in e
  form_quantified (Form.ForAll name low high e) = place_of_name name ∷ (quantified_in low ++ (quantified_in high ++ quantified_in e))
  form_quantified (Form.Exists name low high e) = place_of_name name ∷ (quantified_in low ++ (quantified_in high ++ quantified_in e))

  pub each_quantified : Expressions → List Place
  each_quantified Expressions.none = []
  each_quantified (Expressions.one_more e es) = quantified_in e ++ each_quantified es

abbrev mutual
  pub regex_quantified : RegexData → List Place
  regex_quantified (RegexData.Atom e) = quantified_in e
  regex_quantified (RegexData.Cat rs) = each_regex_quantified rs
  regex_quantified (RegexData.Alt rs) = each_regex_quantified rs
  regex_quantified (RegexData.Repeat r times) = regex_quantified r

  pub each_regex_quantified : Regexes → List Place
  each_regex_quantified Regexes.none = []
  each_regex_quantified (Regexes.one_more r rs) = regex_quantified r ++ each_regex_quantified rs

-- ---- items

abbrev pub definition_quantified : NameData × Expression → List Place
definition_quantified d = quantified_in d.1

-- those of an item's definitions
abbrev pub in_definitions : ItemData → List Place
in_definitions (ItemData.Define x) = flat_map definition_quantified x.bodies
in_definitions (ItemData.Predicate x) = quantified_in x.body
in_definitions _ = []

abbrev pub shape_quantified : PartShape → List Place
shape_quantified (PartShape.Own t n) = []
shape_quantified (PartShape.Initial e) = quantified_in e
shape_quantified (PartShape.Always e) = quantified_in e
shape_quantified (PartShape.Recurring e) = quantified_in e

abbrev pub part_quantified : PartData → List Place
part_quantified p = shape_quantified p.form

abbrev pub body_quantified : BodyData → List Place
body_quantified (BodyData.Initial e) = quantified_in e
body_quantified (BodyData.Always e) = quantified_in e
body_quantified (BodyData.Recurring e) = quantified_in e
body_quantified (BodyData.Trigger at cause effect) = regex_quantified cause ++ regex_quantified effect
body_quantified (BodyData.Call n es) = flat_map quantified_in es

-- those of an item's lines, which a monitor has too
abbrev pub in_lines : ItemData → List Place
in_lines (ItemData.Monitor x) = flat_map part_quantified x.parts
in_lines (ItemData.Statement x) = body_quantified x.body
in_lines _ = []

abbrev pub item_quantified : ItemData → List Place
item_quantified i = in_definitions i ++ in_lines i

abbrev pub tree_quantified : TreeData → List Place
tree_quantified tree = flat_map item_quantified tree.items
