-- Reading items and whole texts.
use Rattle.std.specs.Prelude.{◌||◌, not, Bool, false, List, [], ◌∷◌, ◌++◌, Option, Some, None, Ok, Err, if◌then◌else◌}
use Rattle.std.specs.Option.{option_map_or}
use Rattle.spec_model.specs.declared.spec.Role.{Role}
use Rattle.spectra_exprs.specs.declared.fault.SyntaxFault.TheVariants as faults
use Rattle.spectra_trees.specs.declared.class.Class.TheVariants as classes
use Rattle.spectra_trees.specs.declared.tree.Place.{Place}
use Rattle.spectra_trees.specs.declared.tree.OwnerWord.{OwnerWord}
use Rattle.spectra_trees.specs.Classes.{same_class}
use Rattle.spectra_trees.specs.Data.{NameData, Expression, TypeData, TypeShape, PartData, PartShape, BodyData, LengthData, ItemData, TreeData}
use Rattle.spectra_trees.specs.Lexemes.{Lexeme, name_of}
use Rattle.spectra_exprs.specs.Read.{Reader, ◌>>=◌, unexpected, starts, expect, all_of}
use Rattle.spectra_exprs.specs.Expressions.{inside, whole_of, bound_of, arguments_of}
use Rattle.spectra_exprs.specs.Forms.{levels_of_a_text}
use Rattle.spectra_regexes.specs.Regexes.{inside_regex, regex_of}
pub use Rattle.spectra_parser.specs.ItemGrammar.{Said, imported}
unfoldable pub use Rattle.spectra_parser.specs.ItemGrammar.{owner_word, role_word, without_quote, unquoted}

-- an expr with all levels open to it
abbrev pub formula : Reader Expression
formula ts = whole_of (inside levels_of_a_text) ts

-- ---- types

unfoldable pub name_after : List NameData → Reader (List NameData)
name_after all ts = expect classes.Comma ts >>= λ c rest. expect classes.Name rest >>= λ n rest. Ok (all ++ name_of n ∷ [], rest)

-- NAME { "," NAME }
unfoldable pub names : Reader (List NameData)
names ts = expect classes.Name ts >>= λ n rest. all_of (starts classes.Comma) name_after (name_of n ∷ []) rest

-- NAME { "," NAME } "}"
unfoldable pub name_type : Place → Reader TypeData
name_type at ts = names ts >>= λ all rest. expect classes.CloseBrace rest >>= λ c rest. Ok (record { at = at; form = TypeShape.Names all }, rest)

-- "(" sum ".." sum ")"
unfoldable pub range_type : Place → Reader TypeData
range_type at ts =
    expect classes.Open ts >>= λ o rest. bound_of (inside levels_of_a_text) rest >>= λ low rest. expect classes.UpTo rest
    >>= λ u rest. bound_of (inside levels_of_a_text) rest >>= λ high rest. expect classes.Close rest >>= λ c rest. Ok (record { at = at; form = TypeShape.Range low high }, rest)

unfoldable pub named_type : Lexeme → Reader TypeData
named_type t ts = Ok (record { at = t.at; form = TypeShape.Named (name_of t) }, ts)

-- type = "boolean" | "Int" "(" sum ".." sum ")" | "{" NAME { "," NAME } "}" | NAME
unfoldable pub type_of : Reader TypeData
type_of [] = Err (faults.Unexpected 0)
type_of (t ∷ ts) =
    if same_class t.class classes.Boolean then Ok (record { at = t.at; form = TypeShape.Boolean }, ts)
    else if same_class t.class classes.Int then range_type t.at ts
    else if same_class t.class classes.OpenBrace then name_type t.at ts
    else if same_class t.class classes.Name then named_type t ts
    else Err (faults.Unexpected t.number)

-- ---- declarations, each behind its first word

-- "[" NUMBER "]"
unfoldable pub some_length : Reader (Option LengthData)
some_length ts =
    expect classes.OpenBracket ts >>= λ o rest. expect classes.Number rest >>= λ n rest. expect classes.CloseBracket rest >>= λ c rest. Ok (Some (record { bracket = o.at; digits = n.text }), rest)

-- [ "[" NUMBER "]" ]
unfoldable pub length_of : Reader (Option LengthData)
length_of ts = if starts classes.OpenBracket ts then some_length ts else Ok (None, ts)

-- vardecl = ( "env" | "sys" | "aux" ) type [ "[" NUMBER "]" ] NAME ";"
unfoldable pub vardecl : Place → OwnerWord → Reader ItemData
vardecl at owner ts =
    type_of ts >>= λ d rest. length_of rest >>= λ l rest. expect classes.Name rest >>= λ n rest. expect classes.Semicolon rest
    >>= λ s rest. Ok (ItemData.Variable (record { at = at; owner = owner; domain = d; length = l; name = name_of n }), rest)

-- typedecl = "type" NAME "=" type ";"
unfoldable pub typedecl : Place → Reader ItemData
typedecl at ts =
    expect classes.Name ts >>= λ n rest. expect classes.Equal rest >>= λ e rest. type_of rest >>= λ d rest. expect classes.Semicolon rest
    >>= λ s rest. Ok (ItemData.Alias (record { at = at; name = name_of n; body = d }), rest)

-- NAME ":=" expr ";"
unfoldable pub definition : Reader (NameData × Expression)
definition ts =
    expect classes.Name ts >>= λ n rest. expect classes.Becomes rest >>= λ b rest. formula rest >>= λ e rest. expect classes.Semicolon rest >>= λ s rest. Ok ((name_of n, e), rest)

unfoldable pub definition_after : List (NameData × Expression) → Reader (List (NameData × Expression))
definition_after all ts = definition ts >>= λ d rest. Ok (all ++ d ∷ [], rest)

-- define = "define" NAME ":=" expr ";" { NAME ":=" expr ";" }
unfoldable pub define : Place → Reader ItemData
define at ts =
    definition ts >>= λ d rest. all_of (starts classes.Name) definition_after (d ∷ []) rest >>= λ all rest. Ok (ItemData.Define (record { at = at; bodies = all }), rest)

-- type NAME
unfoldable pub parameter : Reader (TypeData × NameData)
parameter ts = type_of ts >>= λ d rest. expect classes.Name rest >>= λ n rest. Ok ((d, name_of n), rest)

unfoldable pub parameter_after : List (TypeData × NameData) → Reader (List (TypeData × NameData))
parameter_after all ts = expect classes.Comma ts >>= λ c rest. parameter rest >>= λ p rest. Ok (all ++ p ∷ [], rest)

-- type NAME { "," type NAME } ")"
unfoldable pub some_parameters : Reader (List (TypeData × NameData))
some_parameters ts = parameter ts >>= λ p rest. all_of (starts classes.Comma) parameter_after (p ∷ []) rest >>= λ all rest. expect classes.Close rest >>= λ c rest. Ok (all, rest)

-- [ type NAME { "," type NAME } ] ")"
unfoldable pub parameters : Reader (List (TypeData × NameData))
parameters ts = if starts classes.Close ts then (expect classes.Close ts >>= λ c rest. Ok ([], rest)) else some_parameters ts

-- predicate = "predicate" NAME "(" [ type NAME { "," type NAME } ] ")" ":" expr ";"
unfoldable pub predicate : Place → Reader ItemData
predicate at ts =
    expect classes.Name ts >>= λ n rest. expect classes.Open rest >>= λ o rest. parameters rest >>= λ ps rest. expect classes.Colon rest
    >>= λ c rest. formula rest >>= λ e rest. expect classes.Semicolon rest
    >>= λ s rest. Ok (ItemData.Predicate (record { at = at; name = name_of n; params = ps; body = e }), rest)

-- ---- patterns and monitors

-- type NAME ";" behind "var"
unfoldable pub own : Place → Reader PartData
own at ts =
    type_of ts >>= λ d rest. expect classes.Name rest >>= λ n rest. expect classes.Semicolon rest >>= λ s rest. Ok (record { at = at; form = PartShape.Own d (name_of n) }, rest)

unfoldable pub part_formula : (Expression → PartShape) → Reader PartShape
part_formula shape ts = formula ts >>= λ e rest. Ok (shape e, rest)

-- ( INI | ALW | ALWEV ) expr
unfoldable pub part_shape : Reader PartShape
part_shape [] = Err (faults.Unexpected 0)
part_shape (t ∷ ts) =
    if same_class t.class classes.Ini then part_formula PartShape.Initial ts
    else if same_class t.class classes.Alw then part_formula PartShape.Always ts
    else if same_class t.class classes.AlwEv then part_formula PartShape.Recurring ts
    else Err (faults.Unexpected t.number)

-- ( INI | ALW | ALWEV ) expr ";"
unfoldable pub part_line : Place → Reader PartData
part_line at ts = part_shape ts >>= λ f rest. expect classes.Semicolon rest >>= λ s rest. Ok (record { at = at; form = f }, rest)

-- pitem = "var" type NAME ";" | ( INI | ALW | ALWEV ) expr ";"
unfoldable pub pitem : Reader PartData
pitem [] = Err (faults.Unexpected 0)
pitem (t ∷ ts) = if same_class t.class classes.Var then own t.at ts else part_line t.at (t ∷ ts)

-- ( INI | ALW ) expr ";"
unfoldable pub mitem : Reader PartData
mitem ts = if starts classes.Ini ts || starts classes.Alw ts then pitem ts else unexpected ts

unfoldable pub pitem_after : List PartData → Reader (List PartData)
pitem_after all ts = pitem ts >>= λ p rest. Ok (all ++ p ∷ [], rest)

unfoldable pub mitem_after : List PartData → Reader (List PartData)
mitem_after all ts = mitem ts >>= λ p rest. Ok (all ++ p ∷ [], rest)

unfoldable pub inside_braces : List Lexeme → Bool
inside_braces ts = not (starts classes.CloseBrace ts)

-- { pitem } "}"
unfoldable pub pitems : Reader (List PartData)
pitems ts = all_of inside_braces pitem_after [] ts >>= λ all rest. expect classes.CloseBrace rest >>= λ c rest. Ok (all, rest)

-- { ( INI | ALW ) expr ";" } "}"
unfoldable pub mitems : Reader (List PartData)
mitems ts = all_of inside_braces mitem_after [] ts >>= λ all rest. expect classes.CloseBrace rest >>= λ c rest. Ok (all, rest)

-- [ NAME { "," NAME } ] ")"
unfoldable pub name_parameters : Reader (List NameData)
name_parameters ts = if starts classes.Close ts then (expect classes.Close ts >>= λ c rest. Ok ([], rest)) else (names ts >>= λ all rest. expect classes.Close rest >>= λ c rest. Ok (all, rest))

-- pattern = "pattern" NAME "(" [ NAME { "," NAME } ] ")" "{" { pitem } "}"
unfoldable pub pattern : Place → Reader ItemData
pattern at ts =
    expect classes.Name ts >>= λ n rest. expect classes.Open rest >>= λ o rest. name_parameters rest >>= λ ps rest. expect classes.OpenBrace rest
    >>= λ b rest. pitems rest >>= λ parts rest. Ok (ItemData.Pattern (record { at = at; name = name_of n; params = ps; parts = parts }), rest)

-- monitor = "monitor" type NAME "{" { ( INI | ALW ) expr ";" } "}"
unfoldable pub monitor : Place → Reader ItemData
monitor at ts =
    type_of ts >>= λ d rest. expect classes.Name rest >>= λ n rest. expect classes.OpenBrace rest
    >>= λ b rest. mitems rest >>= λ parts rest. Ok (ItemData.Monitor (record { at = at; domain = d; name = name_of n; parts = parts }), rest)

-- ---- lines

unfoldable pub body_formula : (Expression → BodyData) → Reader BodyData
body_formula body ts = formula ts >>= λ e rest. Ok (body e, rest)

-- regex "|=>" regex behind "trig"
unfoldable pub trigger : Place → Reader BodyData
trigger at ts =
    regex_of (inside_regex levels_of_a_text) ts >>= λ cause rest. expect classes.Then rest
    >>= λ t rest. regex_of (inside_regex levels_of_a_text) rest >>= λ effect rest. Ok (BodyData.Trigger at cause effect, rest)

-- "(" [ expr { "," expr } ] ")" behind NAME
unfoldable pub use_behind : Lexeme → Reader BodyData
use_behind n ts = expect classes.Open ts >>= λ o rest. arguments_of (inside levels_of_a_text) rest >>= λ es rest. Ok (BodyData.Call (name_of n) es, rest)

unfoldable pub pattern_use : Reader BodyData
pattern_use ts = expect classes.Name ts >>= λ n rest. use_behind n rest

-- body = INI expr | ALW expr | ALWEV expr | "trig" regex "|=>" regex | NAME "(" [ expr { "," expr } ] ")"
unfoldable pub body_of : Reader BodyData
body_of [] = Err (faults.Unexpected 0)
body_of (t ∷ ts) =
    if same_class t.class classes.Ini then body_formula BodyData.Initial ts
    else if same_class t.class classes.Alw then body_formula BodyData.Always ts
    else if same_class t.class classes.AlwEv then body_formula BodyData.Recurring ts
    else if same_class t.class classes.Trig then trigger t.at ts
    else pattern_use (t ∷ ts)

-- ":" body behind NAME
unfoldable pub labelled : Lexeme → Reader Said
labelled n ts = expect classes.Colon ts >>= λ c rest. body_of rest >>= λ b rest. Ok ((Some (name_of n), b), rest)

unfoldable pub unlabelled : Lexeme → Reader Said
unlabelled n ts = use_behind n ts >>= λ b rest. Ok ((None, b), rest)

-- what follows a NAME: it is the line's name, or that of a pattern
unfoldable pub named : Reader Said
named ts = expect classes.Name ts >>= λ n rest. if starts classes.Colon rest then labelled n rest else unlabelled n rest

-- [ NAME ":" ] body
unfoldable pub said : Reader Said
said ts = if starts classes.Name ts then named ts else (body_of ts >>= λ b rest. Ok ((None, b), rest))

-- line = ( ASM | GAR ) [ NAME ":" ] body ";"
unfoldable pub line : Place → Role → Reader ItemData
line at role ts =
    said ts >>= λ b rest. expect classes.Semicolon rest >>= λ s rest. Ok (ItemData.Statement (record { at = at; role = role; name = b.0; body = b.1 }), rest)

-- ---- items

-- typedecl | define | predicate | pattern | monitor
unfoldable pub declaration : Reader ItemData
declaration [] = Err (faults.Unexpected 0)
declaration (t ∷ ts) =
    if same_class t.class classes.TypeWord then typedecl t.at ts
    else if same_class t.class classes.Define then define t.at ts
    else if same_class t.class classes.Predicate then predicate t.at ts
    else if same_class t.class classes.Pattern then pattern t.at ts
    else if same_class t.class classes.Monitor then monitor t.at ts
    else Err (faults.Unexpected t.number)

-- item = vardecl | typedecl | define | predicate | pattern | monitor | line
unfoldable pub item_of : Reader ItemData
item_of [] = Err (faults.Unexpected 0)
item_of (t ∷ ts) = option_map_or (λ owner. vardecl t.at owner ts) (owner_word t.class) (option_map_or (λ role. line t.at role ts) (role_word t.class) (declaration (t ∷ ts)))

unfoldable pub item_after : List ItemData → Reader (List ItemData)
item_after all ts = item_of ts >>= λ i rest. Ok (all ++ i ∷ [], rest)

-- ---- texts

-- the end of the text and nothing behind it
unfoldable pub at_end : List Lexeme → Bool
at_end [] = false
at_end (t ∷ []) = same_class t.class classes.Finish
at_end (t ∷ u ∷ ts) = false

unfoldable pub before_end : List Lexeme → Bool
before_end ts = not (at_end ts)

-- [ ";" ]
unfoldable pub semicolon : {A : Type 0} → A → Reader A
semicolon a ts = if starts classes.Semicolon ts then (expect classes.Semicolon ts >>= λ s rest. Ok (a, rest)) else Ok (a, ts)

-- import = "import" TEXT [ ";" ]
unfoldable pub import_after : List NameData → Reader (List NameData)
import_after all ts = expect classes.Import ts >>= λ i rest. expect classes.Text rest >>= λ t rest. semicolon (all ++ imported i t ∷ []) rest

-- text = { import } ( "spec" | "module" ) NAME { item }
unfoldable pub text_of : Reader TreeData
text_of ts =
    all_of (starts classes.Import) import_after [] ts >>= λ imports rest. expect classes.Head rest >>= λ h rest. expect classes.Name rest
    >>= λ n rest. all_of before_end item_after [] rest >>= λ items rest. Ok (record { header = name_of n; imports = imports; items = items }, rest)
