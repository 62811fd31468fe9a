-- The grammar of items and texts: one relation for each production.
use Rattle.std.specs.Prelude.{ℕ, ◌≡◌, ◌⊎◌, true, List, [], ◌∷◌, ◌++◌, Some, None, nat_eq, reverse, Option, if◌then◌else◌}
use Rattle.spec_model.specs.declared.spec.Role.{Role}
use Rattle.spectra_trees.specs.declared.class.Class.TheVariants as classes
use Rattle.spectra_trees.specs.declared.tree.Place.{Place}
use Rattle.spectra_trees.specs.declared.tree.OwnerWord.{OwnerWord}
use Rattle.spectra_trees.specs.Classes.{same_class}
use Rattle.spectra_trees.specs.Data.{NameData, Expression, TypeData, TypeShape, PartData, PartShape, BodyData, LengthData, ItemData, TreeData}
use Rattle.spectra_trees.specs.Lexemes.{Lexeme, name_of}
use Rattle.spectra_exprs.specs.Forms.{Grammar, Gives, Token, ◌▸◌, ◌∣◌, Steps}
use Rattle.spectra_exprs.specs.Grammar.{ExprOf, Sum, Arguments, Levels}
use Rattle.spectra_regexes.specs.RegexGrammar.{RegexOf, RegexLevels}
use Rattle.spec_model.specs.declared.spec.Role.TheVariants.{Assumption, Guarantee}
use Rattle.spectra_trees.specs.declared.class.Class.{Class}
use Rattle.spectra_trees.specs.declared.tree.OwnerWord.TheVariants as owners

-- ---- lines

-- a line's name, where it has one, and its body
abbrev pub Said : Type 0
Said = Option NameData × BodyData

-- ---- items

unfoldable pub owner_word : Class → Option OwnerWord
owner_word c =
    if same_class c classes.Env then Some owners.Env else if same_class c classes.Sys then Some owners.Sys else if same_class c classes.Aux then Some owners.Aux else None

-- ASM and GAR
unfoldable pub role_word : Class → Option Role
role_word c = if same_class c classes.Asm then Some Assumption else if same_class c classes.Gar then Some Guarantee else None

-- ---- texts

-- a text without a quote at its front
unfoldable pub without_quote : List ℕ → List ℕ
without_quote [] = []
without_quote (c ∷ cs) = if nat_eq c 34 then cs else c ∷ cs

-- a quoted text without its quotes: without one at its front, and without one at its end
unfoldable pub unquoted : List ℕ → List ℕ
unquoted text = reverse (without_quote (reverse (without_quote text)))

-- the place of the word and the text of the name
abbrev pub imported : Lexeme → Lexeme → NameData
imported word t = record { text = unquoted t.text; line = word.at.line; column = word.at.column }

-- ---- names and types, with so many levels that an expression may open

abbrev pub NameAfter : List NameData → Grammar (List NameData)
NameAfter all = Token classes.Comma ▸ λ c. Token classes.Name ▸ λ n. Gives (all ++ name_of n ∷ [])

-- NAME { "," NAME }
abbrev pub Names : Grammar (List NameData)
Names = Token classes.Name ▸ λ n. Steps NameAfter (name_of n ∷ [])

abbrev pub Bound : ℕ → Grammar Expression
Bound left = Sum (Levels left) ▸ λ p. Gives p.0

-- type = "boolean" | "Int" "(" sum ".." sum ")" | "{" NAME { "," NAME } "}" | NAME
abbrev pub TypeIn : ℕ → Grammar TypeData
TypeIn left =
    (Token classes.Boolean ▸ λ t. Gives (record { at = t.at; form = TypeShape.Boolean }))
    ∣ (Token classes.Int ▸ λ t. Token classes.Open ▸ λ o. Bound left ▸ λ low. Token classes.UpTo ▸ λ u. Bound left ▸ λ high. Token classes.Close ▸ λ c.
    Gives (record { at = t.at; form = TypeShape.Range low high }))
    ∣ (Token classes.OpenBrace ▸ λ t. Names ▸ λ all. Token classes.CloseBrace ▸ λ c. Gives (record { at = t.at; form = TypeShape.Names all }))
    ∣ (Token classes.Name ▸ λ t. Gives (record { at = t.at; form = TypeShape.Named (name_of t) }))

-- ---- declarations

-- "env" | "sys" | "aux"
pub record Owner (used : List Lexeme) (o : Lexeme × OwnerWord) : Type 0 where
  pub alone : used ≡ o.0 ∷ []
  pub word : owner_word o.0.class ≡ Some o.1

-- ASM and GAR
pub record RoleOf (used : List Lexeme) (o : Lexeme × Role) : Type 0 where
  pub alone : used ≡ o.0 ∷ []
  pub word : role_word o.0.class ≡ Some o.1

-- "[" NUMBER "]"
abbrev pub SomeLength : Grammar (Option LengthData)
SomeLength = Token classes.OpenBracket ▸ λ o. Token classes.Number ▸ λ n. Token classes.CloseBracket ▸ λ c. Gives (Some (record { bracket = o.at; digits = n.text }))

-- [ "[" NUMBER "]" ]
abbrev pub LengthOf : Grammar (Option LengthData)
LengthOf = SomeLength ∣ Gives None

-- type [ "[" NUMBER "]" ] NAME ";"
abbrev pub VardeclIn : ℕ → Place → OwnerWord → Grammar ItemData
VardeclIn left at owner =
    TypeIn left ▸ λ d. LengthOf ▸ λ l. Token classes.Name ▸ λ n. Token classes.Semicolon ▸ λ s.
    Gives (ItemData.Variable (record { at = at; owner = owner; domain = d; length = l; name = name_of n }))

-- typedecl = "type" NAME "=" type ";", behind its first word
abbrev pub TypedeclIn : ℕ → Place → Grammar ItemData
TypedeclIn left at =
    Token classes.Name ▸ λ n. Token classes.Equal ▸ λ e. TypeIn left ▸ λ d. Token classes.Semicolon ▸ λ s. Gives (ItemData.Alias (record { at = at; name = name_of n; body = d }))

-- NAME ":=" expr ";"
abbrev pub DefinitionIn : ℕ → Grammar (NameData × Expression)
DefinitionIn left = Token classes.Name ▸ λ n. Token classes.Becomes ▸ λ b. ExprOf (Levels left) ▸ λ e. Token classes.Semicolon ▸ λ s. Gives (name_of n, e)

abbrev pub DefinitionAfter : ℕ → List (NameData × Expression) → Grammar (List (NameData × Expression))
DefinitionAfter left all = DefinitionIn left ▸ λ d. Gives (all ++ d ∷ [])

-- define = "define" NAME ":=" expr ";" { NAME ":=" expr ";" }, behind its first word
abbrev pub DefineIn : ℕ → Place → Grammar ItemData
DefineIn left at = DefinitionIn left ▸ λ d. Steps (DefinitionAfter left) (d ∷ []) ▸ λ all. Gives (ItemData.Define (record { at = at; bodies = all }))

-- type NAME
abbrev pub ParameterIn : ℕ → Grammar (TypeData × NameData)
ParameterIn left = TypeIn left ▸ λ d. Token classes.Name ▸ λ n. Gives (d, name_of n)

abbrev pub ParameterAfter : ℕ → List (TypeData × NameData) → Grammar (List (TypeData × NameData))
ParameterAfter left all = Token classes.Comma ▸ λ c. ParameterIn left ▸ λ p. Gives (all ++ p ∷ [])

-- [ type NAME { "," type NAME } ] ")"
abbrev pub ParametersIn : ℕ → Grammar (List (TypeData × NameData))
ParametersIn left =
    (Token classes.Close ▸ λ c. Gives []) ∣ (ParameterIn left ▸ λ p. Steps (ParameterAfter left) (p ∷ []) ▸ λ all. Token classes.Close ▸ λ c. Gives all)

-- predicate = "predicate" NAME "(" [ type NAME { "," type NAME } ] ")" ":" expr ";", behind its first word
abbrev pub PredicateIn : ℕ → Place → Grammar ItemData
PredicateIn left at =
    Token classes.Name ▸ λ n. Token classes.Open ▸ λ o. ParametersIn left ▸ λ ps. Token classes.Colon ▸ λ c. ExprOf (Levels left) ▸ λ e. Token classes.Semicolon ▸ λ s.
    Gives (ItemData.Predicate (record { at = at; name = name_of n; params = ps; body = e }))

-- ---- patterns and monitors

-- INI expr | ALW expr | ALWEV expr
abbrev pub ShapeIn : ℕ → Grammar PartShape
ShapeIn left =
    (Token classes.Ini ▸ λ t. ExprOf (Levels left) ▸ λ e. Gives (PartShape.Initial e))
    ∣ (Token classes.Alw ▸ λ t. ExprOf (Levels left) ▸ λ e. Gives (PartShape.Always e))
    ∣ (Token classes.AlwEv ▸ λ t. ExprOf (Levels left) ▸ λ e. Gives (PartShape.Recurring e))

-- pitem = "var" type NAME ";" | ( INI | ALW | ALWEV ) expr ";"
abbrev pub OwnIn : ℕ → Grammar PartData
OwnIn left = Token classes.Var ▸ λ t. TypeIn left ▸ λ d. Token classes.Name ▸ λ n. Token classes.Semicolon ▸ λ s. Gives (record { at = t.at; form = PartShape.Own d (name_of n) })

-- a part's place is that of its first token
pub record LineIn (left : ℕ) (used : List Lexeme) (p : PartData) : Type 0 where
  pub token : Lexeme
  pub more : List Lexeme
  pub first : used ≡ token ∷ more
  pub line : (ShapeIn left ▸ λ f. Token classes.Semicolon ▸ λ s. Gives (record { at = token.at; form = f })) used p

abbrev pub PitemIn : ℕ → Grammar PartData
PitemIn left = OwnIn left ∣ LineIn left

-- a monitor has no variables and no recurring lines
pub record MitemIn (left : ℕ) (used : List Lexeme) (p : PartData) : Type 0 where
  pub token : Lexeme
  pub more : List Lexeme
  pub first : used ≡ token ∷ more
  pub word : (same_class token.class classes.Ini ≡ true) ⊎ (same_class token.class classes.Alw ≡ true)
  pub part : PitemIn left used p

abbrev pub PitemAfter : ℕ → List PartData → Grammar (List PartData)
PitemAfter left all = PitemIn left ▸ λ p. Gives (all ++ p ∷ [])

abbrev pub MitemAfter : ℕ → List PartData → Grammar (List PartData)
MitemAfter left all = MitemIn left ▸ λ p. Gives (all ++ p ∷ [])

-- [ NAME { "," NAME } ] ")"
abbrev pub NameParameters : Grammar (List NameData)
NameParameters = (Token classes.Close ▸ λ c. Gives []) ∣ (Names ▸ λ all. Token classes.Close ▸ λ c. Gives all)

-- pattern = "pattern" NAME "(" [ NAME { "," NAME } ] ")" "{" { pitem } "}", behind its first word
abbrev pub PatternIn : ℕ → Place → Grammar ItemData
PatternIn left at =
    Token classes.Name ▸ λ n. Token classes.Open ▸ λ o. NameParameters ▸ λ ps. Token classes.OpenBrace ▸ λ b. (Steps (PitemAfter left) [] ▸ λ parts. Token classes.CloseBrace ▸ λ c. Gives parts) ▸ λ parts.
    Gives (ItemData.Pattern (record { at = at; name = name_of n; params = ps; parts = parts }))

-- monitor = "monitor" type NAME "{" { ( INI | ALW ) expr ";" } "}", behind its first word
abbrev pub MonitorIn : ℕ → Place → Grammar ItemData
MonitorIn left at =
    TypeIn left ▸ λ d. Token classes.Name ▸ λ n. Token classes.OpenBrace ▸ λ b. (Steps (MitemAfter left) [] ▸ λ parts. Token classes.CloseBrace ▸ λ c. Gives parts) ▸ λ parts.
    Gives (ItemData.Monitor (record { at = at; domain = d; name = name_of n; parts = parts }))

-- ---- lines

-- "(" [ expr { "," expr } ] ")" behind NAME
abbrev pub UseIn : ℕ → Lexeme → Grammar BodyData
UseIn left n = Token classes.Open ▸ λ o. Arguments (Levels left) ▸ λ es. Gives (BodyData.Call (name_of n) es)

-- body = INI expr | ALW expr | ALWEV expr | "trig" regex "|=>" regex | NAME "(" [ expr { "," expr } ] ")"
abbrev pub BodyIn : ℕ → Grammar BodyData
BodyIn left =
    (Token classes.Ini ▸ λ t. ExprOf (Levels left) ▸ λ e. Gives (BodyData.Initial e))
    ∣ (Token classes.Alw ▸ λ t. ExprOf (Levels left) ▸ λ e. Gives (BodyData.Always e))
    ∣ (Token classes.AlwEv ▸ λ t. ExprOf (Levels left) ▸ λ e. Gives (BodyData.Recurring e))
    ∣ (Token classes.Trig ▸ λ t. RegexOf (RegexLevels left) ▸ λ cause. Token classes.Then ▸ λ u. RegexOf (RegexLevels left) ▸ λ effect. Gives (BodyData.Trigger t.at cause effect))
    ∣ (Token classes.Name ▸ λ n. UseIn left n)

-- [ NAME ":" ] body
abbrev pub SaidIn : ℕ → Grammar Said
SaidIn left =
    (Token classes.Name ▸ λ n. (Token classes.Colon ▸ λ c. BodyIn left ▸ λ b. Gives (Some (name_of n), b)) ∣ (UseIn left n ▸ λ b. Gives (None, b)))
    ∣ (BodyIn left ▸ λ b. Gives (None, b))

-- line = ( ASM | GAR ) [ NAME ":" ] body ";", behind its first word
abbrev pub LineOf : ℕ → Place → Role → Grammar ItemData
LineOf left at role = SaidIn left ▸ λ b. Token classes.Semicolon ▸ λ s. Gives (ItemData.Statement (record { at = at; role = role; name = b.0; body = b.1 }))

-- ---- items and texts

-- item = vardecl | typedecl | define | predicate | pattern | monitor | line
abbrev pub ItemIn : ℕ → Grammar ItemData
ItemIn left =
    (Owner ▸ λ o. VardeclIn left o.0.at o.1)
    ∣ (RoleOf ▸ λ o. LineOf left o.0.at o.1)
    ∣ (Token classes.TypeWord ▸ λ t. TypedeclIn left t.at)
    ∣ (Token classes.Define ▸ λ t. DefineIn left t.at)
    ∣ (Token classes.Predicate ▸ λ t. PredicateIn left t.at)
    ∣ (Token classes.Pattern ▸ λ t. PatternIn left t.at)
    ∣ (Token classes.Monitor ▸ λ t. MonitorIn left t.at)

abbrev pub ItemAfter : ℕ → List ItemData → Grammar (List ItemData)
ItemAfter left all = ItemIn left ▸ λ i. Gives (all ++ i ∷ [])

-- import = "import" TEXT [ ";" ]
abbrev pub ImportAfter : List NameData → Grammar (List NameData)
ImportAfter all =
    Token classes.Import ▸ λ i. Token classes.Text ▸ λ t. (Token classes.Semicolon ▸ λ s. Gives (all ++ imported i t ∷ [])) ∣ Gives (all ++ imported i t ∷ [])

-- text = { import } ( "spec" | "module" ) NAME { item }
abbrev pub TextIn : ℕ → Grammar TreeData
TextIn left =
    Steps ImportAfter [] ▸ λ imports. Token classes.Head ▸ λ h. Token classes.Name ▸ λ n. Steps (ItemAfter left) [] ▸ λ items.
    Gives (record { header = name_of n; imports = imports; items = items })

-- a text's tokens: the text, and its end
pub record Text (left : ℕ) (ts : List Lexeme) (tree : TreeData) : Type 0 where
  pub used : List Lexeme
  pub end : Lexeme
  pub whole : ts ≡ used ++ end ∷ []
  pub finish : same_class end.class classes.Finish ≡ true
  pub derives : TextIn left used tree
