-- What a token is for the grammar, by its kind and its text: the words and the signs in a table.
use Rattle.std.specs.Prelude.{ℕ, nat_eq, Bool, List, [], ◌∷◌, codes, if◌then◌else◌}
use Rattle.spectra_lexer.specs.declared.token.Kind.{Kind}
use Rattle.spectra_lexer.specs.declared.token.Kind.TheVariants as kinds
use Rattle.spectra_lexer.specs.Words.{same_text}
use Rattle.spectra_trees.specs.declared.class.Class.{Class}
use Rattle.spectra_trees.specs.declared.class.Class.TheVariants as classes

-- the reserved words, each with its class
abbrev pub words : List (List ℕ × Class)
words =
    (codes "spec", classes.Head) ∷ (codes "module", classes.Head) ∷ (codes "import", classes.Import) ∷ (codes "env", classes.Env) ∷
    (codes "sys", classes.Sys) ∷ (codes "aux", classes.Aux) ∷
    (codes "boolean", classes.Boolean) ∷ (codes "Int", classes.Int) ∷ (codes "type", classes.TypeWord) ∷ (codes "var", classes.Var) ∷
    (codes "define", classes.Define) ∷ (codes "predicate", classes.Predicate) ∷ (codes "pattern", classes.Pattern) ∷
    (codes "monitor", classes.Monitor) ∷ (codes "asm", classes.Asm) ∷ (codes "assumption", classes.Asm) ∷ (codes "gar", classes.Gar) ∷
    (codes "guarantee", classes.Gar) ∷
    (codes "ini", classes.Ini) ∷ (codes "initially", classes.Ini) ∷ (codes "alw", classes.Alw) ∷ (codes "always", classes.Alw) ∷
    (codes "G", classes.Alw) ∷ (codes "trans", classes.Alw) ∷ (codes "alwEv", classes.AlwEv) ∷ (codes "alwaysEventually", classes.AlwEv) ∷
    (codes "GF", classes.AlwEv) ∷ (codes "trig", classes.Trig) ∷
    (codes "next", classes.Next) ∷ (codes "true", classes.True) ∷ (codes "false", classes.False) ∷ (codes "mod", classes.Mod) ∷
    (codes "forall", classes.ForAll) ∷ (codes "exists", classes.Exists) ∷ (codes "in", classes.In) ∷
    (codes "not", classes.Not) ∷ (codes "and", classes.And) ∷ (codes "or", classes.Or) ∷ (codes "implies", classes.Implies) ∷
    (codes "iff", classes.Iff) ∷
    (codes "PREV", classes.Prev) ∷ (codes "Y", classes.Prev) ∷ (codes "ONCE", classes.Once) ∷ (codes "O", classes.Once) ∷
    (codes "HISTORICALLY", classes.Historically) ∷ (codes "H", classes.Historically) ∷ (codes "SINCE", classes.Since) ∷ (codes "S", classes.Since) ∷
    (codes "TRIGGERED", classes.Triggered) ∷ (codes "T", classes.Triggered) ∷ []

-- the signs, each with its class
abbrev pub signs : List (List ℕ × Class)
signs =
    (codes "->", classes.Implies) ∷ (codes "<->", classes.Iff) ∷ (codes "|=>", classes.Then) ∷ (codes ":=", classes.Becomes) ∷
    (codes "..", classes.UpTo) ∷
    (codes "=", classes.Equal) ∷ (codes "!=", classes.Unequal) ∷ (codes "<", classes.Less) ∷ (codes "<=", classes.AtMost) ∷
    (codes ">", classes.Greater) ∷ (codes ">=", classes.AtLeast) ∷
    (codes "+", classes.Plus) ∷ (codes "-", classes.Minus) ∷ (codes "*", classes.Star) ∷ (codes "!", classes.Not) ∷ (codes "&", classes.And) ∷
    (codes "|", classes.Bar) ∷
    (codes "?", classes.Question) ∷ (codes ":", classes.Colon) ∷ (codes ";", classes.Semicolon) ∷ (codes ",", classes.Comma) ∷
    (codes "(", classes.Open) ∷ (codes ")", classes.Close) ∷ (codes "[", classes.OpenBracket) ∷ (codes "]", classes.CloseBracket) ∷
    (codes "{", classes.OpenBrace) ∷ (codes "}", classes.CloseBrace) ∷ []

-- the class of the first row of a text; the grammar has none where there is no row
abbrev pub class_in : List (List ℕ × Class) → List ℕ → Class
class_in [] text = classes.Unknown
class_in (row ∷ rows) text = if same_text text row.0 then row.1 else class_in rows text

-- which reserved word a text is
unfoldable pub word_class : List ℕ → Class
word_class = class_in words

-- which sign a text is
unfoldable pub sign_class : List ℕ → Class
sign_class = class_in signs

-- what a token of a kind is
unfoldable pub class_of : Kind → List ℕ → Class
class_of kinds.Word w = word_class w
class_of kinds.Sign w = sign_class w
class_of kinds.Name w = classes.Name
class_of kinds.Number w = classes.Number
class_of kinds.Text w = classes.Text
class_of kinds.Finish w = classes.Finish

-- the place of a class in its declaration
unfoldable pub place_of : Class → ℕ
place_of classes.Head = 0
place_of classes.Import = 1
place_of classes.Env = 2
place_of classes.Sys = 3
place_of classes.Aux = 4
place_of classes.Boolean = 5
place_of classes.Int = 6
place_of classes.TypeWord = 7
place_of classes.Define = 8
place_of classes.Predicate = 9
place_of classes.Pattern = 10
place_of classes.Var = 11
place_of classes.Monitor = 12
place_of classes.Asm = 13
place_of classes.Gar = 14
place_of classes.Ini = 15
place_of classes.Alw = 16
place_of classes.AlwEv = 17
place_of classes.Trig = 18
place_of classes.Next = 19
place_of classes.True = 20
place_of classes.False = 21
place_of classes.Not = 22
place_of classes.Prev = 23
place_of classes.Once = 24
place_of classes.Historically = 25
place_of classes.Implies = 26
place_of classes.Iff = 27
place_of classes.Since = 28
place_of classes.Triggered = 29
place_of classes.And = 30
place_of classes.Or = 31
place_of classes.Bar = 32
place_of classes.Equal = 33
place_of classes.Unequal = 34
place_of classes.Less = 35
place_of classes.AtMost = 36
place_of classes.Greater = 37
place_of classes.AtLeast = 38
place_of classes.Plus = 39
place_of classes.Minus = 40
place_of classes.Star = 41
place_of classes.Mod = 42
place_of classes.ForAll = 43
place_of classes.Exists = 44
place_of classes.In = 45
place_of classes.Then = 46
place_of classes.Becomes = 47
place_of classes.UpTo = 48
place_of classes.Question = 49
place_of classes.Colon = 50
place_of classes.Semicolon = 51
place_of classes.Comma = 52
place_of classes.Open = 53
place_of classes.Close = 54
place_of classes.OpenBracket = 55
place_of classes.CloseBracket = 56
place_of classes.OpenBrace = 57
place_of classes.CloseBrace = 58
place_of classes.Name = 59
place_of classes.Number = 60
place_of classes.Text = 61
place_of classes.Finish = 62
place_of classes.Unknown = 63

-- whether two classes are the same
unfoldable pub same_class : Class → Class → Bool
same_class a b = nat_eq (place_of a) (place_of b)
