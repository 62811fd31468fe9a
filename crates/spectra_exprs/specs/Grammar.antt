-- The grammar of expressions: one relation for each production. A number says how many levels of nesting may be opened
-- inside: each prefix before its operand, each parenthesis of an expression, the bracket of an index and the word of a
-- quantifier opens one.
use Rattle.std.specs.Prelude.{ℕ, ◌≡◌, zero, suc, true, false, List, [], ◌∷◌, ◌++◌, Some}
use Rattle.spectra_exprs.specs.declared.operators.Level.{Level}
use Rattle.spectra_exprs.specs.declared.operators.Level.TheVariants as levels
use Rattle.spectra_trees.specs.declared.class.Class.TheVariants as classes
use Rattle.spectra_trees.specs.declared.tree.Place.{Place}
use Rattle.spectra_trees.specs.declared.tree.PrefixWord.{PrefixWord}
use Rattle.spectra_trees.specs.declared.tree.BinaryWord.{BinaryWord}
use Rattle.spectra_trees.specs.declared.tree.BinaryWord.TheVariants as binaries
use Rattle.spectra_trees.specs.Data.{Expression, Form, expression, expressions, first_of}
use Rattle.spectra_trees.specs.Lexemes.{Lexeme, name_of}
use Rattle.spectra_exprs.specs.Operators.{operator_word, prefix_word}
use Rattle.spectra_exprs.specs.Forms.{Grammar, Gives, Token, ◌▸◌, ◌∣◌, Steps, leaf, between, opened, Term, Scope, Chain}

-- ---- operators

-- an operator of a level, with its place
pub record Operator (level : Level) (used : List Lexeme) (o : Place × BinaryWord) : Type 0 where
  pub token : Lexeme
  pub alone : used ≡ token ∷ []
  pub at : o.0 ≡ token.at
  pub word : operator_word level token.class ≡ Some o.1

-- PREFIX = "!" | "not" | "PREV" | "Y" | "ONCE" | "O" | "HISTORICALLY" | "H"
pub record Prefix (used : List Lexeme) (p : Lexeme × PrefixWord) : Type 0 where
  pub alone : used ≡ p.0 ∷ []
  pub word : prefix_word p.0.class ≡ Some p.1

-- "|" | "or"
abbrev pub OrSign : Grammar Lexeme
OrSign = Token classes.Bar ∣ Token classes.Or

-- ---- one level deeper

-- an expr, what may follow a PREFIX, [ expr { "," expr } ] ")", a sum and "]", and what follows a quantifier's word
pub record Deeper : Type 1 where
  pub Whole : List Lexeme → Expression → Type 0
  pub Next : List Lexeme → Expression → Type 0
  pub Listed : List Lexeme → List Expression → Type 0
  pub Indexed : List Lexeme → Expression → Type 0
  pub Scoped : List Lexeme → Scope → Type 0

-- ---- prim

-- "true" | "false" | [ "-" ] NUMBER
abbrev pub Literal : Grammar Expression
Literal =
    (Token classes.True ▸ λ t. Gives (leaf t Form.True))
    ∣ (Token classes.False ▸ λ t. Gives (leaf t Form.False))
    ∣ (Token classes.Number ▸ λ t. Gives (leaf t (Form.Number false t.text)))
    ∣ (Token classes.Minus ▸ λ m. Token classes.Number ▸ λ n. Gives (expression m.at n.at (Form.Number true n.text)))

-- prim = "true" | "false" | [ "-" ] NUMBER | NAME | NAME "(" [ expr { "," expr } ] ")" | NAME "[" sum "]" | "next" "(" expr ")"
-- | "(" expr ")"
abbrev pub Prim : Deeper → Grammar Expression
Prim d =
    (Token classes.Name ▸ λ t.
    (Token classes.Open ▸ λ o. d.Listed ▸ λ es. Gives (leaf t (Form.Call (name_of t) (expressions es))))
    ∣ (Token classes.OpenBracket ▸ λ o. d.Indexed ▸ λ e. Gives (leaf t (Form.Index (name_of t) e)))
    ∣ Gives (leaf t (Form.Read (name_of t))))
    ∣ (Token classes.Next ▸ λ t. Token classes.Open ▸ λ o. d.Whole ▸ λ e. Token classes.Close ▸ λ c. Gives (leaf t (Form.Next e)))
    ∣ (Token classes.Open ▸ λ t. d.Whole ▸ λ e. Token classes.Close ▸ λ c. Gives (opened t e))
    ∣ Literal

-- ---- prefixed

-- prefixed = PREFIX { PREFIX } prim
abbrev pub Prefixed : Deeper → Grammar Expression
Prefixed d = Prefix ▸ λ p. d.Next ▸ λ e. Gives (leaf p.0 (Form.Prefix p.1 e))

-- prefixed | prim
abbrev pub Operand : Deeper → Grammar Expression
Operand d = Prefixed d ∣ Prim d

-- ---- sums. A term says of its expression whether it is one prim alone.

-- "*" prim
abbrev pub Times : Deeper → Term → Grammar Term
Times d a = Token classes.Star ▸ λ t. Prim d ▸ λ b. Gives (between t.at binaries.Mul a.0 b, false)

-- prod = prim { "*" prim }
abbrev pub Prod : Deeper → Grammar Term
Prod d = Prim d ▸ λ p. Steps (Times d) (p, true)

-- ( "+" | "-" ) prod
abbrev pub Plus : Deeper → Term → Grammar Term
Plus d a = Operator levels.Sum ▸ λ o. Prod d ▸ λ b. Gives (between o.0 o.1 a.0 b.0, false)

-- "mod" NUMBER
abbrev pub Modulo : Expression → Grammar Term
Modulo e = Token classes.Mod ▸ λ t. Token classes.Number ▸ λ n. Gives (expression (first_of e) t.at (Form.Mod e n.at n.text), false)

-- behind a prim alone
pub record Alone {A : Type 0} (p : Term) (P : List Lexeme → A → Type 0) (used : List Lexeme) (a : A) : Type 0 where
  pub alone : p.1 ≡ true
  pub then : P used a

-- sum = prod { ( "+" | "-" ) prod } | prim "mod" NUMBER
abbrev pub Sum : Deeper → Grammar Term
Sum d = Prod d ▸ λ p. Alone p (Modulo p.0) ∣ Steps (Plus d) p

-- a sum in a place of its own
abbrev pub BoundOf : Deeper → Grammar Expression
BoundOf d = Sum d ▸ λ p. Gives p.0

-- sum "]"
abbrev pub Subscript : Deeper → Grammar Expression
Subscript d = BoundOf d ▸ λ e. Token classes.CloseBracket ▸ λ c. Gives e

-- ---- comparisons

-- sum | prefixed
abbrev pub Side : Deeper → Grammar Expression
Side d = Prefixed d ∣ (Sum d ▸ λ p. Gives p.0)

-- cmp = prefixed | sum [ ( "=" | "!=" | "<" | "<=" | ">" | ">=" ) ( sum | prefixed ) ]
abbrev pub Cmp : Deeper → Grammar Term
Cmp d =
    (Prefixed d ▸ λ e. Gives (e, false))
    ∣ (Sum d ▸ λ p. (Operator levels.Relation ▸ λ o. Side d ▸ λ b. Gives (between o.0 o.1 p.0 b, false)) ∣ Gives p)

-- ---- conjunctions and disjunctions

abbrev pub Conjunct : Deeper → Chain → Grammar Chain
Conjunct d all = Token classes.And ▸ λ t. Cmp d ▸ λ p. Gives (all.0 ++ p.0 ∷ [], all.1 ++ t.at ∷ [])

-- conj = cmp { ( "&" | "and" ) cmp }
abbrev pub Conj : Deeper → Grammar Term
Conj d =
    Cmp d ▸ λ a.
    (Token classes.And ▸ λ t. Cmp d ▸ λ b. Steps (Conjunct d) (a.0 ∷ b.0 ∷ [], t.at ∷ []) ▸ λ all. Gives (expression (first_of a.0) t.at (Form.And (expressions all.0) all.1), false))
    ∣ Gives a

abbrev pub Disjunct : Deeper → Chain → Grammar Chain
Disjunct d all = OrSign ▸ λ t. Conj d ▸ λ p. Gives (all.0 ++ p.0 ∷ [], all.1 ++ t.at ∷ [])

-- disj = conj { ( "|" | "or" ) conj }
abbrev pub Disj : Deeper → Grammar Term
Disj d =
    Conj d ▸ λ a.
    (OrSign ▸ λ t. Conj d ▸ λ b. Steps (Disjunct d) (a.0 ∷ b.0 ∷ [], t.at ∷ []) ▸ λ all. Gives (expression (first_of a.0) t.at (Form.Or (expressions all.0) all.1), false))
    ∣ Gives a

-- ---- expr

-- disj [ ( "->" | "implies" | "<->" | "iff" ) disj ] | prim ( "SINCE" | "S" | "TRIGGERED" | "T" ) prim
abbrev pub Unquantified : Deeper → Grammar Expression
Unquantified d =
    Disj d ▸ λ a.
    (Operator levels.Arrow ▸ λ o. Disj d ▸ λ b. Gives (between o.0 o.1 a.0 b.0))
    ∣ Alone a (Operator levels.Past ▸ λ o. Prim d ▸ λ b. Gives (between o.0 o.1 a.0 b))
    ∣ Gives a.0

-- expr = disj [ ( "->" | "implies" | "<->" | "iff" ) disj ] | prim ( "SINCE" | "S" | "TRIGGERED" | "T" ) prim
-- | ( "forall" | "exists" ) NAME "in" sum ".." sum ":" expr
abbrev pub ExprOf : Deeper → Grammar Expression
ExprOf d =
    (Token classes.ForAll ▸ λ t. d.Scoped ▸ λ s. Gives (leaf t (Form.ForAll s.name s.low s.high s.body)))
    ∣ (Token classes.Exists ▸ λ t. d.Scoped ▸ λ s. Gives (leaf t (Form.Exists s.name s.low s.high s.body)))
    ∣ Unquantified d

-- NAME "in" sum ".." sum ":" expr
abbrev pub ScopeOf : Deeper → Grammar Scope
ScopeOf d =
    Token classes.Name ▸ λ n. Token classes.In ▸ λ i. BoundOf d ▸ λ low. Token classes.UpTo ▸ λ u. BoundOf d ▸ λ high. Token classes.Colon ▸ λ c. ExprOf d ▸ λ e.
    Gives (record { name = name_of n; low = low; high = high; body = e })

-- ---- arguments

abbrev pub Argument : Deeper → List Expression → Grammar (List Expression)
Argument d all = Token classes.Comma ▸ λ t. ExprOf d ▸ λ e. Gives (all ++ e ∷ [])

-- [ expr { "," expr } ] ")"
abbrev pub Arguments : Deeper → Grammar (List Expression)
Arguments d = (Token classes.Close ▸ λ t. Gives []) ∣ (ExprOf d ▸ λ e. Steps (Argument d) (e ∷ []) ▸ λ es. Token classes.Close ▸ λ t. Gives es)

-- ---- levels

abbrev pub Nothing : {A : Type 0} → Grammar A
Nothing used a = ⊥

-- with so many levels that may still be opened
abbrev pub Levels : ℕ → Deeper
Levels zero = record { Whole = Nothing; Next = Nothing; Listed = Nothing; Indexed = Nothing; Scoped = Nothing }
Levels (suc left) = record {
  Whole = ExprOf (Levels left);
  Next = Operand (Levels left);
  Listed = Arguments (Levels left);
  Indexed = Subscript (Levels left);
  Scoped = ScopeOf (Levels left);
}
