-- Reading expressions. `Inside` is what reads one level deeper, behind the token that opens the level.
use Rattle.std.specs.Prelude.{ℕ, zero, suc, Bool, true, false, ◌&&◌, List, [], ◌∷◌, ◌++◌, Ok, Err, if◌then◌else◌}
use Rattle.std.specs.Option.{option_map_or}
use Rattle.spectra_exprs.specs.declared.fault.SyntaxFault.TheVariants as faults
use Rattle.spectra_exprs.specs.declared.operators.Level.TheVariants as levels
use Rattle.spectra_trees.specs.declared.class.Class.TheVariants as classes
use Rattle.spectra_trees.specs.declared.tree.Place.{Place}
use Rattle.spectra_trees.specs.declared.tree.PrefixWord.{PrefixWord}
use Rattle.spectra_trees.specs.declared.tree.BinaryWord.{BinaryWord}
use Rattle.spectra_trees.specs.declared.tree.BinaryWord.TheVariants as binaries
use Rattle.spectra_trees.specs.Classes.{same_class}
use Rattle.spectra_trees.specs.Data.{Expression, Form, expression, expressions, first_of}
use Rattle.spectra_trees.specs.Lexemes.{Lexeme, name_of}
use Rattle.spectra_exprs.specs.Read.{Reader, ◌>>=◌, unexpected, starts, expect, all_of}
use Rattle.spectra_exprs.specs.OperatorReaders.{operator_at, prefix_at, starts_sum, starts_or, expect_or, closed}
pub use Rattle.spectra_exprs.specs.Forms.{leaf, between, opened, Term, Scope, Chain, levels_of_a_text}

-- ---- one level deeper

pub record Inside : Type 0 where
  pub whole : Lexeme → Reader Expression
  pub operand : Lexeme → Reader Expression
  pub arguments : Lexeme → Reader (List Expression)
  pub subscript : Lexeme → Reader Expression
  pub scope : Lexeme → Reader Scope

-- no level is left
abbrev pub deep : {A : Type 0} → Lexeme → Reader A
deep t ts = Err (faults.TooDeep t.number)

-- ---- prim

unfoldable pub negative : Lexeme → Reader Expression
negative minus ts = expect classes.Number ts >>= λ n rest. Ok (expression minus.at n.at (Form.Number true n.text), rest)

unfoldable pub number_of : Lexeme → Reader Expression
number_of t ts = Ok (leaf t (Form.Number false t.text), ts)

-- "true" | "false" | [ "-" ] NUMBER
unfoldable pub literal : Reader Expression
literal [] = Err (faults.Unexpected 0)
literal (t ∷ ts) =
    if same_class t.class classes.True then Ok (leaf t Form.True, ts)
    else if same_class t.class classes.False then Ok (leaf t Form.False, ts)
    else if same_class t.class classes.Number then number_of t ts
    else if same_class t.class classes.Minus then negative t ts
    else Err (faults.Unexpected t.number)

-- "(" expr ")" behind the word `next`
unfoldable pub next_of : Inside → Lexeme → Reader Expression
next_of d t ts =
    expect classes.Open ts >>= λ u inner. d.whole u inner >>= λ e rest. expect classes.Close rest >>= λ v rest. Ok (leaf t (Form.Next e), rest)

-- expr ")" behind "("
unfoldable pub parentheses_of : Inside → Lexeme → Reader Expression
parentheses_of d t ts = d.whole t ts >>= λ e rest. expect classes.Close rest >>= λ v rest. Ok (opened t e, rest)

unfoldable pub read_of : Lexeme → Reader Expression
read_of t ts = Ok (leaf t (Form.Read (name_of t)), ts)

-- arguments ")" behind NAME "("
unfoldable pub call_of : Inside → Lexeme → Lexeme → Reader Expression
call_of d t u ts = d.arguments u ts >>= λ es rest. Ok (leaf t (Form.Call (name_of t) (expressions es)), rest)

-- sum "]" behind NAME "["
unfoldable pub index_of : Inside → Lexeme → Lexeme → Reader Expression
index_of d t u ts = d.subscript u ts >>= λ e rest. Ok (leaf t (Form.Index (name_of t) e), rest)

-- [ "(" arguments ")" | "[" sum "]" ] behind NAME
unfoldable pub named_of : Inside → Lexeme → Reader Expression
named_of d t [] = read_of t []
named_of d t (u ∷ ts) =
    if same_class u.class classes.Open then call_of d t u ts else if same_class u.class classes.OpenBracket then index_of d t u ts else read_of t (u ∷ ts)

-- prim = "true" | "false" | [ "-" ] NUMBER | NAME | NAME "(" [ expr { "," expr } ] ")" | NAME "[" sum "]" | "next" "(" expr ")"
-- | "(" expr ")"
unfoldable pub prim_of : Inside → Reader Expression
prim_of d [] = Err (faults.Unexpected 0)
prim_of d (t ∷ ts) =
    if same_class t.class classes.Name then named_of d t ts
    else if same_class t.class classes.Next then next_of d t ts
    else if same_class t.class classes.Open then parentheses_of d t ts
    else literal (t ∷ ts)

-- ---- prefixed

-- what follows a PREFIX
unfoldable pub prefixed_of : Inside → Lexeme → PrefixWord → Reader Expression
prefixed_of d t word ts = d.operand t ts >>= λ e rest. Ok (leaf t (Form.Prefix word e), rest)

-- prefixed | prim
unfoldable pub operand_of : Inside → Reader Expression
operand_of d ts = option_map_or (λ p. prefixed_of d p.0.0 p.0.1 p.1) (prefix_at ts) (prim_of d ts)

-- ---- sums

unfoldable pub times_of : Inside → Term → Reader Term
times_of d a ts = expect classes.Star ts >>= λ t rest. prim_of d rest >>= λ b rest. Ok ((between t.at binaries.Mul a.0 b, false), rest)

-- prod = prim { "*" prim }
unfoldable pub prod_of : Inside → Reader Term
prod_of d ts = prim_of d ts >>= λ p rest. all_of (starts classes.Star) (times_of d) (p, true) rest

unfoldable pub plus_of : Inside → Term → Reader Term
plus_of d a ts = option_map_or (λ o. prod_of d o.1 >>= λ b rest. Ok ((between o.0.0 o.0.1 a.0 b.0, false), rest)) (operator_at levels.Sum ts) (unexpected ts)

-- "mod" NUMBER behind a prim
unfoldable pub modulo : Expression → Reader Term
modulo e ts = expect classes.Mod ts >>= λ t rest. expect classes.Number rest >>= λ n rest. Ok ((expression (first_of e) t.at (Form.Mod e n.at n.text), false), rest)

-- sum = prod { ( "+" | "-" ) prod } | prim "mod" NUMBER
unfoldable pub sum_of : Inside → Reader Term
sum_of d ts = prod_of d ts >>= λ p rest. if p.1 && starts classes.Mod rest then modulo p.0 rest else all_of starts_sum (plus_of d) p rest

-- ---- comparisons

-- sum | prefixed
unfoldable pub side_of : Inside → Reader Expression
side_of d ts = option_map_or (λ p. prefixed_of d p.0.0 p.0.1 p.1) (prefix_at ts) (sum_of d ts >>= λ p rest. Ok (p.0, rest))

unfoldable pub compared_of : Inside → Expression → Place → BinaryWord → Reader Term
compared_of d a at word ts = side_of d ts >>= λ b rest. Ok ((between at word a b, false), rest)

-- sum [ ( "=" | "!=" | "<" | "<=" | ">" | ">=" ) ( sum | prefixed ) ]
unfoldable pub comparison_of : Inside → Reader Term
comparison_of d ts = sum_of d ts >>= λ p rest. option_map_or (λ o. compared_of d p.0 o.0.0 o.0.1 o.1) (operator_at levels.Relation rest) (Ok (p, rest))

-- cmp = prefixed | sum [ ( "=" | "!=" | "<" | "<=" | ">" | ">=" ) ( sum | prefixed ) ]
unfoldable pub cmp_of : Inside → Reader Term
cmp_of d ts = option_map_or (λ p. prefixed_of d p.0.0 p.0.1 p.1 >>= λ e rest. Ok ((e, false), rest)) (prefix_at ts) (comparison_of d ts)

-- ---- conjunctions and disjunctions

unfoldable pub conjunct_of : Inside → Chain → Reader Chain
conjunct_of d all ts = expect classes.And ts >>= λ t rest. cmp_of d rest >>= λ p rest. Ok ((all.0 ++ p.0 ∷ [], all.1 ++ t.at ∷ []), rest)

-- { "&" cmp } behind a first cmp, once at least
unfoldable pub conjunction_of : Inside → Expression → Reader Term
conjunction_of d a ts =
    expect classes.And ts >>= λ t rest. cmp_of d rest >>= λ b rest. all_of (starts classes.And) (conjunct_of d) (a ∷ b.0 ∷ [], t.at ∷ []) rest
    >>= λ all rest. Ok ((expression (first_of a) t.at (Form.And (expressions all.0) all.1), false), rest)

-- conj = cmp { ( "&" | "and" ) cmp }
unfoldable pub conj_of : Inside → Reader Term
conj_of d ts = cmp_of d ts >>= λ p rest. if starts classes.And rest then conjunction_of d p.0 rest else Ok (p, rest)

unfoldable pub disjunct_of : Inside → Chain → Reader Chain
disjunct_of d all ts = expect_or ts >>= λ t rest. conj_of d rest >>= λ p rest. Ok ((all.0 ++ p.0 ∷ [], all.1 ++ t.at ∷ []), rest)

-- { "|" conj } behind a first conj, once at least
unfoldable pub disjunction_of : Inside → Expression → Reader Term
disjunction_of d a ts =
    expect_or ts >>= λ t rest. conj_of d rest >>= λ b rest. all_of starts_or (disjunct_of d) (a ∷ b.0 ∷ [], t.at ∷ []) rest
    >>= λ all rest. Ok ((expression (first_of a) t.at (Form.Or (expressions all.0) all.1), false), rest)

-- disj = conj { ( "|" | "or" ) conj }
unfoldable pub disj_of : Inside → Reader Term
disj_of d ts = conj_of d ts >>= λ p rest. if starts_or rest then disjunction_of d p.0 rest else Ok (p, rest)

-- ---- expr

unfoldable pub arrow_of : Inside → Expression → Place → BinaryWord → Reader Expression
arrow_of d a at word ts = disj_of d ts >>= λ b rest. Ok (between at word a b.0, rest)

-- [ ( "SINCE" | "S" | "TRIGGERED" | "T" ) prim ] behind a prim
unfoldable pub past_of : Inside → Expression → Reader Expression
past_of d a ts = option_map_or (λ o. prim_of d o.1 >>= λ b rest. Ok (between o.0.0 o.0.1 a b, rest)) (operator_at levels.Past ts) (Ok (a, ts))

unfoldable pub alone_of : Inside → Expression → Bool → Reader Expression
alone_of d a alone ts = if alone then past_of d a ts else Ok (a, ts)

-- disj [ ( "->" | "implies" | "<->" | "iff" ) disj ] | prim ( "SINCE" | "S" | "TRIGGERED" | "T" ) prim
unfoldable pub unquantified_of : Inside → Reader Expression
unquantified_of d ts = disj_of d ts >>= λ p rest. option_map_or (λ o. arrow_of d p.0 o.0.0 o.0.1 o.1) (operator_at levels.Arrow rest) (alone_of d p.0 p.1 rest)

-- "forall", and what follows it
unfoldable pub for_all_of : Inside → Reader Expression
for_all_of d ts = expect classes.ForAll ts >>= λ t rest. d.scope t rest >>= λ s rest. Ok (leaf t (Form.ForAll s.name s.low s.high s.body), rest)

-- "exists", and what follows it
unfoldable pub exists_of : Inside → Reader Expression
exists_of d ts = expect classes.Exists ts >>= λ t rest. d.scope t rest >>= λ s rest. Ok (leaf t (Form.Exists s.name s.low s.high s.body), rest)

-- expr = disj [ ( "->" | "implies" | "<->" | "iff" ) disj ] | prim ( "SINCE" | "S" | "TRIGGERED" | "T" ) prim
-- | ( "forall" | "exists" ) NAME "in" sum ".." sum ":" expr
unfoldable pub expr_of : Inside → Reader Expression
expr_of d ts = if starts classes.ForAll ts then for_all_of d ts else if starts classes.Exists ts then exists_of d ts else unquantified_of d ts

-- an expr that no operator follows
unfoldable pub whole_of : Inside → Reader Expression
whole_of d ts = expr_of d ts >>= λ e rest. closed e rest

-- a sum that no operator follows
unfoldable pub bound_of : Inside → Reader Expression
bound_of d ts = sum_of d ts >>= λ p rest. closed p.0 rest

-- sum "]"
unfoldable pub subscript_of : Inside → Reader Expression
subscript_of d ts = bound_of d ts >>= λ e rest. expect classes.CloseBracket rest >>= λ c rest. Ok (e, rest)

-- NAME "in" sum ".." sum ":" expr
unfoldable pub scope_of : Inside → Reader Scope
scope_of d ts =
    expect classes.Name ts >>= λ n rest. expect classes.In rest >>= λ i rest. bound_of d rest >>= λ low rest. expect classes.UpTo rest
    >>= λ u rest. bound_of d rest >>= λ high rest. expect classes.Colon rest >>= λ c rest. whole_of d rest
    >>= λ e rest. Ok (record { name = name_of n; low = low; high = high; body = e }, rest)

-- ---- arguments

unfoldable pub argument_of : Inside → List Expression → Reader (List Expression)
argument_of d all ts = expect classes.Comma ts >>= λ t rest. whole_of d rest >>= λ e rest. Ok (all ++ e ∷ [], rest)

-- expr { "," expr } ")"
unfoldable pub some_arguments_of : Inside → Reader (List Expression)
some_arguments_of d ts =
    whole_of d ts >>= λ e rest. all_of (starts classes.Comma) (argument_of d) (e ∷ []) rest >>= λ es rest. expect classes.Close rest >>= λ t rest. Ok (es, rest)

-- [ expr { "," expr } ] ")"
unfoldable pub arguments_of : Inside → Reader (List Expression)
arguments_of d ts = if starts classes.Close ts then (expect classes.Close ts >>= λ t rest. Ok ([], rest)) else some_arguments_of d ts

-- ---- levels

-- with so many levels that may still be opened
unfoldable pub inside : ℕ → Inside
inside zero = record { whole = deep; operand = deep; arguments = deep; subscript = deep; scope = deep }
inside (suc left) = record {
  whole = λ t. whole_of (inside left);
  operand = λ t. operand_of (inside left);
  arguments = λ t. arguments_of (inside left);
  subscript = λ t. subscript_of (inside left);
  scope = λ t. scope_of (inside left);
}
