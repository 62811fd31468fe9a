-- The tokens of an expression close what they open, and end an operand: one lemma for each production.
use Rattle.std.proofs.Common.{ℕ, zero, suc, true, false, List, [], ◌∷◌, ◌++◌, refl}
use Rattle.spectra_exprs.specs.declared.operators.Level.{Level}
use Rattle.spectra_exprs.specs.declared.operators.Level.TheVariants as levels
use Rattle.spectra_trees.specs.declared.class.Class.TheVariants as classes
use Rattle.spectra_trees.specs.declared.tree.Place.{Place}
use Rattle.spectra_trees.specs.declared.tree.BinaryWord.{BinaryWord}
use Rattle.spectra_trees.specs.declared.tree.BinaryWord.TheVariants as binaries
use Rattle.spectra_trees.specs.declared.tree.PrefixWord.{PrefixWord}
use Rattle.spectra_trees.specs.Classes.{place_of}
use Rattle.spectra_trees.specs.Data.{Expression, Form, expression, expressions, first_of}
use Rattle.spectra_trees.specs.Lexemes.{Lexeme, name_of}
use Rattle.spectra_exprs.specs.Expressions.{leaf, between, opened, Term, Scope, Chain}
use Rattle.spectra_exprs.specs.Forms.{Gives, Token, ◌▸◌}
use Rattle.spectra_exprs.specs.Grammar.{Operator, Prefix, OrSign, Deeper, Literal, Prim, Prefixed, Operand, Times, Prod, Plus, Modulo, Alone, Sum, Side, Cmp, Conjunct, Conj, Disjunct, Disj, Unquantified, ExprOf, BoundOf, Subscript, ScopeOf, Argument, Arguments, Levels}
use Rattle.spectra_exprs.proofs.ClassSets.{Within}
use Rattle.spectra_exprs.proofs.WholeExpressions.{b_prefix, prefix_some, set_of, operator_some}
use Rattle.spectra_exprs.proofs.Shapes.{inner_tokens, within_one, Goes, Formed, goes_of, goes_gives, goes_or, formed_or, formed_then, goes_then, formed_nothing, goes_steps}
use Rattle.spectra_exprs.proofs.ShapesOfTokens.{Plain, plain_token, plain_or, formed_plain, formed_token, Inner, inner_of, inner_separator, inner_then, inner_steps, Listed, listed_close, listed_colon, listed_then, listed_after, listed_or, listed_nothing, formed_open, Scoped, scoped_nothing, scoped_name, scoped_after, formed_quantifier}

operators_inner : (level : Level) → Within (set_of level) inner_tokens
unfolding place_of
operators_inner levels.Arrow = record { checked = refl }
operators_inner levels.Past = record { checked = refl }
operators_inner levels.Relation = record { checked = refl }
operators_inner levels.Sum = record { checked = refl }

or_inner : Plain OrSign
unfolding place_of
or_inner = plain_or (plain_token classes.Bar (record { checked = refl })) (plain_token classes.Or (record { checked = refl }))

plain_operator : (level : Level) → Plain (Operator level)
plain_operator level = record { token = λ used o p. (p.token, p.alone, within_one (set_of level) inner_tokens (operators_inner level) p.token (operator_some level p.token.class o.1 p.word)) }

plain_prefix : Plain Prefix
unfolding place_of
plain_prefix = record { token = λ used x p. (x.0, p.alone, within_one b_prefix inner_tokens (record { checked = refl }) x.0 (prefix_some x.0.class x.1 p.word)) }

formed_literal : Formed Literal
unfolding place_of
formed_literal =
    formed_or (formed_then (formed_token classes.True (record { checked = refl }) (record { checked = refl })) (λ (t : Lexeme). goes_gives (leaf t Form.True)))
    (formed_or (formed_then (formed_token classes.False (record { checked = refl }) (record { checked = refl })) (λ (t : Lexeme). goes_gives (leaf t Form.False)))
    (formed_or (formed_then (formed_token classes.Number (record { checked = refl }) (record { checked = refl })) (λ (t : Lexeme). goes_gives (leaf t (Form.Number false t.text))))
    (formed_plain (plain_token classes.Minus (record { checked = refl })) (λ (m : Lexeme). formed_then (formed_token classes.Number (record { checked = refl }) (record { checked = refl }))
    (λ (n : Lexeme). goes_gives (expression m.at n.at (Form.Number true n.text)))))))

goes_alone : {A : Type 0} {P : List Lexeme → A → Type 0} (p : Term) → Goes P → Goes (Alone p P)
goes_alone p g = record { level = λ k used a h. g.level k used a h.then; still = λ used a h. g.still used a h.then; named = λ used a h. g.named used a h.then }

-- ---- over what stands one level deeper

pub record FormedInside (d : Deeper) : Type 0 where
  pub whole : Formed d.Whole
  pub next : Formed d.Next
  pub listed : Listed d.Listed
  pub indexed : Listed d.Indexed
  pub scoped : Scoped d.Scoped

module _ (d : Deeper) (s : FormedInside d) where
  whole_close : {B : Type 0} (f : Expression → Lexeme → B) → Listed (d.Whole ▸ λ e. Token classes.Close ▸ λ c. Gives (f e c))
  unfolding place_of
  whole_close f = listed_then (inner_of (goes_of s.whole)) (λ (e : Expression). listed_close classes.Close (record { checked = refl }) (record { checked = refl }) (f e))

  formed_prim : Formed (Prim d)
  unfolding place_of
  formed_prim =
      formed_or
      (formed_then (formed_token classes.Name (record { checked = refl }) (record { checked = refl })) (λ (t : Lexeme). goes_or
      (goes_of (formed_open classes.Open (record { checked = refl }) (record { checked = refl }) (λ (o : Lexeme). listed_after s.listed (λ (es : List Expression). goes_gives (leaf t (Form.Call (name_of t) (expressions es)))))))
      (goes_or (goes_of (formed_open classes.OpenBracket (record { checked = refl }) (record { checked = refl }) (λ (o : Lexeme). listed_after s.indexed (λ (e : Expression). goes_gives (leaf t (Form.Index (name_of t) e)))))) (goes_gives (leaf t (Form.Read (name_of t)))))))
      (formed_or (formed_plain (plain_token classes.Next (record { checked = refl })) (λ (t : Lexeme). formed_open classes.Open (record { checked = refl }) (record { checked = refl }) (λ (o : Lexeme). whole_close (λ e c. leaf t (Form.Next e)))))
      (formed_or (formed_open classes.Open (record { checked = refl }) (record { checked = refl }) (λ (t : Lexeme). whole_close (λ e c. opened t e))) formed_literal))

  formed_prefixed : Formed (Prefixed d)
  formed_prefixed = formed_plain plain_prefix (λ (p : Lexeme × PrefixWord). formed_then s.next (λ (e : Expression). goes_gives (leaf p.0 (Form.Prefix p.1 e))))

  pub formed_operand : Formed (Operand d)
  formed_operand = formed_or formed_prefixed formed_prim

  formed_times : (a : Term) → Formed (Times d a)
  unfolding place_of
  formed_times a = formed_plain (plain_token classes.Star (record { checked = refl })) (λ (t : Lexeme). formed_then formed_prim (λ (b : Expression). goes_gives (between t.at binaries.Mul a.0 b, false)))

  formed_prod : Formed (Prod d)
  formed_prod = formed_then formed_prim (λ (p : Expression). goes_steps formed_times (p, true))

  formed_plus : (a : Term) → Formed (Plus d a)
  formed_plus a = formed_plain (plain_operator levels.Sum) (λ (o : Place × BinaryWord). formed_then formed_prod (λ (b : Term). goes_gives (between o.0 o.1 a.0 b.0, false)))

  formed_modulo : (e : Expression) → Formed (Modulo e)
  unfolding place_of
  formed_modulo e =
      formed_plain (plain_token classes.Mod (record { checked = refl })) (λ (t : Lexeme). formed_then (formed_token classes.Number (record { checked = refl }) (record { checked = refl }))
      (λ (n : Lexeme). goes_gives (expression (first_of e) t.at (Form.Mod e n.at n.text), false)))

  pub formed_sum : Formed (Sum d)
  formed_sum = formed_then formed_prod (λ (p : Term). goes_or (goes_alone p (goes_of (formed_modulo p.0))) (goes_steps formed_plus p))

  formed_side : Formed (Side d)
  formed_side = formed_or formed_prefixed (formed_then formed_sum (λ (p : Term). goes_gives p.0))

  formed_cmp : Formed (Cmp d)
  formed_cmp =
      formed_or (formed_then formed_prefixed (λ (e : Expression). goes_gives (e, false)))
      (formed_then formed_sum (λ (p : Term). goes_or (goes_of (formed_plain (plain_operator levels.Relation) (λ (o : Place × BinaryWord). formed_then formed_side (λ (b : Expression). goes_gives (between o.0 o.1 p.0 b, false))))) (goes_gives p)))

  formed_conjunct : (all : Chain) → Formed (Conjunct d all)
  unfolding place_of
  formed_conjunct all = formed_plain (plain_token classes.And (record { checked = refl })) (λ (t : Lexeme). formed_then formed_cmp (λ (p : Term). goes_gives (all.0 ++ p.0 ∷ [], all.1 ++ t.at ∷ [])))

  formed_conj : Formed (Conj d)
  unfolding place_of
  formed_conj =
      formed_then formed_cmp (λ (a : Term). goes_or
      (goes_of (formed_plain (plain_token classes.And (record { checked = refl })) (λ (t : Lexeme). formed_then formed_cmp (λ (b : Term). goes_then (goes_steps formed_conjunct (a.0 ∷ b.0 ∷ [], t.at ∷ []))
      (λ (all : Chain). goes_gives (expression (first_of a.0) t.at (Form.And (expressions all.0) all.1), false)))))) (goes_gives a))

  formed_disjunct : (all : Chain) → Formed (Disjunct d all)
  formed_disjunct all = formed_plain or_inner (λ (t : Lexeme). formed_then formed_conj (λ (p : Term). goes_gives (all.0 ++ p.0 ∷ [], all.1 ++ t.at ∷ [])))

  formed_disj : Formed (Disj d)
  formed_disj =
      formed_then formed_conj (λ (a : Term). goes_or
      (goes_of (formed_plain or_inner (λ (t : Lexeme). formed_then formed_conj (λ (b : Term). goes_then (goes_steps formed_disjunct (a.0 ∷ b.0 ∷ [], t.at ∷ []))
      (λ (all : Chain). goes_gives (expression (first_of a.0) t.at (Form.Or (expressions all.0) all.1), false)))))) (goes_gives a))

  formed_unquantified : Formed (Unquantified d)
  formed_unquantified =
      formed_then formed_disj (λ (a : Term). goes_or
      (goes_of (formed_plain (plain_operator levels.Arrow) (λ (o : Place × BinaryWord). formed_then formed_disj (λ (b : Term). goes_gives (between o.0 o.1 a.0 b.0)))))
      (goes_or (goes_alone a (goes_of (formed_plain (plain_operator levels.Past) (λ (o : Place × BinaryWord). formed_then formed_prim (λ (b : Expression). goes_gives (between o.0 o.1 a.0 b)))))) (goes_gives a.0)))

  pub formed_expr : Formed (ExprOf d)
  unfolding place_of
  formed_expr =
      formed_or (formed_quantifier classes.ForAll (record { checked = refl }) (record { checked = refl }) (λ (t : Lexeme). scoped_after s.scoped (λ (x : Scope). goes_gives (leaf t (Form.ForAll x.name x.low x.high x.body)))))
      (formed_or (formed_quantifier classes.Exists (record { checked = refl }) (record { checked = refl }) (λ (t : Lexeme). scoped_after s.scoped (λ (x : Scope). goes_gives (leaf t (Form.Exists x.name x.low x.high x.body))))) formed_unquantified)

  pub formed_bound : Formed (BoundOf d)
  formed_bound = formed_then formed_sum (λ (p : Term). goes_gives p.0)

  pub indexed_subscript : Listed (Subscript d)
  unfolding place_of
  indexed_subscript = listed_then (inner_of (goes_of formed_bound)) (λ (e : Expression). listed_close classes.CloseBracket (record { checked = refl }) (record { checked = refl }) (λ (c : Lexeme). e))

  pub scoped_scope : Scoped (ScopeOf d)
  unfolding place_of
  scoped_scope =
      scoped_name (λ (n : Lexeme). listed_then (inner_separator classes.In (record { checked = refl })) (λ (i : Lexeme). listed_then (inner_of (goes_of formed_bound)) (λ (low : Expression).
      listed_then (inner_separator classes.UpTo (record { checked = refl })) (λ (u : Lexeme). listed_then (inner_of (goes_of formed_bound)) (λ (high : Expression).
      listed_colon (λ (c : Lexeme). formed_then formed_expr (λ (e : Expression). goes_gives (record { name = name_of n; low = low; high = high; body = e }))))))))

  inner_argument : (all : List Expression) → Inner (Argument d all)
  unfolding place_of
  inner_argument all = inner_then (inner_separator classes.Comma (record { checked = refl })) (λ (t : Lexeme). inner_of (goes_then (goes_of formed_expr) (λ (e : Expression). goes_gives (all ++ e ∷ []))))

  pub listed_arguments : Listed (Arguments d)
  unfolding place_of
  listed_arguments =
      listed_or (listed_close classes.Close (record { checked = refl }) (record { checked = refl }) (λ (t : Lexeme). []))
      (listed_then (inner_of (goes_of formed_expr)) (λ (e : Expression). listed_then (inner_steps inner_argument (e ∷ [])) (λ (es : List Expression). listed_close classes.Close (record { checked = refl }) (record { checked = refl }) (λ (t : Lexeme). es))))

pub formed_inside : (left : ℕ) → FormedInside (Levels left)
formed_inside zero = record { whole = formed_nothing; next = formed_nothing; listed = listed_nothing; indexed = listed_nothing; scoped = scoped_nothing }
formed_inside (suc left) = record {
  whole = formed_expr (Levels left) (formed_inside left);
  next = formed_operand (Levels left) (formed_inside left);
  listed = listed_arguments (Levels left) (formed_inside left);
  indexed = indexed_subscript (Levels left) (formed_inside left);
  scoped = scoped_scope (Levels left) (formed_inside left);
}
