-- Where reading an expression stops at an operator that it didn't expect, an operand is awaited.
use Rattle.std.proofs.Common.{◌≡◌, ℕ, zero, suc, Bool, true, false, cond, ◌&&◌, ◌||◌, List, [], ◌∷◌, ◌++◌, Some, None, option_map, Ok, refl}
use Rattle.spectra_exprs.specs.declared.operators.Level.{Level}
use Rattle.spectra_exprs.specs.declared.operators.Level.TheVariants as levels
use Rattle.spectra_trees.specs.declared.class.Class.{Class}
use Rattle.spectra_trees.specs.declared.class.Class.TheVariants as classes
use Rattle.spectra_trees.specs.declared.tree.Place.{Place}
use Rattle.spectra_trees.specs.declared.tree.BinaryWord.{BinaryWord}
use Rattle.spectra_trees.specs.declared.tree.BinaryWord.TheVariants as binaries
use Rattle.spectra_trees.specs.declared.tree.PrefixWord.{PrefixWord}
use Rattle.spectra_trees.specs.Classes.{place_of, same_class}
use Rattle.spectra_trees.specs.Data.{Expression, Form, expression, expressions, first_of}
use Rattle.spectra_trees.specs.Lexemes.{Lexeme, name_of}
use Rattle.spectra_exprs.specs.Read.{Reader, ◌>>=◌, starts, expect, all_of}
use Rattle.spectra_exprs.specs.Operators.{sum_word}
use Rattle.spectra_exprs.specs.OperatorReaders.{operator_at, prefix_at, starts_sum, starts_or, expect_or}
use Rattle.spectra_exprs.specs.Expressions.{leaf, between, opened, Term, Scope, Chain, Inside, negative, number_of, literal, next_of, parentheses_of, call_of, index_of, read_of, named_of, prim_of, prefixed_of, operand_of, times_of, prod_of, plus_of, modulo, sum_of, side_of, compared_of, comparison_of, cmp_of, conjunct_of, conjunction_of, conj_of, disjunct_of, disjunction_of, disj_of, arrow_of, past_of, alone_of, unquantified_of, for_all_of, exists_of, expr_of, whole_of, bound_of, subscript_of, scope_of, argument_of, some_arguments_of, arguments_of, inside}
use Rattle.spectra_exprs.specs.Grammar.{Operator, Prefix}
use Rattle.spectra_exprs.proofs.Soundness.{Got}
use Rattle.spectra_exprs.proofs.SoundExpressions.{literal_same, named_same, prim_same, prefix_looks, operator_looks}
use Rattle.spectra_exprs.proofs.ClassSets.{Apart, same_going}
use Rattle.spectra_exprs.proofs.WholeExpressions.{b_prefix, prefix_some, set_of, operator_some}
use Rattle.spectra_exprs.proofs.AwaitingVariables.{AwaitsScope, scope_deep, scope_map, scope_variable, awaits_quantifier}
use Rattle.spectra_exprs.proofs.Closing.{awaits_close, closes_close, closes_then, closes_map, closes_steps, closes_deep}
use Rattle.spectra_exprs.proofs.Awaiting.{operand_ends, anywhere, Awaits, Closes, Taken, Takes, awaits_gives, awaits_unexpected, awaits_deep, awaits_token, awaits_then, awaits_closed, awaits_closing, opens_apart, takes_token, awaits_taken, awaits_mark, awaits_opening, awaits_same, awaits_if, Sees, AwaitsLook, awaits_look, awaits_look_only, awaits_steps, Cut}

-- a token behind which an operand is awaited, and what is read behind it
awaits_after : {B : Type 0} {b : Bool} (class : Class) {S : Lexeme → Reader B} → Apart (class ∷ []) operand_ends → ((t : Lexeme) → Awaits anywhere true (S t)) → Awaits (starts class) b (λ ts. expect class ts >>= S)
awaits_after class apart second = awaits_taken (takes_token class apart) second

-- a token that ends an operand, and what is read behind it
awaits_behind : {B : Type 0} {test : List Lexeme → Bool} (class : Class) {S : Lexeme → Reader B} → ((t : Lexeme) → Awaits anywhere false (S t)) → Awaits test true (λ ts. expect class ts >>= S)
awaits_behind class second = awaits_then (awaits_token class) second

awaits_negative : (t : Lexeme) → Awaits anywhere true (negative t)
unfolding negative
awaits_negative t = awaits_behind classes.Number (λ (n : Lexeme). awaits_gives (expression t.at n.at (Form.Number true n.text)))

awaits_literal : Awaits anywhere true literal
unfolding number_of place_of
awaits_literal =
    awaits_same literal_same
    (awaits_if (awaits_behind classes.True (λ (t : Lexeme). awaits_gives (leaf t Form.True)))
    (awaits_if (awaits_behind classes.False (λ (t : Lexeme). awaits_gives (leaf t Form.False)))
    (awaits_if (awaits_behind classes.Number (λ (t : Lexeme). awaits_gives (leaf t (Form.Number false t.text))))
    (awaits_if (awaits_after classes.Minus (record { checked = refl }) awaits_negative) awaits_unexpected))))

-- ---- looks at the first token

sees_prefix : AwaitsLook prefix_at
unfolding place_of
sees_prefix = record { sees = λ ts x rest e. at ts x rest (prefix_looks.found ts x rest e) }
  where
    at : (ts : List Lexeme) (x : Lexeme × PrefixWord) (rest : List Lexeme) → Got Prefix ts x rest → Sees ts rest
    at ts x rest g =
        let alone = g.derives.alone in
        let front : ts ≡ x.0 ∷ rest = rw (g.front, alone) refl in
        record { token = x.0; front = front; waits = opens_apart b_prefix (record { checked = refl }) x.0 (prefix_some x.0.class x.1 g.derives.word) }

operators_open : (level : Level) → Apart (set_of level) operand_ends
unfolding place_of
operators_open levels.Arrow = record { checked = refl }
operators_open levels.Past = record { checked = refl }
operators_open levels.Relation = record { checked = refl }
operators_open levels.Sum = record { checked = refl }

sees_operator : (level : Level) → AwaitsLook (operator_at level)
sees_operator level = record { sees = λ ts x rest e. at ts x rest ((operator_looks level).found ts x rest e) }
  where
    at : (ts : List Lexeme) (x : Place × BinaryWord) (rest : List Lexeme) → Got (Operator level) ts x rest → Sees ts rest
    at ts x rest g =
        let t = g.derives.token in
        let alone = g.derives.alone in
        let front : ts ≡ t ∷ rest = rw (g.front, alone) refl in
        record { token = t; front = front; waits = opens_apart (set_of level) (operators_open level) t (operator_some level t.class x.1 g.derives.word) }

sum_found : (ts : List Lexeme) → starts_sum ts ≡ true → operator_at levels.Sum ts ≡ None → ⊥
unfolding starts_sum starts operator_at sum_word
sum_found [] on none = absurd (cc)
sum_found (t ∷ ts) on none = by (same_class t.class classes.Plus) (same_class t.class classes.Minus) on none
  where
    by : (p m : Bool) → p || m ≡ true → option_map {U = (Place × BinaryWord) × List Lexeme} (λ word. ((t.at, word), ts)) (cond p (Some binaries.Add) (cond m (Some binaries.Sub) None)) ≡ None → ⊥
    by true m on none = absurd (cc)
    by false true on none = absurd (cc)
    by false false on none = absurd (cc)

takes_or : Takes starts_or expect_or
unfolding starts_or expect_or starts expect place_of
takes_or = record { takes = at; cut = λ ts a rest e. by_test (starts classes.Bar ts) ts a rest e }
  where
    first : (b c : Bool) (t : Lexeme) (ts : List Lexeme) → same_class t.class classes.Bar ≡ b → same_class t.class classes.Or ≡ c → b || c ≡ true → Taken expect_or (t ∷ ts)
    first true c t ts bar or on = record { token = t; rest = ts; front = refl; read = rw bar refl; waits = opens_apart (classes.Bar ∷ []) (record { checked = refl }) t (same_going classes.Bar t [] bar) }
    first false true t ts bar or on = record { token = t; rest = ts; front = refl; read = rw (bar, or) refl; waits = opens_apart (classes.Or ∷ []) (record { checked = refl }) t (same_going classes.Or t [] or) }
    first false false t ts bar or on = absurd (cc)

    at : (ts : List Lexeme) → starts_or ts ≡ true → Taken expect_or ts
    at [] on = absurd (cc)
    at (t ∷ ts) on = first (same_class t.class classes.Bar) (same_class t.class classes.Or) t ts refl refl on

    by_test : (b : Bool) (ts : List Lexeme) (a : Lexeme) (rest : List Lexeme) → cond b (expect classes.Bar ts) (expect classes.Or ts) ≡ Ok (a, rest) → Cut ts rest
    by_test true ts a rest e = (awaits_token {test = anywhere} classes.Bar).goes ts a rest e
    by_test false ts a rest e = (awaits_token {test = anywhere} classes.Or).goes ts a rest e

-- ---- over what reads one level deeper

pub record AwaitsInside (r : Inside) : Type 0 where
  pub whole : (t : Lexeme) → Awaits anywhere true (r.whole t)
  pub closes : (t : Lexeme) → Closes anywhere (r.whole t)
  pub operand : (t : Lexeme) → Awaits anywhere true (r.operand t)
  pub arguments : (t : Lexeme) → Awaits anywhere true (r.arguments t)
  pub subscript : (t : Lexeme) → Awaits anywhere true (r.subscript t)
  pub scope : (t : Lexeme) → AwaitsScope (r.scope t)

module _ (r : Inside) (s : AwaitsInside r) where
  awaits_call : (t u : Lexeme) → Awaits anywhere true (call_of r t u)
  unfolding call_of
  awaits_call t u = awaits_then (s.arguments u) (λ (es : List Expression). awaits_gives (leaf t (Form.Call (name_of t) (expressions es))))

  awaits_index : (t u : Lexeme) → Awaits anywhere true (index_of r t u)
  unfolding index_of
  awaits_index t u = awaits_then (s.subscript u) (λ (e : Expression). awaits_gives (leaf t (Form.Index (name_of t) e)))

  awaits_named : (t : Lexeme) → Awaits anywhere false (named_of r t)
  unfolding read_of place_of
  awaits_named t =
      awaits_same (named_same r t)
      (awaits_if (awaits_after classes.Open (record { checked = refl }) (awaits_call t))
      (awaits_if (awaits_after classes.OpenBracket (record { checked = refl }) (awaits_index t)) (awaits_gives (leaf t (Form.Read (name_of t))))))

  awaits_whole_close : {B : Type 0} (t : Lexeme) (f : Expression → B) → Awaits anywhere true (λ ts. r.whole t ts >>= λ e rest. expect classes.Close rest >>= λ c rest. Ok (f e, rest))
  awaits_whole_close t f = awaits_closed (s.whole t) (s.closes t) (λ (e : Expression). awaits_closing classes.Close (λ (c : Lexeme). awaits_gives (f e)))

  awaits_next : (t : Lexeme) → Awaits anywhere true (next_of r t)
  unfolding next_of place_of
  awaits_next t = awaits_opening classes.Open (record { checked = refl }) (λ (o : Lexeme). awaits_whole_close o (λ (e : Expression). leaf t (Form.Next e)))

  awaits_parentheses : (t : Lexeme) → Awaits anywhere true (parentheses_of r t)
  unfolding parentheses_of
  awaits_parentheses t = awaits_whole_close t (λ (e : Expression). opened t e)

  awaits_prim : Awaits anywhere true (prim_of r)
  unfolding place_of
  awaits_prim =
      awaits_same (prim_same r)
      (awaits_if (awaits_behind classes.Name awaits_named)
      (awaits_if (awaits_after classes.Next (record { checked = refl }) awaits_next)
      (awaits_if (awaits_after classes.Open (record { checked = refl }) awaits_parentheses) awaits_literal)))

  awaits_prefixed : (p : Lexeme × PrefixWord) → Awaits anywhere true (prefixed_of r p.0 p.1)
  unfolding prefixed_of
  awaits_prefixed p = awaits_then (s.operand p.0) (λ (e : Expression). awaits_gives (leaf p.0 (Form.Prefix p.1 e)))

  pub awaits_operand : Awaits anywhere true (operand_of r)
  unfolding operand_of
  awaits_operand = awaits_look sees_prefix awaits_prefixed awaits_prim

  awaits_times : (a : Term) → Awaits (starts classes.Star) false (times_of r a)
  unfolding times_of place_of
  awaits_times a = awaits_after classes.Star (record { checked = refl }) (λ (t : Lexeme). awaits_then awaits_prim (λ (b : Expression). awaits_gives (between t.at binaries.Mul a.0 b, false)))

  awaits_prod : Awaits anywhere true (prod_of r)
  unfolding prod_of
  awaits_prod = awaits_then awaits_prim (λ (p : Expression). awaits_steps awaits_times (p, true))

  awaits_plus : (a : Term) → Awaits starts_sum false (plus_of r a)
  unfolding plus_of
  awaits_plus a = awaits_look_only (sees_operator levels.Sum) (λ (o : Place × BinaryWord). awaits_then awaits_prod (λ (b : Term). awaits_gives (between o.0 o.1 a.0 b.0, false))) sum_found

  awaits_modulo : (e : Expression) → Awaits (starts classes.Mod) false (modulo e)
  unfolding modulo place_of
  awaits_modulo e =
      awaits_after classes.Mod (record { checked = refl }) (λ (t : Lexeme). awaits_behind classes.Number (λ (n : Lexeme). awaits_gives (expression (first_of e) t.at (Form.Mod e n.at n.text), false)))

  after_prod : (e : Expression) (alone : Bool) → Awaits anywhere false (λ ts. cond (alone && starts classes.Mod ts) (modulo e ts) (all_of starts_sum (plus_of r) (e, alone) ts))
  after_prod e true = awaits_if (awaits_modulo e) (awaits_steps awaits_plus (e, true))
  after_prod e false = awaits_steps awaits_plus (e, false)

  awaits_sum : Awaits anywhere true (sum_of r)
  unfolding sum_of
  awaits_sum = awaits_then awaits_prod (λ (p : Term). after_prod p.0 p.1)

  pub awaits_bound : Awaits anywhere true (bound_of r)
  unfolding bound_of
  awaits_bound = awaits_then awaits_sum (λ (p : Term). awaits_close p.0)

  pub closes_bound : Closes anywhere (bound_of r)
  unfolding bound_of
  closes_bound = closes_then (sum_of r) (λ (p : Term). closes_close p.0)

  awaits_side : Awaits anywhere true (side_of r)
  unfolding side_of
  awaits_side = awaits_look sees_prefix awaits_prefixed (awaits_then awaits_sum (λ (p : Term). awaits_gives p.0))

  awaits_compared : (a : Expression) (o : Place × BinaryWord) → Awaits anywhere true (compared_of r a o.0 o.1)
  unfolding compared_of
  awaits_compared a o = awaits_then awaits_side (λ (b : Expression). awaits_gives (between o.0 o.1 a b, false))

  awaits_comparison : Awaits anywhere true (comparison_of r)
  unfolding comparison_of
  awaits_comparison = awaits_then awaits_sum (λ (p : Term). awaits_look (sees_operator levels.Relation) (awaits_compared p.0) (awaits_gives p))

  awaits_cmp : Awaits anywhere true (cmp_of r)
  unfolding cmp_of
  awaits_cmp = awaits_look sees_prefix (λ (p : Lexeme × PrefixWord). awaits_then (awaits_prefixed p) (λ (e : Expression). awaits_gives (e, false))) awaits_comparison

  awaits_conjunct : (all : Chain) → Awaits (starts classes.And) false (conjunct_of r all)
  unfolding conjunct_of place_of
  awaits_conjunct all = awaits_after classes.And (record { checked = refl }) (λ (t : Lexeme). awaits_then awaits_cmp (λ (p : Term). awaits_gives (all.0 ++ p.0 ∷ [], all.1 ++ t.at ∷ [])))

  awaits_conjunction : (a : Expression) → Awaits (starts classes.And) false (conjunction_of r a)
  unfolding conjunction_of place_of
  awaits_conjunction a =
      awaits_after classes.And (record { checked = refl }) (λ (t : Lexeme). awaits_then awaits_cmp (λ (b : Term). awaits_then (awaits_steps awaits_conjunct (a ∷ b.0 ∷ [], t.at ∷ []))
      (λ (all : Chain). awaits_gives (expression (first_of a) t.at (Form.And (expressions all.0) all.1), false))))

  awaits_conj : Awaits anywhere true (conj_of r)
  unfolding conj_of
  awaits_conj = awaits_then awaits_cmp (λ (p : Term). awaits_if (awaits_conjunction p.0) (awaits_gives p))

  awaits_disjunct : (all : Chain) → Awaits starts_or false (disjunct_of r all)
  unfolding disjunct_of
  awaits_disjunct all = awaits_taken takes_or (λ (t : Lexeme). awaits_then awaits_conj (λ (p : Term). awaits_gives (all.0 ++ p.0 ∷ [], all.1 ++ t.at ∷ [])))

  awaits_disjunction : (a : Expression) → Awaits starts_or false (disjunction_of r a)
  unfolding disjunction_of
  awaits_disjunction a =
      awaits_taken takes_or (λ (t : Lexeme). awaits_then awaits_conj (λ (b : Term). awaits_then (awaits_steps awaits_disjunct (a ∷ b.0 ∷ [], t.at ∷ []))
      (λ (all : Chain). awaits_gives (expression (first_of a) t.at (Form.Or (expressions all.0) all.1), false))))

  awaits_disj : Awaits anywhere true (disj_of r)
  unfolding disj_of
  awaits_disj = awaits_then awaits_conj (λ (p : Term). awaits_if (awaits_disjunction p.0) (awaits_gives p))

  awaits_arrow : (a : Expression) (o : Place × BinaryWord) → Awaits anywhere true (arrow_of r a o.0 o.1)
  unfolding arrow_of
  awaits_arrow a o = awaits_then awaits_disj (λ (b : Term). awaits_gives (between o.0 o.1 a b.0))

  awaits_past : (a : Expression) → Awaits anywhere false (past_of r a)
  unfolding past_of
  awaits_past a = awaits_look (sees_operator levels.Past) (λ (o : Place × BinaryWord). awaits_then awaits_prim (λ (b : Expression). awaits_gives (between o.0 o.1 a b))) (awaits_gives a)

  awaits_alone : (a : Expression) (alone : Bool) → Awaits anywhere false (alone_of r a alone)
  unfolding alone_of
  awaits_alone a true = awaits_past a
  awaits_alone a false = awaits_gives a

  awaits_unquantified : Awaits anywhere true (unquantified_of r)
  unfolding unquantified_of
  awaits_unquantified = awaits_then awaits_disj (λ (p : Term). awaits_look (sees_operator levels.Arrow) (awaits_arrow p.0) (awaits_alone p.0 p.1))

  awaits_for_all : Awaits (starts classes.ForAll) true (for_all_of r)
  unfolding for_all_of place_of
  awaits_for_all = awaits_quantifier classes.ForAll (record { checked = refl }) (record { checked = refl }) (λ (t : Lexeme). scope_map (λ (x : Scope). leaf t (Form.ForAll x.name x.low x.high x.body)) (s.scope t))

  awaits_exists : Awaits (starts classes.Exists) true (exists_of r)
  unfolding exists_of place_of
  awaits_exists = awaits_quantifier classes.Exists (record { checked = refl }) (record { checked = refl }) (λ (t : Lexeme). scope_map (λ (x : Scope). leaf t (Form.Exists x.name x.low x.high x.body)) (s.scope t))

  awaits_expr : Awaits anywhere true (expr_of r)
  unfolding expr_of
  awaits_expr = awaits_if awaits_for_all (awaits_if awaits_exists awaits_unquantified)

  pub awaits_whole : Awaits anywhere true (whole_of r)
  unfolding whole_of
  awaits_whole = awaits_then awaits_expr (λ (e : Expression). awaits_close e)

  pub closes_whole : Closes anywhere (whole_of r)
  unfolding whole_of
  closes_whole = closes_then (expr_of r) (λ (e : Expression). closes_close e)

  pub awaits_subscript : Awaits anywhere true (subscript_of r)
  unfolding subscript_of
  awaits_subscript = awaits_closed awaits_bound closes_bound (λ (e : Expression). awaits_closing classes.CloseBracket (λ (c : Lexeme). awaits_gives e))

  pub awaits_scope : AwaitsScope (scope_of r)
  unfolding scope_of place_of
  awaits_scope =
      scope_variable classes.In (record { checked = refl }) (λ (n i : Lexeme).
      awaits_closed awaits_bound closes_bound (λ (low : Expression). awaits_mark classes.UpTo (record { checked = refl }) (λ (u : Lexeme).
      awaits_closed awaits_bound closes_bound (λ (high : Expression). awaits_mark classes.Colon (record { checked = refl }) (λ (c : Lexeme).
      awaits_then awaits_whole (λ (e : Expression). awaits_gives (record { name = name_of n; low = low; high = high; body = e })))))))

  awaits_argument : (all : List Expression) → Awaits (starts classes.Comma) false (argument_of r all)
  unfolding argument_of place_of
  awaits_argument all = awaits_after classes.Comma (record { checked = refl }) (λ (t : Lexeme). awaits_then awaits_whole (λ (e : Expression). awaits_gives (all ++ e ∷ [])))

  closes_argument : (all : List Expression) → Closes anywhere (argument_of r all)
  unfolding argument_of
  closes_argument all = closes_then (expect classes.Comma) (λ (t : Lexeme). closes_map (λ (e : Expression). all ++ e ∷ []) closes_whole)

  awaits_some_arguments : Awaits anywhere true (some_arguments_of r)
  unfolding some_arguments_of
  awaits_some_arguments =
      awaits_closed awaits_whole closes_whole (λ (e : Expression). awaits_closed (awaits_steps awaits_argument (e ∷ [])) (closes_steps (starts classes.Comma) closes_argument (e ∷ []))
      (λ (es : List Expression). awaits_closing classes.Close (λ (t : Lexeme). awaits_gives es)))

  pub awaits_arguments : Awaits anywhere true (arguments_of r)
  unfolding arguments_of
  awaits_arguments = awaits_if (awaits_behind classes.Close (λ (t : Lexeme). awaits_gives [])) awaits_some_arguments

pub awaits_inside : (left : ℕ) → AwaitsInside (inside left)
unfolding inside
awaits_inside zero = record { whole = λ t. awaits_deep t.number; closes = λ t. closes_deep t.number; operand = λ t. awaits_deep t.number; arguments = λ t. awaits_deep t.number; subscript = λ t. awaits_deep t.number; scope = λ t. scope_deep t.number }
awaits_inside (suc left) = record {
  whole = λ t. awaits_whole (inside left) (awaits_inside left);
  closes = λ t. closes_whole (inside left) (awaits_inside left);
  operand = λ t. awaits_operand (inside left) (awaits_inside left);
  arguments = λ t. awaits_arguments (inside left) (awaits_inside left);
  subscript = λ t. awaits_subscript (inside left) (awaits_inside left);
  scope = λ t. awaits_scope (inside left) (awaits_inside left);
}
