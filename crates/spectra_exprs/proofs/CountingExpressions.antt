-- How many levels are open where reading an expression goes on, and where it stops: one lemma for each production.
use Rattle.std.proofs.Common.{◌≡◌, ℕ, zero, suc, ◌+◌, ◌≤◌, Bool, true, false, cond, ◌&&◌, List, [], ◌∷◌, ◌++◌, Ok, refl, ap, arith}
use Rattle.spectra_exprs.specs.declared.operators.Level.TheVariants as levels
use Rattle.spectra_trees.specs.declared.class.Class.TheVariants as classes
use Rattle.spectra_trees.specs.declared.tree.Place.{Place}
use Rattle.spectra_trees.specs.declared.tree.BinaryWord.{BinaryWord}
use Rattle.spectra_trees.specs.declared.tree.BinaryWord.TheVariants as binaries
use Rattle.spectra_trees.specs.declared.tree.PrefixWord.{PrefixWord}
use Rattle.spectra_trees.specs.Classes.{place_of, same_class}
use Rattle.spectra_trees.specs.Data.{Expression, Form, expression, expressions, first_of}
use Rattle.spectra_trees.specs.Lexemes.{Lexeme, name_of}
use Rattle.spectra_exprs.specs.Read.{Reader, ◌>>=◌, starts, expect, all_of}
use Rattle.spectra_exprs.specs.OperatorReaders.{starts_sum, starts_or}
use Rattle.spectra_exprs.specs.Expressions.{leaf, between, opened, Term, Scope, Chain, Inside, negative, number_of, literal, next_of, parentheses_of, call_of, index_of, read_of, named_of, prim_of, prefixed_of, operand_of, times_of, prod_of, plus_of, modulo, sum_of, side_of, compared_of, comparison_of, cmp_of, conjunct_of, conjunction_of, conj_of, disjunct_of, disjunction_of, disj_of, arrow_of, past_of, alone_of, unquantified_of, for_all_of, exists_of, expr_of, whole_of, bound_of, subscript_of, scope_of, argument_of, some_arguments_of, arguments_of, inside}
use Rattle.spectra_exprs.specs.Nesting.{Opening, Nesting, sort_of, completed, ended, levels_of}
use Rattle.spectra_exprs.proofs.SoundExpressions.{literal_same, named_same, prim_same}
use Rattle.spectra_exprs.proofs.WholeExpressions.{set_of}
use Rattle.spectra_exprs.proofs.Counting.{Counts, Exactly, Ends, Shuts, shuts_ends, Opens, counts_gives, counts_unexpected, counts_same, counts_from, counts_to, counts_then, counts_if, counts_closed, counts_steps, opens_then}
use Rattle.spectra_exprs.proofs.CountingTokens.{ends_exactly, shuts_exactly, counts_name, counts_operand, counts_other, counts_mark, counts_colon, counts_close, counts_separator, counts_quantifier, counts_level, All, IsOther, IsEven, counts_operator, counts_sign, counts_prefix, counts_or}

-- ---- what the operators are to nesting

arrows_other : All IsOther (set_of levels.Arrow)
unfolding sort_of same_class place_of
arrows_other = (refl, (refl, tt))

pasts_other : All IsOther (set_of levels.Past)
unfolding sort_of same_class place_of
pasts_other = (refl, (refl, tt))

relations_other : All IsOther (set_of levels.Relation)
unfolding sort_of same_class place_of
relations_other = (refl, (refl, (refl, (refl, (refl, (refl, tt))))))

signs_even : (stack : List Opening) → completed stack ≡ stack → All (IsEven stack) (set_of levels.Sum)
unfolding sort_of same_class place_of
signs_even stack flat = (ap (λ (s : List Opening). record { stack = s; plain = false }) flat, (refl, tt))

-- ---- over what reads one level deeper

pub record CountsInside (left : ℕ) (r : Inside) : Type 0 where
  pub whole : (k : ℕ) (stack : List Opening) → levels_of stack + left ≡ k → (t : Lexeme) → Opens k t Opening.Level stack (Shuts (Opening.Level ∷ stack)) (r.whole t)
  pub operand : (k : ℕ) (stack : List Opening) → levels_of stack + left ≡ k → (t : Lexeme) → Opens k t Opening.Prefix stack (Ends (Opening.Prefix ∷ stack)) (r.operand t)
  pub arguments : (k : ℕ) (stack : List Opening) → levels_of stack + left ≡ k → (t : Lexeme) → Opens k t Opening.Level stack (Exactly false stack) (r.arguments t)
  pub subscript : (k : ℕ) (stack : List Opening) → levels_of stack + left ≡ k → (t : Lexeme) → Opens k t Opening.Level stack (Exactly false stack) (r.subscript t)
  pub scope : (k : ℕ) (stack : List Opening) → levels_of stack + left ≡ k → (t : Lexeme) → Opens k t Opening.Quantifier stack (Shuts (Opening.Quantifier ∷ stack)) (r.scope t)

module _ (left : ℕ) (r : Inside) (h : CountsInside left r) (k : ℕ) (stack : List Opening) (size : levels_of stack + left ≡ k) where
  few : levels_of stack ≤ k
  few = omega (arith, size)

  counts_negative : (t : Lexeme) → Counts k (Exactly false stack) (Exactly false stack) (negative t)
  unfolding negative sort_of same_class place_of
  counts_negative t = counts_operand stack classes.Number refl few (λ (n : Lexeme). counts_gives (expression t.at n.at (Form.Number true n.text)))

  counts_literal : Counts k (Exactly false stack) (Exactly false stack) literal
  unfolding number_of sort_of same_class place_of
  counts_literal =
      counts_same literal_same
      (counts_if (counts_operand stack classes.True refl few (λ (t : Lexeme). counts_gives (leaf t Form.True)))
      (counts_if (counts_operand stack classes.False refl few (λ (t : Lexeme). counts_gives (leaf t Form.False)))
      (counts_if (counts_operand stack classes.Number refl few (λ (t : Lexeme). counts_gives (leaf t (Form.Number false t.text))))
      (counts_if (counts_operand stack classes.Minus refl few counts_negative) counts_unexpected (starts classes.Minus)) (starts classes.Number)) (starts classes.False)) (starts classes.True))

  counts_call : (t u : Lexeme) → Opens k u Opening.Level stack (Exactly false stack) (call_of r t u)
  unfolding call_of
  counts_call t u = opens_then (h.arguments k stack size u) (λ (es : List Expression). counts_gives (leaf t (Form.Call (name_of t) (expressions es))))

  counts_index : (t u : Lexeme) → Opens k u Opening.Level stack (Exactly false stack) (index_of r t u)
  unfolding index_of
  counts_index t u = opens_then (h.subscript k stack size u) (λ (e : Expression). counts_gives (leaf t (Form.Index (name_of t) e)))

  counts_named : (t : Lexeme) → Counts k (Exactly false stack) (Exactly false stack) (named_of r t)
  unfolding read_of sort_of same_class place_of
  counts_named t =
      counts_same (named_same r t)
      (counts_if (counts_level stack classes.Open refl (counts_call t))
      (counts_if (counts_level stack classes.OpenBracket refl (counts_index t)) (counts_gives (leaf t (Form.Read (name_of t)))) (starts classes.OpenBracket)) (starts classes.Open))

  counts_bracket : {B : Type 0} (t : Lexeme) (f : Expression → B) → Opens k t Opening.Level stack (Exactly false stack) (λ ts. r.whole t ts >>= λ e rest. expect classes.Close rest >>= λ c rest. Ok (f e, rest))
  unfolding sort_of same_class place_of
  counts_bracket t f = opens_then (h.whole k stack size t) (λ (e : Expression). counts_close stack Opening.Level refl classes.Close refl few (λ (c : Lexeme). counts_gives (f e)))

  counts_next : (t : Lexeme) → Counts k (Exactly false stack) (Exactly false stack) (next_of r t)
  unfolding next_of sort_of same_class place_of
  counts_next t = counts_level stack classes.Open refl (λ (o : Lexeme). counts_bracket o (λ (e : Expression). leaf t (Form.Next e)))

  counts_parentheses : (t : Lexeme) → Opens k t Opening.Level stack (Exactly false stack) (parentheses_of r t)
  unfolding parentheses_of
  counts_parentheses t = counts_bracket t (λ (e : Expression). opened t e)

  counts_prim : Counts k (Exactly false stack) (Exactly false stack) (prim_of r)
  unfolding sort_of same_class place_of
  counts_prim =
      counts_same (prim_same r)
      (counts_if (counts_name stack false classes.Name refl few counts_named)
      (counts_if (counts_operand stack classes.Next refl few counts_next)
      (counts_if (counts_level stack classes.Open refl counts_parentheses) counts_literal (starts classes.Open)) (starts classes.Next)) (starts classes.Name))

  prefix_ends : (n : Nesting) → Ends (Opening.Prefix ∷ stack) n → Ends stack n
  prefix_ends n e = record { is = e.is }

  counts_prefixed : (p : Lexeme × PrefixWord) → Opens k p.0 Opening.Prefix stack (Ends stack) (prefixed_of r p.0 p.1)
  unfolding prefixed_of
  counts_prefixed p = opens_then (h.operand k stack size p.0) (λ (e : Expression). counts_from prefix_ends (counts_gives (leaf p.0 (Form.Prefix p.1 e))))

  pub counts_operand_of : Counts k (Exactly false stack) (Ends stack) (operand_of r)
  unfolding operand_of
  counts_operand_of = counts_prefix stack counts_prefixed (counts_to (ends_exactly false stack) counts_prim)

-- where no operand is awaited by an operator before it
module _ (left : ℕ) (r : Inside) (h : CountsInside left r) (k : ℕ) (stack : List Opening) (flat : completed stack ≡ stack) (size : levels_of stack + left ≡ k) where
  small : levels_of stack ≤ k
  small = omega (arith, size)

  prim : Counts k (Exactly false stack) (Exactly false stack) (prim_of r)
  prim = counts_prim left r h k stack size

  counts_times : (a : Term) → Counts k (Exactly false stack) (Exactly false stack) (times_of r a)
  unfolding times_of sort_of same_class place_of
  counts_times a =
      counts_mark stack flat small classes.Star false refl (λ (t : Lexeme). counts_then prim (λ (b : Expression). counts_gives (between t.at binaries.Mul a.0 b, false)))

  counts_prod : Counts k (Exactly false stack) (Exactly false stack) (prod_of r)
  unfolding prod_of
  counts_prod = counts_then prim (λ (p : Expression). counts_steps (starts classes.Star) counts_times (p, true))

  counts_plus : (a : Term) → Counts k (Exactly false stack) (Exactly false stack) (plus_of r a)
  unfolding plus_of
  counts_plus a =
      counts_sign stack levels.Sum (signs_even stack flat) small (λ (o : Place × BinaryWord). counts_then counts_prod (λ (b : Term). counts_gives (between o.0 o.1 a.0 b.0, false))) counts_unexpected

  counts_modulo : (e : Expression) → Counts k (Exactly false stack) (Exactly false stack) (modulo e)
  unfolding modulo sort_of same_class place_of
  counts_modulo e =
      counts_mark stack flat small classes.Mod false refl (λ (t : Lexeme). counts_operand stack classes.Number refl small
      (λ (n : Lexeme). counts_gives (expression (first_of e) t.at (Form.Mod e n.at n.text), false)))

  after_prod : (e : Expression) (alone : Bool) → Counts k (Exactly false stack) (Exactly false stack) (λ ts. cond (alone && starts classes.Mod ts) (modulo e ts) (all_of starts_sum (plus_of r) (e, alone) ts))
  after_prod e true = counts_if (counts_modulo e) (counts_steps starts_sum counts_plus (e, true)) (starts classes.Mod)
  after_prod e false = counts_steps starts_sum counts_plus (e, false)

  counts_sum : Counts k (Exactly false stack) (Exactly false stack) (sum_of r)
  unfolding sum_of
  counts_sum = counts_then counts_prod (λ (p : Term). after_prod p.0 p.1)

  pub counts_bound : Counts k (Exactly false stack) (Exactly false stack) (bound_of r)
  unfolding bound_of
  counts_bound = counts_then counts_sum (λ (p : Term). counts_closed p.0)

  prefixed : (p : Lexeme × PrefixWord) → Opens k p.0 Opening.Prefix stack (Ends stack) (prefixed_of r p.0 p.1)
  prefixed p = counts_prefixed left r h k stack size p

  to_ends : {A : Type 0} {P : Nesting → Type 0} {R : Reader A} → Counts k P (Exactly false stack) R → Counts k P (Ends stack) R
  to_ends c = counts_to (ends_exactly false stack) c

  counts_side : Counts k (Exactly false stack) (Ends stack) (side_of r)
  unfolding side_of
  counts_side = counts_prefix stack prefixed (to_ends (counts_then counts_sum (λ (p : Term). counts_gives p.0)))

  counts_compared : (a : Expression) (o : Place × BinaryWord) → Counts k (Exactly false stack) (Ends stack) (compared_of r a o.0 o.1)
  unfolding compared_of
  counts_compared a o = counts_then counts_side (λ (b : Expression). counts_gives (between o.0 o.1 a b, false))

  counts_comparison : Counts k (Exactly false stack) (Ends stack) (comparison_of r)
  unfolding comparison_of
  counts_comparison = counts_then (to_ends counts_sum) (λ (p : Term). counts_operator stack flat small levels.Relation relations_other (λ (o : Place × BinaryWord). (counts_compared p.0 o)) (counts_gives p))

  counts_cmp : Counts k (Exactly false stack) (Ends stack) (cmp_of r)
  unfolding cmp_of
  counts_cmp = counts_prefix stack (λ (p : Lexeme × PrefixWord). opens_then (prefixed p) (λ (e : Expression). counts_gives (e, false))) counts_comparison

  counts_conjunct : (all : Chain) → Counts k (Ends stack) (Ends stack) (conjunct_of r all)
  unfolding conjunct_of sort_of same_class place_of
  counts_conjunct all = counts_other stack flat small classes.And refl (λ (t : Lexeme). (counts_then counts_cmp (λ (p : Term). counts_gives (all.0 ++ p.0 ∷ [], all.1 ++ t.at ∷ []))))

  counts_conjunction : (a : Expression) → Counts k (Ends stack) (Ends stack) (conjunction_of r a)
  unfolding conjunction_of sort_of same_class place_of
  counts_conjunction a =
      counts_other stack flat small classes.And refl (λ (t : Lexeme). (counts_then counts_cmp (λ (b : Term). counts_then (counts_steps (starts classes.And) counts_conjunct (a ∷ b.0 ∷ [], t.at ∷ []))
      (λ (all : Chain). counts_gives (expression (first_of a) t.at (Form.And (expressions all.0) all.1), false)))))

  counts_conj : Counts k (Exactly false stack) (Ends stack) (conj_of r)
  unfolding conj_of
  counts_conj = counts_then counts_cmp (λ (p : Term). counts_if (counts_conjunction p.0) (counts_gives p) (starts classes.And))

  counts_disjunct : (all : Chain) → Counts k (Ends stack) (Ends stack) (disjunct_of r all)
  unfolding disjunct_of
  counts_disjunct all = counts_or stack flat small (λ (t : Lexeme). (counts_then counts_conj (λ (p : Term). counts_gives (all.0 ++ p.0 ∷ [], all.1 ++ t.at ∷ []))))

  counts_disjunction : (a : Expression) → Counts k (Ends stack) (Ends stack) (disjunction_of r a)
  unfolding disjunction_of
  counts_disjunction a =
      counts_or stack flat small (λ (t : Lexeme). (counts_then counts_conj (λ (b : Term). counts_then (counts_steps starts_or counts_disjunct (a ∷ b.0 ∷ [], t.at ∷ []))
      (λ (all : Chain). counts_gives (expression (first_of a) t.at (Form.Or (expressions all.0) all.1), false)))))

  counts_disj : Counts k (Exactly false stack) (Ends stack) (disj_of r)
  unfolding disj_of
  counts_disj = counts_then counts_conj (λ (p : Term). counts_if (counts_disjunction p.0) (counts_gives p) starts_or)

  counts_arrow : (a : Expression) (o : Place × BinaryWord) → Counts k (Exactly false stack) (Ends stack) (arrow_of r a o.0 o.1)
  unfolding arrow_of
  counts_arrow a o = counts_then counts_disj (λ (b : Term). counts_gives (between o.0 o.1 a b.0))

  counts_past : (a : Expression) → Counts k (Ends stack) (Ends stack) (past_of r a)
  unfolding past_of
  counts_past a = counts_operator stack flat small levels.Past pasts_other (λ (o : Place × BinaryWord). (to_ends (counts_then prim (λ (b : Expression). counts_gives (between o.0 o.1 a b))))) (counts_gives a)

  counts_alone : (a : Expression) (alone : Bool) → Counts k (Ends stack) (Ends stack) (alone_of r a alone)
  unfolding alone_of
  counts_alone a true = counts_past a
  counts_alone a false = counts_gives a

  counts_unquantified : Counts k (Exactly false stack) (Ends stack) (unquantified_of r)
  unfolding unquantified_of
  counts_unquantified = counts_then counts_disj (λ (p : Term). counts_operator stack flat small levels.Arrow arrows_other (λ (o : Place × BinaryWord). (counts_arrow p.0 o)) (counts_alone p.0 p.1))

  scope_shuts : (n : Nesting) → Shuts (Opening.Quantifier ∷ stack) n → Shuts stack n
  scope_shuts n e = record { is = e.is }

  counts_for_all : Counts k (Exactly false stack) (Shuts stack) (for_all_of r)
  unfolding for_all_of sort_of same_class place_of
  counts_for_all = counts_quantifier stack classes.ForAll refl (λ (t : Lexeme). opens_then (h.scope k stack size t) (λ (x : Scope). counts_from scope_shuts (counts_gives (leaf t (Form.ForAll x.name x.low x.high x.body)))))

  counts_exists : Counts k (Exactly false stack) (Shuts stack) (exists_of r)
  unfolding exists_of sort_of same_class place_of
  counts_exists = counts_quantifier stack classes.Exists refl (λ (t : Lexeme). opens_then (h.scope k stack size t) (λ (x : Scope). counts_from scope_shuts (counts_gives (leaf t (Form.Exists x.name x.low x.high x.body)))))

  counts_expr : Counts k (Exactly false stack) (Shuts stack) (expr_of r)
  unfolding expr_of
  counts_expr = counts_if counts_for_all (counts_if counts_exists (counts_to (shuts_ends stack) counts_unquantified) (starts classes.Exists)) (starts classes.ForAll)

  pub counts_whole : Counts k (Exactly false stack) (Shuts stack) (whole_of r)
  unfolding whole_of
  counts_whole = counts_then counts_expr (λ (e : Expression). counts_closed e)

  counts_argument : ended stack ≡ stack → (all : List Expression) → Counts k (Shuts stack) (Shuts stack) (argument_of r all)
  unfolding argument_of sort_of same_class place_of
  counts_argument shut all = counts_separator stack shut classes.Comma refl small (λ (t : Lexeme). (counts_then counts_whole (λ (e : Expression). counts_gives (all ++ e ∷ []))))

  -- behind a quantifier's word
  pub counts_scope : Counts k (Exactly false stack) (Shuts stack) (scope_of r)
  unfolding scope_of sort_of same_class place_of
  counts_scope =
      counts_name stack false classes.Name refl small (λ (n : Lexeme). counts_mark stack flat small classes.In false refl (λ (i : Lexeme).
      counts_then counts_bound (λ (low : Expression). counts_mark stack flat small classes.UpTo false refl (λ (u : Lexeme).
      counts_then counts_bound (λ (high : Expression). counts_colon stack flat small classes.Colon false refl (λ (c : Lexeme).
      counts_then counts_whole (λ (e : Expression). counts_gives (record { name = name_of n; low = low; high = high; body = e }))))))))

-- inside a bracket, and behind it
module _ (left : ℕ) (r : Inside) (h : CountsInside left r) (k : ℕ) (opening : Opening) (stack : List Opening) (flat : completed (opening ∷ stack) ≡ opening ∷ stack) (shut : ended (opening ∷ stack) ≡ opening ∷ stack) (size : levels_of (opening ∷ stack) + left ≡ k)
    (room : levels_of stack ≤ k) where
  pub counts_subscript : Counts k (Exactly false (opening ∷ stack)) (Exactly false stack) (subscript_of r)
  unfolding subscript_of sort_of same_class place_of
  counts_subscript =
      counts_then (counts_bound left r h k (opening ∷ stack) flat size) (λ (e : Expression). counts_from (shuts_exactly false (opening ∷ stack)) (counts_close stack opening shut classes.CloseBracket refl room (λ (t : Lexeme). counts_gives e)))

  counts_some_arguments : Counts k (Exactly false (opening ∷ stack)) (Exactly false stack) (some_arguments_of r)
  unfolding some_arguments_of sort_of same_class place_of
  counts_some_arguments =
      counts_then (counts_whole left r h k (opening ∷ stack) flat size) (λ (e : Expression). counts_then (counts_steps (starts classes.Comma) (counts_argument left r h k (opening ∷ stack) flat size shut) (e ∷ []))
      (λ (es : List Expression). counts_close stack opening shut classes.Close refl room (λ (t : Lexeme). counts_gives es)))

  pub counts_arguments : Counts k (Exactly false (opening ∷ stack)) (Exactly false stack) (arguments_of r)
  unfolding arguments_of sort_of same_class place_of
  counts_arguments =
      counts_if (counts_from (shuts_exactly false (opening ∷ stack)) (counts_close stack opening shut classes.Close refl room (λ (t : Lexeme). counts_gives []))) counts_some_arguments (starts classes.Close)

pub counts_inside : (left : ℕ) → CountsInside left (inside left)
unfolding inside
counts_inside zero = record {
  whole = λ k stack size t. Opens.deep (λ ts. refl) (omega (arith, size));
  operand = λ k stack size t. Opens.deep (λ ts. refl) (omega (arith, size));
  arguments = λ k stack size t. Opens.deep (λ ts. refl) (omega (arith, size));
  subscript = λ k stack size t. Opens.deep (λ ts. refl) (omega (arith, size));
  scope = λ k stack size t. Opens.deep (λ ts. refl) (omega (arith, size));
}
counts_inside (suc left) = record {
  whole = λ k stack size t. Opens.some (omega (arith, size)) (counts_whole left (inside left) (counts_inside left) k (Opening.Level ∷ stack) refl (omega (arith, size)));
  operand = λ k stack size t. Opens.some (omega (arith, size)) (counts_operand_of left (inside left) (counts_inside left) k (Opening.Prefix ∷ stack) (omega (arith, size)));
  arguments = λ k stack size t. Opens.some (omega (arith, size)) (counts_arguments left (inside left) (counts_inside left) k Opening.Level stack refl refl (omega (arith, size)) (omega (arith, size)));
  subscript = λ k stack size t. Opens.some (omega (arith, size)) (counts_subscript left (inside left) (counts_inside left) k Opening.Level stack refl refl (omega (arith, size)) (omega (arith, size)));
  scope = λ k stack size t. Opens.some (omega (arith, size)) (counts_scope left (inside left) (counts_inside left) k (Opening.Quantifier ∷ stack) refl (omega (arith, size)));
}
