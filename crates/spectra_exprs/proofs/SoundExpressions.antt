-- What is read as an expression is one of the grammar.
use Rattle.std.proofs.Common.{◌≡◌, ℕ, zero, suc, Bool, true, false, cond, List, [], ◌∷◌, ◌++◌, Option, Some, None, option_map, Ok, Err, ◌&&◌, subst, refl, sym, ap}
use Rattle.spectra_exprs.specs.declared.fault.SyntaxFault.TheVariants as faults
use Rattle.spectra_exprs.specs.declared.operators.Level.{Level}
use Rattle.spectra_exprs.specs.declared.operators.Level.TheVariants as levels
use Rattle.spectra_trees.specs.declared.class.Class.TheVariants as classes
use Rattle.spectra_trees.specs.declared.tree.Place.{Place}
use Rattle.spectra_trees.specs.declared.tree.BinaryWord.{BinaryWord}
use Rattle.spectra_trees.specs.declared.tree.BinaryWord.TheVariants as binaries
use Rattle.spectra_trees.specs.declared.tree.PrefixWord.{PrefixWord}
use Rattle.spectra_trees.specs.Classes.{same_class}
use Rattle.spectra_trees.specs.Data.{Expression, Form, expression, expressions, first_of}
use Rattle.spectra_trees.specs.Lexemes.{Lexeme, name_of}
use Rattle.spectra_exprs.specs.Read.{Read, ◌>>=◌, unexpected, first_number, starts, expect, all_of}
use Rattle.spectra_exprs.specs.Operators.{operator_word, prefix_word, is_operator}
use Rattle.spectra_exprs.specs.OperatorReaders.{operator_at, prefix_at, starts_sum, starts_or, expect_or, closed}
use Rattle.spectra_exprs.specs.Expressions.{leaf, between, opened, Term, Scope, Chain, Inside, negative, number_of, literal, next_of, parentheses_of, call_of, index_of, read_of, named_of, prim_of, prefixed_of, operand_of, times_of, prod_of, plus_of, modulo, sum_of, side_of, compared_of, comparison_of, cmp_of, conjunct_of, conjunction_of, conj_of, disjunct_of, disjunction_of, disj_of, arrow_of, past_of, alone_of, unquantified_of, for_all_of, exists_of, expr_of, whole_of, bound_of, subscript_of, scope_of, argument_of, some_arguments_of, arguments_of, inside}
use Rattle.spectra_exprs.specs.Forms.{Gives, Token, ◌▸◌, ◌∣◌, Steps}
use Rattle.spectra_exprs.specs.Grammar.{Operator, Prefix, OrSign, Deeper, Literal, Prim, Operand, Times, Prod, Plus, Modulo, Alone, Sum, Side, Cmp, Conjunct, Conj, Disjunct, Disj, Unquantified, ExprOf, BoundOf, Subscript, ScopeOf, Argument, Arguments, Levels}
use Rattle.spectra_exprs.proofs.Soundness.{Got, Sound, sound_gives, sound_fault, sound_token, sound_then, sound_wider, sound_same, sound_right, sound_if, Looks, sound_look, sound_steps, branch_same, sound_unexpected, sound_both, sound_look_only, sound_then_same, grouped, sound_if_left, some_value, no_some}

sound_negative : (t : Lexeme) → Sound (Token classes.Number ▸ λ n. Gives (expression t.at n.at (Form.Number true n.text))) (negative t)
unfolding negative
sound_negative t = sound_then (sound_token classes.Number) (λ (n : Lexeme). sound_gives (expression t.at n.at (Form.Number true n.text)))

sound_number : (t : Lexeme) → Sound (Gives (leaf t (Form.Number false t.text))) (number_of t)
unfolding number_of
sound_number t = sound_gives (leaf t (Form.Number false t.text))

pub literal_same : (ts : List Lexeme) → literal ts
    ≡ cond (starts classes.True ts) (expect classes.True ts >>= λ t rest. Ok (leaf t Form.True, rest))
    (cond (starts classes.False ts) (expect classes.False ts >>= λ t rest. Ok (leaf t Form.False, rest))
    (cond (starts classes.Number ts) (expect classes.Number ts >>= number_of)
    (cond (starts classes.Minus ts) (expect classes.Minus ts >>= negative) (unexpected ts))))
unfolding literal starts expect unexpected first_number
literal_same [] = refl
literal_same (t ∷ ts) =
    branch_same (same_class t.class classes.True) t ts _ (λ (u : Lexeme) (rest : List Lexeme). Ok (leaf u Form.True, rest)) _ _
    (branch_same (same_class t.class classes.False) t ts _ (λ (u : Lexeme) (rest : List Lexeme). Ok (leaf u Form.False, rest)) _ _
    (branch_same (same_class t.class classes.Number) t ts _ number_of _ _
    (branch_same (same_class t.class classes.Minus) t ts _ negative _ _ refl)))

sound_literal : Sound Literal literal
sound_literal =
    sound_same literal_same
    (sound_if (starts classes.True) (sound_then (sound_token classes.True) (λ (t : Lexeme). sound_gives (leaf t Form.True)))
    (sound_if (starts classes.False) (sound_then (sound_token classes.False) (λ (t : Lexeme). sound_gives (leaf t Form.False)))
    (sound_if (starts classes.Number) (sound_then (sound_token classes.Number) sound_number)
    (sound_both (starts classes.Minus) (sound_then (sound_token classes.Minus) sound_negative) sound_unexpected))))

-- ---- operators

pub prefix_looks : Looks Prefix prefix_at
unfolding prefix_at
prefix_looks = record { found = looks }
  where
    word : (o : Option PrefixWord) (t : Lexeme) (ts : List Lexeme) (x : Lexeme × PrefixWord) (rest : List Lexeme) → prefix_word t.class ≡ o
        → option_map {U = (Lexeme × PrefixWord) × List Lexeme} (λ w. ((t, w), ts)) o ≡ Some (x, rest) → Got Prefix (t ∷ ts) x rest
    word (Some w) t ts x rest is e =
        let p = some_value (t, w) x ts rest e in
        record {
          used = t ∷ [];
          front = ap (λ (r : List Lexeme). t ∷ r) (sym p.1);
          derives = subst (λ (y : Lexeme × PrefixWord). Prefix (t ∷ []) y) (sym p.0) (record { alone = refl; word = is });
        }
    word None t ts x rest is e = absurd (no_some (x, rest) e)

    looks : (ts : List Lexeme) (x : Lexeme × PrefixWord) (rest : List Lexeme) → prefix_at ts ≡ Some (x, rest) → Got Prefix ts x rest
    looks [] x rest e = absurd (no_some (x, rest) e)
    looks (t ∷ ts) x rest e = word (prefix_word t.class) t ts x rest refl e

pub operator_looks : (level : Level) → Looks (Operator level) (operator_at level)
unfolding operator_at
operator_looks level = record { found = looks }
  where
    word : (o : Option BinaryWord) (t : Lexeme) (ts : List Lexeme) (x : Place × BinaryWord) (rest : List Lexeme) → operator_word level t.class ≡ o
        → option_map {U = (Place × BinaryWord) × List Lexeme} (λ w. ((t.at, w), ts)) o ≡ Some (x, rest) → Got (Operator level) (t ∷ ts) x rest
    word (Some w) t ts x rest is e =
        let p = some_value (t.at, w) x ts rest e in
        record {
          used = t ∷ [];
          front = ap (λ (r : List Lexeme). t ∷ r) (sym p.1);
          derives = subst (λ (y : Place × BinaryWord). Operator level (t ∷ []) y) (sym p.0) (record { token = t; alone = refl; at = refl; word = is });
        }
    word None t ts x rest is e = absurd (no_some (x, rest) e)

    looks : (ts : List Lexeme) (x : Place × BinaryWord) (rest : List Lexeme) → operator_at level ts ≡ Some (x, rest) → Got (Operator level) ts x rest
    looks [] x rest e = absurd (no_some (x, rest) e)
    looks (t ∷ ts) x rest e = word (operator_word level t.class) t ts x rest refl e

sound_or_sign : Sound OrSign expect_or
unfolding expect_or
sound_or_sign = sound_if (starts classes.Bar) (sound_token classes.Bar) (sound_token classes.Or)

pub sound_closed : {A : Type 0} (a : A) → Sound (Gives a) (closed a)
unfolding closed
sound_closed {A = A} a = record { got = reads }
  where
    at : (b : Bool) (n : ℕ) (ts : List Lexeme) (x : A) (rest : List Lexeme) → cond {A = Read A} b (Err (faults.Parentheses n)) (Ok (a, ts)) ≡ Ok (x, rest) → Got (Gives a) ts x rest
    at true n ts x rest e = (sound_fault (Gives a) (λ ts. faults.Parentheses n)).got ts x rest e
    at false n ts x rest e = (sound_gives a).got ts x rest e

    reads : (ts : List Lexeme) (x : A) (rest : List Lexeme) → closed a ts ≡ Ok (x, rest) → Got (Gives a) ts x rest
    reads [] x rest e = (sound_gives a).got [] x rest e
    reads (t ∷ ts) x rest e = at (is_operator t.class) t.number (t ∷ ts) x rest e

-- ---- over what reads one level deeper

pub record SoundInside (d : Deeper) (r : Inside) : Type 0 where
  pub whole : (t : Lexeme) → Sound d.Whole (r.whole t)
  pub operand : (t : Lexeme) → Sound d.Next (r.operand t)
  pub arguments : (t : Lexeme) → Sound d.Listed (r.arguments t)
  pub subscript : (t : Lexeme) → Sound d.Indexed (r.subscript t)
  pub scope : (t : Lexeme) → Sound d.Scoped (r.scope t)

pub named_same : (r : Inside) (t : Lexeme) (ts : List Lexeme) → named_of r t ts
    ≡ cond (starts classes.Open ts) (expect classes.Open ts >>= λ u rest. call_of r t u rest) (cond (starts classes.OpenBracket ts) (expect classes.OpenBracket ts >>= λ u rest. index_of r t u rest) (read_of t ts))
unfolding named_of starts expect
named_same r t [] = refl
named_same r t (u ∷ ts) = branch_same (same_class u.class classes.Open) u ts _ (call_of r t) _ _ (branch_same (same_class u.class classes.OpenBracket) u ts _ (index_of r t) _ _ refl)

pub prim_same : (r : Inside) (ts : List Lexeme) → prim_of r ts
    ≡ cond (starts classes.Name ts) (expect classes.Name ts >>= named_of r)
    (cond (starts classes.Next ts) (expect classes.Next ts >>= next_of r) (cond (starts classes.Open ts) (expect classes.Open ts >>= parentheses_of r) (literal ts)))
unfolding prim_of starts expect literal
prim_same r [] = refl
prim_same r (t ∷ ts) =
    branch_same (same_class t.class classes.Name) t ts _ (named_of r) _ _
    (branch_same (same_class t.class classes.Next) t ts _ (next_of r) _ _ (branch_same (same_class t.class classes.Open) t ts _ (parentheses_of r) _ _ refl))

module _ (d : Deeper) (r : Inside) (s : SoundInside d r) where
  sound_call : (t u : Lexeme) → Sound (d.Listed ▸ λ es. Gives (leaf t (Form.Call (name_of t) (expressions es)))) (call_of r t u)
  unfolding call_of
  sound_call t u = sound_then (s.arguments u) (λ (es : List Expression). sound_gives (leaf t (Form.Call (name_of t) (expressions es))))

  sound_read : (t : Lexeme) → Sound (Gives (leaf t (Form.Read (name_of t)))) (read_of t)
  unfolding read_of
  sound_read t = sound_gives (leaf t (Form.Read (name_of t)))

  sound_index : (t u : Lexeme) → Sound (d.Indexed ▸ λ e. Gives (leaf t (Form.Index (name_of t) e))) (index_of r t u)
  unfolding index_of
  sound_index t u = sound_then (s.subscript u) (λ (e : Expression). sound_gives (leaf t (Form.Index (name_of t) e)))

  sound_named : (t : Lexeme)
      → Sound ((Token classes.Open ▸ λ o. d.Listed ▸ λ es. Gives (leaf t (Form.Call (name_of t) (expressions es)))) ∣ (Token classes.OpenBracket ▸ λ o. d.Indexed ▸ λ e. Gives (leaf t (Form.Index (name_of t) e))) ∣ Gives (leaf t (Form.Read (name_of t))))
      (named_of r t)
  sound_named t =
      sound_same (named_same r t)
      (sound_if (starts classes.Open) (sound_then (sound_token classes.Open) (sound_call t)) (sound_if (starts classes.OpenBracket) (sound_then (sound_token classes.OpenBracket) (sound_index t)) (sound_read t)))

  sound_next : (t : Lexeme) → Sound (Token classes.Open ▸ λ o. d.Whole ▸ λ e. Token classes.Close ▸ λ c. Gives (leaf t (Form.Next e))) (next_of r t)
  unfolding next_of
  sound_next t =
      sound_then (sound_token classes.Open) (λ (o : Lexeme). sound_then (s.whole o) (λ (e : Expression). sound_then (sound_token classes.Close) (λ (c : Lexeme). sound_gives (leaf t (Form.Next e)))))

  sound_parentheses : (t : Lexeme) → Sound (d.Whole ▸ λ e. Token classes.Close ▸ λ c. Gives (opened t e)) (parentheses_of r t)
  unfolding parentheses_of
  sound_parentheses t = sound_then (s.whole t) (λ (e : Expression). sound_then (sound_token classes.Close) (λ (c : Lexeme). sound_gives (opened t e)))

  sound_prim : Sound (Prim d) (prim_of r)
  sound_prim =
      sound_same (prim_same r)
      (sound_if (starts classes.Name) (sound_then (sound_token classes.Name) sound_named)
      (sound_if (starts classes.Next) (sound_then (sound_token classes.Next) sound_next)
      (sound_if (starts classes.Open) (sound_then (sound_token classes.Open) sound_parentheses) sound_literal)))

  sound_prefixed : (p : Lexeme × PrefixWord) → Sound (d.Next ▸ λ e. Gives (leaf p.0 (Form.Prefix p.1 e))) (prefixed_of r p.0 p.1)
  unfolding prefixed_of
  sound_prefixed p = sound_then (s.operand p.0) (λ (e : Expression). sound_gives (leaf p.0 (Form.Prefix p.1 e)))

  pub sound_operand : Sound (Operand d) (operand_of r)
  unfolding operand_of
  sound_operand = sound_look prefix_looks sound_prefixed sound_prim

  sound_times : (a : Term) → Sound (Times d a) (times_of r a)
  unfolding times_of
  sound_times a = sound_then (sound_token classes.Star) (λ (t : Lexeme). sound_then sound_prim (λ (b : Expression). sound_gives (between t.at binaries.Mul a.0 b, false)))

  sound_prod : Sound (Prod d) (prod_of r)
  unfolding prod_of
  sound_prod = sound_then sound_prim (λ (p : Expression). sound_steps (starts classes.Star) sound_times (p, true))

  sound_plus : (a : Term) → Sound (Plus d a) (plus_of r a)
  unfolding plus_of
  sound_plus a = sound_look_only (operator_looks levels.Sum) (λ (o : Place × BinaryWord). sound_then sound_prod (λ (b : Term). sound_gives (between o.0 o.1 a.0 b.0, false))) sound_unexpected

  sound_modulo : (e : Expression) → Sound (Modulo e) (modulo e)
  unfolding modulo
  sound_modulo e =
      sound_then (sound_token classes.Mod) (λ (t : Lexeme). sound_then (sound_token classes.Number) (λ (n : Lexeme). sound_gives (expression (first_of e) t.at (Form.Mod e n.at n.text), false)))

  after_prod : (e : Expression) (alone : Bool)
      → Sound (Alone (e, alone) (Modulo e) ∣ Steps (Plus d) (e, alone)) (λ ts. cond (alone && starts classes.Mod ts) (modulo e ts) (all_of starts_sum (plus_of r) (e, alone) ts))
  after_prod e true =
      sound_if (starts classes.Mod) (sound_wider (Modulo e) (λ used a m. record { alone = refl; then = m }) (sound_modulo e)) (sound_steps starts_sum sound_plus (e, true))
  after_prod e false = sound_right (sound_steps starts_sum sound_plus (e, false))

  sound_sum : Sound (Sum d) (sum_of r)
  unfolding sum_of
  sound_sum = sound_then sound_prod (λ (p : Term). after_prod p.0 p.1)

  pub sound_bound : Sound (Sum d ▸ λ p. Gives p.0) (bound_of r)
  unfolding bound_of
  sound_bound = sound_then sound_sum (λ (p : Term). sound_closed p.0)

  sound_side : Sound (Side d) (side_of r)
  unfolding side_of
  sound_side = sound_look prefix_looks sound_prefixed (sound_then sound_sum (λ (p : Term). sound_gives p.0))

  sound_compared : (a : Expression) (o : Place × BinaryWord) → Sound (Side d ▸ λ b. Gives (between o.0 o.1 a b, false)) (compared_of r a o.0 o.1)
  unfolding compared_of
  sound_compared a o = sound_then sound_side (λ (b : Expression). sound_gives (between o.0 o.1 a b, false))

  sound_comparison : Sound (Sum d ▸ λ p. (Operator levels.Relation ▸ λ o. Side d ▸ λ b. Gives (between o.0 o.1 p.0 b, false)) ∣ Gives p) (comparison_of r)
  unfolding comparison_of
  sound_comparison = sound_then sound_sum (λ (p : Term). sound_look (operator_looks levels.Relation) (sound_compared p.0) (sound_gives p))

  sound_cmp : Sound (Cmp d) (cmp_of r)
  unfolding cmp_of
  sound_cmp =
      sound_if_left (grouped {P = Prefix} {Q = λ p. d.Next ▸ λ e. Gives (leaf p.0 (Form.Prefix p.1 e))} {S = λ e. Gives (e, false)})
      (sound_look prefix_looks (λ (p : Lexeme × PrefixWord). sound_then (sound_prefixed p) (λ (e : Expression). sound_gives (e, false))) sound_comparison)

  sound_conjunct : (all : Chain) → Sound (Conjunct d all) (conjunct_of r all)
  unfolding conjunct_of
  sound_conjunct all = sound_then (sound_token classes.And) (λ (t : Lexeme). sound_then sound_cmp (λ (p : Term). sound_gives (all.0 ++ p.0 ∷ [], all.1 ++ t.at ∷ [])))

  sound_conjunction : (a : Expression)
      → Sound (Token classes.And ▸ λ t. Cmp d ▸ λ b. Steps (Conjunct d) (a ∷ b.0 ∷ [], t.at ∷ []) ▸ λ all. Gives (expression (first_of a) t.at (Form.And (expressions all.0) all.1), false)) (conjunction_of r a)
  unfolding conjunction_of
  sound_conjunction a =
      sound_then (sound_token classes.And) (λ (t : Lexeme). sound_then sound_cmp (λ (b : Term). sound_then (sound_steps (starts classes.And) sound_conjunct (a ∷ b.0 ∷ [], t.at ∷ []))
      (λ (all : Chain). sound_gives (expression (first_of a) t.at (Form.And (expressions all.0) all.1), false))))

  sound_conj : Sound (Conj d) (conj_of r)
  unfolding conj_of
  sound_conj = sound_then sound_cmp (λ (p : Term). sound_if (starts classes.And) (sound_conjunction p.0) (sound_gives p))

  sound_disjunct : (all : Chain) → Sound (Disjunct d all) (disjunct_of r all)
  unfolding disjunct_of
  sound_disjunct all = sound_then sound_or_sign (λ (t : Lexeme). sound_then sound_conj (λ (p : Term). sound_gives (all.0 ++ p.0 ∷ [], all.1 ++ t.at ∷ [])))

  sound_disjunction : (a : Expression)
      → Sound (OrSign ▸ λ t. Conj d ▸ λ b. Steps (Disjunct d) (a ∷ b.0 ∷ [], t.at ∷ []) ▸ λ all. Gives (expression (first_of a) t.at (Form.Or (expressions all.0) all.1), false)) (disjunction_of r a)
  unfolding disjunction_of
  sound_disjunction a =
      sound_then sound_or_sign (λ (t : Lexeme). sound_then sound_conj (λ (b : Term). sound_then (sound_steps starts_or sound_disjunct (a ∷ b.0 ∷ [], t.at ∷ []))
      (λ (all : Chain). sound_gives (expression (first_of a) t.at (Form.Or (expressions all.0) all.1), false))))

  sound_disj : Sound (Disj d) (disj_of r)
  unfolding disj_of
  sound_disj = sound_then sound_conj (λ (p : Term). sound_if starts_or (sound_disjunction p.0) (sound_gives p))

  sound_arrow : (a : Expression) (o : Place × BinaryWord) → Sound (Disj d ▸ λ b. Gives (between o.0 o.1 a b.0)) (arrow_of r a o.0 o.1)
  unfolding arrow_of
  sound_arrow a o = sound_then sound_disj (λ (b : Term). sound_gives (between o.0 o.1 a b.0))

  sound_past : (a : Expression) → Sound ((Operator levels.Past ▸ λ o. Prim d ▸ λ b. Gives (between o.0 o.1 a b)) ∣ Gives a) (past_of r a)
  unfolding past_of
  sound_past a = sound_look (operator_looks levels.Past) (λ (o : Place × BinaryWord). sound_then sound_prim (λ (b : Expression). sound_gives (between o.0 o.1 a b))) (sound_gives a)

  sound_alone : (a : Expression) (alone : Bool) → Sound (Alone (a, alone) (Operator levels.Past ▸ λ o. Prim d ▸ λ b. Gives (between o.0 o.1 a b)) ∣ Gives a) (alone_of r a alone)
  unfolding alone_of
  sound_alone a true = sound_if_left (λ used x m. record { alone = refl; then = m }) (sound_past a)
  sound_alone a false = sound_right (sound_gives a)

  sound_unquantified : Sound (Unquantified d) (unquantified_of r)
  unfolding unquantified_of
  sound_unquantified = sound_then sound_disj (λ (p : Term). sound_look (operator_looks levels.Arrow) (sound_arrow p.0) (sound_alone p.0 p.1))

  sound_for_all : Sound (Token classes.ForAll ▸ λ t. d.Scoped ▸ λ s. Gives (leaf t (Form.ForAll s.name s.low s.high s.body))) (for_all_of r)
  unfolding for_all_of
  sound_for_all = sound_then (sound_token classes.ForAll) (λ (t : Lexeme). sound_then (s.scope t) (λ (x : Scope). sound_gives (leaf t (Form.ForAll x.name x.low x.high x.body))))

  sound_exists : Sound (Token classes.Exists ▸ λ t. d.Scoped ▸ λ s. Gives (leaf t (Form.Exists s.name s.low s.high s.body))) (exists_of r)
  unfolding exists_of
  sound_exists = sound_then (sound_token classes.Exists) (λ (t : Lexeme). sound_then (s.scope t) (λ (x : Scope). sound_gives (leaf t (Form.Exists x.name x.low x.high x.body))))

  sound_expr : Sound (ExprOf d) (expr_of r)
  unfolding expr_of
  sound_expr = sound_if (starts classes.ForAll) sound_for_all (sound_if (starts classes.Exists) sound_exists sound_unquantified)

  pub sound_whole : Sound (ExprOf d) (whole_of r)
  unfolding whole_of
  sound_whole = sound_then_same (sound_then sound_expr (λ (e : Expression). sound_closed e))

  pub sound_subscript : Sound (Subscript d) (subscript_of r)
  unfolding subscript_of
  sound_subscript = sound_then sound_bound (λ (e : Expression). sound_then (sound_token classes.CloseBracket) (λ (c : Lexeme). sound_gives e))

  pub sound_scope : Sound (ScopeOf d) (scope_of r)
  unfolding scope_of
  sound_scope =
      sound_then (sound_token classes.Name) (λ (n : Lexeme). sound_then (sound_token classes.In) (λ (i : Lexeme). sound_then sound_bound (λ (low : Expression). sound_then (sound_token classes.UpTo) (λ (u : Lexeme).
      sound_then sound_bound (λ (high : Expression). sound_then (sound_token classes.Colon) (λ (c : Lexeme). sound_then sound_whole (λ (e : Expression).
      sound_gives (record { name = name_of n; low = low; high = high; body = e }))))))))

  sound_argument : (all : List Expression) → Sound (Argument d all) (argument_of r all)
  unfolding argument_of
  sound_argument all = sound_then (sound_token classes.Comma) (λ (t : Lexeme). sound_then sound_whole (λ (e : Expression). sound_gives (all ++ e ∷ [])))

  sound_some_arguments : Sound (ExprOf d ▸ λ e. Steps (Argument d) (e ∷ []) ▸ λ es. Token classes.Close ▸ λ t. Gives es) (some_arguments_of r)
  unfolding some_arguments_of
  sound_some_arguments =
      sound_then sound_whole (λ (e : Expression). sound_then (sound_steps (starts classes.Comma) sound_argument (e ∷ []))
      (λ (es : List Expression). sound_then (sound_token classes.Close) (λ (t : Lexeme). sound_gives es)))

  pub sound_arguments : Sound (Arguments d) (arguments_of r)
  unfolding arguments_of
  sound_arguments = sound_if (starts classes.Close) (sound_then (sound_token classes.Close) (λ (t : Lexeme). sound_gives [])) sound_some_arguments

pub sound_inside : (left : ℕ) → SoundInside (Levels left) (inside left)
unfolding inside
sound_inside zero = record {
  whole = λ t. sound_fault _ (λ ts. faults.TooDeep t.number);
  operand = λ t. sound_fault _ (λ ts. faults.TooDeep t.number);
  arguments = λ t. sound_fault _ (λ ts. faults.TooDeep t.number);
  subscript = λ t. sound_fault _ (λ ts. faults.TooDeep t.number);
  scope = λ t. sound_fault _ (λ ts. faults.TooDeep t.number);
}
sound_inside (suc left) = record {
  whole = λ t. sound_whole (Levels left) (inside left) (sound_inside left);
  operand = λ t. sound_operand (Levels left) (inside left) (sound_inside left);
  arguments = λ t. sound_arguments (Levels left) (inside left) (sound_inside left);
  subscript = λ t. sound_subscript (Levels left) (inside left) (sound_inside left);
  scope = λ t. sound_scope (Levels left) (inside left) (sound_inside left);
}
