-- Where reading an expression stops, what was used begins one.
use Rattle.std.proofs.Common.{ℕ, zero, suc, ◌<◌, Bool, true, false, cond, List, [], ◌∷◌, ◌++◌, Some, None, Ok, ◌&&◌, refl, arith}
use Rattle.spectra_exprs.specs.declared.operators.Level.{Level}
use Rattle.spectra_exprs.specs.declared.operators.Level.TheVariants as levels
use Rattle.spectra_trees.specs.declared.class.Class.TheVariants as classes
use Rattle.spectra_trees.specs.declared.tree.Place.{Place}
use Rattle.spectra_trees.specs.declared.tree.BinaryWord.{BinaryWord}
use Rattle.spectra_trees.specs.declared.tree.BinaryWord.TheVariants as binaries
use Rattle.spectra_trees.specs.declared.tree.PrefixWord.{PrefixWord}
use Rattle.spectra_trees.specs.declared.tree.PrefixWord.TheVariants as prefixes
use Rattle.spectra_trees.specs.Data.{Expression, Form, expression, expressions, first_of}
use Rattle.spectra_trees.specs.Lexemes.{Lexeme, name_of}
use Rattle.spectra_exprs.specs.Read.{◌>>=◌, starts, all_of}
use Rattle.spectra_exprs.specs.Operators.{prefix_word, sum_word}
use Rattle.spectra_exprs.specs.OperatorReaders.{operator_at, prefix_at, starts_sum, starts_or, expect_or}
use Rattle.spectra_exprs.specs.Expressions.{leaf, between, opened, Term, Scope, Chain, Inside, negative, number_of, literal, next_of, parentheses_of, call_of, index_of, read_of, named_of, prim_of, prefixed_of, operand_of, times_of, prod_of, plus_of, modulo, sum_of, side_of, compared_of, comparison_of, cmp_of, conjunct_of, conjunction_of, conj_of, disjunct_of, disjunction_of, disj_of, arrow_of, past_of, alone_of, unquantified_of, for_all_of, exists_of, expr_of, whole_of, bound_of, subscript_of, scope_of, argument_of, some_arguments_of, arguments_of, inside}
use Rattle.spectra_exprs.specs.Forms.{Gives, Token, ◌▸◌, ◌∣◌, Steps}
use Rattle.spectra_exprs.specs.Grammar.{Operator, Prefix, OrSign, Deeper, Literal, Prim, Operand, Times, Prod, Plus, Modulo, Alone, Sum, Side, Cmp, Conjunct, Conj, Disjunct, Disj, Unquantified, ExprOf, BoundOf, Subscript, ScopeOf, Argument, Arguments, Levels}
use Rattle.spectra_exprs.specs.Phrases.{Phrase}
use Rattle.spectra_exprs.proofs.Soundness.{grouped}
use Rattle.spectra_exprs.proofs.SoundExpressions.{literal_same, named_same, prim_same, prefix_looks, operator_looks}
use Rattle.spectra_exprs.proofs.StoppingExpressions.{prefix_look, operator_look}
use Rattle.spectra_exprs.proofs.Opening.{Begun, FullAfter, Full, begun_first, full_wider, full_then, full_gives, full_same, full_of, full_right, full_unexpected, full_deep, full_token, full_behind, full_if, full_only, full_finished, full_if_left, full_then_same, begun_right, begun_left, begun_gives}
use Rattle.spectra_exprs.proofs.OpeningSteps.{FullLook, never_before, full_look, full_look_only, full_steps, begun_steps}
use Rattle.spectra_exprs.proofs.Examples.{a_And, a_Bar, a_Close, a_CloseBracket, a_Colon, a_Comma, a_Exists, a_False, a_ForAll, a_In, a_Minus, a_Mod, a_Name, a_Next, a_Not, a_Number, a_Open, a_OpenBracket, a_Or, a_Plus, a_Star, a_True, a_UpTo}

full_negative : (t : Lexeme) → Full (Token classes.Number ▸ λ n. Gives (expression t.at n.at (Form.Number true n.text))) (negative t)
unfolding negative
full_negative t = full_then (full_token classes.Number a_Number) (λ (n : Lexeme). full_gives (expression t.at n.at (Form.Number true n.text)))

full_number : (t : Lexeme) → Full (Gives (leaf t (Form.Number false t.text))) (number_of t)
unfolding number_of
full_number t = full_gives (leaf t (Form.Number false t.text))

full_literal : Full Literal literal
full_literal =
    full_same literal_same
    (full_if (starts classes.True) (full_then (full_token classes.True a_True) (λ (t : Lexeme). full_gives (leaf t Form.True)))
    (full_if (starts classes.False) (full_then (full_token classes.False a_False) (λ (t : Lexeme). full_gives (leaf t Form.False)))
    (full_if (starts classes.Number) (full_then (full_token classes.Number a_Number) full_number)
    (full_only (starts classes.Minus) (full_then (full_token classes.Minus a_Minus) full_negative)))))

-- ---- operators

begun_prefix : Begun Prefix []
unfolding prefix_word
begun_prefix = let is = a_Not.is in record { more = a_Not.token ∷ []; spelled = (a_Not.spelled, tt); value = (a_Not.token, prefixes.Not); derives = record { alone = refl; word = rw is refl } }

prefix_full : FullLook (λ (x : Lexeme × PrefixWord). Some x.0) Prefix prefix_at
prefix_full = record { looks = prefix_looks; stable = prefix_look; whole = λ x t e. begun_prefix }

operator_full : (level : Level) → FullLook (λ (x : Place × BinaryWord). None) (Operator level) (operator_at level)
operator_full level = record { looks = operator_looks level; stable = operator_look level; whole = λ x t e. absurd (never_before t e) }

-- the sign of a sum
begun_sign : Begun (Operator levels.Sum) []
unfolding sum_word
begun_sign = let plus = a_Plus.is in record { more = a_Plus.token ∷ []; spelled = (a_Plus.spelled, tt); value = (a_Plus.token.at, binaries.Add); derives = record { token = a_Plus.token; alone = refl; at = refl; word = rw plus refl } }

full_or_sign : Full OrSign expect_or
unfolding expect_or
full_or_sign = full_if (starts classes.Bar) (full_token classes.Bar a_Bar) (full_token classes.Or a_Or)

-- ---- what may stand in the place of what is missing

begun_prim : (d : Deeper) → Begun (Prim d) []
begun_prim d = begun_right (begun_right (begun_right full_literal.whole))

begun_prod : (d : Deeper) → Begun (Prod d) []
begun_prod d = begun_first (Prim d) (λ p. Steps (Times d) (p, true)) [] (begun_prim d) (λ p. begun_steps (p, true))

begun_sum : (d : Deeper) → Begun (Sum d) []
begun_sum d = begun_first (Prod d) (λ p. Alone p (Modulo p.0) ∣ Steps (Plus d) p) [] (begun_prod d) (λ p. begun_right (begun_steps p))

begun_cmp : (d : Deeper) → Begun (Cmp d) []
begun_cmp d = begun_right (begun_first (Sum d) (λ p. (Operator levels.Relation ▸ λ o. Side d ▸ λ b. Gives (between o.0 o.1 p.0 b, false)) ∣ Gives p) [] (begun_sum d) (λ p. begun_right (begun_gives p)))

begun_conj : (d : Deeper) → Begun (Conj d) []
begun_conj d =
    begun_first (Cmp d)
    (λ a. (Token classes.And ▸ λ t. Cmp d ▸ λ b. Steps (Conjunct d) (a.0 ∷ b.0 ∷ [], t.at ∷ []) ▸ λ all. Gives (expression (first_of a.0) t.at (Form.And (expressions all.0) all.1), false)) ∣ Gives a)
    [] (begun_cmp d) (λ a. begun_right (begun_gives a))

begun_disj : (d : Deeper) → Begun (Disj d) []
begun_disj d =
    begun_first (Conj d)
    (λ a. (OrSign ▸ λ t. Conj d ▸ λ b. Steps (Disjunct d) (a.0 ∷ b.0 ∷ [], t.at ∷ []) ▸ λ all. Gives (expression (first_of a.0) t.at (Form.Or (expressions all.0) all.1), false)) ∣ Gives a)
    [] (begun_conj d) (λ a. begun_right (begun_gives a))

begun_unquantified : (d : Deeper) → Begun (Unquantified d) []
begun_unquantified d =
    begun_first (Disj d)
    (λ a. (Operator levels.Arrow ▸ λ o. Disj d ▸ λ b. Gives (between o.0 o.1 a.0 b.0)) ∣ Alone a (Operator levels.Past ▸ λ o. Prim d ▸ λ b. Gives (between o.0 o.1 a.0 b)) ∣ Gives a.0)
    [] (begun_disj d) (λ a. begun_right (begun_right (begun_gives a.0)))

pub begun_expr : (d : Deeper) → Begun (ExprOf d) []
begun_expr d = begun_right (begun_right (begun_unquantified d))

begun_bound : (d : Deeper) → Begun (BoundOf d) []
begun_bound d = begun_first (Sum d) (λ p. Gives p.0) [] (begun_sum d) (λ p. begun_gives p.0)

begun_subscript : (d : Deeper) → Begun (Subscript d) []
begun_subscript d =
    begun_first (BoundOf d) (λ e. Token classes.CloseBracket ▸ λ c. Gives e) [] (begun_bound d)
    (λ e. begun_first (Token classes.CloseBracket) (λ c. Gives e) [] (full_token classes.CloseBracket a_CloseBracket).whole (λ c. begun_gives e))

begun_operand : (d : Deeper) → Begun (Operand d) []
begun_operand d = begun_right (begun_prim d)

begun_arguments : (d : Deeper) → Begun (Arguments d) []
begun_arguments d = begun_left (begun_first (Token classes.Close) (λ t. Gives []) [] (full_token classes.Close a_Close).whole (λ t. begun_gives []))

module _ (d : Deeper) (n : Lexeme) where
  begun_body : (low high : Expression) → Begun (Token classes.Colon ▸ λ c. ExprOf d ▸ λ e. Gives {A = Scope} (record { name = name_of n; low = low; high = high; body = e })) []
  begun_body low high =
      begun_first (Token classes.Colon) (λ c. ExprOf d ▸ λ e. Gives (record { name = name_of n; low = low; high = high; body = e })) [] (full_token classes.Colon a_Colon).whole
      (λ c. begun_first (ExprOf d) (λ e. Gives (record { name = name_of n; low = low; high = high; body = e })) [] (begun_expr d) (λ e. begun_gives (record { name = name_of n; low = low; high = high; body = e })))

  begun_high : (low : Expression) → Begun (Token classes.UpTo ▸ λ u. BoundOf d ▸ λ high. Token classes.Colon ▸ λ c. ExprOf d ▸ λ e. Gives {A = Scope} (record { name = name_of n; low = low; high = high; body = e })) []
  begun_high low =
      begun_first (Token classes.UpTo) (λ u. BoundOf d ▸ λ high. Token classes.Colon ▸ λ c. ExprOf d ▸ λ e. Gives (record { name = name_of n; low = low; high = high; body = e })) [] (full_token classes.UpTo a_UpTo).whole
      (λ u. begun_first (BoundOf d) (λ high. Token classes.Colon ▸ λ c. ExprOf d ▸ λ e. Gives (record { name = name_of n; low = low; high = high; body = e })) [] (begun_bound d) (λ high. begun_body low high))

  begun_low : Begun (Token classes.In ▸ λ i. BoundOf d ▸ λ low. Token classes.UpTo ▸ λ u. BoundOf d ▸ λ high. Token classes.Colon ▸ λ c. ExprOf d ▸ λ e. Gives {A = Scope} (record { name = name_of n; low = low; high = high; body = e })) []
  begun_low =
      begun_first (Token classes.In) (λ i. BoundOf d ▸ λ low. Token classes.UpTo ▸ λ u. BoundOf d ▸ λ high. Token classes.Colon ▸ λ c. ExprOf d ▸ λ e. Gives (record { name = name_of n; low = low; high = high; body = e })) [] (full_token classes.In a_In).whole
      (λ i. begun_first (BoundOf d) (λ low. Token classes.UpTo ▸ λ u. BoundOf d ▸ λ high. Token classes.Colon ▸ λ c. ExprOf d ▸ λ e. Gives (record { name = name_of n; low = low; high = high; body = e })) [] (begun_bound d) (λ low. begun_high low))

begun_scope : (d : Deeper) → Begun (ScopeOf d) []
begun_scope d =
    begun_first (Token classes.Name) (λ n. Token classes.In ▸ λ i. BoundOf d ▸ λ low. Token classes.UpTo ▸ λ u. BoundOf d ▸ λ high. Token classes.Colon ▸ λ c. ExprOf d ▸ λ e. Gives (record { name = name_of n; low = low; high = high; body = e })) []
    (full_token classes.Name a_Name).whole (begun_low d)

-- ---- over what reads one level deeper

pub record FullInside (d : Deeper) (r : Inside) : Type 0 where
  pub whole : (t : Lexeme) → FullAfter (Some t) d.Whole (r.whole t)
  pub operand : (t : Lexeme) → FullAfter (Some t) d.Next (r.operand t)
  pub arguments : (t : Lexeme) → FullAfter (Some t) d.Listed (r.arguments t)
  pub subscript : (t : Lexeme) → FullAfter (Some t) d.Indexed (r.subscript t)
  pub scope : (t : Lexeme) → FullAfter (Some t) d.Scoped (r.scope t)

module _ (left : ℕ) (r : Inside) (s : FullInside (Levels left) r) where
  full_call : (t u : Lexeme) → FullAfter (Some u) ((Levels left).Listed ▸ λ es. Gives (leaf t (Form.Call (name_of t) (expressions es)))) (call_of r t u)
  unfolding call_of
  full_call t u = full_then (s.arguments u) (λ (es : List Expression). full_gives (leaf t (Form.Call (name_of t) (expressions es))))

  full_read : (t : Lexeme) → Full (Gives (leaf t (Form.Read (name_of t)))) (read_of t)
  unfolding read_of
  full_read t = full_gives (leaf t (Form.Read (name_of t)))

  full_index : (t u : Lexeme) → FullAfter (Some u) ((Levels left).Indexed ▸ λ e. Gives (leaf t (Form.Index (name_of t) e))) (index_of r t u)
  unfolding index_of
  full_index t u = full_then (s.subscript u) (λ (e : Expression). full_gives (leaf t (Form.Index (name_of t) e)))

  full_named : (t : Lexeme)
      → Full
      ((Token classes.Open ▸ λ o. (Levels left).Listed ▸ λ es. Gives (leaf t (Form.Call (name_of t) (expressions es)))) ∣ (Token classes.OpenBracket ▸ λ o. (Levels left).Indexed ▸ λ e. Gives (leaf t (Form.Index (name_of t) e))) ∣ Gives (leaf t (Form.Read (name_of t))))
      (named_of r t)
  full_named t =
      full_same (named_same r t)
      (full_if (starts classes.Open) (full_behind classes.Open a_Open (full_call t)) (full_if (starts classes.OpenBracket) (full_behind classes.OpenBracket a_OpenBracket (full_index t)) (full_read t)))

  full_next : (t : Lexeme) → Full (Token classes.Open ▸ λ o. (Levels left).Whole ▸ λ e. Token classes.Close ▸ λ c. Gives (leaf t (Form.Next e))) (next_of r t)
  unfolding next_of
  full_next t =
      full_behind classes.Open a_Open (λ (o : Lexeme). full_then (s.whole o) (λ (e : Expression). full_then (full_token classes.Close a_Close) (λ (c : Lexeme). full_gives (leaf t (Form.Next e)))))

  full_parentheses : (t : Lexeme) → FullAfter (Some t) ((Levels left).Whole ▸ λ e. Token classes.Close ▸ λ c. Gives (opened t e)) (parentheses_of r t)
  unfolding parentheses_of
  full_parentheses t = full_then (s.whole t) (λ (e : Expression). full_then (full_token classes.Close a_Close) (λ (c : Lexeme). full_gives (opened t e)))

  full_prim : Full (Prim (Levels left)) (prim_of r)
  full_prim =
      full_same (prim_same r)
      (full_if (starts classes.Name) (full_then (full_token classes.Name a_Name) full_named)
      (full_if (starts classes.Next) (full_then (full_token classes.Next a_Next) full_next)
      (full_if (starts classes.Open) (full_behind classes.Open a_Open full_parentheses) full_literal)))

  full_prefixed : (p : Lexeme × PrefixWord) → FullAfter (Some p.0) ((Levels left).Next ▸ λ e. Gives (leaf p.0 (Form.Prefix p.1 e))) (prefixed_of r p.0 p.1)
  unfolding prefixed_of
  full_prefixed p = full_then (s.operand p.0) (λ (e : Expression). full_gives (leaf p.0 (Form.Prefix p.1 e)))

  pub full_operand : Full (Operand (Levels left)) (operand_of r)
  unfolding operand_of
  full_operand = full_look prefix_full full_prefixed full_prim

  full_times : (a : Term) → Full (Times (Levels left) a) (times_of r a)
  unfolding times_of
  full_times a = full_then (full_token classes.Star a_Star) (λ (t : Lexeme). full_then full_prim (λ (b : Expression). full_gives (between t.at binaries.Mul a.0 b, false)))

  full_prod : Full (Prod (Levels left)) (prod_of r)
  unfolding prod_of
  full_prod = full_then full_prim (λ (p : Expression). full_steps (starts classes.Star) full_times (p, true))

  plus_behind : (a : Term) (o : Place × BinaryWord) → Full {A = Term} (Prod (Levels left) ▸ λ b. Gives (between o.0 o.1 a.0 b.0, false)) (λ ts. prod_of r ts >>= λ b rest. Ok ((between o.0 o.1 a.0 b.0, false), rest))
  plus_behind a o = full_then full_prod (λ (b : Term). full_gives (between o.0 o.1 a.0 b.0, false))

  full_plus : (a : Term) → Full (Plus (Levels left) a) (plus_of r a)
  unfolding plus_of
  full_plus a =
      full_look_only (operator_full levels.Sum) (plus_behind a)
      (full_unexpected (begun_first (Operator levels.Sum) (λ o. Prod (Levels left) ▸ λ b. Gives (between o.0 o.1 a.0 b.0, false)) [] begun_sign (λ o. (plus_behind a o).whole)))

  full_modulo : (e : Expression) → Full (Modulo e) (modulo e)
  unfolding modulo
  full_modulo e =
      full_then (full_token classes.Mod a_Mod) (λ (t : Lexeme). full_then (full_token classes.Number a_Number) (λ (n : Lexeme). full_gives (expression (first_of e) t.at (Form.Mod e n.at n.text), false)))

  after_prod : (e : Expression) (alone : Bool)
      → Full (Alone (e, alone) (Modulo e) ∣ Steps (Plus (Levels left)) (e, alone)) (λ ts. cond (alone && starts classes.Mod ts) (modulo e ts) (all_of starts_sum (plus_of r) (e, alone) ts))
  after_prod e true =
      full_if (starts classes.Mod) (full_of (Modulo e) (λ used a m. record { alone = refl; then = m }) (full_modulo e)) (full_steps starts_sum full_plus (e, true))
  after_prod e false = full_right (full_steps starts_sum full_plus (e, false))

  full_sum : Full (Sum (Levels left)) (sum_of r)
  unfolding sum_of
  full_sum = full_then full_prod (λ (p : Term). after_prod p.0 p.1)

  pub full_bound : Full (Sum (Levels left) ▸ λ p. Gives p.0) (bound_of r)
  unfolding bound_of
  full_bound = full_finished Phrase.Bound left (Sum (Levels left)) (λ p. p.0) (λ used p d. (p, d)) (λ used p. p) full_sum

  full_side : Full (Side (Levels left)) (side_of r)
  unfolding side_of
  full_side = full_look prefix_full full_prefixed (full_then full_sum (λ (p : Term). full_gives p.0))

  full_compared : (a : Expression) (o : Place × BinaryWord) → Full (Side (Levels left) ▸ λ b. Gives (between o.0 o.1 a b, false)) (compared_of r a o.0 o.1)
  unfolding compared_of
  full_compared a o = full_then full_side (λ (b : Expression). full_gives (between o.0 o.1 a b, false))

  full_comparison : Full (Sum (Levels left) ▸ λ p. (Operator levels.Relation ▸ λ o. Side (Levels left) ▸ λ b. Gives (between o.0 o.1 p.0 b, false)) ∣ Gives p) (comparison_of r)
  unfolding comparison_of
  full_comparison = full_then full_sum (λ (p : Term). full_look (operator_full levels.Relation) (full_compared p.0) (full_gives p))

  full_cmp : Full (Cmp (Levels left)) (cmp_of r)
  unfolding cmp_of
  full_cmp =
      full_if_left (grouped {P = Prefix} {Q = λ p. (Levels left).Next ▸ λ e. Gives (leaf p.0 (Form.Prefix p.1 e))} {S = λ e. Gives (e, false)})
      (full_look prefix_full (λ (p : Lexeme × PrefixWord). full_then (full_prefixed p) (λ (e : Expression). full_gives (e, false))) full_comparison)

  full_conjunct : (all : Chain) → Full (Conjunct (Levels left) all) (conjunct_of r all)
  unfolding conjunct_of
  full_conjunct all = full_then (full_token classes.And a_And) (λ (t : Lexeme). full_then full_cmp (λ (p : Term). full_gives (all.0 ++ p.0 ∷ [], all.1 ++ t.at ∷ [])))

  full_conjunction : (a : Expression)
      → Full (Token classes.And ▸ λ t. Cmp (Levels left) ▸ λ b. Steps (Conjunct (Levels left)) (a ∷ b.0 ∷ [], t.at ∷ []) ▸ λ all. Gives (expression (first_of a) t.at (Form.And (expressions all.0) all.1), false)) (conjunction_of r a)
  unfolding conjunction_of
  full_conjunction a =
      full_then (full_token classes.And a_And) (λ (t : Lexeme). full_then full_cmp (λ (b : Term). full_then (full_steps (starts classes.And) full_conjunct (a ∷ b.0 ∷ [], t.at ∷ []))
      (λ (all : Chain). full_gives (expression (first_of a) t.at (Form.And (expressions all.0) all.1), false))))

  full_conj : Full (Conj (Levels left)) (conj_of r)
  unfolding conj_of
  full_conj = full_then full_cmp (λ (p : Term). full_if (starts classes.And) (full_conjunction p.0) (full_gives p))

  full_disjunct : (all : Chain) → Full (Disjunct (Levels left) all) (disjunct_of r all)
  unfolding disjunct_of
  full_disjunct all = full_then full_or_sign (λ (t : Lexeme). full_then full_conj (λ (p : Term). full_gives (all.0 ++ p.0 ∷ [], all.1 ++ t.at ∷ [])))

  full_disjunction : (a : Expression)
      → Full (OrSign ▸ λ t. Conj (Levels left) ▸ λ b. Steps (Disjunct (Levels left)) (a ∷ b.0 ∷ [], t.at ∷ []) ▸ λ all. Gives (expression (first_of a) t.at (Form.Or (expressions all.0) all.1), false)) (disjunction_of r a)
  unfolding disjunction_of
  full_disjunction a =
      full_then full_or_sign (λ (t : Lexeme). full_then full_conj (λ (b : Term). full_then (full_steps starts_or full_disjunct (a ∷ b.0 ∷ [], t.at ∷ []))
      (λ (all : Chain). full_gives (expression (first_of a) t.at (Form.Or (expressions all.0) all.1), false))))

  full_disj : Full (Disj (Levels left)) (disj_of r)
  unfolding disj_of
  full_disj = full_then full_conj (λ (p : Term). full_if starts_or (full_disjunction p.0) (full_gives p))

  full_arrow : (a : Expression) (o : Place × BinaryWord) → Full (Disj (Levels left) ▸ λ b. Gives (between o.0 o.1 a b.0)) (arrow_of r a o.0 o.1)
  unfolding arrow_of
  full_arrow a o = full_then full_disj (λ (b : Term). full_gives (between o.0 o.1 a b.0))

  full_past : (a : Expression) → Full ((Operator levels.Past ▸ λ o. Prim (Levels left) ▸ λ b. Gives (between o.0 o.1 a b)) ∣ Gives a) (past_of r a)
  unfolding past_of
  full_past a = full_look (operator_full levels.Past) (λ (o : Place × BinaryWord). full_then full_prim (λ (b : Expression). full_gives (between o.0 o.1 a b))) (full_gives a)

  full_alone : (a : Expression) (alone : Bool) → Full (Alone (a, alone) (Operator levels.Past ▸ λ o. Prim (Levels left) ▸ λ b. Gives (between o.0 o.1 a b)) ∣ Gives a) (alone_of r a alone)
  unfolding alone_of
  full_alone a true = full_if_left (λ used x m. record { alone = refl; then = m }) (full_past a)
  full_alone a false = full_right (full_gives a)

  full_unquantified : Full (Unquantified (Levels left)) (unquantified_of r)
  unfolding unquantified_of
  full_unquantified = full_then full_disj (λ (p : Term). full_look (operator_full levels.Arrow) (full_arrow p.0) (full_alone p.0 p.1))

  full_for_all : Full (Token classes.ForAll ▸ λ t. (Levels left).Scoped ▸ λ x. Gives (leaf t (Form.ForAll x.name x.low x.high x.body))) (for_all_of r)
  unfolding for_all_of
  full_for_all = full_behind classes.ForAll a_ForAll (λ (t : Lexeme). full_then (s.scope t) (λ (x : Scope). full_gives (leaf t (Form.ForAll x.name x.low x.high x.body))))

  full_exists : Full (Token classes.Exists ▸ λ t. (Levels left).Scoped ▸ λ x. Gives (leaf t (Form.Exists x.name x.low x.high x.body))) (exists_of r)
  unfolding exists_of
  full_exists = full_behind classes.Exists a_Exists (λ (t : Lexeme). full_then (s.scope t) (λ (x : Scope). full_gives (leaf t (Form.Exists x.name x.low x.high x.body))))

  full_expr : Full (ExprOf (Levels left)) (expr_of r)
  unfolding expr_of
  full_expr = full_if (starts classes.ForAll) full_for_all (full_if (starts classes.Exists) full_exists full_unquantified)

  pub full_whole : Full (ExprOf (Levels left)) (whole_of r)
  unfolding whole_of
  full_whole = full_then_same (full_finished Phrase.Whole left (ExprOf (Levels left)) (λ e. e) (λ used e d. (e, d)) (λ used p. p) full_expr)

  pub full_subscript : Full (Subscript (Levels left)) (subscript_of r)
  unfolding subscript_of
  full_subscript = full_then full_bound (λ (e : Expression). full_then (full_token classes.CloseBracket a_CloseBracket) (λ (c : Lexeme). full_gives e))

  pub full_scope : Full (ScopeOf (Levels left)) (scope_of r)
  unfolding scope_of
  full_scope =
      full_then (full_token classes.Name a_Name) (λ (n : Lexeme). full_then (full_token classes.In a_In) (λ (i : Lexeme). full_then full_bound (λ (low : Expression). full_then (full_token classes.UpTo a_UpTo) (λ (u : Lexeme).
      full_then full_bound (λ (high : Expression). full_then (full_token classes.Colon a_Colon) (λ (c : Lexeme). full_then full_whole (λ (e : Expression).
      full_gives (record { name = name_of n; low = low; high = high; body = e }))))))))

  full_argument : (all : List Expression) → Full (Argument (Levels left) all) (argument_of r all)
  unfolding argument_of
  full_argument all = full_then (full_token classes.Comma a_Comma) (λ (t : Lexeme). full_then full_whole (λ (e : Expression). full_gives (all ++ e ∷ [])))

  full_some_arguments : Full (ExprOf (Levels left) ▸ λ e. Steps (Argument (Levels left)) (e ∷ []) ▸ λ es. Token classes.Close ▸ λ t. Gives es) (some_arguments_of r)
  unfolding some_arguments_of
  full_some_arguments =
      full_then full_whole (λ (e : Expression). full_then (full_steps (starts classes.Comma) full_argument (e ∷ []))
      (λ (es : List Expression). full_then (full_token classes.Close a_Close) (λ (t : Lexeme). full_gives es)))

  pub full_arguments : Full (Arguments (Levels left)) (arguments_of r)
  unfolding arguments_of
  full_arguments = full_if (starts classes.Close) (full_then (full_token classes.Close a_Close) (λ (t : Lexeme). full_gives [])) full_some_arguments

-- the grammar has more levels, for the word `next` at the last level
pub full_inside : (more left : ℕ) → left < more → FullInside (Levels more) (inside left)
unfolding inside
full_inside zero left lt = absurd (omega arith)
full_inside (suc more) zero lt = record {
  whole = λ t. full_deep t (begun_expr (Levels more));
  operand = λ t. full_deep t (begun_operand (Levels more));
  arguments = λ t. full_deep t (begun_arguments (Levels more));
  subscript = λ t. full_deep t (begun_subscript (Levels more));
  scope = λ t. full_deep t (begun_scope (Levels more));
}
full_inside (suc more) (suc left) lt = record {
  whole = λ t. full_wider (full_whole more (inside left) (full_inside more left (omega arith)));
  operand = λ t. full_wider (full_operand more (inside left) (full_inside more left (omega arith)));
  arguments = λ t. full_wider (full_arguments more (inside left) (full_inside more left (omega arith)));
  subscript = λ t. full_wider (full_subscript more (inside left) (full_inside more left (omega arith)));
  scope = λ t. full_wider (full_scope more (inside left) (full_inside more left (omega arith)));
}
