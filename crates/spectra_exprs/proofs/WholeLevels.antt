-- What is an expression of the grammar is read: one lemma for each production.
use Rattle.std.proofs.Common.{◌≡◌, ℕ, zero, suc, ◌<◌, Bool, true, false, cond, List, [], ◌∷◌, ◌++◌, ◌∙◌, append-nil, append_assoc, ◌&&◌, inl, inr, refl, sym, ap, arith}
use Rattle.spectra_exprs.specs.declared.operators.Level.TheVariants as levels
use Rattle.spectra_trees.specs.declared.class.Class.{Class}
use Rattle.spectra_trees.specs.declared.class.Class.TheVariants as classes
use Rattle.spectra_trees.specs.declared.tree.Place.{Place}
use Rattle.spectra_trees.specs.declared.tree.BinaryWord.{BinaryWord}
use Rattle.spectra_trees.specs.declared.tree.BinaryWord.TheVariants as binaries
use Rattle.spectra_trees.specs.declared.tree.PrefixWord.{PrefixWord}
use Rattle.spectra_trees.specs.Classes.{place_of}
use Rattle.spectra_trees.specs.Data.{Expression, Form, expression, expressions, first_of}
use Rattle.spectra_trees.specs.Lexemes.{Lexeme, name_of}
use Rattle.spectra_exprs.specs.Read.{unexpected, starts, all_of}
use Rattle.spectra_exprs.specs.OperatorReaders.{starts_sum, starts_or}
use Rattle.spectra_exprs.specs.Expressions.{leaf, between, opened, Term, Scope, Chain, Inside, negative, number_of, literal, next_of, parentheses_of, call_of, index_of, read_of, named_of, prim_of, prefixed_of, operand_of, times_of, prod_of, plus_of, modulo, sum_of, side_of, compared_of, comparison_of, cmp_of, conjunct_of, conjunction_of, conj_of, disjunct_of, disjunction_of, disj_of, arrow_of, past_of, alone_of, unquantified_of, for_all_of, exists_of, expr_of, whole_of, bound_of, subscript_of, scope_of, argument_of, some_arguments_of, arguments_of, inside}
use Rattle.spectra_exprs.specs.Forms.{Gives, Token, ◌▸◌, ◌∣◌, Steps}
use Rattle.spectra_exprs.specs.Grammar.{Operator, Prefix, OrSign, Deeper, Literal, Prim, Prefixed, Operand, Times, Prod, Plus, Modulo, Alone, Sum, Side, Cmp, Conjunct, Conj, Disjunct, Disj, Unquantified, ExprOf, BoundOf, Subscript, ScopeOf, Argument, Arguments, Levels}
use Rattle.spectra_exprs.proofs.SoundExpressions.{literal_same, named_same, prim_same}
use Rattle.spectra_exprs.proofs.ClassSets.{starts_going}
use Rattle.spectra_exprs.proofs.Completeness.{Whole, Begins, whole_gives, whole_then, follows_none, whole_calm, whole_same, whole_narrower, begins_token, begins_then, begins_wider, begins_or, follows_begins, follows_gives, follows_or, whole_if, whole_choice, whole_only, whole_look, whole_look_only, follows_steps, whole_steps, follows_then, begins_of, whole_after, whole_until, whole_map, whole_nothing, whole_deep}
use Rattle.spectra_exprs.proofs.WholeExpressions.{c_prim, c_prod, op_sum, c_sum, op_relation, c_cmp, c_conj, op_or, c_disj, op_arrow, op_past, c_expr, b_literal, b_prim, b_prefix, b_plain, b_expr, finds_prefix, begins_prefix, finds_operator, begins_operator, sum_going, or_going, whole_or_sign, begins_or_sign, whole_closed}

whole_negative : {E : Type 0} → (t : Lexeme) → Whole E c_prim (Token classes.Number ▸ λ n. Gives (expression t.at n.at (Form.Number true n.text))) (negative t)
unfolding negative
whole_negative t = whole_after classes.Number (λ (n : Lexeme). whole_gives c_prim (expression t.at n.at (Form.Number true n.text)))

whole_number : {E : Type 0} → (t : Lexeme) → Whole E c_prim (Gives (leaf t (Form.Number false t.text))) (number_of t)
unfolding number_of
whole_number t = whole_gives c_prim (leaf t (Form.Number false t.text))

begins_literal : Begins b_literal Literal
unfolding place_of
begins_literal = begins_or (begins_of classes.True b_literal (record { checked = refl })) (begins_or (begins_of classes.False b_literal (record { checked = refl })) (begins_or (begins_of classes.Number b_literal (record { checked = refl })) (begins_of classes.Minus b_literal (record { checked = refl }))))

whole_literal : {E : Type 0} → Whole E c_prim Literal literal
unfolding place_of
whole_literal =
    whole_same literal_same
    (whole_choice classes.True (begins_then (begins_token classes.True))
    (follows_begins (classes.False ∷ classes.Number ∷ classes.Minus ∷ []) (record { checked = refl }) (begins_or (begins_of classes.False _ (record { checked = refl })) (begins_or (begins_of classes.Number _ (record { checked = refl })) (begins_of classes.Minus _ (record { checked = refl })))))
    (whole_after classes.True (λ (t : Lexeme). whole_gives c_prim (leaf t Form.True)))
    (whole_choice classes.False (begins_then (begins_token classes.False))
    (follows_begins (classes.Number ∷ classes.Minus ∷ []) (record { checked = refl }) (begins_or (begins_of classes.Number _ (record { checked = refl })) (begins_of classes.Minus _ (record { checked = refl }))))
    (whole_after classes.False (λ (t : Lexeme). whole_gives c_prim (leaf t Form.False)))
    (whole_choice classes.Number (begins_then (begins_token classes.Number)) (follows_begins (classes.Minus ∷ []) (record { checked = refl }) (begins_then (begins_token classes.Minus)))
    (whole_after classes.Number whole_number)
    (whole_only unexpected classes.Minus (begins_then (begins_token classes.Minus)) (whole_after classes.Minus whole_negative)))))

-- ---- over what reads one level deeper

pub record WholeInside (E : Type 0) (d : Deeper) (r : Inside) : Type 0 where
  pub whole : (t : Lexeme) → Whole E c_expr d.Whole (r.whole t)
  pub operand : (t : Lexeme) → Whole E c_prim d.Next (r.operand t)
  pub arguments : (t : Lexeme) → Whole E [] d.Listed (r.arguments t)
  pub subscript : (t : Lexeme) → Whole E [] d.Indexed (r.subscript t)
  pub scope : (t : Lexeme) → Whole E c_expr d.Scoped (r.scope t)

begins_alone : {A : Type 0} {F : List Class} {P : List Lexeme → A → Type 0} (p : Term) → Begins F P → Begins F (Alone p P)
begins_alone p b = record { first = λ used a rest h. b.first used a rest h.then }

ungrouped : {A B C : Type 0} {P : List Lexeme → A → Type 0} {Q : A → List Lexeme → B → Type 0} {S : B → List Lexeme → C → Type 0} (used : List Lexeme) (c : C) → ((P ▸ Q) ▸ S) used c → (P ▸ λ a. Q a ▸ S) used c
ungrouped used c t =
    record {
      front = t.before.front;
      value = t.before.value;
      back = t.before.back ++ t.back;
      parts = t.parts ∙ ap (λ (f : List Lexeme). f ++ t.back) t.before.parts ∙ append_assoc t.before.front t.before.back t.back;
      before = t.before.before;
      after = record { front = t.before.back; value = t.value; back = t.back; parts = refl; before = t.before.after; after = t.after };
    }

left_to : {A : Type 0} (P P' Q : List Lexeme → A → Type 0) → ((used : List Lexeme) (a : A) → P' used a → P used a) → (used : List Lexeme) (a : A) → (P' ∣ Q) used a → (P ∣ Q) used a
left_to P P' Q to used a (inl p) = inl (to used a p)
left_to P P' Q to used a (inr q) = inr q

with_gives : {A : Type 0} {P : List Lexeme → A → Type 0} (used : List Lexeme) (a : A) → P used a → (P ▸ Gives) used a
with_gives used a p = record { front = used; value = a; back = []; parts = sym (append-nil used); before = p; after = record { nothing = refl; same = refl } }

module _ {E : Type 0} (d : Deeper) (r : Inside) (s : WholeInside E d r) where
  whole_call : (t u : Lexeme) → Whole E c_prim (d.Listed ▸ λ es. Gives (leaf t (Form.Call (name_of t) (expressions es)))) (call_of r t u)
  unfolding call_of
  whole_call t u = whole_then (s.arguments u) (λ (es : List Expression). follows_none) (λ (es : List Expression). whole_gives c_prim (leaf t (Form.Call (name_of t) (expressions es))))

  whole_read : (t : Lexeme) → Whole E c_prim (Gives (leaf t (Form.Read (name_of t)))) (read_of t)
  unfolding read_of
  whole_read t = whole_gives c_prim (leaf t (Form.Read (name_of t)))

  whole_index : (t u : Lexeme) → Whole E c_prim (d.Indexed ▸ λ e. Gives (leaf t (Form.Index (name_of t) e))) (index_of r t u)
  unfolding index_of
  whole_index t u = whole_then (s.subscript u) (λ (e : Expression). follows_none) (λ (e : Expression). whole_gives c_prim (leaf t (Form.Index (name_of t) e)))

  whole_named : (t : Lexeme)
      → Whole E c_prim
      ((Token classes.Open ▸ λ o. d.Listed ▸ λ es. Gives (leaf t (Form.Call (name_of t) (expressions es)))) ∣ (Token classes.OpenBracket ▸ λ o. d.Indexed ▸ λ e. Gives (leaf t (Form.Index (name_of t) e))) ∣ Gives (leaf t (Form.Read (name_of t)))) (named_of r t)
  unfolding place_of
  whole_named t =
      whole_same (named_same r t)
      (whole_choice classes.Open (begins_then (begins_token classes.Open))
      (follows_or (follows_begins (classes.OpenBracket ∷ []) (record { checked = refl }) (begins_then (begins_token classes.OpenBracket))) (follows_gives (leaf t (Form.Read (name_of t))) (record { checked = refl }))) (whole_after classes.Open (whole_call t))
      (whole_choice classes.OpenBracket (begins_then (begins_token classes.OpenBracket)) (follows_gives (leaf t (Form.Read (name_of t))) (record { checked = refl })) (whole_after classes.OpenBracket (whole_index t)) (whole_read t)))

  whole_next : (t : Lexeme) → Whole E c_prim (Token classes.Open ▸ λ o. d.Whole ▸ λ e. Token classes.Close ▸ λ c. Gives (leaf t (Form.Next e))) (next_of r t)
  unfolding next_of place_of
  whole_next t = whole_after classes.Open (λ (o : Lexeme). whole_until classes.Close (record { checked = refl }) (s.whole o) (λ (e : Expression) (c : Lexeme). whole_gives c_prim (leaf t (Form.Next e))))

  whole_parentheses : (t : Lexeme) → Whole E c_prim (d.Whole ▸ λ e. Token classes.Close ▸ λ c. Gives (opened t e)) (parentheses_of r t)
  unfolding parentheses_of place_of
  whole_parentheses t = whole_until classes.Close (record { checked = refl }) (s.whole t) (λ (e : Expression) (c : Lexeme). whole_gives c_prim (opened t e))

  begins_prim : Begins b_prim (Prim d)
  unfolding place_of
  begins_prim = begins_or (begins_of classes.Name b_prim (record { checked = refl })) (begins_or (begins_of classes.Next b_prim (record { checked = refl })) (begins_or (begins_of classes.Open b_prim (record { checked = refl })) (begins_wider (record { checked = refl }) begins_literal)))

  whole_prim : Whole E c_prim (Prim d) (prim_of r)
  unfolding place_of
  whole_prim =
      whole_same (prim_same r)
      (whole_choice classes.Name (begins_then (begins_token classes.Name))
      (follows_begins (classes.Next ∷ classes.Open ∷ b_literal) (record { checked = refl }) (begins_or (begins_of classes.Next _ (record { checked = refl })) (begins_or (begins_of classes.Open _ (record { checked = refl })) (begins_wider (record { checked = refl }) begins_literal))))
      (whole_after classes.Name whole_named)
      (whole_choice classes.Next (begins_then (begins_token classes.Next))
      (follows_begins (classes.Open ∷ b_literal) (record { checked = refl }) (begins_or (begins_of classes.Open _ (record { checked = refl })) (begins_wider (record { checked = refl }) begins_literal)))
      (whole_after classes.Next whole_next)
      (whole_choice classes.Open (begins_then (begins_token classes.Open)) (follows_begins b_literal (record { checked = refl }) begins_literal) (whole_after classes.Open whole_parentheses) whole_literal)))

  whole_prefixed : (p : Lexeme × PrefixWord) → Whole E c_prim (d.Next ▸ λ e. Gives (leaf p.0 (Form.Prefix p.1 e))) (prefixed_of r p.0 p.1)
  unfolding prefixed_of place_of
  whole_prefixed p = whole_map (λ (e : Expression). leaf p.0 (Form.Prefix p.1 e)) (record { checked = refl }) (s.operand p.0)

  pub whole_operand : Whole E c_prim (Operand d) (operand_of r)
  unfolding operand_of place_of
  whole_operand = whole_look b_prefix finds_prefix (follows_begins b_prim (record { checked = refl }) begins_prim) whole_prefixed whole_prim

  whole_times : (a : Term) → Whole E c_prim (Times d a) (times_of r a)
  unfolding times_of place_of
  whole_times a = whole_after classes.Star (λ (t : Lexeme). whole_map (λ (b : Expression). (between t.at binaries.Mul a.0 b, false)) (record { checked = refl }) whole_prim)

  begins_times : (a : Term) → Begins (classes.Star ∷ []) (Times d a)
  begins_times a = begins_then (begins_token classes.Star)

  whole_prod : Whole E c_prod (Prod d) (prod_of r)
  unfolding prod_of place_of
  whole_prod =
      whole_then whole_prim (λ (p : Expression). follows_steps (classes.Star ∷ []) begins_times (record { checked = refl }) (record { checked = refl }) (p, true))
      (λ (p : Expression). whole_steps (classes.Star ∷ []) (starts classes.Star) (starts_going classes.Star) begins_times (record { checked = refl }) (record { checked = refl }) (record { checked = refl }) whole_times (p, true))

  begins_plus : (a : Term) → Begins op_sum (Plus d a)
  begins_plus a = begins_then (begins_operator levels.Sum)

  whole_plus : (a : Term) → Whole E c_prod (Plus d a) (plus_of r a)
  unfolding plus_of place_of
  whole_plus a = whole_look_only unexpected op_sum (finds_operator levels.Sum) (λ (o : Place × BinaryWord). whole_map (λ (b : Term). (between o.0 o.1 a.0 b.0, false)) (record { checked = refl }) whole_prod)

  whole_modulo : (e : Expression) → Whole E c_sum (Modulo e) (modulo e)
  unfolding modulo
  whole_modulo e =
      whole_after classes.Mod (λ (t : Lexeme). whole_after classes.Number (λ (m : Lexeme). whole_gives c_sum (expression (first_of e) t.at (Form.Mod e m.at m.text), false)))

  whole_sums : (p : Term) → Whole E c_sum (Steps (Plus d) p) (λ ts. all_of starts_sum (plus_of r) p ts)
  unfolding place_of
  whole_sums p = whole_steps op_sum starts_sum sum_going begins_plus (record { checked = refl }) (record { checked = refl }) (record { checked = refl }) whole_plus p

  never_alone : {A : Type 0} (P Q : List Lexeme → A → Type 0) (e : Expression) (used : List Lexeme) (a : A) → (Alone (e, false) P ∣ Q) used a → Q used a
  never_alone P Q e used a (inl h) = let wrong : false ≡ true = h.alone in absurd (cc)
  never_alone P Q e used a (inr q) = q

  after_prod : (e : Expression) (alone : Bool)
      → Whole E c_sum (Alone (e, alone) (Modulo e) ∣ Steps (Plus d) (e, alone)) (λ ts. cond (alone && starts classes.Mod ts) (modulo e ts) (all_of starts_sum (plus_of r) (e, alone) ts))
  unfolding place_of
  after_prod e true =
      whole_choice classes.Mod (begins_alone (e, true) (begins_then (begins_token classes.Mod))) (follows_steps op_sum begins_plus (record { checked = refl }) (record { checked = refl }) (e, true))
      (whole_narrower (Modulo e) (λ used a m. m.then) (whole_modulo e)) (whole_sums (e, true))
  after_prod e false = whole_narrower (Steps (Plus d) (e, false)) (never_alone (Modulo e) (Steps (Plus d) (e, false)) e) (whole_sums (e, false))

  whole_sum : Whole E c_sum (Sum d) (sum_of r)
  unfolding sum_of place_of
  whole_sum =
      whole_then whole_prod
      (λ (p : Term). follows_or (follows_begins (classes.Mod ∷ []) (record { checked = refl }) (begins_alone p (begins_then (begins_token classes.Mod)))) (follows_steps op_sum begins_plus (record { checked = refl }) (record { checked = refl }) p))
      (λ (p : Term). after_prod p.0 p.1)

  pub whole_bound : Whole E c_expr (Sum d ▸ λ p. Gives p.0) (bound_of r)
  unfolding bound_of place_of
  whole_bound = whole_then whole_sum (λ (p : Term). follows_gives p.0 (record { checked = refl })) (λ (p : Term). whole_closed p.0)

  pub begins_sum : Begins b_prim (Sum d)
  begins_sum = begins_then (begins_then begins_prim)

  whole_side : Whole E c_sum (Side d) (side_of r)
  unfolding side_of place_of
  whole_side =
      whole_look b_prefix finds_prefix (follows_begins b_prim (record { checked = refl }) (begins_then begins_sum)) (λ (p : Lexeme × PrefixWord). whole_calm (record { checked = refl }) (whole_prefixed p))
      (whole_map (λ (p : Term). p.0) (record { checked = refl }) whole_sum)

  whole_compared : (a : Expression) (o : Place × BinaryWord) → Whole E c_cmp (Side d ▸ λ b. Gives (between o.0 o.1 a b, false)) (compared_of r a o.0 o.1)
  unfolding compared_of place_of
  whole_compared a o = whole_calm (record { checked = refl }) (whole_map (λ (b : Expression). (between o.0 o.1 a b, false)) (record { checked = refl }) whole_side)

  whole_comparison : Whole E c_cmp (Sum d ▸ λ p. (Operator levels.Relation ▸ λ o. Side d ▸ λ b. Gives (between o.0 o.1 p.0 b, false)) ∣ Gives p) (comparison_of r)
  unfolding comparison_of place_of
  whole_comparison =
      whole_then whole_sum (λ (p : Term). follows_or (follows_begins op_relation (record { checked = refl }) (begins_then (begins_operator levels.Relation))) (follows_gives p (record { checked = refl })))
      (λ (p : Term). whole_look op_relation (finds_operator levels.Relation) (follows_gives p (record { checked = refl })) (whole_compared p.0) (whole_gives c_cmp p))

  begins_cmp : Begins b_plain (Cmp d)
  unfolding place_of
  begins_cmp = begins_or (begins_wider (record { checked = refl }) (begins_then (begins_then begins_prefix))) (begins_wider (record { checked = refl }) (begins_then begins_sum))

  whole_cmp : Whole E c_cmp (Cmp d) (cmp_of r)
  unfolding cmp_of place_of
  whole_cmp =
      whole_narrower ((Prefix ▸ λ p. (d.Next ▸ λ e. Gives (leaf p.0 (Form.Prefix p.1 e))) ▸ λ e. Gives (e, false)) ∣ (Sum d ▸ λ p. (Operator levels.Relation ▸ λ o. Side d ▸ λ b. Gives (between o.0 o.1 p.0 b, false)) ∣ Gives p))
      (left_to (Prefix ▸ λ p. (d.Next ▸ λ e. Gives (leaf p.0 (Form.Prefix p.1 e))) ▸ λ e. Gives (e, false)) (Prefixed d ▸ λ e. Gives (e, false)) (Sum d ▸ λ p. (Operator levels.Relation ▸ λ o. Side d ▸ λ b. Gives (between o.0 o.1 p.0 b, false)) ∣ Gives p)
      (ungrouped {P = Prefix} {Q = λ p. d.Next ▸ λ e. Gives (leaf p.0 (Form.Prefix p.1 e))} {S = λ e. Gives (e, false)}))
      (whole_look b_prefix finds_prefix (follows_begins b_prim (record { checked = refl }) (begins_then begins_sum))
      (λ (p : Lexeme × PrefixWord). whole_calm (record { checked = refl }) (whole_map (λ (e : Expression). (e, false)) (record { checked = refl }) (whole_prefixed p))) whole_comparison)

  whole_conjunct : (all : Chain) → Whole E c_cmp (Conjunct d all) (conjunct_of r all)
  unfolding conjunct_of place_of
  whole_conjunct all = whole_after classes.And (λ (t : Lexeme). whole_map (λ (p : Term). (all.0 ++ p.0 ∷ [], all.1 ++ t.at ∷ [])) (record { checked = refl }) whole_cmp)

  begins_conjunct : (all : Chain) → Begins (classes.And ∷ []) (Conjunct d all)
  begins_conjunct all = begins_then (begins_token classes.And)

  whole_conjunction : (a : Expression)
      → Whole E c_conj (Token classes.And ▸ λ t. Cmp d ▸ λ b. Steps (Conjunct d) (a ∷ b.0 ∷ [], t.at ∷ []) ▸ λ all. Gives (expression (first_of a) t.at (Form.And (expressions all.0) all.1), false)) (conjunction_of r a)
  unfolding conjunction_of place_of
  whole_conjunction a =
      whole_after classes.And (λ (t : Lexeme). whole_then whole_cmp
      (λ (b : Term). follows_then c_conj (follows_steps (classes.And ∷ []) begins_conjunct (record { checked = refl }) (record { checked = refl }) (a ∷ b.0 ∷ [], t.at ∷ [])) (λ (all : Chain). follows_gives (expression (first_of a) t.at (Form.And (expressions all.0) all.1), false) (record { checked = refl })))
      (λ (b : Term). whole_map (λ (all : Chain). (expression (first_of a) t.at (Form.And (expressions all.0) all.1), false)) (record { checked = refl })
      (whole_steps (classes.And ∷ []) (starts classes.And) (starts_going classes.And) begins_conjunct (record { checked = refl }) (record { checked = refl }) (record { checked = refl }) whole_conjunct (a ∷ b.0 ∷ [], t.at ∷ []))))

  whole_conj : Whole E c_conj (Conj d) (conj_of r)
  unfolding conj_of place_of
  whole_conj =
      whole_then whole_cmp (λ (a : Term). follows_or (follows_begins (classes.And ∷ []) (record { checked = refl }) (begins_then (begins_token classes.And))) (follows_gives a (record { checked = refl })))
      (λ (a : Term). whole_choice classes.And (begins_then (begins_token classes.And)) (follows_gives a (record { checked = refl })) (whole_conjunction a.0) (whole_gives c_conj a))

  whole_disjunct : (all : Chain) → Whole E c_conj (Disjunct d all) (disjunct_of r all)
  unfolding disjunct_of place_of
  whole_disjunct all = whole_then whole_or_sign (λ (t : Lexeme). follows_none) (λ (t : Lexeme). whole_map (λ (p : Term). (all.0 ++ p.0 ∷ [], all.1 ++ t.at ∷ [])) (record { checked = refl }) whole_conj)

  begins_disjunct : (all : Chain) → Begins op_or (Disjunct d all)
  begins_disjunct all = begins_then begins_or_sign

  whole_disjunction : (a : Expression)
      → Whole E c_disj (OrSign ▸ λ t. Conj d ▸ λ b. Steps (Disjunct d) (a ∷ b.0 ∷ [], t.at ∷ []) ▸ λ all. Gives (expression (first_of a) t.at (Form.Or (expressions all.0) all.1), false)) (disjunction_of r a)
  unfolding disjunction_of place_of
  whole_disjunction a =
      whole_then whole_or_sign (λ (t : Lexeme). follows_none) (λ (t : Lexeme). whole_then whole_conj
      (λ (b : Term). follows_then c_disj (follows_steps op_or begins_disjunct (record { checked = refl }) (record { checked = refl }) (a ∷ b.0 ∷ [], t.at ∷ [])) (λ (all : Chain). follows_gives (expression (first_of a) t.at (Form.Or (expressions all.0) all.1), false) (record { checked = refl })))
      (λ (b : Term). whole_map (λ (all : Chain). (expression (first_of a) t.at (Form.Or (expressions all.0) all.1), false)) (record { checked = refl })
      (whole_steps op_or starts_or or_going begins_disjunct (record { checked = refl }) (record { checked = refl }) (record { checked = refl }) whole_disjunct (a ∷ b.0 ∷ [], t.at ∷ []))))

  whole_disj : Whole E c_disj (Disj d) (disj_of r)
  unfolding disj_of place_of
  whole_disj =
      whole_then whole_conj (λ (a : Term). follows_or (follows_begins op_or (record { checked = refl }) (begins_then begins_or_sign)) (follows_gives a (record { checked = refl })))
      (λ (a : Term). whole_if op_or starts_or or_going (begins_then begins_or_sign) (follows_gives a (record { checked = refl })) (whole_disjunction a.0) (whole_gives c_disj a))

  whole_arrow : (a : Expression) (o : Place × BinaryWord) → Whole E c_expr (Disj d ▸ λ b. Gives (between o.0 o.1 a b.0)) (arrow_of r a o.0 o.1)
  unfolding arrow_of place_of
  whole_arrow a o = whole_calm (record { checked = refl }) (whole_map (λ (b : Term). between o.0 o.1 a b.0) (record { checked = refl }) whole_disj)

  whole_past : (a : Expression) → Whole E c_expr ((Operator levels.Past ▸ λ o. Prim d ▸ λ b. Gives (between o.0 o.1 a b)) ∣ Gives a) (past_of r a)
  unfolding past_of place_of
  whole_past a =
      whole_look op_past (finds_operator levels.Past) (follows_gives a (record { checked = refl })) (λ (o : Place × BinaryWord). whole_calm (record { checked = refl }) (whole_map (λ (b : Expression). between o.0 o.1 a b) (record { checked = refl }) whole_prim)) (whole_gives c_expr a)

  whole_alone : (a : Expression) (alone : Bool) → Whole E c_expr (Alone (a, alone) (Operator levels.Past ▸ λ o. Prim d ▸ λ b. Gives (between o.0 o.1 a b)) ∣ Gives a) (alone_of r a alone)
  unfolding alone_of
  whole_alone a true =
      whole_narrower ((Operator levels.Past ▸ λ o. Prim d ▸ λ b. Gives (between o.0 o.1 a b)) ∣ Gives a)
      (left_to (Operator levels.Past ▸ λ o. Prim d ▸ λ b. Gives (between o.0 o.1 a b)) (Alone (a, true) (Operator levels.Past ▸ λ o. Prim d ▸ λ b. Gives (between o.0 o.1 a b))) (Gives a) (λ used x h. h.then)) (whole_past a)
  whole_alone a false =
      whole_narrower (Gives a) (never_alone (Operator levels.Past ▸ λ o. Prim d ▸ λ b. Gives (between o.0 o.1 a b)) (Gives a) a) (whole_gives c_expr a)

  whole_unquantified : Whole E c_expr (Unquantified d) (unquantified_of r)
  unfolding unquantified_of place_of
  whole_unquantified =
      whole_then whole_disj
      (λ (a : Term). follows_or (follows_begins op_arrow (record { checked = refl }) (begins_then (begins_operator levels.Arrow)))
      (follows_or (follows_begins op_past (record { checked = refl }) (begins_alone a (begins_then (begins_operator levels.Past)))) (follows_gives a.0 (record { checked = refl }))))
      (λ (a : Term). whole_look op_arrow (finds_operator levels.Arrow) (follows_or (follows_begins op_past (record { checked = refl }) (begins_alone a (begins_then (begins_operator levels.Past)))) (follows_gives a.0 (record { checked = refl })))
      (whole_arrow a.0) (whole_alone a.0 a.1))

  begins_unquantified : Begins b_plain (Unquantified d)
  begins_unquantified = begins_then (begins_then (begins_then begins_cmp))

  begins_exists : Begins (classes.Exists ∷ b_plain) ((Token classes.Exists ▸ λ t. d.Scoped ▸ λ x. Gives (leaf t (Form.Exists x.name x.low x.high x.body))) ∣ Unquantified d)
  unfolding place_of
  begins_exists = begins_or (begins_of classes.Exists _ (record { checked = refl })) (begins_wider (record { checked = refl }) begins_unquantified)

  pub begins_expr : Begins b_expr (ExprOf d)
  unfolding place_of
  begins_expr = begins_or (begins_of classes.ForAll b_expr (record { checked = refl })) (begins_wider (record { checked = refl }) begins_exists)

  whole_for_all : Whole E c_expr (Token classes.ForAll ▸ λ t. d.Scoped ▸ λ x. Gives (leaf t (Form.ForAll x.name x.low x.high x.body))) (for_all_of r)
  unfolding for_all_of place_of
  whole_for_all = whole_after classes.ForAll (λ (t : Lexeme). whole_map (λ (x : Scope). leaf t (Form.ForAll x.name x.low x.high x.body)) (record { checked = refl }) (s.scope t))

  whole_exists : Whole E c_expr (Token classes.Exists ▸ λ t. d.Scoped ▸ λ x. Gives (leaf t (Form.Exists x.name x.low x.high x.body))) (exists_of r)
  unfolding exists_of place_of
  whole_exists = whole_after classes.Exists (λ (t : Lexeme). whole_map (λ (x : Scope). leaf t (Form.Exists x.name x.low x.high x.body)) (record { checked = refl }) (s.scope t))

  whole_expr : Whole E c_expr (ExprOf d) (expr_of r)
  unfolding expr_of place_of
  whole_expr =
      whole_choice classes.ForAll (begins_then (begins_token classes.ForAll)) (follows_begins (classes.Exists ∷ b_plain) (record { checked = refl }) begins_exists) whole_for_all
      (whole_choice classes.Exists (begins_then (begins_token classes.Exists)) (follows_begins b_plain (record { checked = refl }) begins_unquantified) whole_exists whole_unquantified)

  pub whole_whole : Whole E c_expr (ExprOf d) (whole_of r)
  unfolding whole_of place_of
  whole_whole =
      whole_narrower (ExprOf d ▸ Gives) (with_gives {P = ExprOf d})
      (whole_then whole_expr (λ (e : Expression). follows_gives e (record { checked = refl })) (λ (e : Expression). whole_closed e))

  pub whole_subscript : Whole E [] (Subscript d) (subscript_of r)
  unfolding subscript_of place_of
  whole_subscript = whole_until classes.CloseBracket (record { checked = refl }) whole_bound (λ (e : Expression) (c : Lexeme). whole_gives [] e)

  pub whole_scope : Whole E c_expr (ScopeOf d) (scope_of r)
  unfolding scope_of place_of
  whole_scope =
      whole_after classes.Name (λ (n : Lexeme). whole_after classes.In (λ (i : Lexeme). whole_until classes.UpTo (record { checked = refl }) whole_bound
      (λ (low : Expression) (u : Lexeme). whole_until classes.Colon (record { checked = refl }) whole_bound
      (λ (high : Expression) (c : Lexeme). whole_map (λ (e : Expression). record { name = name_of n; low = low; high = high; body = e }) (record { checked = refl }) whole_whole))))

  whole_argument : (all : List Expression) → Whole E c_expr (Argument d all) (argument_of r all)
  unfolding argument_of place_of
  whole_argument all = whole_after classes.Comma (λ (t : Lexeme). whole_map (λ (e : Expression). all ++ e ∷ []) (record { checked = refl }) whole_whole)

  begins_argument : (all : List Expression) → Begins (classes.Comma ∷ []) (Argument d all)
  begins_argument all = begins_then (begins_token classes.Comma)

  whole_some_arguments : Whole E [] (ExprOf d ▸ λ e. Steps (Argument d) (e ∷ []) ▸ λ es. Token classes.Close ▸ λ t. Gives es) (some_arguments_of r)
  unfolding some_arguments_of place_of
  whole_some_arguments =
      whole_then whole_whole
      (λ (e : Expression). follows_then (classes.Comma ∷ c_expr) (follows_steps (classes.Comma ∷ []) begins_argument (record { checked = refl }) (record { checked = refl }) (e ∷ [])) (λ (es : List Expression). follows_begins (classes.Close ∷ []) (record { checked = refl }) (begins_then (begins_token classes.Close))))
      (λ (e : Expression). whole_until classes.Close (record { checked = refl }) (whole_steps (classes.Comma ∷ []) {C = classes.Comma ∷ c_expr} (starts classes.Comma) (starts_going classes.Comma) begins_argument (record { checked = refl }) (record { checked = refl }) (record { checked = refl }) whole_argument (e ∷ []))
      (λ (es : List Expression) (t : Lexeme). whole_gives [] es))

  pub whole_arguments : Whole E [] (Arguments d) (arguments_of r)
  unfolding arguments_of place_of
  whole_arguments =
      whole_choice classes.Close (begins_then (begins_token classes.Close)) (follows_begins b_expr (record { checked = refl }) (begins_then begins_expr)) (whole_after classes.Close (λ (t : Lexeme). whole_gives [] [])) whole_some_arguments

-- the grammar may have more levels than are read
pub whole_inside : {E : Type 0} (left n : ℕ) → (n < left → E) → WholeInside E (Levels left) (inside n)
unfolding inside
whole_inside zero n deep = record { whole = λ t. whole_nothing; operand = λ t. whole_nothing; arguments = λ t. whole_nothing; subscript = λ t. whole_nothing; scope = λ t. whole_nothing }
whole_inside (suc left) zero deep =
    let more = deep (omega arith) in
    record {
      whole = λ t. whole_deep (ExprOf (Levels left)) t.number more;
      operand = λ t. whole_deep (Operand (Levels left)) t.number more;
      arguments = λ t. whole_deep (Arguments (Levels left)) t.number more;
      subscript = λ t. whole_deep (Subscript (Levels left)) t.number more;
      scope = λ t. whole_deep (ScopeOf (Levels left)) t.number more;
    }
whole_inside (suc left) (suc n) deep =
    let d = whole_inside left n (λ less. deep (omega arith)) in
    record {
      whole = λ t. whole_whole (Levels left) (inside n) d;
      operand = λ t. whole_operand (Levels left) (inside n) d;
      arguments = λ t. whole_arguments (Levels left) (inside n) d;
      subscript = λ t. whole_subscript (Levels left) (inside n) d;
      scope = λ t. whole_scope (Levels left) (inside n) d;
    }
