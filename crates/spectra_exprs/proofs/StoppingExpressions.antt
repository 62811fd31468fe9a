-- Where reading an expression stops depends on the tokens up to there alone.
use Rattle.std.proofs.Common.{◌≡◌, ℕ, zero, suc, Bool, true, false, cond, ◌&&◌, List, [], ◌∷◌, ◌++◌, Option, Some, None, option_map, Ok, Err, ◌⊎◌, inl, refl, sym, ap, subst, ◌∙◌}
use Rattle.spectra_exprs.specs.declared.fault.SyntaxFault.{SyntaxFault}
use Rattle.spectra_exprs.specs.declared.fault.SyntaxFault.TheVariants as faults
use Rattle.spectra_exprs.specs.declared.operators.Level.{Level}
use Rattle.spectra_exprs.specs.declared.operators.Level.TheVariants as levels
use Rattle.spectra_trees.specs.declared.class.Class.{Class}
use Rattle.spectra_trees.specs.declared.class.Class.TheVariants as classes
use Rattle.spectra_trees.specs.declared.tree.Place.{Place}
use Rattle.spectra_trees.specs.declared.tree.BinaryWord.{BinaryWord}
use Rattle.spectra_trees.specs.declared.tree.BinaryWord.TheVariants as binaries
use Rattle.spectra_trees.specs.declared.tree.PrefixWord.{PrefixWord}
use Rattle.spectra_trees.specs.Classes.{place_of, same_class}
use Rattle.spectra_trees.specs.Data.{Expression, Form, expression, expressions, first_of}
use Rattle.spectra_trees.specs.Lexemes.{Lexeme, name_of}
use Rattle.spectra_exprs.specs.Read.{Read, ◌>>=◌, starts, expect, all_of}
use Rattle.spectra_exprs.specs.Operators.{operator_word, prefix_word, is_operator}
use Rattle.spectra_exprs.specs.OperatorReaders.{operator_at, prefix_at, starts_sum, starts_or, expect_or, closed}
use Rattle.spectra_exprs.specs.Expressions.{leaf, between, opened, Term, Scope, Chain, Inside, negative, number_of, literal, next_of, parentheses_of, call_of, index_of, read_of, named_of, prim_of, prefixed_of, operand_of, times_of, prod_of, plus_of, modulo, sum_of, side_of, compared_of, comparison_of, cmp_of, conjunct_of, conjunction_of, conj_of, disjunct_of, disjunction_of, disj_of, arrow_of, past_of, alone_of, unquantified_of, for_all_of, exists_of, expr_of, whole_of, bound_of, subscript_of, scope_of, argument_of, some_arguments_of, arguments_of, inside}
use Rattle.spectra_exprs.proofs.Soundness.{ok_value, some_value, no_some}
use Rattle.spectra_exprs.proofs.SoundExpressions.{literal_same, named_same, prim_same}
use Rattle.spectra_exprs.proofs.ClassSets.{among, Apart, going_apart, starts_going}
use Rattle.spectra_exprs.proofs.WholeExpressions.{b_prefix, prefix_some, set_of, operator_some}
use Rattle.spectra_exprs.proofs.Stopping.{SameHead, Passed, StopsAt, NoEnd, StableAfter, Stable, stable_wider, stable_then, stable_gives, stable_same, refused, err_is, ok_no_err, err_no_ok, stable_unexpected, stable_deep, stable_token, stable_behind, OfHead, starts_of_head, stable_if}
use Rattle.spectra_exprs.proofs.StoppingSteps.{Looked, StableLook, stable_look, Uses, uses_token, uses_then, uses_if, uses_unexpected, uses_look, stable_steps}

-- ---- single tokens and operators

-- a token of a class, and what is read behind it
pub stable_after : {B : Type 0} (class : Class) {S : Lexeme → List Lexeme → Read B} → Apart (class ∷ []) (classes.Finish ∷ []) → ((t : Lexeme) → Stable (S t)) → Stable (λ ts. expect class ts >>= S)
stable_after class other second = stable_then (stable_token class other) second

stable_literal : Stable literal
unfolding negative number_of place_of
stable_literal =
    stable_same literal_same
    (stable_if (starts_of_head classes.True) (stable_after classes.True (record { checked = refl }) (λ (t : Lexeme). stable_gives (leaf t Form.True)))
    (stable_if (starts_of_head classes.False) (stable_after classes.False (record { checked = refl }) (λ (t : Lexeme). stable_gives (leaf t Form.False)))
    (stable_if (starts_of_head classes.Number) (stable_after classes.Number (record { checked = refl }) (λ (t : Lexeme). stable_gives (leaf t (Form.Number false t.text))))
    (stable_if (starts_of_head classes.Minus) (stable_after classes.Minus (record { checked = refl }) (λ (m : Lexeme). stable_after classes.Number (record { checked = refl })
    (λ (n : Lexeme). stable_gives (expression m.at n.at (Form.Number true n.text))))) stable_unexpected))))

-- a token of a set that has no end
pub not_end_of : (F : List Class) → Apart F (classes.Finish ∷ []) → (t : Lexeme) → among F (place_of t.class) ≡ true → same_class t.class classes.Finish ≡ false
unfolding starts
not_end_of F other t is = starts_going classes.Finish (t ∷ []) ∙ going_apart F (classes.Finish ∷ []) other (t ∷ []) is

pub no_none : {X : Type 0} (x : X) → ◌≡◌ {A = Option X} (Some x) None → ⊥
no_none x e = cc

some_is : (t u : Lexeme) → ◌≡◌ {A = Option Lexeme} (Some u) (Some t) → t ≡ u
some_is t u e = cc

pub prefix_look : StableLook (λ (x : Lexeme × PrefixWord). Some x.0) prefix_at
unfolding prefix_at place_of
prefix_look = record { found = looks; passes = over }
  where
    word : (o : Option PrefixWord) (t : Lexeme) (ts : List Lexeme) (x : Lexeme × PrefixWord) (rest : List Lexeme) → prefix_word t.class ≡ o
        → option_map {U = (Lexeme × PrefixWord) × List Lexeme} (λ w. ((t, w), ts)) o ≡ Some (x, rest) → Looked (λ (x : Lexeme × PrefixWord). Some x.0) prefix_at (t ∷ ts) x rest
    word (Some w) t ts x rest is e =
        let p = some_value (t, w) x ts rest e in
        record {
          token = t;
          front = ap (λ (r : List Lexeme). t ∷ r) (sym p.1);
          quiet = not_end_of b_prefix (record { checked = refl }) t (prefix_some t.class w is);
          again = λ more. rw (is, p.0) refl;
          known = λ u k. some_is u x.0 k ∙ ap (λ (y : Lexeme × PrefixWord). y.0) p.0;
        }
    word None t ts x rest is e = absurd (no_some (x, rest) e)

    looks : (ts : List Lexeme) (x : Lexeme × PrefixWord) (rest : List Lexeme) → prefix_at ts ≡ Some (x, rest) → Looked (λ (x : Lexeme × PrefixWord). Some x.0) prefix_at ts x rest
    looks [] x rest e = absurd (no_some (x, rest) e)
    looks (t ∷ ts) x rest e = word (prefix_word t.class) t ts x rest refl e

    still : (o : Option PrefixWord) (t : Lexeme) (ts more : List Lexeme) → prefix_word t.class ≡ o
        → option_map {U = (Lexeme × PrefixWord) × List Lexeme} (λ w. ((t, w), ts)) o ≡ None → prefix_at (t ∷ more) ≡ None
    still (Some w) t ts more is e = absurd (no_none ((t, w), ts) e)
    still None t ts more is e = rw is refl

    over : (ts more : List Lexeme) → SameHead ts more → prefix_at ts ≡ None → prefix_at more ≡ None
    over [] more h e = rw h refl
    over (t ∷ ts) more h e = rw h.1 (still (prefix_word t.class) t ts h.0 refl e)

operators_end : (level : Level) → Apart (set_of level) (classes.Finish ∷ [])
unfolding place_of
operators_end levels.Arrow = record { checked = refl }
operators_end levels.Past = record { checked = refl }
operators_end levels.Relation = record { checked = refl }
operators_end levels.Sum = record { checked = refl }

pub operator_look : (level : Level) → StableLook (λ (x : Place × BinaryWord). None) (operator_at level)
unfolding operator_at
operator_look level = record { found = looks; passes = over }
  where
    none_known : (t u : Lexeme) → ◌≡◌ {A = Option Lexeme} None (Some t) → t ≡ u
    none_known t u e = absurd (cc)

    word : (o : Option BinaryWord) (t : Lexeme) (ts : List Lexeme) (x : Place × BinaryWord) (rest : List Lexeme) → operator_word level t.class ≡ o
        → option_map {U = (Place × BinaryWord) × List Lexeme} (λ w. ((t.at, w), ts)) o ≡ Some (x, rest) → Looked (λ (x : Place × BinaryWord). None) (operator_at level) (t ∷ ts) x rest
    word (Some w) t ts x rest is e =
        let p = some_value (t.at, w) x ts rest e in
        record {
          token = t;
          front = ap (λ (r : List Lexeme). t ∷ r) (sym p.1);
          quiet = not_end_of (set_of level) (operators_end level) t (operator_some level t.class w is);
          again = λ more. rw (is, p.0) refl;
          known = λ u k. none_known u t k;
        }
    word None t ts x rest is e = absurd (no_some (x, rest) e)

    looks : (ts : List Lexeme) (x : Place × BinaryWord) (rest : List Lexeme) → operator_at level ts ≡ Some (x, rest) → Looked (λ (x : Place × BinaryWord). None) (operator_at level) ts x rest
    looks [] x rest e = absurd (no_some (x, rest) e)
    looks (t ∷ ts) x rest e = word (operator_word level t.class) t ts x rest refl e

    still : (o : Option BinaryWord) (t : Lexeme) (ts more : List Lexeme) → operator_word level t.class ≡ o
        → option_map {U = (Place × BinaryWord) × List Lexeme} (λ w. ((t.at, w), ts)) o ≡ None → operator_at level (t ∷ more) ≡ None
    still (Some w) t ts more is e = absurd (no_none ((t.at, w), ts) e)
    still None t ts more is e = rw is refl

    over : (ts more : List Lexeme) → SameHead ts more → operator_at level ts ≡ None → operator_at level more ≡ None
    over [] more h e = rw h refl
    over (t ∷ ts) more h e = rw h.1 (still (operator_word level t.class) t ts h.0 refl e)

sum_of_head : OfHead starts_sum
unfolding starts_sum starts
sum_of_head = record { same = at }
  where
    at : (ts more : List Lexeme) → SameHead ts more → starts_sum ts ≡ starts_sum more
    at [] more h = rw h refl
    at (t ∷ ts) more h = rw h.1 refl

or_of_head : OfHead starts_or
unfolding starts_or starts
or_of_head = record { same = at }
  where
    at : (ts more : List Lexeme) → SameHead ts more → starts_or ts ≡ starts_or more
    at [] more h = rw h refl
    at (t ∷ ts) more h = rw h.1 refl

stable_or_sign : Stable expect_or
unfolding expect_or place_of
stable_or_sign = stable_if (starts_of_head classes.Bar) (stable_token classes.Bar (record { checked = refl })) (stable_token classes.Or (record { checked = refl }))

uses_or_sign : Uses expect_or
unfolding expect_or
uses_or_sign = uses_if (starts classes.Bar) (uses_token classes.Bar) (uses_token classes.Or)

stable_closed : {A : Type 0} (a : A) → Stable (closed a)
unfolding closed
stable_closed {A = A} a = record { goes = goes; stops = stops }
  where
    here : (t : Lexeme) (ts : List Lexeme) → is_operator t.class ≡ false → Passed (closed a) (t ∷ ts) a (t ∷ ts)
    here t ts is = record { used = []; front = refl; quiet = tt; again = λ more h. rw (h.1, is) refl }

    taken : (b : Bool) (t : Lexeme) (ts : List Lexeme) (x : A) (rest : List Lexeme) → is_operator t.class ≡ b → ◌≡◌ {A = Read A} (cond b (Err (faults.Parentheses t.number)) (Ok (a, t ∷ ts))) (Ok (x, rest)) → Passed (closed a) (t ∷ ts) x rest
    taken true t ts x rest is e = absurd (err_no_ok (faults.Parentheses t.number) (x, rest) e)
    taken false t ts x rest is e = let p = ok_value a x (t ∷ ts) rest e in rw (p.0, p.1) (here t ts is)

    goes : (ts : List Lexeme) (x : A) (rest : List Lexeme) → closed a ts ≡ Ok (x, rest) → Passed (closed a) ts x rest
    goes [] x rest e = let p = ok_value a x [] rest e in rw (p.0, p.1) (record { used = []; front = refl; quiet = tt; again = λ more h. rw h refl })
    goes (t ∷ ts) x rest e = taken (is_operator t.class) t ts x rest refl e

    left : (b : Bool) (t : Lexeme) (ts : List Lexeme) (f : SyntaxFault) → is_operator t.class ≡ b → ◌≡◌ {A = Read A} (cond b (Err (faults.Parentheses t.number)) (Ok (a, t ∷ ts))) (Err f) → StopsAt (closed a) (t ∷ ts) f
    left true t ts f is e = subst (λ (g : SyntaxFault). StopsAt (closed a) (t ∷ ts) g) (err_is {A = A} (faults.Parentheses t.number) f e) (refused (closed a) t ts (faults.Parentheses t.number) refl (λ more. rw is refl))
    left false t ts f is e = absurd (ok_no_err (a, t ∷ ts) f e)

    stops : (ts : List Lexeme) (f : SyntaxFault) → closed a ts ≡ Err f → (StopsAt (closed a) ts f ⊎ NoEnd ts) ⊎ ⊥
    stops [] f e = absurd (ok_no_err (a, []) f e)
    stops (t ∷ ts) f e = inl (inl (left (is_operator t.class) t ts f refl e))

-- ---- over what reads one level deeper

pub record StableInside (r : Inside) : Type 0 where
  pub whole : (t : Lexeme) → StableAfter (Some t) (r.whole t)
  pub operand : (t : Lexeme) → StableAfter (Some t) (r.operand t)
  pub arguments : (t : Lexeme) → StableAfter (Some t) (r.arguments t)
  pub subscript : (t : Lexeme) → StableAfter (Some t) (r.subscript t)
  pub scope : (t : Lexeme) → StableAfter (Some t) (r.scope t)

module _ (r : Inside) (s : StableInside r) where
  stable_call : (t u : Lexeme) → StableAfter (Some u) (call_of r t u)
  unfolding call_of
  stable_call t u = stable_then (s.arguments u) (λ (es : List Expression). stable_gives (leaf t (Form.Call (name_of t) (expressions es))))

  stable_index : (t u : Lexeme) → StableAfter (Some u) (index_of r t u)
  unfolding index_of
  stable_index t u = stable_then (s.subscript u) (λ (e : Expression). stable_gives (leaf t (Form.Index (name_of t) e)))

  stable_named : (t : Lexeme) → Stable (named_of r t)
  unfolding read_of place_of
  stable_named t =
      stable_same (named_same r t)
      (stable_if (starts_of_head classes.Open) (stable_behind classes.Open (record { checked = refl }) (stable_call t))
      (stable_if (starts_of_head classes.OpenBracket) (stable_behind classes.OpenBracket (record { checked = refl }) (stable_index t)) (stable_gives (leaf t (Form.Read (name_of t))))))

  stable_whole_close : {B : Type 0} (t : Lexeme) (f : Expression → B) → StableAfter (Some t) (λ ts. r.whole t ts >>= λ e rest. expect classes.Close rest >>= λ c rest. Ok (f e, rest))
  unfolding place_of
  stable_whole_close t f = stable_then (s.whole t) (λ (e : Expression). stable_after classes.Close (record { checked = refl }) (λ (c : Lexeme). stable_gives (f e)))

  stable_next : (t : Lexeme) → Stable (next_of r t)
  unfolding next_of place_of
  stable_next t = stable_behind classes.Open (record { checked = refl }) (λ (o : Lexeme). stable_whole_close o (λ (e : Expression). leaf t (Form.Next e)))

  stable_parentheses : (t : Lexeme) → StableAfter (Some t) (parentheses_of r t)
  unfolding parentheses_of
  stable_parentheses t = stable_whole_close t (λ (e : Expression). opened t e)

  stable_prim : Stable (prim_of r)
  unfolding place_of
  stable_prim =
      stable_same (prim_same r)
      (stable_if (starts_of_head classes.Name) (stable_after classes.Name (record { checked = refl }) stable_named)
      (stable_if (starts_of_head classes.Next) (stable_after classes.Next (record { checked = refl }) stable_next)
      (stable_if (starts_of_head classes.Open) (stable_behind classes.Open (record { checked = refl }) stable_parentheses) stable_literal)))

  stable_prefixed : (p : Lexeme × PrefixWord) → StableAfter (Some p.0) (prefixed_of r p.0 p.1)
  unfolding prefixed_of
  stable_prefixed p = stable_then (s.operand p.0) (λ (e : Expression). stable_gives (leaf p.0 (Form.Prefix p.1 e)))

  pub stable_operand : Stable (operand_of r)
  unfolding operand_of
  stable_operand = stable_look prefix_look stable_prefixed stable_prim

  times_behind : (a : Term) (t : Lexeme) → Stable {A = Term} (λ ts. prim_of r ts >>= λ b rest. Ok ((between t.at binaries.Mul a.0 b, false), rest))
  times_behind a t = stable_then stable_prim (λ (b : Expression). stable_gives (between t.at binaries.Mul a.0 b, false))

  stable_times : (a : Term) → Stable (times_of r a)
  unfolding times_of place_of
  stable_times a = stable_after classes.Star (record { checked = refl }) (times_behind a)

  pub uses_times : (a : Term) → Uses (times_of r a)
  unfolding times_of
  uses_times a = uses_then (uses_token classes.Star) (times_behind a)

  stable_prod : Stable (prod_of r)
  unfolding prod_of
  stable_prod = stable_then stable_prim (λ (p : Expression). stable_steps (starts_of_head classes.Star) uses_times stable_times (p, true))

  plus_behind : (a : Term) (o : Place × BinaryWord) → Stable {A = Term} (λ ts. prod_of r ts >>= λ b rest. Ok ((between o.0 o.1 a.0 b.0, false), rest))
  plus_behind a o = stable_then stable_prod (λ (b : Term). stable_gives (between o.0 o.1 a.0 b.0, false))

  stable_plus : (a : Term) → Stable (plus_of r a)
  unfolding plus_of
  stable_plus a = stable_look (operator_look levels.Sum) (plus_behind a) stable_unexpected

  pub uses_plus : (a : Term) → Uses (plus_of r a)
  unfolding plus_of
  uses_plus a = uses_look (operator_look levels.Sum) (plus_behind a) uses_unexpected

  stable_modulo : (e : Expression) → Stable (modulo e)
  unfolding modulo place_of
  stable_modulo e =
      stable_after classes.Mod (record { checked = refl }) (λ (t : Lexeme). stable_after classes.Number (record { checked = refl }) (λ (n : Lexeme). stable_gives (expression (first_of e) t.at (Form.Mod e n.at n.text), false)))

  after_prod : (e : Expression) (alone : Bool) → Stable (λ ts. cond (alone && starts classes.Mod ts) (modulo e ts) (all_of starts_sum (plus_of r) (e, alone) ts))
  after_prod e true = stable_if (starts_of_head classes.Mod) (stable_modulo e) (stable_steps sum_of_head uses_plus stable_plus (e, true))
  after_prod e false = stable_steps sum_of_head uses_plus stable_plus (e, false)

  stable_sum : Stable (sum_of r)
  unfolding sum_of
  stable_sum = stable_then stable_prod (λ (p : Term). after_prod p.0 p.1)

  pub stable_bound : Stable (bound_of r)
  unfolding bound_of
  stable_bound = stable_then stable_sum (λ (p : Term). stable_closed p.0)

  stable_side : Stable (side_of r)
  unfolding side_of
  stable_side = stable_look prefix_look stable_prefixed (stable_then stable_sum (λ (p : Term). stable_gives p.0))

  stable_compared : (a : Expression) (o : Place × BinaryWord) → Stable (compared_of r a o.0 o.1)
  unfolding compared_of
  stable_compared a o = stable_then stable_side (λ (b : Expression). stable_gives (between o.0 o.1 a b, false))

  stable_comparison : Stable (comparison_of r)
  unfolding comparison_of
  stable_comparison = stable_then stable_sum (λ (p : Term). stable_look (operator_look levels.Relation) (stable_compared p.0) (stable_gives p))

  stable_cmp : Stable (cmp_of r)
  unfolding cmp_of
  stable_cmp = stable_look prefix_look (λ (p : Lexeme × PrefixWord). stable_then (stable_prefixed p) (λ (e : Expression). stable_gives (e, false))) stable_comparison

  conjunct_behind : (all : Chain) (t : Lexeme) → Stable {A = Chain} (λ ts. cmp_of r ts >>= λ p rest. Ok ((all.0 ++ p.0 ∷ [], all.1 ++ t.at ∷ []), rest))
  conjunct_behind all t = stable_then stable_cmp (λ (p : Term). stable_gives (all.0 ++ p.0 ∷ [], all.1 ++ t.at ∷ []))

  stable_conjunct : (all : Chain) → Stable (conjunct_of r all)
  unfolding conjunct_of place_of
  stable_conjunct all = stable_after classes.And (record { checked = refl }) (conjunct_behind all)

  pub uses_conjunct : (all : Chain) → Uses (conjunct_of r all)
  unfolding conjunct_of
  uses_conjunct all = uses_then (uses_token classes.And) (conjunct_behind all)

  stable_conjunction : (a : Expression) → Stable (conjunction_of r a)
  unfolding conjunction_of place_of
  stable_conjunction a =
      stable_after classes.And (record { checked = refl }) (λ (t : Lexeme). stable_then stable_cmp (λ (b : Term). stable_then (stable_steps (starts_of_head classes.And) uses_conjunct stable_conjunct (a ∷ b.0 ∷ [], t.at ∷ []))
      (λ (all : Chain). stable_gives (expression (first_of a) t.at (Form.And (expressions all.0) all.1), false))))

  stable_conj : Stable (conj_of r)
  unfolding conj_of
  stable_conj = stable_then stable_cmp (λ (p : Term). stable_if (starts_of_head classes.And) (stable_conjunction p.0) (stable_gives p))

  disjunct_behind : (all : Chain) (t : Lexeme) → Stable {A = Chain} (λ ts. conj_of r ts >>= λ p rest. Ok ((all.0 ++ p.0 ∷ [], all.1 ++ t.at ∷ []), rest))
  disjunct_behind all t = stable_then stable_conj (λ (p : Term). stable_gives (all.0 ++ p.0 ∷ [], all.1 ++ t.at ∷ []))

  stable_disjunct : (all : Chain) → Stable (disjunct_of r all)
  unfolding disjunct_of
  stable_disjunct all = stable_then stable_or_sign (disjunct_behind all)

  pub uses_disjunct : (all : Chain) → Uses (disjunct_of r all)
  unfolding disjunct_of
  uses_disjunct all = uses_then uses_or_sign (disjunct_behind all)

  stable_disjunction : (a : Expression) → Stable (disjunction_of r a)
  unfolding disjunction_of
  stable_disjunction a =
      stable_then stable_or_sign (λ (t : Lexeme). stable_then stable_conj (λ (b : Term). stable_then (stable_steps or_of_head uses_disjunct stable_disjunct (a ∷ b.0 ∷ [], t.at ∷ []))
      (λ (all : Chain). stable_gives (expression (first_of a) t.at (Form.Or (expressions all.0) all.1), false))))

  stable_disj : Stable (disj_of r)
  unfolding disj_of
  stable_disj = stable_then stable_conj (λ (p : Term). stable_if or_of_head (stable_disjunction p.0) (stable_gives p))

  stable_arrow : (a : Expression) (o : Place × BinaryWord) → Stable (arrow_of r a o.0 o.1)
  unfolding arrow_of
  stable_arrow a o = stable_then stable_disj (λ (b : Term). stable_gives (between o.0 o.1 a b.0))

  stable_past : (a : Expression) → Stable (past_of r a)
  unfolding past_of
  stable_past a = stable_look (operator_look levels.Past) (λ (o : Place × BinaryWord). stable_then stable_prim (λ (b : Expression). stable_gives (between o.0 o.1 a b))) (stable_gives a)

  stable_alone : (a : Expression) (alone : Bool) → Stable (alone_of r a alone)
  unfolding alone_of
  stable_alone a true = stable_past a
  stable_alone a false = stable_gives a

  stable_unquantified : Stable (unquantified_of r)
  unfolding unquantified_of
  stable_unquantified = stable_then stable_disj (λ (p : Term). stable_look (operator_look levels.Arrow) (stable_arrow p.0) (stable_alone p.0 p.1))

  stable_for_all : Stable (for_all_of r)
  unfolding for_all_of place_of
  stable_for_all = stable_behind classes.ForAll (record { checked = refl }) (λ (t : Lexeme). stable_then (s.scope t) (λ (x : Scope). stable_gives (leaf t (Form.ForAll x.name x.low x.high x.body))))

  stable_exists : Stable (exists_of r)
  unfolding exists_of place_of
  stable_exists = stable_behind classes.Exists (record { checked = refl }) (λ (t : Lexeme). stable_then (s.scope t) (λ (x : Scope). stable_gives (leaf t (Form.Exists x.name x.low x.high x.body))))

  stable_expr : Stable (expr_of r)
  unfolding expr_of
  stable_expr = stable_if (starts_of_head classes.ForAll) stable_for_all (stable_if (starts_of_head classes.Exists) stable_exists stable_unquantified)

  pub stable_whole : Stable (whole_of r)
  unfolding whole_of
  stable_whole = stable_then stable_expr (λ (e : Expression). stable_closed e)

  pub stable_subscript : Stable (subscript_of r)
  unfolding subscript_of place_of
  stable_subscript = stable_then stable_bound (λ (e : Expression). stable_after classes.CloseBracket (record { checked = refl }) (λ (c : Lexeme). stable_gives e))

  pub stable_scope : Stable (scope_of r)
  unfolding scope_of place_of
  stable_scope =
      stable_after classes.Name (record { checked = refl }) (λ (n : Lexeme). stable_after classes.In (record { checked = refl }) (λ (i : Lexeme).
      stable_then stable_bound (λ (low : Expression). stable_after classes.UpTo (record { checked = refl }) (λ (u : Lexeme).
      stable_then stable_bound (λ (high : Expression). stable_after classes.Colon (record { checked = refl }) (λ (c : Lexeme).
      stable_then stable_whole (λ (e : Expression). stable_gives (record { name = name_of n; low = low; high = high; body = e }))))))))

  argument_behind : (all : List Expression) (t : Lexeme) → Stable (λ ts. whole_of r ts >>= λ e rest. Ok (all ++ e ∷ [], rest))
  argument_behind all t = stable_then stable_whole (λ (e : Expression). stable_gives (all ++ e ∷ []))

  stable_argument : (all : List Expression) → Stable (argument_of r all)
  unfolding argument_of place_of
  stable_argument all = stable_after classes.Comma (record { checked = refl }) (argument_behind all)

  pub uses_argument : (all : List Expression) → Uses (argument_of r all)
  unfolding argument_of
  uses_argument all = uses_then (uses_token classes.Comma) (argument_behind all)

  stable_some_arguments : Stable (some_arguments_of r)
  unfolding some_arguments_of place_of
  stable_some_arguments =
      stable_then stable_whole (λ (e : Expression). stable_then (stable_steps (starts_of_head classes.Comma) uses_argument stable_argument (e ∷ []))
      (λ (es : List Expression). stable_after classes.Close (record { checked = refl }) (λ (t : Lexeme). stable_gives es)))

  pub stable_arguments : Stable (arguments_of r)
  unfolding arguments_of place_of
  stable_arguments = stable_if (starts_of_head classes.Close) (stable_after classes.Close (record { checked = refl }) (λ (t : Lexeme). stable_gives [])) stable_some_arguments

pub stable_inside : (left : ℕ) → StableInside (inside left)
unfolding inside
stable_inside zero = record { whole = λ t. stable_deep t; operand = λ t. stable_deep t; arguments = λ t. stable_deep t; subscript = λ t. stable_deep t; scope = λ t. stable_deep t }
stable_inside (suc left) = record {
  whole = λ t. stable_wider (stable_whole (inside left) (stable_inside left));
  operand = λ t. stable_wider (stable_operand (inside left) (stable_inside left));
  arguments = λ t. stable_wider (stable_arguments (inside left) (stable_inside left));
  subscript = λ t. stable_wider (stable_subscript (inside left) (stable_inside left));
  scope = λ t. stable_wider (stable_scope (inside left) (stable_inside left));
}
