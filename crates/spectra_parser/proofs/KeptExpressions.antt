-- The variables of an expression's quantifiers stand in the text in their order.
use Rattle.std.proofs.Common.{◌≡◌, ℕ, zero, suc, List, [], ◌∷◌, ◌++◌, flat_map, refl, sym, ap, ◌∙◌, append_assoc, append-nil}
use Rattle.std.proofs.lemmas.Grind.{flat_map-append}
use Rattle.spectra_trees.specs.declared.class.Class.TheVariants as classes
use Rattle.spectra_trees.specs.declared.tree.Place.{Place}
use Rattle.spectra_trees.specs.Data.{Expression, Form, expression, expressions}
use Rattle.spectra_trees.specs.Lexemes.{Lexeme, name_of}
use Rattle.spectra_exprs.specs.Forms.{Gives, Token, ◌▸◌, ◌∣◌, leaf, between, opened, Term, Scope, Chain}
use Rattle.spectra_exprs.specs.Grammar.{Deeper, Literal, Prim, Prefixed, Operand, Times, Prod, Plus, Modulo, Sum, BoundOf, Subscript, Side, Cmp, Conjunct, Conj, Disjunct, Disj, Unquantified, ExprOf, ScopeOf, Argument, Arguments, Levels}
use Rattle.spectra_parser.specs.Quantifiers.{place_of_name, quantified_in, each_quantified}
use Rattle.spectra_parser.proofs.Kept.{none_of, itself, of_same, Keeps, keeps_gives, keeps_either, keeps_from, keeps_then, keeps_behind, keeps_next, keeps_token, keeps_steps}

abbrev pub all_in : List Expression → List Place
all_in es = flat_map quantified_in es

each_is : (es : List Expression) → each_quantified (expressions es) ≡ all_in es
each_is [] = refl
each_is (e ∷ es) = ap (λ ps. quantified_in e ++ ps) (each_is es)

-- one expression more
all_more : (es : List Expression) (e : Expression) → all_in (es ++ e ∷ []) ≡ all_in es ++ quantified_in e
all_more es e = flat_map-append quantified_in es (e ∷ []) ∙ ap (λ ps. all_in es ++ ps) (append-nil (quantified_in e))

abbrev in_term : Term → List Place
in_term p = quantified_in p.0

abbrev in_scope : Scope → List Place
in_scope s = place_of_name s.name ∷ (quantified_in s.low ++ (quantified_in s.high ++ quantified_in s.body))

abbrev in_chain : Chain → List Place
in_chain all = all_in all.0

opened_same : (t : Lexeme) (e : Expression) → quantified_in (opened t e) ≡ quantified_in e
opened_same t (expression first at form) = refl

record KeepDeeper (d : Deeper) : Type 0 where
  whole : Keeps [] d.Whole quantified_in
  next : Keeps [] d.Next quantified_in
  listed : Keeps [] d.Listed all_in
  indexed : Keeps [] d.Indexed quantified_in
  scoped : Keeps [] d.Scoped in_scope

module _ (d : Deeper) (deeper : KeepDeeper d) where
  literal : Keeps [] Literal quantified_in
  literal =
      keeps_either [] quantified_in _ _ (keeps_behind [] quantified_in _ _ (λ t. keeps_gives [] quantified_in (leaf t Form.True) (none_of [])))
      (keeps_either [] quantified_in _ _ (keeps_behind [] quantified_in _ _ (λ t. keeps_gives [] quantified_in (leaf t Form.False) (none_of [])))
      (keeps_either [] quantified_in _ _ (keeps_behind [] quantified_in _ _ (λ t. keeps_gives [] quantified_in (leaf t (Form.Number _ _)) (none_of [])))
      (keeps_behind [] quantified_in _ _ (λ m. keeps_behind [] quantified_in _ _ (λ n. keeps_gives [] quantified_in (expression _ _ (Form.Number _ _)) (none_of []))))))

  named : (t : Lexeme) → Keeps [] ((Token classes.Open ▸ λ o. d.Listed ▸ λ es. Gives (leaf t (Form.Call (name_of t) (expressions es)))) ∣ (Token classes.OpenBracket ▸ λ o. d.Indexed ▸ λ e. Gives (leaf t (Form.Index (name_of t) e))) ∣ Gives (leaf t (Form.Read (name_of t)))) quantified_in
  named t =
      keeps_either [] quantified_in _ _
      (keeps_behind [] quantified_in _ _ (λ o. keeps_then [] quantified_in all_in _ _ deeper.listed (λ es. keeps_gives (all_in es) quantified_in _ (of_same _ _ (each_is es)))))
      (keeps_either [] quantified_in _ _
      (keeps_behind [] quantified_in _ _ (λ o. keeps_then [] quantified_in quantified_in _ _ deeper.indexed (λ e. keeps_gives (quantified_in e) quantified_in _ (itself (quantified_in e)))))
      (keeps_gives [] quantified_in _ (none_of [])))

  prim : Keeps [] (Prim d) quantified_in
  prim =
      keeps_either [] quantified_in _ _ (keeps_behind [] quantified_in _ _ named)
      (keeps_either [] quantified_in _ _
      (keeps_behind [] quantified_in _ _ (λ t. keeps_behind [] quantified_in _ _ (λ o. keeps_then [] quantified_in quantified_in _ _ deeper.whole (λ e. keeps_behind (quantified_in e) quantified_in _ _
      (λ c. keeps_gives (quantified_in e) quantified_in (leaf t (Form.Next e)) (itself (quantified_in e)))))))
      (keeps_either [] quantified_in _ _
      (keeps_behind [] quantified_in _ _ (λ t. keeps_then [] quantified_in quantified_in _ _ deeper.whole (λ e. keeps_behind (quantified_in e) quantified_in _ _
      (λ c. keeps_gives (quantified_in e) quantified_in (opened t e) (of_same _ _ (opened_same t e))))))
      literal))

  prefixed : Keeps [] (Prefixed d) quantified_in
  prefixed = keeps_behind [] quantified_in _ _ (λ p. keeps_then [] quantified_in quantified_in _ _ deeper.next (λ e. keeps_gives (quantified_in e) quantified_in (leaf p.0 (Form.Prefix p.1 e)) (itself (quantified_in e))))

  operand : Keeps [] (Operand d) quantified_in
  operand = keeps_either [] quantified_in _ _ prefixed prim

  -- ---- sums

  times : (a : Term) → Keeps (in_term a) (Times d a) in_term
  times a = keeps_behind (in_term a) in_term _ _ (λ t. keeps_next (in_term a) in_term quantified_in _ _ prim (λ b. keeps_gives (in_term a ++ quantified_in b) in_term (between _ _ a.0 b, _) (itself _)))

  prod : Keeps [] (Prod d) in_term
  prod = keeps_then [] in_term quantified_in _ _ prim (λ p. keeps_steps in_term (Times d) times (p, _))

  plus : (a : Term) → Keeps (in_term a) (Plus d a) in_term
  plus a = keeps_behind (in_term a) in_term _ _ (λ o. keeps_next (in_term a) in_term in_term _ _ prod (λ b. keeps_gives (in_term a ++ in_term b) in_term (between _ _ a.0 b.0, _) (itself _)))

  modulo : (e : Expression) → Keeps (quantified_in e) (Modulo e) in_term
  modulo e = keeps_behind (quantified_in e) in_term _ _ (λ t. keeps_behind (quantified_in e) in_term _ _ (λ n. keeps_gives (quantified_in e) in_term (expression _ _ (Form.Mod e _ _), _) (itself _)))

  sum : Keeps [] (Sum d) in_term
  sum = keeps_then [] in_term in_term _ _ prod (λ p. keeps_either (in_term p) in_term _ _ (λ used a alone. modulo p.0 used a alone.then) (keeps_steps in_term (Plus d) plus p))

  bound : Keeps [] (BoundOf d) quantified_in
  bound = keeps_then [] quantified_in in_term _ _ sum (λ p. keeps_gives (in_term p) quantified_in p.0 (itself _))

  subscript : Keeps [] (Subscript d) quantified_in
  subscript = keeps_then [] quantified_in quantified_in _ _ bound (λ e. keeps_behind (quantified_in e) quantified_in _ _ (λ c. keeps_gives (quantified_in e) quantified_in e (itself _)))

  -- ---- comparisons

  side : Keeps [] (Side d) quantified_in
  side = keeps_either [] quantified_in _ _ prefixed (keeps_then [] quantified_in in_term _ _ sum (λ p. keeps_gives (in_term p) quantified_in p.0 (itself _)))

  cmp : Keeps [] (Cmp d) in_term
  cmp =
      keeps_either [] in_term _ _ (keeps_then [] in_term quantified_in _ _ prefixed (λ e. keeps_gives (quantified_in e) in_term (e, _) (itself _)))
      (keeps_then [] in_term in_term _ _ sum (λ p. keeps_either (in_term p) in_term _ _
      (keeps_behind (in_term p) in_term _ _ (λ o. keeps_next (in_term p) in_term quantified_in _ _ side (λ b. keeps_gives (in_term p ++ quantified_in b) in_term (between _ _ p.0 b, _) (itself _))))
      (keeps_gives (in_term p) in_term p (itself _))))

  -- ---- conjunctions and disjunctions

  conjunct : (all : Chain) → Keeps (in_chain all) (Conjunct d all) in_chain
  conjunct all = keeps_behind (in_chain all) in_chain _ _ (λ t. keeps_next (in_chain all) in_chain in_term _ _ cmp (λ p. keeps_gives (in_chain all ++ in_term p) in_chain (all.0 ++ p.0 ∷ [], _) (of_same _ _ (all_more all.0 p.0))))

  two_are : (a b : Expression) → all_in (a ∷ b ∷ []) ≡ quantified_in a ++ quantified_in b
  two_are a b = all_more (a ∷ []) b ∙ ap (λ ps. ps ++ quantified_in b) (append-nil (quantified_in a))

  conj : Keeps [] (Conj d) in_term
  conj =
      keeps_then [] in_term in_term _ _ cmp (λ a. keeps_either (in_term a) in_term _ _
      (keeps_behind (in_term a) in_term _ _ (λ t. keeps_next (in_term a) in_term in_term _ _ cmp (λ b. keeps_then (in_term a ++ in_term b) in_term in_chain _ _
      (keeps_from (in_term a ++ in_term b) in_chain _ (all_in (a.0 ∷ b.0 ∷ [])) (of_same _ _ (two_are a.0 b.0)) (keeps_steps in_chain (Conjunct d) conjunct (a.0 ∷ b.0 ∷ [], _)))
      (λ all. keeps_gives (in_chain all) in_term (expression _ _ (Form.And (expressions all.0) all.1), _) (of_same _ _ (each_is all.0))))))
      (keeps_gives (in_term a) in_term a (itself _)))

  disjunct : (all : Chain) → Keeps (in_chain all) (Disjunct d all) in_chain
  disjunct all = keeps_behind (in_chain all) in_chain _ _ (λ t. keeps_next (in_chain all) in_chain in_term _ _ conj (λ p. keeps_gives (in_chain all ++ in_term p) in_chain (all.0 ++ p.0 ∷ [], _) (of_same _ _ (all_more all.0 p.0))))

  disj : Keeps [] (Disj d) in_term
  disj =
      keeps_then [] in_term in_term _ _ conj (λ a. keeps_either (in_term a) in_term _ _
      (keeps_behind (in_term a) in_term _ _ (λ t. keeps_next (in_term a) in_term in_term _ _ conj (λ b. keeps_then (in_term a ++ in_term b) in_term in_chain _ _
      (keeps_from (in_term a ++ in_term b) in_chain _ (all_in (a.0 ∷ b.0 ∷ [])) (of_same _ _ (two_are a.0 b.0)) (keeps_steps in_chain (Disjunct d) disjunct (a.0 ∷ b.0 ∷ [], _)))
      (λ all. keeps_gives (in_chain all) in_term (expression _ _ (Form.Or (expressions all.0) all.1), _) (of_same _ _ (each_is all.0))))))
      (keeps_gives (in_term a) in_term a (itself _)))

  -- ---- whole expressions

  unquantified : Keeps [] (Unquantified d) quantified_in
  unquantified =
      keeps_then [] quantified_in in_term _ _ disj (λ a. keeps_either (in_term a) quantified_in _ _
      (keeps_behind (in_term a) quantified_in _ _ (λ o. keeps_next (in_term a) quantified_in in_term _ _ disj (λ b. keeps_gives (in_term a ++ in_term b) quantified_in (between _ _ a.0 b.0) (itself _))))
      (keeps_either (in_term a) quantified_in _ _
      (λ used e alone. keeps_behind (in_term a) quantified_in _ _ (λ o. keeps_next (in_term a) quantified_in quantified_in _ _ prim (λ b. keeps_gives (in_term a ++ quantified_in b) quantified_in (between _ _ a.0 b) (itself _))) used e alone.then)
      (keeps_gives (in_term a) quantified_in a.0 (itself _))))

  expr : Keeps [] (ExprOf d) quantified_in
  expr =
      keeps_either [] quantified_in _ _ (keeps_behind [] quantified_in _ _ (λ t. keeps_then [] quantified_in in_scope _ _ deeper.scoped (λ s. keeps_gives (in_scope s) quantified_in (leaf t (Form.ForAll _ _ _ _)) (itself _))))
      (keeps_either [] quantified_in _ _ (keeps_behind [] quantified_in _ _ (λ t. keeps_then [] quantified_in in_scope _ _ deeper.scoped (λ s. keeps_gives (in_scope s) quantified_in (leaf t (Form.Exists _ _ _ _)) (itself _))))
      unquantified)

  scope : Keeps [] (ScopeOf d) in_scope
  scope =
      keeps_then [] in_scope (λ (n : Lexeme). n.at ∷ []) _ _ (keeps_token classes.Name) (λ n. keeps_behind (n.at ∷ []) in_scope _ _ (λ i.
      keeps_next (n.at ∷ []) in_scope quantified_in _ _ bound (λ low. keeps_behind (n.at ∷ quantified_in low) in_scope _ _ (λ u.
      keeps_next (n.at ∷ quantified_in low) in_scope quantified_in _ _ bound (λ high. keeps_behind (n.at ∷ (quantified_in low ++ quantified_in high)) in_scope _ _ (λ c.
      keeps_next (n.at ∷ (quantified_in low ++ quantified_in high)) in_scope quantified_in _ _ expr (λ e.
      keeps_gives (n.at ∷ ((quantified_in low ++ quantified_in high) ++ quantified_in e)) in_scope _
      (of_same _ _ (ap (λ ps. n.at ∷ ps) (sym (append_assoc (quantified_in low) (quantified_in high) (quantified_in e))))))))))))

  argument : (all : List Expression) → Keeps (all_in all) (Argument d all) all_in
  argument all = keeps_behind (all_in all) all_in _ _ (λ t. keeps_next (all_in all) all_in quantified_in _ _ expr (λ e. keeps_gives (all_in all ++ quantified_in e) all_in (all ++ e ∷ []) (of_same _ _ (all_more all e))))

  arguments : Keeps [] (Arguments d) all_in
  arguments =
      keeps_either [] all_in _ _ (keeps_behind [] all_in _ _ (λ t. keeps_gives [] all_in [] (none_of [])))
      (keeps_then [] all_in quantified_in _ _ expr (λ e. keeps_then (quantified_in e) all_in all_in _ _
      (keeps_from (quantified_in e) all_in _ (all_in (e ∷ [])) (of_same _ _ (append-nil (quantified_in e))) (keeps_steps all_in (Argument d) argument (e ∷ [])))
      (λ es. keeps_behind (all_in es) all_in _ _ (λ t. keeps_gives (all_in es) all_in es (itself _)))))

deeper_keep : (left : ℕ) → KeepDeeper (Levels left)
deeper_keep zero =
    record { whole = λ used a none. absurd none; next = λ used a none. absurd none; listed = λ used a none. absurd none; indexed = λ used a none. absurd none; scoped = λ used a none. absurd none }
deeper_keep (suc left) =
    let below = deeper_keep left in
    record {
      whole = expr (Levels left) below;
      next = operand (Levels left) below;
      listed = arguments (Levels left) below;
      indexed = subscript (Levels left) below;
      scoped = scope (Levels left) below;
    }

pub keeps_expr : (left : ℕ) → Keeps [] (ExprOf (Levels left)) quantified_in
keeps_expr left = expr (Levels left) (deeper_keep left)

pub keeps_arguments : (left : ℕ) → Keeps [] (Arguments (Levels left)) all_in
keeps_arguments left = arguments (Levels left) (deeper_keep left)
