-- What is an expression of the grammar is read.
use Rattle.std.proofs.Common.{◌≡◌, Bool, true, false, cond, List, [], ◌∷◌, ◌++◌, Option, Some, None, ◌||◌, ◌∙◌, nat_eq, Ok, refl, sym, ap}
use Rattle.spectra_exprs.specs.declared.operators.Level.{Level}
use Rattle.spectra_exprs.specs.declared.operators.Level.TheVariants as levels
use Rattle.spectra_trees.specs.declared.class.Class.{Class}
use Rattle.spectra_trees.specs.declared.class.Class.TheVariants as classes
use Rattle.spectra_trees.specs.declared.tree.Place.{Place}
use Rattle.spectra_trees.specs.declared.tree.BinaryWord.{BinaryWord}
use Rattle.spectra_trees.specs.declared.tree.BinaryWord.TheVariants as binaries
use Rattle.spectra_trees.specs.declared.tree.PrefixWord.{PrefixWord}
use Rattle.spectra_trees.specs.declared.tree.PrefixWord.TheVariants as prefixes
use Rattle.spectra_trees.specs.Classes.{place_of, same_class}
use Rattle.spectra_trees.specs.Lexemes.{Lexeme}
use Rattle.spectra_exprs.specs.Read.{starts}
use Rattle.spectra_exprs.specs.Operators.{operator_word, prefix_word, arrow_word, past_word, relation_word, sum_word, joins, is_operator}
use Rattle.spectra_exprs.specs.OperatorReaders.{operator_at, prefix_at, starts_sum, starts_or, expect_or, closed}
use Rattle.spectra_exprs.specs.Forms.{Gives}
use Rattle.spectra_exprs.specs.Grammar.{Operator, Prefix, OrSign}
use Rattle.spectra_exprs.proofs.ClassSets.{among, going, Within, going_within}
use Rattle.spectra_exprs.proofs.Completeness.{Reaches, Whole, Begins, whole_token, begins_token, begins_wider, begins_or, follows_begins, whole_choice, Finds}

-- ---- what may go on, by levels

abbrev pub c_prim : List Class
c_prim = classes.Open ∷ classes.OpenBracket ∷ []

abbrev pub c_prod : List Class
c_prod = classes.Star ∷ c_prim

abbrev pub op_sum : List Class
op_sum = classes.Plus ∷ classes.Minus ∷ []

abbrev pub c_sum : List Class
c_sum = classes.Plus ∷ classes.Minus ∷ classes.Mod ∷ c_prod

abbrev pub op_relation : List Class
op_relation = classes.Equal ∷ classes.Unequal ∷ classes.Less ∷ classes.AtMost ∷ classes.Greater ∷ classes.AtLeast ∷ []

abbrev pub c_cmp : List Class
c_cmp = op_relation ++ c_sum

abbrev pub c_conj : List Class
c_conj = classes.And ∷ c_cmp

abbrev pub op_or : List Class
op_or = classes.Bar ∷ classes.Or ∷ []

abbrev pub c_disj : List Class
c_disj = classes.Bar ∷ classes.Or ∷ c_conj

abbrev pub op_arrow : List Class
op_arrow = classes.Implies ∷ classes.Iff ∷ []

abbrev pub op_past : List Class
op_past = classes.Since ∷ classes.Triggered ∷ []

abbrev pub c_expr : List Class
c_expr = classes.Implies ∷ classes.Iff ∷ classes.Since ∷ classes.Triggered ∷ c_disj

abbrev pub b_literal : List Class
b_literal = classes.True ∷ classes.False ∷ classes.Number ∷ classes.Minus ∷ []

abbrev pub b_prim : List Class
b_prim = classes.Name ∷ classes.Next ∷ classes.Open ∷ b_literal

abbrev pub b_prefix : List Class
b_prefix = classes.Not ∷ classes.Prev ∷ classes.Once ∷ classes.Historically ∷ []

abbrev pub b_plain : List Class
b_plain = b_prefix ++ b_prim

abbrev pub b_expr : List Class
b_expr = classes.ForAll ∷ classes.Exists ∷ b_plain

-- ---- operators

module _ {X : Type 0} where
  abbrev pub keys : List (Class × X) → List Class
  keys [] = []
  keys (k ∷ ks) = k.0 ∷ keys ks

  -- what a table has for a class
  abbrev pub lookup : List (Class × X) → Class → Option X
  lookup [] c = None
  lookup (k ∷ ks) c = cond (nat_eq (place_of c) (place_of k.0)) (Some k.1) (lookup ks c)

  found_here : (b : Bool) (x w : X) (o : Option X) (more : Bool) → cond b (Some x) o ≡ Some w → (o ≡ Some w → more ≡ true) → b || more ≡ true
  found_here true x w o more e f = refl
  found_here false x w o more e f = f e

  none_here : (b : Bool) (x : X) (o : Option X) (more : Bool) → b || more ≡ false → (more ≡ false → o ≡ None) → cond b (Some x) o ≡ None
  none_here true x o more e f = absurd (cc)
  none_here false x o more e f = f e

  pub lookup_some : (ks : List (Class × X)) (c : Class) (w : X) → lookup ks c ≡ Some w → among (keys ks) (place_of c) ≡ true
  lookup_some [] c w e = absurd (cc)
  lookup_some (k ∷ ks) c w e = found_here (nat_eq (place_of c) (place_of k.0)) k.1 w (lookup ks c) (among (keys ks) (place_of c)) e (lookup_some ks c w)

  pub lookup_none : (ks : List (Class × X)) (c : Class) → among (keys ks) (place_of c) ≡ false → lookup ks c ≡ None
  lookup_none [] c e = refl
  lookup_none (k ∷ ks) c e = none_here (nat_eq (place_of c) (place_of k.0)) k.1 (lookup ks c) (among (keys ks) (place_of c)) e (lookup_none ks c)

abbrev prefixes_table : List (Class × PrefixWord)
prefixes_table = (classes.Not, prefixes.Not) ∷ (classes.Prev, prefixes.Prev) ∷ (classes.Once, prefixes.Once) ∷ (classes.Historically, prefixes.Historically) ∷ []

pub prefix_some : (c : Class) (w : PrefixWord) → prefix_word c ≡ Some w → among b_prefix (place_of c) ≡ true
unfolding prefix_word same_class
prefix_some c w e = lookup_some prefixes_table c w e

prefix_none : (c : Class) → among b_prefix (place_of c) ≡ false → prefix_word c ≡ None
unfolding prefix_word same_class
prefix_none c e = lookup_none prefixes_table c e

abbrev pub table_of : Level → List (Class × BinaryWord)
table_of levels.Arrow = (classes.Implies, binaries.Implies) ∷ (classes.Iff, binaries.Iff) ∷ []
table_of levels.Past = (classes.Since, binaries.Since) ∷ (classes.Triggered, binaries.Triggered) ∷ []
table_of levels.Relation =
    (classes.Equal, binaries.Eq) ∷ (classes.Unequal, binaries.Ne) ∷ (classes.Less, binaries.Lt) ∷ (classes.AtMost, binaries.Le) ∷ (classes.Greater, binaries.Gt) ∷ (classes.AtLeast, binaries.Ge) ∷ []
table_of levels.Sum = (classes.Plus, binaries.Add) ∷ (classes.Minus, binaries.Sub) ∷ []

abbrev pub set_of : Level → List Class
set_of level = keys (table_of level)

in_table : (level : Level) (c : Class) → operator_word level c ≡ lookup (table_of level) c
unfolding arrow_word past_word relation_word sum_word same_class
in_table levels.Arrow c = refl
in_table levels.Past c = refl
in_table levels.Relation c = refl
in_table levels.Sum c = refl

pub operator_some : (level : Level) (c : Class) (w : BinaryWord) → operator_word level c ≡ Some w → among (set_of level) (place_of c) ≡ true
operator_some level c w e = lookup_some (table_of level) c w (sym (in_table level c) ∙ e)

operator_none : (level : Level) (c : Class) → among (set_of level) (place_of c) ≡ false → operator_word level c ≡ None
operator_none level c e = in_table level c ∙ lookup_none (table_of level) c e

pub finds_prefix : Finds b_prefix Prefix prefix_at
unfolding prefix_at
finds_prefix = record { finds = λ used x rest p. at used x rest p.alone p.word; passes = over }
  where
    at : (used : List Lexeme) (x : Lexeme × PrefixWord) (rest : List Lexeme) → used ≡ x.0 ∷ [] → prefix_word x.0.class ≡ Some x.1 → prefix_at (used ++ rest) ≡ Some (x, rest)
    at used x rest alone word = rw (alone, word) refl

    over : (ts : List Lexeme) → going b_prefix ts ≡ false → prefix_at ts ≡ None
    over [] e = refl
    over (t ∷ ts) e = let none : prefix_word t.class ≡ None = prefix_none t.class e in rw none refl

pub begins_prefix : Begins b_prefix Prefix
begins_prefix = record { first = λ used x rest p. at used x rest p.alone p.word }
  where
    at : (used : List Lexeme) (x : Lexeme × PrefixWord) (rest : List Lexeme) → used ≡ x.0 ∷ [] → prefix_word x.0.class ≡ Some x.1 → going b_prefix (used ++ rest) ≡ true
    at used x rest alone word = rw alone (prefix_some x.0.class x.1 word)

pub finds_operator : (level : Level) → Finds (set_of level) (Operator level) (operator_at level)
unfolding operator_at
finds_operator level = record { finds = λ used x rest p. at used x rest p.token p.alone p.at p.word; passes = over }
  where
    at : (used : List Lexeme) (x : Place × BinaryWord) (rest : List Lexeme) (t : Lexeme) → used ≡ t ∷ [] → x.0 ≡ t.at → operator_word level t.class ≡ Some x.1 → operator_at level (used ++ rest) ≡ Some (x, rest)
    at used x rest t alone place word = rw (alone, word) (ap (λ (p : Place). Some ((p, x.1), rest)) (sym place))

    over : (ts : List Lexeme) → going (set_of level) ts ≡ false → operator_at level ts ≡ None
    over [] e = refl
    over (t ∷ ts) e = let none : operator_word level t.class ≡ None = operator_none level t.class e in rw none refl

pub begins_operator : (level : Level) → Begins (set_of level) (Operator level)
begins_operator level = record { first = λ used x rest p. at used x rest p.token p.alone p.word }
  where
    at : (used : List Lexeme) (x : Place × BinaryWord) (rest : List Lexeme) (t : Lexeme) → used ≡ t ∷ [] → operator_word level t.class ≡ Some x.1 → going (set_of level) (used ++ rest) ≡ true
    at used x rest t alone word = rw alone (operator_some level t.class x.1 word)

pub sum_going : (ts : List Lexeme) → starts_sum ts ≡ going op_sum ts
unfolding starts_sum starts same_class
sum_going [] = refl
sum_going (t ∷ ts) = ap (λ (b : Bool). nat_eq (place_of t.class) (place_of classes.Plus) || b) (sym (last (nat_eq (place_of t.class) (place_of classes.Minus))))
  where
    last : (a : Bool) → a || false ≡ a
    last true = refl
    last false = refl

pub or_going : (ts : List Lexeme) → starts_or ts ≡ going op_or ts
unfolding starts_or starts same_class
or_going [] = refl
or_going (t ∷ ts) = ap (λ (b : Bool). nat_eq (place_of t.class) (place_of classes.Bar) || b) (sym (last (nat_eq (place_of t.class) (place_of classes.Or))))
  where
    last : (a : Bool) → a || false ≡ a
    last true = refl
    last false = refl

pub whole_or_sign : {E : Type 0} → Whole E [] OrSign expect_or
unfolding expect_or place_of
whole_or_sign =
    whole_choice classes.Bar (begins_token classes.Bar) (follows_begins (classes.Or ∷ []) (record { checked = refl }) (begins_token classes.Or)) (whole_token [] classes.Bar) (whole_token [] classes.Or)

pub begins_or_sign : Begins op_or OrSign
unfolding place_of
begins_or_sign = begins_or (begins_wider (record { checked = refl }) (begins_token classes.Bar)) (begins_wider (record { checked = refl }) (begins_token classes.Or))

-- ---- no operator goes on

pub none_of : (K : Class) → Within (K ∷ []) c_expr → (c : Class) → among c_expr (place_of c) ≡ false → same_class c K ≡ false
unfolding same_class
none_of K within c e = first (nat_eq (place_of c) (place_of K)) (going_within (K ∷ []) c_expr within (record { class = c; text = []; at = record { line = 0; column = 0 }; number = 0 } ∷ []) e)
  where
    first : (a : Bool) → a || false ≡ false → a ≡ false
    first true e = e
    first false e = refl

pub no_operator : (c : Class) → among c_expr (place_of c) ≡ false → is_operator c ≡ false
unfolding is_operator joins arrow_word past_word relation_word sum_word place_of
no_operator c e =
    rw (
      none_of classes.And (record { checked = refl }) c e,
      none_of classes.Or (record { checked = refl }) c e,
      none_of classes.Bar (record { checked = refl }) c e,
      none_of classes.Star (record { checked = refl }) c e,
      none_of classes.Mod (record { checked = refl }) c e,
      none_of classes.Implies (record { checked = refl }) c e,
      none_of classes.Iff (record { checked = refl }) c e,
      none_of classes.Since (record { checked = refl }) c e,
      none_of classes.Triggered (record { checked = refl }) c e,
      none_of classes.Equal (record { checked = refl }) c e,
      none_of classes.Unequal (record { checked = refl }) c e,
      none_of classes.Less (record { checked = refl }) c e,
      none_of classes.AtMost (record { checked = refl }) c e,
      none_of classes.Greater (record { checked = refl }) c e,
      none_of classes.AtLeast (record { checked = refl }) c e,
      none_of classes.Plus (record { checked = refl }) c e,
      none_of classes.Minus (record { checked = refl }) c e,
    ) refl

pub whole_closed : {A E : Type 0} (a : A) → Whole E c_expr (Gives a) (closed a)
unfolding closed
whole_closed {A = A} {E = E} a = record { reads = λ used b rest p off. at used b rest p.nothing p.same off }
  where
    on : (rest : List Lexeme) → going c_expr rest ≡ false → closed a rest ≡ Ok (a, rest)
    on [] off = refl
    on (t ∷ ts) off = let none : is_operator t.class ≡ false = no_operator t.class off in rw none refl

    at : (used : List Lexeme) (b : A) (rest : List Lexeme) → used ≡ [] → b ≡ a → going c_expr rest ≡ false → Reaches E (closed a (used ++ rest)) (b, rest)
    at used b rest nothing same off = rw (nothing, same) (Reaches.read (on rest off))
