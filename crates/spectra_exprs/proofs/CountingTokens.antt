-- How many levels are open behind tokens, by what they are to nesting.
use Rattle.std.proofs.Common.{◌≡◌, ℕ, ◌≤◌, Bool, true, false, cond, ◌||◌, nat_eq, List, [], ◌∷◌, ◌++◌, Some, refl, sym, ap, subst, ◌∙◌, arith}
use Rattle.std.proofs.lemmas.Bool.Decides.{nat_tests}
use Rattle.std.specs.Option.{option_map_or}
use Rattle.spectra_exprs.specs.declared.operators.Level.{Level}
use Rattle.spectra_trees.specs.declared.class.Class.{Class}
use Rattle.spectra_trees.specs.declared.class.Class.TheVariants as classes
use Rattle.spectra_trees.specs.declared.tree.Place.{Place}
use Rattle.spectra_trees.specs.declared.tree.BinaryWord.{BinaryWord}
use Rattle.spectra_trees.specs.declared.tree.PrefixWord.{PrefixWord}
use Rattle.spectra_trees.specs.Classes.{place_of, same_class}
use Rattle.spectra_trees.specs.Lexemes.{Lexeme}
use Rattle.spectra_exprs.specs.Read.{Reader, ◌>>=◌, starts, expect}
use Rattle.spectra_exprs.specs.OperatorReaders.{operator_at, prefix_at, expect_or}
use Rattle.spectra_exprs.specs.Grammar.{Operator, Prefix}
use Rattle.spectra_exprs.specs.Nesting.{Opening, Nesting, TokenSort, sort_of, completed, ended, without_last, stacked, plain_behind, nested, levels_of}
use Rattle.spectra_exprs.proofs.Soundness.{Got}
use Rattle.spectra_exprs.proofs.SoundExpressions.{prefix_looks, operator_looks}
use Rattle.spectra_exprs.proofs.ClassSets.{among}
use Rattle.spectra_exprs.proofs.WholeExpressions.{b_prefix, prefix_some, set_of, operator_some}
use Rattle.spectra_exprs.proofs.Counting.{Counts, Exactly, Ends, Shuts, shuts_ends, Opens, Seen, behind_step, behind_level, counts_after, counts_same, counts_from, counts_if, counts_look}

pub nested_same : (class : Class) (t : Lexeme) → same_class t.class class ≡ true → sort_of t.class ≡ sort_of class
unfolding sort_of same_class
nested_same class t is = let place : place_of t.class ≡ place_of class = grind (arith, nat_tests) in rw place refl

pub ends_exactly : (b : Bool) (stack : List Opening) (n : Nesting) → Exactly b stack n → Ends stack n
ends_exactly b stack n e = record { is = ap (λ (m : Nesting). completed m.stack) e.is }

pub shuts_exactly : (b : Bool) (stack : List Opening) (n : Nesting) → Exactly b stack n → Shuts stack n
shuts_exactly b stack n e = shuts_ends stack n (ends_exactly b stack n e)

-- ---- what a token leaves open

-- from just this
exactly_by : {k : ℕ} (stack more : List Opening) (part : TokenSort) (b c : Bool) → levels_of more ≤ k → stacked part b stack ≡ more → plain_behind part b ≡ c → (n : Nesting) → Exactly b stack n → (levels_of (nested part n).stack ≤ k) × Exactly c more (nested part n)
exactly_by stack more part b c few s p n e =
    let same : nested part n ≡ record { stack = more; plain = c } = ap (nested part) e.is ∙ rw (s, p) refl in
    let size = ap (λ (m : Nesting). levels_of m.stack) same in
    (omega (arith, size, few), record { is = same })

-- from this, where an operand is complete
ends_by : {k : ℕ} (stack more : List Opening) (part : TokenSort) (c : Bool) (left : List Opening → List Opening) → ((b : Bool) (s : List Opening) → stacked part b s ≡ left (completed s)) → ((b : Bool) → plain_behind part b ≡ c) → levels_of more ≤ k → left (completed stack) ≡ more → (n : Nesting)
    → Ends stack n → (levels_of (nested part n).stack ≤ k) × Exactly c more (nested part n)
ends_by stack more part c left s p few here n e =
    let same : (nested part n).stack ≡ more = s n.plain n.stack ∙ ap left e.is ∙ here in
    let plain = p n.plain in
    let size = ap levels_of same in
    (omega (arith, size, few), record { is = rw (same, plain) refl })

-- from this, where an expression is complete
shuts_by : {k : ℕ} (stack more : List Opening) (part : TokenSort) (left : List Opening → List Opening) → ((b : Bool) (s : List Opening) → stacked part b s ≡ left (ended s)) → ((b : Bool) → plain_behind part b ≡ false) → levels_of more ≤ k → left (ended stack) ≡ more → (n : Nesting)
    → Shuts stack n → (levels_of (nested part n).stack ≤ k) × Exactly false more (nested part n)
shuts_by stack more part left s p few here n e =
    let same : (nested part n).stack ≡ more = s n.plain n.stack ∙ ap left e.is ∙ here in
    let plain = p n.plain in
    let size = ap levels_of same in
    (omega (arith, size, few), record { is = rw (same, plain) refl })

module _ {A : Type 0} {k : ℕ} {P Q : Nesting → Type 0} (class : Class) (M : Nesting → Type 0) {S : Lexeme → Reader A}
    (step : (n : Nesting) → P n → (levels_of (nested (sort_of class) n).stack ≤ k) × M (nested (sort_of class) n)) (second : (t : Lexeme) → Counts k M Q (S t)) where
  counts_step : Counts k P Q (λ ts. expect class ts >>= S)
  counts_step =
      counts_after class (λ (t : Lexeme) (is : same_class t.class class ≡ true).
      behind_step (λ (n : Nesting) (p : P n). subst (λ (part : TokenSort). (levels_of (nested part n).stack ≤ k) × M (nested part n)) (sym (nested_same class t is)) (step n p)) (second t))

module _ {A : Type 0} {k : ℕ} {Q : Nesting → Type 0} (stack : List Opening) {S : Lexeme → Reader A} where
  -- a name
  pub counts_name : (b : Bool) (class : Class) → sort_of class ≡ TokenSort.Name → levels_of stack ≤ k → ((t : Lexeme) → Counts k (Exactly b stack) Q (S t)) → Counts k (Exactly b stack) Q (λ ts. expect class ts >>= S)
  counts_name b class part few = counts_step class (Exactly b stack) (exactly_by stack stack (sort_of class) b b few (ap (λ (p : TokenSort). stacked p b stack) part) (ap (λ (p : TokenSort). plain_behind p b) part))

  -- what else is of an operand
  pub counts_operand : (class : Class) → sort_of class ≡ TokenSort.Operand → levels_of stack ≤ k → ((t : Lexeme) → Counts k (Exactly false stack) Q (S t)) → Counts k (Exactly false stack) Q (λ ts. expect class ts >>= S)
  counts_operand class part few =
      counts_step class (Exactly false stack) (exactly_by stack stack (sort_of class) false false few (ap (λ (p : TokenSort). stacked p false stack) part) (ap (λ (p : TokenSort). plain_behind p false) part))

  -- a bracket that is no level
  pub counts_plain : (class : Class) → sort_of class ≡ TokenSort.Open → levels_of stack ≤ k → ((t : Lexeme) → Counts k (Exactly false (Opening.Plain ∷ stack)) Q (S t)) → Counts k (Exactly true stack) Q (λ ts. expect class ts >>= S)
  counts_plain class part few =
      counts_step class (Exactly false (Opening.Plain ∷ stack))
      (exactly_by stack (Opening.Plain ∷ stack) (sort_of class) true false few (ap (λ (p : TokenSort). stacked p true stack) part) (ap (λ (p : TokenSort). plain_behind p true) part))

  -- a bracket is closed
  pub counts_close : (opening : Opening) → ended (opening ∷ stack) ≡ opening ∷ stack → (class : Class) → sort_of class ≡ TokenSort.Close → levels_of stack ≤ k → ((t : Lexeme) → Counts k (Exactly false stack) Q (S t)) → Counts k (Shuts (opening ∷ stack)) Q (λ ts. expect class ts >>= S)
  counts_close opening shut class part few =
      counts_step class (Exactly false stack)
      (shuts_by (opening ∷ stack) stack (sort_of class) without_last (λ b s. ap (λ (p : TokenSort). stacked p b s) part) (λ b. ap (λ (p : TokenSort). plain_behind p b) part) few (ap without_last shut))

  -- a comma or a semicolon
  pub counts_separator : ended stack ≡ stack → (class : Class) → sort_of class ≡ TokenSort.Separator → levels_of stack ≤ k → ((t : Lexeme) → Counts k (Exactly false stack) Q (S t)) → Counts k (Shuts stack) Q (λ ts. expect class ts >>= S)
  counts_separator shut class part few =
      counts_step class (Exactly false stack)
      (shuts_by stack stack (sort_of class) (λ s. s) (λ b s. ap (λ (p : TokenSort). stacked p b s) part) (λ b. ap (λ (p : TokenSort). plain_behind p b) part) few shut)

  -- the same in another place
  pub counts_separated : (b : Bool) → ended stack ≡ stack → (class : Class) → sort_of class ≡ TokenSort.Separator → levels_of stack ≤ k → ((t : Lexeme) → Counts k (Exactly false stack) Q (S t)) → Counts k (Exactly b stack) Q (λ ts. expect class ts >>= S)
  counts_separated b shut class part few second = counts_from (shuts_exactly b stack) (counts_separator shut class part few second)

  -- the word of a quantifier
  pub counts_quantifier : (class : Class) → nested (sort_of class) (record { stack = stack; plain = false }) ≡ record { stack = Opening.Quantifier ∷ stack; plain = false } → ((t : Lexeme) → Opens k t Opening.Quantifier stack Q (S t)) → Counts k (Exactly false stack) Q (λ ts. expect class ts >>= S)
  counts_quantifier class opens second =
      counts_after class (λ (t : Lexeme) (is : same_class t.class class ≡ true).
      behind_level Opening.Quantifier stack refl (λ n e. ap (nested (sort_of t.class)) e.is ∙ ap (λ (p : TokenSort). nested p (record { stack = stack; plain = false })) (nested_same class t is) ∙ opens) (second t))

  -- a bracket that is a level
  pub counts_level : (class : Class) → nested (sort_of class) (record { stack = stack; plain = false }) ≡ record { stack = Opening.Level ∷ stack; plain = false } → ((t : Lexeme) → Opens k t Opening.Level stack Q (S t)) → Counts k (Exactly false stack) Q (λ ts. expect class ts >>= S)
  counts_level class opens second =
      counts_after class (λ (t : Lexeme) (is : same_class t.class class ≡ true).
      behind_level Opening.Level stack refl (λ n e. ap (nested (sort_of t.class)) e.is ∙ ap (λ (p : TokenSort). nested p (record { stack = stack; plain = false })) (nested_same class t is) ∙ opens) (second t))

-- where what is open is open behind a complete operand too
module _ {k : ℕ} (stack : List Opening) (flat : completed stack ≡ stack) (few : levels_of stack ≤ k) where
  pub other_step : (part : TokenSort) → part ≡ TokenSort.Other → (n : Nesting) → Ends stack n → (levels_of (nested part n).stack ≤ k) × Exactly false stack (nested part n)
  other_step part is = ends_by stack stack part false (λ s. s) (λ b s. ap (λ (p : TokenSort). stacked p b s) is) (λ b. ap (λ (p : TokenSort). plain_behind p b) is) few flat

  pub head_step : (part : TokenSort) → part ≡ TokenSort.Head → (n : Nesting) → Ends stack n → (levels_of (nested part n).stack ≤ k) × Exactly true stack (nested part n)
  head_step part is = ends_by stack stack part true (λ s. s) (λ b s. ap (λ (p : TokenSort). stacked p b s) is) (λ b. ap (λ (p : TokenSort). plain_behind p b) is) few flat

  module _ {A : Type 0} {Q : Nesting → Type 0} (class : Class) {S : Lexeme → Reader A} where
    -- a token behind a complete operand
    pub counts_other : sort_of class ≡ TokenSort.Other → ((t : Lexeme) → Counts k (Exactly false stack) Q (S t)) → Counts k (Ends stack) Q (λ ts. expect class ts >>= S)
    counts_other is = counts_step class (Exactly false stack) (other_step (sort_of class) is)

    -- the same in another place
    pub counts_mark : (b : Bool) → sort_of class ≡ TokenSort.Other → ((t : Lexeme) → Counts k (Exactly false stack) Q (S t)) → Counts k (Exactly b stack) Q (λ ts. expect class ts >>= S)
    counts_mark b is second = counts_from (ends_exactly b stack) (counts_other is second)

    -- a word that makes a bracket behind it plain
    pub counts_head : sort_of class ≡ TokenSort.Head → ((t : Lexeme) → Counts k (Exactly true stack) Q (S t)) → Counts k (Exactly false stack) Q (λ ts. expect class ts >>= S)
    counts_head is second = counts_from (ends_exactly false stack) (counts_step class (Exactly true stack) (head_step (sort_of class) is) second)

    pub counts_colon : (b : Bool) → sort_of class ≡ TokenSort.Colon → ((t : Lexeme) → Counts k (Exactly b stack) Q (S t)) → Counts k (Exactly b stack) Q (λ ts. expect class ts >>= S)
    counts_colon b is =
        counts_step class (Exactly b stack) (exactly_by stack stack (sort_of class) b b few (ap (λ (p : TokenSort). stacked p b stack) is ∙ flat) (ap (λ (p : TokenSort). plain_behind p b) is))

-- ---- operators

abbrev pub All : (TokenSort → Type 0) → List Class → Type 0
All F [] = Unit {0}
All F (c ∷ cs) = F (sort_of c) × All F cs

pub part_among : (F : TokenSort → Type 0) (C : List Class) → All F C → (t : Lexeme) → among C (place_of t.class) ≡ true → F (sort_of t.class)
unfolding same_class
part_among F [] h t on = absurd (cc)
part_among F (c ∷ cs) h t on = by (nat_eq (place_of t.class) (place_of c)) refl (part_among F cs h.1 t) on
  where
    by : (b : Bool) → nat_eq (place_of t.class) (place_of c) ≡ b → (among cs (place_of t.class) ≡ true → F (sort_of t.class)) → b || among cs (place_of t.class) ≡ true → F (sort_of t.class)
    by true is further e = subst F (sym (nested_same c t is)) h.0
    by false is further e = further e

abbrev pub IsOther : TokenSort → Type 0
IsOther part = part ≡ TokenSort.Other

-- a sign of a sum leaves open what was
abbrev pub IsEven : List Opening → TokenSort → Type 0
IsEven stack part = nested part (record { stack = stack; plain = false }) ≡ record { stack = stack; plain = false }

module _ (F : TokenSort → Type 0) where
  operator_seen : (level : Level) → All F (set_of level) → (ts : List Lexeme) (x : Place × BinaryWord) (rest : List Lexeme) → operator_at level ts ≡ Some (x, rest) → Seen (λ x t. F (sort_of t.class)) x ts rest
  operator_seen level all ts x rest e = at ((operator_looks level).found ts x rest e)
    where
      at : Got (Operator level) ts x rest → Seen (λ x t. F (sort_of t.class)) x ts rest
      at g = record { token = g.derives.token; front = g.front ∙ ap (λ (u : List Lexeme). u ++ rest) g.derives.alone; is = part_among F (set_of level) all g.derives.token (operator_some level g.derives.token.class x.1 g.derives.word) }

abbrev IsPrefix : TokenSort → Type 0
IsPrefix part = part ≡ TokenSort.Prefix

prefixes : All IsPrefix b_prefix
unfolding sort_of same_class place_of
prefixes = (refl, (refl, (refl, (refl, tt))))

prefix_seen : (ts : List Lexeme) (x : Lexeme × PrefixWord) (rest : List Lexeme) → prefix_at ts ≡ Some (x, rest) → Seen (λ x t. (x.0 ≡ t) × (sort_of t.class ≡ TokenSort.Prefix)) x ts rest
prefix_seen ts x rest e = at (prefix_looks.found ts x rest e)
  where
    at : Got Prefix ts x rest → Seen (λ x t. (x.0 ≡ t) × (sort_of t.class ≡ TokenSort.Prefix)) x ts rest
    at g = record { token = x.0; front = g.front ∙ ap (λ (u : List Lexeme). u ++ rest) g.derives.alone; is = (refl, part_among IsPrefix b_prefix prefixes x.0 (prefix_some x.0.class x.1 g.derives.word)) }

module _ {A : Type 0} {k : ℕ} {Q : Nesting → Type 0} (stack : List Opening) where
  -- an operator behind a complete operand
  pub counts_operator : completed stack ≡ stack → levels_of stack ≤ k → (level : Level) → All IsOther (set_of level) → {R : Place × BinaryWord → Reader A} {S : Reader A} → ((o : Place × BinaryWord) → Counts k (Exactly false stack) Q (R o)) → Counts k (Ends stack) Q S
      → Counts k (Ends stack) Q (λ ts. option_map_or (λ o. R o.0 o.1) (operator_at level ts) (S ts))
  counts_operator flat few level all r s =
      counts_look (operator_seen IsOther level all) (λ (o : Place × BinaryWord) (t : Lexeme) (is : sort_of t.class ≡ TokenSort.Other). behind_step (other_step stack flat few (sort_of t.class) is) (r o)) s

  -- a sign of a sum
  pub counts_sign : (level : Level) → All (IsEven stack) (set_of level) → levels_of stack ≤ k → {R : Place × BinaryWord → Reader A} {S : Reader A} → ((o : Place × BinaryWord) → Counts k (Exactly false stack) Q (R o)) → Counts k (Exactly false stack) Q S
      → Counts k (Exactly false stack) Q (λ ts. option_map_or (λ o. R o.0 o.1) (operator_at level ts) (S ts))
  counts_sign level all few r s =
      counts_look (operator_seen (IsEven stack) level all)
      (λ (o : Place × BinaryWord) (t : Lexeme) (is : IsEven stack (sort_of t.class)).
      behind_step (exactly_by stack stack (sort_of t.class) false false few (ap (λ (m : Nesting). m.stack) is) (ap (λ (m : Nesting). m.plain) is)) (r o)) s

  -- PREFIX
  pub counts_prefix : {R : Lexeme × PrefixWord → Reader A} {S : Reader A} → ((p : Lexeme × PrefixWord) → Opens k p.0 Opening.Prefix stack Q (R p)) → Counts k (Exactly false stack) Q S → Counts k (Exactly false stack) Q (λ ts. option_map_or (λ o. R o.0 o.1) (prefix_at ts) (S ts))
  counts_prefix {R = R} r s =
      counts_look prefix_seen
      (λ (p : Lexeme × PrefixWord) (t : Lexeme) (is : (p.0 ≡ t) × (sort_of t.class ≡ TokenSort.Prefix)).
      behind_level Opening.Prefix stack refl (λ n e. ap (nested (sort_of t.class)) e.is ∙ ap (λ (part : TokenSort). nested part (record { stack = stack; plain = false })) is.1)
      (subst (λ (u : Lexeme). Opens k u Opening.Prefix stack Q (R p)) is.0 (r p))) s

-- "|" or `or` behind a complete operand
pub counts_or : {A : Type 0} {k : ℕ} {Q : Nesting → Type 0} (stack : List Opening) → completed stack ≡ stack → levels_of stack ≤ k → {S : Lexeme → Reader A} → ((t : Lexeme) → Counts k (Exactly false stack) Q (S t)) → Counts k (Ends stack) Q (λ ts. expect_or ts >>= S)
unfolding expect_or sort_of same_class place_of
counts_or stack flat few {S = S} second = counts_same same (counts_if (counts_other stack flat few classes.Bar refl second) (counts_other stack flat few classes.Or refl second) (starts classes.Bar))
  where
    by : (b : Bool) (ts : List Lexeme) → (cond b (expect classes.Bar ts) (expect classes.Or ts) >>= S) ≡ cond b (expect classes.Bar ts >>= S) (expect classes.Or ts >>= S)
    by true ts = refl
    by false ts = refl

    same : (ts : List Lexeme) → (expect_or ts >>= S) ≡ cond (starts classes.Bar ts) (expect classes.Bar ts >>= S) (expect classes.Or ts >>= S)
    same ts = by (starts classes.Bar ts) ts
