-- How many levels are open where reading goes on, and where it stops: one lemma for each form.
use Rattle.std.proofs.Common.{◌≡◌, ℕ, zero, suc, ◌<◌, ◌≤◌, Bool, true, false, cond, List, [], ◌∷◌, ◌++◌, length, Option, Some, None, Ok, Err, refl, sym, ap, subst, ◌∙◌, append_assoc, arith}
use Rattle.std.specs.Option.{option_map_or}
use Rattle.spectra_exprs.specs.declared.fault.SyntaxFault.{SyntaxFault}
use Rattle.spectra_exprs.specs.declared.fault.SyntaxFault.TheVariants as faults
use Rattle.spectra_trees.specs.declared.class.Class.{Class}
use Rattle.spectra_trees.specs.Classes.{same_class}
use Rattle.spectra_trees.specs.Lexemes.{Lexeme}
use Rattle.spectra_exprs.specs.Read.{Read, Reader, ◌>>=◌, unexpected, first_number, expect, grow, all_of}
use Rattle.spectra_exprs.specs.Operators.{is_operator}
use Rattle.spectra_exprs.specs.OperatorReaders.{closed}
use Rattle.spectra_exprs.specs.Nesting.{Opening, Nesting, sort_of, completed, ended, nested, behind, levels_of}
use Rattle.spectra_exprs.proofs.Soundness.{sound_token, ok_value}
use Rattle.spectra_exprs.proofs.Stopping.{err_is, ok_no_err, err_no_ok}
use Rattle.spectra_exprs.proofs.Opening.{IsNext, next_number}
use Rattle.spectra_exprs.proofs.Awaiting.{expect_first}

-- behind each of these tokens at most so many levels are open
abbrev pub AtMost : ℕ → Nesting → List Lexeme → Type 0
AtMost k n [] = Unit {0}
AtMost k n (t ∷ ts) = (levels_of (nested (sort_of t.class) n).stack ≤ k) × AtMost k (nested (sort_of t.class) n) ts

pub behind-append : (n : Nesting) (u v : List Lexeme) → behind n (u ++ v) ≡ behind (behind n u) v
behind-append n [] v = refl
behind-append n (t ∷ u) v = behind-append (nested (sort_of t.class) n) u v

pub at_most_append : (k : ℕ) (n : Nesting) (u v : List Lexeme) → AtMost k n u → AtMost k (behind n u) v → AtMost k n (u ++ v)
at_most_append k n [] v a b = b
at_most_append k n (t ∷ u) v a b = (a.0, at_most_append k (nested (sort_of t.class) n) u v a.1 b)

-- the token that comes opens one level more than there may be
pub record OpensLevel (k at : ℕ) (n : Nesting) (rest : List Lexeme) : Type 0 where
  pub token : Lexeme
  pub more : List Lexeme
  pub parts : rest ≡ token ∷ more
  pub number : token.number ≡ at
  pub level : levels_of (nested (sort_of token.class) n).stack ≡ suc k

abbrev pub IsStop : ℕ → SyntaxFault → Nesting → List Lexeme → Type 0
IsStop k (faults.Unexpected at) n rest = IsNext at rest
IsStop k (faults.TooDeep at) n rest = OpensLevel k at n rest
IsStop k (faults.Parentheses at) n rest = IsNext at rest
IsStop k faults.Memory n rest = Unit {0}

-- tokens that were used
pub record Passed (k : ℕ) (Q : Nesting → Type 0) (n : Nesting) (ts rest : List Lexeme) : Type 0 where
  pub used : List Lexeme
  pub front : ts ≡ used ++ rest
  pub within : AtMost k n used
  pub after : Q (behind n used)

-- tokens before those at which reading stopped
pub record Stopped (k : ℕ) (n : Nesting) (ts : List Lexeme) (f : SyntaxFault) : Type 0 where
  pub used : List Lexeme
  pub rest : List Lexeme
  pub front : ts ≡ used ++ rest
  pub within : AtMost k n used
  pub place : IsStop k f (behind n used) rest

-- reading from what is open before to what is open behind
pub record Counts {A : Type 0} (k : ℕ) (P Q : Nesting → Type 0) (R : List Lexeme → Read A) : Type 0 where
  pub goes : (n : Nesting) → P n → (ts : List Lexeme) (a : A) (rest : List Lexeme) → R ts ≡ Ok (a, rest) → Passed k Q n ts rest
  pub stops : (n : Nesting) → P n → (ts : List Lexeme) (f : SyntaxFault) → R ts ≡ Err f → Stopped k n ts f

-- just this is open
pub record Exactly (plain : Bool) (stack : List Opening) (n : Nesting) : Type 0 where
  pub is : n ≡ record { stack = stack; plain = plain }

-- this is open where an operand is complete
pub record Ends (stack : List Opening) (n : Nesting) : Type 0 where
  pub is : completed n.stack ≡ completed stack

-- this is open where an expression is complete
pub record Shuts (stack : List Opening) (n : Nesting) : Type 0 where
  pub is : ended n.stack ≡ ended stack

-- an expression is complete where an operand is
ended-completed : (stack : List Opening) → ended (completed stack) ≡ ended stack
ended-completed [] = refl
ended-completed (Opening.Prefix ∷ stack) = ended-completed stack
ended-completed (Opening.Quantifier ∷ stack) = refl
ended-completed (Opening.Level ∷ stack) = refl
ended-completed (Opening.Plain ∷ stack) = refl

pub shuts_ends : (stack : List Opening) (n : Nesting) → Ends stack n → Shuts stack n
shuts_ends stack n e = record { is = sym (ended-completed n.stack) ∙ ap ended e.is ∙ ended-completed stack }

-- ---- single forms

module _ {k : ℕ} {n : Nesting} (u : List Lexeme) (ts rest : List Lexeme) (front : ts ≡ u ++ rest) (within : AtMost k n u) where
  -- tokens, and those behind them
  pub goes_behind : {Q : Nesting → Type 0} (end : List Lexeme) → Passed k Q (behind n u) rest end → Passed k Q n ts end
  goes_behind {Q = Q} end v =
      record {
        used = u ++ v.used;
        front = front ∙ ap (λ (m : List Lexeme). u ++ m) v.front ∙ sym (append_assoc u v.used end);
        within = at_most_append k n u v.used within v.within;
        after = subst Q (sym (behind-append n u v.used)) v.after;
      }

  pub stops_behind : (f : SyntaxFault) → Stopped k (behind n u) rest f → Stopped k n ts f
  stops_behind f v =
      record {
        used = u ++ v.used;
        rest = v.rest;
        front = front ∙ ap (λ (m : List Lexeme). u ++ m) v.front ∙ sym (append_assoc u v.used v.rest);
        within = at_most_append k n u v.used within v.within;
        place = subst (λ (m : Nesting). IsStop k f m v.rest) (sym (behind-append n u v.used)) v.place;
      }

pub counts_gives : {A : Type 0} {k : ℕ} {P : Nesting → Type 0} (a : A) → Counts k P P (λ ts. Ok (a, ts))
counts_gives {A = A} a = record {
  goes = λ n p ts x rest e. record { used = []; front = sym (ok_value a x ts rest e).1; within = tt; after = p };
  stops = λ n p ts f e. absurd (ok_no_err (a, ts) f e);
}

-- the first token is refused
stops_here : (k : ℕ) (n : Nesting) (ts : List Lexeme) (f : SyntaxFault) → f ≡ faults.Unexpected (first_number ts) → Stopped k n ts f
stops_here k n ts f same = record { used = []; rest = ts; front = refl; within = tt; place = subst (λ (h : SyntaxFault). IsStop k h n ts) (sym same) (next_number ts) }

pub counts_unexpected : {A : Type 0} {k : ℕ} {P Q : Nesting → Type 0} → Counts {A = A} k P Q unexpected
unfolding unexpected
counts_unexpected {A = A} {k = k} = record {
  goes = λ n p ts a rest e. absurd (err_no_ok (faults.Unexpected (first_number ts)) (a, rest) e);
  stops = λ n p ts f e. stops_here k n ts f (sym (err_is {A = A} (faults.Unexpected (first_number ts)) f e));
}

pub counts_same : {A : Type 0} {k : ℕ} {P Q : Nesting → Type 0} {R S : Reader A} → ((ts : List Lexeme) → R ts ≡ S ts) → Counts k P Q S → Counts k P Q R
counts_same same s = record { goes = λ n p ts a rest e. s.goes n p ts a rest (sym (same ts) ∙ e); stops = λ n p ts f e. s.stops n p ts f (sym (same ts) ∙ e) }

-- from less, and to more
pub counts_from : {A : Type 0} {k : ℕ} {P Q P' : Nesting → Type 0} {R : Reader A} → ((n : Nesting) → P' n → P n) → Counts k P Q R → Counts k P' Q R
counts_from before c = record { goes = λ n p ts a rest e. c.goes n (before n p) ts a rest e; stops = λ n p ts f e. c.stops n (before n p) ts f e }

pub counts_to : {A : Type 0} {k : ℕ} {P Q Q' : Nesting → Type 0} {R : Reader A} → ((n : Nesting) → Q n → Q' n) → Counts k P Q R → Counts k P Q' R
counts_to after c = record {
  goes = λ n p ts a rest e. let u = c.goes n p ts a rest e in record { used = u.used; front = u.front; within = u.within; after = after (behind n u.used) u.after };
  stops = c.stops;
}

module _ {A B : Type 0} {k : ℕ} {P M Q : Nesting → Type 0} {R : Reader A} {S : A → Reader B} (first : Counts k P M R) (second : (a : A) → Counts k M Q (S a)) where
  then_goes : (r : Read A) (n : Nesting) → P n → (ts : List Lexeme) (b : B) (rest : List Lexeme) → R ts ≡ r → (r >>= S) ≡ Ok (b, rest) → Passed k Q n ts rest
  then_goes (Ok x) n p ts b rest read e =
      let u = first.goes n p ts x.0 x.1 read in
      goes_behind u.used ts x.1 u.front u.within rest ((second x.0).goes (behind n u.used) u.after x.1 b rest e)
  then_goes (Err f) n p ts b rest read e = absurd (err_no_ok f (b, rest) e)

  then_stops : (r : Read A) (n : Nesting) → P n → (ts : List Lexeme) (f : SyntaxFault) → R ts ≡ r → (r >>= S) ≡ Err f → Stopped k n ts f
  then_stops (Ok x) n p ts f read e =
      let u = first.goes n p ts x.0 x.1 read in
      stops_behind u.used ts x.1 u.front u.within f ((second x.0).stops (behind n u.used) u.after x.1 f e)
  then_stops (Err g) n p ts f read e = first.stops n p ts f (read ∙ ap (λ (h : SyntaxFault). Err h) (err_is {A = B} g f e))

  pub counts_then : Counts k P Q (λ ts. R ts >>= S)
  counts_then = record { goes = λ n p ts b rest e. then_goes (R ts) n p ts b rest refl e; stops = λ n p ts f e. then_stops (R ts) n p ts f refl e }

module _ {A : Type 0} {k : ℕ} {P Q : Nesting → Type 0} {R S : Reader A} (r : Counts k P Q R) (s : Counts k P Q S) where
  if_goes : (b : Bool) (n : Nesting) → P n → (ts : List Lexeme) (a : A) (rest : List Lexeme) → cond b (R ts) (S ts) ≡ Ok (a, rest) → Passed k Q n ts rest
  if_goes true n p ts a rest e = r.goes n p ts a rest e
  if_goes false n p ts a rest e = s.goes n p ts a rest e

  if_stops : (b : Bool) (n : Nesting) → P n → (ts : List Lexeme) (f : SyntaxFault) → cond b (R ts) (S ts) ≡ Err f → Stopped k n ts f
  if_stops true n p ts f e = r.stops n p ts f e
  if_stops false n p ts f e = s.stops n p ts f e

  pub counts_if : (test : List Lexeme → Bool) → Counts k P Q (λ ts. cond (test ts) (R ts) (S ts))
  counts_if test = record { goes = λ n p ts a rest e. if_goes (test ts) n p ts a rest e; stops = λ n p ts f e. if_stops (test ts) n p ts f e }

-- what no operator follows
pub counts_closed : {A : Type 0} {k : ℕ} {P : Nesting → Type 0} (a : A) → Counts k P P (closed a)
unfolding closed
counts_closed {A = A} {k = k} {P = P} a = record { goes = goes; stops = stops }
  where
    took : (c : Bool) (f : SyntaxFault) (n : Nesting) → P n → (ts : List Lexeme) (x : A) (rest : List Lexeme) → ◌≡◌ {A = Read A} (cond c (Err f) (Ok (a, ts))) (Ok (x, rest)) → Passed k P n ts rest
    took true f n p ts x rest e = absurd (err_no_ok f (x, rest) e)
    took false f n p ts x rest e = record { used = []; front = sym (ok_value a x ts rest e).1; within = tt; after = p }

    goes : (n : Nesting) → P n → (ts : List Lexeme) (x : A) (rest : List Lexeme) → closed a ts ≡ Ok (x, rest) → Passed k P n ts rest
    goes n p [] x rest e = took false (faults.Unexpected 0) n p [] x rest e
    goes n p (t ∷ ts) x rest e = took (is_operator t.class) (faults.Parentheses t.number) n p (t ∷ ts) x rest e

    left : (c : Bool) (n : Nesting) (t : Lexeme) (ts : List Lexeme) (f : SyntaxFault) → ◌≡◌ {A = Read A} (cond c (Err (faults.Parentheses t.number)) (Ok (a, t ∷ ts))) (Err f) → Stopped k n (t ∷ ts) f
    left true n t ts f e = record { used = []; rest = t ∷ ts; front = refl; within = tt; place = subst (λ (h : SyntaxFault). IsStop k h n (t ∷ ts)) (err_is {A = A} (faults.Parentheses t.number) f e) refl }
    left false n t ts f e = absurd (ok_no_err (a, t ∷ ts) f e)

    stops : (n : Nesting) → P n → (ts : List Lexeme) (f : SyntaxFault) → closed a ts ≡ Err f → Stopped k n ts f
    stops n p [] f e = absurd (ok_no_err (a, []) f e)
    stops n p (t ∷ ts) f e = left (is_operator t.class) n t ts f e

-- a reader that is told its first token before it reads it
module _ {A : Type 0} {k : ℕ} {P Q : Nesting → Type 0} (R : Reader A) (F : Lexeme → Reader A) (empty : R [] ≡ Err (faults.Unexpected 0)) (same : (t : Lexeme) (ts : List Lexeme) → R (t ∷ ts) ≡ F t (t ∷ ts)) (each : (t : Lexeme) → Counts k P Q (F t)) where
  told_goes : (n : Nesting) → P n → (ts : List Lexeme) (a : A) (rest : List Lexeme) → R ts ≡ Ok (a, rest) → Passed k Q n ts rest
  told_goes n p [] a rest e = absurd (err_no_ok (faults.Unexpected 0) (a, rest) (sym empty ∙ e))
  told_goes n p (t ∷ ts) a rest e = (each t).goes n p (t ∷ ts) a rest (sym (same t ts) ∙ e)

  told_stops : (n : Nesting) → P n → (ts : List Lexeme) (f : SyntaxFault) → R ts ≡ Err f → Stopped k n ts f
  unfolding first_number
  told_stops n p [] f e = stops_here k n [] f (sym (err_is {A = A} (faults.Unexpected 0) f (sym empty ∙ e)))
  told_stops n p (t ∷ ts) f e = (each t).stops n p (t ∷ ts) f (sym (same t ts) ∙ e)

  pub counts_told : Counts k P Q R
  counts_told = record { goes = told_goes; stops = told_stops }

-- ---- step after step

module _ {A : Type 0} {k : ℕ} {P : Nesting → Type 0} (test : List Lexeme → Bool) {R : A → Reader A} (each : (a : A) → Counts k P P (R a)) where
  turns : (m : ℕ) (a : A) → Counts k P P (grow test R m a)
  unfolding grow
  turns zero a = counts_gives a
  turns (suc m) a = counts_if (counts_then (each a) (λ (b : A). turns m b)) (counts_gives a) test

  pub counts_steps : (a : A) → Counts k P P (λ ts. all_of test R a ts)
  counts_steps a = record { goes = λ n p ts b rest e. (turns (suc (length ts)) a).goes n p ts b rest e; stops = λ n p ts f e. (turns (suc (length ts)) a).stops n p ts f e }

-- ---- behind a token

pub record Behind {A : Type 0} (k : ℕ) (P Q : Nesting → Type 0) (t : Lexeme) (R : List Lexeme → Read A) : Type 0 where
  pub goes : (n : Nesting) → P n → (ts : List Lexeme) (a : A) (rest : List Lexeme) → R ts ≡ Ok (a, rest) → Passed k Q n (t ∷ ts) rest
  pub stops : (n : Nesting) → P n → (ts : List Lexeme) (f : SyntaxFault) → R ts ≡ Err f → Stopped k n (t ∷ ts) f

-- a token that opens no level too many
pub behind_step : {A : Type 0} {k : ℕ} {P M Q : Nesting → Type 0} {t : Lexeme} {R : Reader A} → ((n : Nesting) → P n → (levels_of (nested (sort_of t.class) n).stack ≤ k) × M (nested (sort_of t.class) n)) → Counts k M Q R → Behind k P Q t R
behind_step {t = t} step c = record {
  goes = λ n p ts a rest e. let s = step n p in goes_behind (t ∷ []) (t ∷ ts) ts refl (s.0, tt) rest (c.goes (nested (sort_of t.class) n) s.1 ts a rest e);
  stops = λ n p ts f e. let s = step n p in stops_behind (t ∷ []) (t ∷ ts) ts refl (s.0, tt) f (c.stops (nested (sort_of t.class) n) s.1 ts f e);
}

-- what is read behind a token that opens a level: no level is left, or some are
pub data Opens {A : Type 0} (k : ℕ) (t : Lexeme) (opening : Opening) (stack : List Opening) (Q : Nesting → Type 0) (R : List Lexeme → Read A) : Type 0 where
  deep : ((ts : List Lexeme) → R ts ≡ Err (faults.TooDeep t.number)) → levels_of stack ≡ k → Opens k t opening stack Q R
  some : levels_of stack < k → Counts k (Exactly false (opening ∷ stack)) Q R → Opens k t opening stack Q R

pub opens_then : {A B : Type 0} {k : ℕ} {t : Lexeme} {opening : Opening} {stack : List Opening} {M Q : Nesting → Type 0} {R : Reader A} {S : A → Reader B} → Opens k t opening stack M R → ((a : A) → Counts k M Q (S a)) → Opens k t opening stack Q (λ ts. R ts >>= S)
opens_then {S = S} (Opens.deep none full) second = Opens.deep (λ ts. ap (λ (r : Read _). r >>= S) (none ts)) full
opens_then (Opens.some left first) second = Opens.some left (counts_then first second)

pub behind_level : {A : Type 0} {k : ℕ} {t : Lexeme} (opening : Opening) (stack : List Opening) {Q : Nesting → Type 0} {R : Reader A} → levels_of (opening ∷ stack) ≡ suc (levels_of stack)
    → ((n : Nesting) → Exactly false stack n → nested (sort_of t.class) n ≡ record { stack = opening ∷ stack; plain = false }) → Opens k t opening stack Q R → Behind k (Exactly false stack) Q t R
behind_level {A = A} {k = k} {t = t} opening stack {R = R} one opened (Opens.deep none full) = record {
  goes = λ n p ts a rest e. absurd (err_no_ok (faults.TooDeep t.number) (a, rest) (sym (none ts) ∙ e));
  stops = λ n p ts f e.
      let same = opened n p in
      let level : levels_of (nested (sort_of t.class) n).stack ≡ suc k = ap (λ (m : Nesting). levels_of m.stack) same ∙ one ∙ ap suc full in
      record {
        used = [];
        rest = t ∷ ts;
        front = refl;
        within = tt;
        place = subst (λ (h : SyntaxFault). IsStop k h n (t ∷ ts)) (err_is {A = A} (faults.TooDeep t.number) f (sym (none ts) ∙ e)) (record { token = t; more = ts; parts = refl; number = refl; level = level });
      };
}
behind_level {k = k} {t = t} opening stack one opened (Opens.some left c) = behind_step step c
  where
    step : (n : Nesting) → Exactly false stack n → (levels_of (nested (sort_of t.class) n).stack ≤ k) × Exactly false (opening ∷ stack) (nested (sort_of t.class) n)
    step n p =
        let same = opened n p in
        let size : levels_of (nested (sort_of t.class) n).stack ≡ suc (levels_of stack) = ap (λ (m : Nesting). levels_of m.stack) same ∙ one in
        (omega (arith, size, left), record { is = same })

-- a token of a class, and what is read behind it
module _ {A : Type 0} {k : ℕ} {P Q : Nesting → Type 0} (class : Class) {S : Lexeme → Reader A} (second : (t : Lexeme) → same_class t.class class ≡ true → Behind k P Q t (S t)) where
  token_goes : (r : Read Lexeme) (n : Nesting) → P n → (ts : List Lexeme) (a : A) (rest : List Lexeme) → expect class ts ≡ r → (r >>= S) ≡ Ok (a, rest) → Passed k Q n ts rest
  token_goes (Ok x) n p ts a rest read e =
      let g = (sound_token class).got ts x.0 x.1 read in
      let front : ts ≡ x.0 ∷ x.1 = g.front ∙ ap (λ (u : List Lexeme). u ++ x.1) g.derives.alone in
      subst (λ (us : List Lexeme). Passed k Q n us rest) (sym front) ((second x.0 g.derives.is).goes n p x.1 a rest e)
  token_goes (Err f) n p ts a rest read e = absurd (err_no_ok f (a, rest) e)

  token_stops : (r : Read Lexeme) (n : Nesting) → P n → (ts : List Lexeme) (f : SyntaxFault) → expect class ts ≡ r → (r >>= S) ≡ Err f → Stopped k n ts f
  token_stops (Ok x) n p ts f read e =
      let g = (sound_token class).got ts x.0 x.1 read in
      let front : ts ≡ x.0 ∷ x.1 = g.front ∙ ap (λ (u : List Lexeme). u ++ x.1) g.derives.alone in
      subst (λ (us : List Lexeme). Stopped k n us f) (sym front) ((second x.0 g.derives.is).stops n p x.1 f e)
  token_stops (Err g) n p ts f read e = stops_here k n ts f (expect_first class ts f (read ∙ ap (λ (h : SyntaxFault). Err h) (err_is {A = A} g f e)))

  pub counts_after : Counts k P Q (λ ts. expect class ts >>= S)
  counts_after = record { goes = λ n p ts a rest e. token_goes (expect class ts) n p ts a rest refl e; stops = λ n p ts f e. token_stops (expect class ts) n p ts f refl e }

-- a look that takes one token
pub record Seen {X : Type 0} (K : X → Lexeme → Type 0) (x : X) (ts rest : List Lexeme) : Type 0 where
  pub token : Lexeme
  pub front : ts ≡ token ∷ rest
  pub is : K x token

module _ {X A : Type 0} {k : ℕ} {P Q : Nesting → Type 0} {K : X → Lexeme → Type 0} {look : List Lexeme → Option (X × List Lexeme)} {R : X → Reader A} {S : Reader A}
    (sees : (ts : List Lexeme) (x : X) (rest : List Lexeme) → look ts ≡ Some (x, rest) → Seen K x ts rest) (r : (x : X) (t : Lexeme) → K x t → Behind k P Q t (R x)) (s : Counts k P Q S) where
  look_goes : (o : Option (X × List Lexeme)) (n : Nesting) → P n → (ts : List Lexeme) (a : A) (rest : List Lexeme) → look ts ≡ o → option_map_or (λ o. R o.0 o.1) o (S ts) ≡ Ok (a, rest) → Passed k Q n ts rest
  look_goes (Some x) n p ts a rest is e =
      let g = sees ts x.0 x.1 is in
      subst (λ (us : List Lexeme). Passed k Q n us rest) (sym g.front) ((r x.0 g.token g.is).goes n p x.1 a rest e)
  look_goes None n p ts a rest is e = s.goes n p ts a rest e

  look_stops : (o : Option (X × List Lexeme)) (n : Nesting) → P n → (ts : List Lexeme) (f : SyntaxFault) → look ts ≡ o → option_map_or (λ o. R o.0 o.1) o (S ts) ≡ Err f → Stopped k n ts f
  look_stops (Some x) n p ts f is e =
      let g = sees ts x.0 x.1 is in
      subst (λ (us : List Lexeme). Stopped k n us f) (sym g.front) ((r x.0 g.token g.is).stops n p x.1 f e)
  look_stops None n p ts f is e = s.stops n p ts f e

  pub counts_look : Counts k P Q (λ ts. option_map_or (λ o. R o.0 o.1) (look ts) (S ts))
  counts_look = record { goes = λ n p ts a rest e. look_goes (look ts) n p ts a rest refl e; stops = λ n p ts f e. look_stops (look ts) n p ts f refl e }
