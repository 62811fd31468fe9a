-- Where reading stops at an operator that it didn't expect, an operand is awaited: one lemma for each form.
use Rattle.std.proofs.Common.{◌≡◌, ℕ, zero, suc, Bool, true, false, cond, not, List, [], ◌∷◌, ◌++◌, length, Option, Some, None, Ok, Err, ◌⊎◌, inl, inr, refl, sym, ap, subst, ◌∙◌, append_assoc}
use Rattle.std.specs.Option.{option_map_or}
use Rattle.spectra_exprs.specs.declared.fault.SyntaxFault.{SyntaxFault}
use Rattle.spectra_exprs.specs.declared.fault.SyntaxFault.TheVariants as faults
use Rattle.spectra_trees.specs.declared.class.Class.{Class}
use Rattle.spectra_trees.specs.declared.class.Class.TheVariants as classes
use Rattle.spectra_trees.specs.Classes.{place_of, same_class}
use Rattle.spectra_trees.specs.Lexemes.{Lexeme}
use Rattle.spectra_exprs.specs.Read.{Read, Reader, ◌>>=◌, unexpected, first_number, starts, expect, grow, all_of}
use Rattle.spectra_exprs.specs.Operators.{is_operator}
use Rattle.spectra_exprs.proofs.Soundness.{ok_value}
use Rattle.spectra_exprs.proofs.Stopping.{err_is, ok_no_err, err_no_ok}
use Rattle.spectra_exprs.proofs.Opening.{IsNext}
use Rattle.spectra_exprs.proofs.ClassSets.{among, going, Apart, going_apart, same_going}

-- the classes that end an operand
abbrev pub operand_ends : List Class
operand_ends = classes.True ∷ classes.False ∷ classes.Number ∷ classes.Name ∷ classes.Close ∷ classes.CloseBracket ∷ []

-- whether an operand is awaited behind a token
abbrev pub opens : Lexeme → Bool
opens t = not (among operand_ends (place_of t.class))

-- whether an operand is awaited behind these tokens, where it is, or isn't, before them
abbrev pub awaits : Bool → List Lexeme → Bool
awaits b [] = b
awaits b (t ∷ ts) = awaits (opens t) ts

pub awaits-append : (b : Bool) (u v : List Lexeme) → awaits b (u ++ v) ≡ awaits (awaits b u) v
awaits-append b [] v = refl
awaits-append b (t ∷ u) v = awaits-append (opens t) u v

-- what is awaited behind tokens that end no operand is awaited in each place
pub awaits_anywhere : (b : Bool) (u : List Lexeme) → awaits false u ≡ true → awaits b u ≡ true
awaits_anywhere b [] e = absurd (cc)
awaits_anywhere b (t ∷ u) e = e

-- the words of quantifiers
abbrev pub quantifiers : List Class
quantifiers = classes.ForAll ∷ classes.Exists ∷ []

-- these tokens end with a quantifier's word and its variable, which is no operand
pub record EndsVariable (used : List Lexeme) : Type 0 where
  pub front : List Lexeme
  pub word : Lexeme
  pub variable : Lexeme
  pub parts : used ≡ front ++ word ∷ variable ∷ []
  pub is : among quantifiers (place_of word.class) ≡ true
  pub named : same_class variable.class classes.Name ≡ true

-- behind these tokens no operand is complete
abbrev pub Waits : Bool → List Lexeme → Type 0
Waits b used = (awaits b used ≡ true) ⊎ EndsVariable used

variable_behind : (u v : List Lexeme) → EndsVariable v → EndsVariable (u ++ v)
variable_behind u v e = record { front = u ++ e.front; word = e.word; variable = e.variable; parts = ap (λ (m : List Lexeme). u ++ m) e.parts ∙ sym (append_assoc u e.front (e.word ∷ e.variable ∷ [])); is = e.is; named = e.named }

pub waits_behind : (b : Bool) (u v : List Lexeme) → Waits false v → Waits b (u ++ v)
waits_behind b u v (inl e) = inl (awaits-append b u v ∙ awaits_anywhere (awaits b u) v e)
waits_behind b u v (inr e) = inr (variable_behind u v e)

-- behind a token behind which an operand is awaited
pub waits_token : (b : Bool) (t : Lexeme) (v : List Lexeme) → opens t ≡ true → Waits true v → Waits b (t ∷ v)
waits_token b t v waits (inl e) = inl (rw waits e)
waits_token b t v waits (inr e) = inr (variable_behind (t ∷ []) v e)

-- an operator is next
abbrev pub OnOperator : List Lexeme → Type 0
OnOperator [] = ⊥
OnOperator (t ∷ ts) = is_operator t.class ≡ true

-- no operator is next
abbrev pub quiet : List Lexeme → Bool
quiet [] = true
quiet (t ∷ ts) = not (is_operator t.class)

pub quiet_no_operator : (ts : List Lexeme) → quiet ts ≡ true → OnOperator ts → ⊥
quiet_no_operator [] e on = on
quiet_no_operator (t ∷ ts) e on = let off : not true ≡ true = subst (λ (b : Bool). not b ≡ true) on e in absurd (cc)

abbrev pub anywhere : List Lexeme → Bool
anywhere ts = true

-- where reading stopped: at an operator, an operand is awaited
pub record AwaitsAt (b : Bool) (ts : List Lexeme) (at : ℕ) : Type 0 where
  pub used : List Lexeme
  pub rest : List Lexeme
  pub front : ts ≡ used ++ rest
  pub place : IsNext at rest
  pub operand : OnOperator rest → Waits b used

-- the tokens that were used
pub record Cut (ts rest : List Lexeme) : Type 0 where
  pub used : List Lexeme
  pub front : ts ≡ used ++ rest

-- reading where a test holds
pub record Awaits {A : Type 0} (test : List Lexeme → Bool) (b : Bool) (R : List Lexeme → Read A) : Type 0 where
  pub goes : (ts : List Lexeme) (a : A) (rest : List Lexeme) → R ts ≡ Ok (a, rest) → Cut ts rest
  pub stops : (ts : List Lexeme) (at : ℕ) → test ts ≡ true → R ts ≡ Err (faults.Unexpected at) → AwaitsAt b ts at

-- what is read where a test holds is followed by no operator
pub record Closes {A : Type 0} (test : List Lexeme → Bool) (R : List Lexeme → Read A) : Type 0 where
  pub closes : (ts : List Lexeme) (a : A) (rest : List Lexeme) → test ts ≡ true → R ts ≡ Ok (a, rest) → quiet rest ≡ true

-- ---- single forms

number_is : (f : SyntaxFault) (k at : ℕ) → f ≡ faults.Unexpected k → f ≡ faults.Unexpected at → k ≡ at
number_is f k at e g = cc

next_at : (ts : List Lexeme) (at : ℕ) → first_number ts ≡ at → IsNext at ts
unfolding first_number
next_at [] at e = sym e
next_at (t ∷ ts) at e = e

pub first_place : {A : Type 0} (ts : List Lexeme) (at : ℕ) → ◌≡◌ {A = Read A} (Err (faults.Unexpected (first_number ts))) (Err (faults.Unexpected at)) → IsNext at ts
first_place {A = A} ts at e =
    let same : faults.Unexpected (first_number ts) ≡ faults.Unexpected at = err_is {A = A} (faults.Unexpected (first_number ts)) (faults.Unexpected at) e in
    next_at ts at (number_is (faults.Unexpected at) (first_number ts) at (sym same) refl)

-- the first token is refused
pub stops_first : {A : Type 0} (b : Bool) (ts : List Lexeme) (at : ℕ) → (OnOperator ts → b ≡ true) → ◌≡◌ {A = Read A} (Err (faults.Unexpected (first_number ts))) (Err (faults.Unexpected at)) → AwaitsAt b ts at
stops_first {A = A} b ts at on e = record { used = []; rest = ts; front = refl; place = first_place {A = A} ts at e; operand = λ o. inl (on o) }

pub awaits_gives : {A : Type 0} {test : List Lexeme → Bool} {b : Bool} (a : A) → Awaits test b (λ ts. Ok (a, ts))
awaits_gives {A = A} a = record {
  goes = λ ts x rest e. record { used = []; front = sym (ok_value a x ts rest e).1 };
  stops = λ ts at on e. absurd (ok_no_err (a, ts) (faults.Unexpected at) e);
}

pub awaits_unexpected : {A : Type 0} {test : List Lexeme → Bool} → Awaits {A = A} test true unexpected
unfolding unexpected
awaits_unexpected {A = A} = record {
  goes = λ ts a rest e. absurd (err_no_ok (faults.Unexpected (first_number ts)) (a, rest) e);
  stops = λ ts at on e. stops_first {A = A} true ts at (λ o. refl) e;
}

pub awaits_deep : {A : Type 0} {test : List Lexeme → Bool} {b : Bool} (k : ℕ) → Awaits {A = A} test b (λ ts. Err (faults.TooDeep k))
awaits_deep {A = A} k = record {
  goes = λ ts a rest e. absurd (err_no_ok (faults.TooDeep k) (a, rest) e);
  stops = λ ts at on e. absurd (other at (err_is {A = A} (faults.TooDeep k) (faults.Unexpected at) e));
}
  where
    other : (at : ℕ) → ◌≡◌ {A = SyntaxFault} (faults.TooDeep k) (faults.Unexpected at) → ⊥
    other at e = cc

-- a token of a class, by a test
token_cut : (b : Bool) (f : SyntaxFault) (t : Lexeme) (ts : List Lexeme) (a : Lexeme) (rest : List Lexeme) → ◌≡◌ {A = Read Lexeme} (cond b (Ok (t, ts)) (Err f)) (Ok (a, rest)) → Cut (t ∷ ts) rest
token_cut true f t ts a rest e = record { used = t ∷ []; front = ap (λ (r : List Lexeme). t ∷ r) (sym (ok_value t a ts rest e).1) }
token_cut false f t ts a rest e = absurd (err_no_ok f (a, rest) e)

expect_cut : (class : Class) (ts : List Lexeme) (a : Lexeme) (rest : List Lexeme) → expect class ts ≡ Ok (a, rest) → Cut ts rest
unfolding expect
expect_cut class [] a rest e = absurd (err_no_ok (faults.Unexpected 0) (a, rest) e)
expect_cut class (t ∷ ts) a rest e = token_cut (same_class t.class class) (faults.Unexpected t.number) t ts a rest e

token_first : (b : Bool) (t : Lexeme) (ts : List Lexeme) (f : SyntaxFault) → ◌≡◌ {A = Read Lexeme} (cond b (Ok (t, ts)) (Err (faults.Unexpected t.number))) (Err f) → f ≡ faults.Unexpected t.number
token_first true t ts f e = absurd (ok_no_err (t, ts) f e)
token_first false t ts f e = sym (err_is {A = Lexeme} (faults.Unexpected t.number) f e)

pub expect_first : (class : Class) (ts : List Lexeme) (f : SyntaxFault) → expect class ts ≡ Err f → f ≡ faults.Unexpected (first_number ts)
unfolding expect first_number
expect_first class [] f e = sym (err_is {A = Lexeme} (faults.Unexpected 0) f e)
expect_first class (t ∷ ts) f e = token_first (same_class t.class class) t ts f e

pub awaits_token : {test : List Lexeme → Bool} (class : Class) → Awaits test true (expect class)
awaits_token class = record {
  goes = expect_cut class;
  stops = λ ts at on e. stops_first {A = Lexeme} true ts at (λ o. refl) (ap (λ (f : SyntaxFault). Err f) (sym (expect_first class ts (faults.Unexpected at) e)));
}

-- ---- one after the other

-- what was used before, and what is awaited behind it
behind : (b : Bool) (ts more : List Lexeme) (at : ℕ) → Cut ts more → AwaitsAt false more at → AwaitsAt b ts at
behind b ts more at p q =
    record {
      used = p.used ++ q.used;
      rest = q.rest;
      front = p.front ∙ ap (λ (m : List Lexeme). p.used ++ m) q.front ∙ sym (append_assoc p.used q.used q.rest);
      place = q.place;
      operand = λ on. waits_behind b p.used q.used (q.operand on);
    }

module _ {A B : Type 0} {test : List Lexeme → Bool} {b : Bool} (R : Reader A) (S : A → Reader B) where
  joined_cut : Awaits test b R → (next : List Lexeme → Bool) (c : Bool) → ((a : A) → Awaits next c (S a)) → (r : Read A) (ts : List Lexeme) (y : B) (rest : List Lexeme) → R ts ≡ r → (r >>= S) ≡ Ok (y, rest) → Cut ts rest
  joined_cut first next c second (Ok x) ts y rest read e =
      let p = first.goes ts x.0 x.1 read in
      let q = (second x.0).goes x.1 y rest e in
      record { used = p.used ++ q.used; front = p.front ∙ ap (λ (m : List Lexeme). p.used ++ m) q.front ∙ sym (append_assoc p.used q.used rest) }
  joined_cut first next c second (Err f) ts y rest read e = absurd (err_no_ok f (y, rest) e)

  module _ (first : Awaits test b R) (next : List Lexeme → Bool) (second : (a : A) → Awaits next false (S a)) (there : (ts : List Lexeme) (a : A) (rest : List Lexeme) → test ts ≡ true → R ts ≡ Ok (a, rest) → next rest ≡ true) where
    joined_stops : (r : Read A) (ts : List Lexeme) (at : ℕ) → test ts ≡ true → R ts ≡ r → (r >>= S) ≡ Err (faults.Unexpected at) → AwaitsAt b ts at
    joined_stops (Ok x) ts at on read e = behind b ts x.1 at (first.goes ts x.0 x.1 read) ((second x.0).stops x.1 at (there ts x.0 x.1 on read) e)
    joined_stops (Err f) ts at on read e = first.stops ts at on (read ∙ ap (λ (h : SyntaxFault). Err h) (err_is {A = B} f (faults.Unexpected at) e))

    joined : Awaits test b (λ ts. R ts >>= S)
    joined = record { goes = λ ts y rest e. joined_cut first next false second (R ts) ts y rest refl e; stops = λ ts at on e. joined_stops (R ts) ts at on refl e }

pub awaits_then : {A B : Type 0} {test : List Lexeme → Bool} {b : Bool} {R : Reader A} {S : A → Reader B} → Awaits test b R → ((a : A) → Awaits anywhere false (S a)) → Awaits test b (λ ts. R ts >>= S)
awaits_then {R = R} {S = S} first second = joined R S first anywhere second (λ ts a rest on read. refl)

-- where what is read is followed by no operator
pub awaits_closed : {A B : Type 0} {test : List Lexeme → Bool} {b : Bool} {R : Reader A} {S : A → Reader B} → Awaits test b R → Closes test R → ((a : A) → Awaits quiet false (S a)) → Awaits test b (λ ts. R ts >>= S)
awaits_closed {R = R} {S = S} first c second = joined R S first quiet second c.closes

-- a token that ends what no operator follows
pub awaits_closing : {B : Type 0} (class : Class) {S : Lexeme → Reader B} → ((t : Lexeme) → Awaits anywhere false (S t)) → Awaits quiet false (λ ts. expect class ts >>= S)
awaits_closing class {S = S} second = joined (expect class) S here anywhere second (λ ts a rest on read. refl)
  where
    here : Awaits quiet false (expect class)
    here = record {
      goes = expect_cut class;
      stops = λ ts at on e. stops_first {A = Lexeme} false ts at (λ o. absurd (quiet_no_operator ts on o)) (ap (λ (f : SyntaxFault). Err f) (sym (expect_first class ts (faults.Unexpected at) e)));
    }

-- another token is first
pub unstarted : {B : Type 0} (class : Class) (S : Lexeme → Reader B) (ts : List Lexeme) → starts class ts ≡ false → (expect class ts >>= S) ≡ Err (faults.Unexpected (first_number ts))
unfolding starts expect first_number
unstarted class S [] off = refl
unstarted class S (t ∷ ts) off = rw off refl

-- a token that is taken where a test holds, and behind which an operand is awaited
pub record Taken (R : List Lexeme → Read Lexeme) (ts : List Lexeme) : Type 0 where
  pub token : Lexeme
  pub rest : List Lexeme
  pub front : ts ≡ token ∷ rest
  pub read : R ts ≡ Ok (token, rest)
  pub waits : opens token ≡ true

pub record Takes (test : List Lexeme → Bool) (R : List Lexeme → Read Lexeme) : Type 0 where
  pub takes : (ts : List Lexeme) → test ts ≡ true → Taken R ts
  pub cut : (ts : List Lexeme) (a : Lexeme) (rest : List Lexeme) → R ts ≡ Ok (a, rest) → Cut ts rest

pub opens_apart : (F : List Class) → Apart F operand_ends → (t : Lexeme) → going F (t ∷ []) ≡ true → opens t ≡ true
opens_apart F apart t on = ap not (going_apart F operand_ends apart (t ∷ []) on)

pub takes_token : (class : Class) → Apart (class ∷ []) operand_ends → Takes (starts class) (expect class)
unfolding starts expect
takes_token class apart = record { takes = at; cut = expect_cut class }
  where
    at : (ts : List Lexeme) → starts class ts ≡ true → Taken (expect class) ts
    at [] on = absurd (cc)
    at (t ∷ ts) on = record { token = t; rest = ts; front = refl; read = rw on refl; waits = opens_apart (class ∷ []) apart t (same_going class t [] on) }

module _ {B : Type 0} {test : List Lexeme → Bool} {R : Reader Lexeme} {S : Lexeme → Reader B} (takes : Takes test R) (second : (t : Lexeme) → Awaits anywhere true (S t)) where
  -- what is awaited behind the token
  token_behind : (b : Bool) (ts : List Lexeme) (t : Lexeme) (rest : List Lexeme) (at : ℕ) → ts ≡ t ∷ rest → opens t ≡ true → AwaitsAt true rest at → AwaitsAt b ts at
  token_behind b ts t rest at front waits q =
      record {
        used = t ∷ q.used;
        rest = q.rest;
        front = front ∙ ap (λ (m : List Lexeme). t ∷ m) q.front;
        place = q.place;
        operand = λ on. waits_token b t q.used waits (q.operand on);
      }

  taken_cut : (r : Read Lexeme) (ts : List Lexeme) (y : B) (rest : List Lexeme) → R ts ≡ r → (r >>= S) ≡ Ok (y, rest) → Cut ts rest
  taken_cut (Ok x) ts y rest read e =
      let p = takes.cut ts x.0 x.1 read in
      let q = (second x.0).goes x.1 y rest e in
      record { used = p.used ++ q.used; front = p.front ∙ ap (λ (m : List Lexeme). p.used ++ m) q.front ∙ sym (append_assoc p.used q.used rest) }
  taken_cut (Err f) ts y rest read e = absurd (err_no_ok f (y, rest) e)

  pub awaits_taken : {b : Bool} → Awaits test b (λ ts. R ts >>= S)
  awaits_taken {b = b} = record {
    goes = λ ts y rest e. taken_cut (R ts) ts y rest refl e;
    stops = λ ts at on e.
        let k = takes.takes ts on in
        let read : (R ts >>= S) ≡ S k.token k.rest = ap (λ (r : Read Lexeme). r >>= S) k.read in
        token_behind b ts k.token k.rest at k.front k.waits ((second k.token).stops k.rest at refl (sym read ∙ e));
  }

-- the same, where the token may be refused
module _ {B : Type 0} (class : Class) (apart : Apart (class ∷ []) operand_ends) {S : Lexeme → Reader B} (second : (t : Lexeme) → Awaits anywhere true (S t)) where
  refused_or : (c : Bool) (ts : List Lexeme) (at : ℕ) → starts class ts ≡ c → (expect class ts >>= S) ≡ Err (faults.Unexpected at) → AwaitsAt true ts at
  refused_or true ts at on e = (awaits_taken (takes_token class apart) second).stops ts at on e
  refused_or false ts at on e = stops_first {A = B} true ts at (λ o. refl) (sym (unstarted class S ts on) ∙ e)

  pub awaits_opening : {test : List Lexeme → Bool} → Awaits test true (λ ts. expect class ts >>= S)
  awaits_opening = record { goes = λ ts y rest e. taken_cut (takes_token class apart) second (expect class ts) ts y rest refl e; stops = λ ts at on e. refused_or (starts class ts) ts at refl e }

-- a token that ends what no operator follows, and behind which an operand is awaited
module _ {B : Type 0} (class : Class) (apart : Apart (class ∷ []) operand_ends) {S : Lexeme → Reader B} (second : (t : Lexeme) → Awaits anywhere true (S t)) where
  marked_or : (c : Bool) (ts : List Lexeme) (at : ℕ) → quiet ts ≡ true → starts class ts ≡ c → (expect class ts >>= S) ≡ Err (faults.Unexpected at) → AwaitsAt false ts at
  marked_or true ts at on is e = (awaits_taken (takes_token class apart) second).stops ts at is e
  marked_or false ts at on is e = stops_first {A = B} false ts at (λ o. absurd (quiet_no_operator ts on o)) (sym (unstarted class S ts is) ∙ e)

  pub awaits_mark : Awaits quiet false (λ ts. expect class ts >>= S)
  awaits_mark = record { goes = λ ts y rest e. taken_cut (takes_token class apart) second (expect class ts) ts y rest refl e; stops = λ ts at on e. marked_or (starts class ts) ts at on refl e }

-- ---- one of two

pub awaits_same : {A : Type 0} {test : List Lexeme → Bool} {b : Bool} {R S : Reader A} → ((ts : List Lexeme) → R ts ≡ S ts) → Awaits test b S → Awaits test b R
awaits_same same s = record { goes = λ ts a rest e. s.goes ts a rest (sym (same ts) ∙ e); stops = λ ts at on e. s.stops ts at on (sym (same ts) ∙ e) }

module _ {A : Type 0} {test : List Lexeme → Bool} {b : Bool} {R S : Reader A} (r : Awaits test b R) (s : Awaits anywhere b S) where
  either_goes : (c : Bool) (ts : List Lexeme) (a : A) (rest : List Lexeme) → cond c (R ts) (S ts) ≡ Ok (a, rest) → Cut ts rest
  either_goes true ts a rest e = r.goes ts a rest e
  either_goes false ts a rest e = s.goes ts a rest e

  either_stops : (c : Bool) (ts : List Lexeme) (at : ℕ) → test ts ≡ c → cond c (R ts) (S ts) ≡ Err (faults.Unexpected at) → AwaitsAt b ts at
  either_stops true ts at on e = r.stops ts at on e
  either_stops false ts at on e = s.stops ts at refl e

  pub awaits_if : Awaits anywhere b (λ ts. cond (test ts) (R ts) (S ts))
  awaits_if = record { goes = λ ts a rest e. either_goes (test ts) ts a rest e; stops = λ ts at on e. either_stops (test ts) ts at refl e }

-- ---- a look at the first token

-- what it finds is a token behind which an operand is awaited
pub record Sees (ts rest : List Lexeme) : Type 0 where
  pub token : Lexeme
  pub front : ts ≡ token ∷ rest
  pub waits : opens token ≡ true

pub record AwaitsLook {X : Type 0} (look : List Lexeme → Option (X × List Lexeme)) : Type 0 where
  pub sees : (ts : List Lexeme) (x : X) (rest : List Lexeme) → look ts ≡ Some (x, rest) → Sees ts rest

module _ {X A : Type 0} {test : List Lexeme → Bool} {b : Bool} {look : List Lexeme → Option (X × List Lexeme)} {R : X → Reader A} {S : Reader A} (l : AwaitsLook look) (r : (x : X) → Awaits anywhere true (R x))
    (s : (ts : List Lexeme) (at : ℕ) → test ts ≡ true → look ts ≡ None → S ts ≡ Err (faults.Unexpected at) → AwaitsAt b ts at) (c : (ts : List Lexeme) (a : A) (rest : List Lexeme) → S ts ≡ Ok (a, rest) → Cut ts rest) where
  look_cut : (o : Option (X × List Lexeme)) (ts : List Lexeme) (a : A) (rest : List Lexeme) → look ts ≡ o → option_map_or (λ o. R o.0 o.1) o (S ts) ≡ Ok (a, rest) → Cut ts rest
  look_cut (Some x) ts a rest is e =
      let k = l.sees ts x.0 x.1 is in
      let q = (r x.0).goes x.1 a rest e in
      record { used = k.token ∷ q.used; front = k.front ∙ ap (λ (m : List Lexeme). k.token ∷ m) q.front }
  look_cut None ts a rest is e = c ts a rest e

  look_stops : (o : Option (X × List Lexeme)) (ts : List Lexeme) (at : ℕ) → test ts ≡ true → look ts ≡ o → option_map_or (λ o. R o.0 o.1) o (S ts) ≡ Err (faults.Unexpected at) → AwaitsAt b ts at
  look_stops (Some x) ts at on is e =
      let k = l.sees ts x.0 x.1 is in
      let q = (r x.0).stops x.1 at refl e in
      record {
        used = k.token ∷ q.used;
        rest = q.rest;
        front = k.front ∙ ap (λ (m : List Lexeme). k.token ∷ m) q.front;
        place = q.place;
        operand = λ o. waits_token b k.token q.used k.waits (q.operand o);
      }
  look_stops None ts at on is e = s ts at on is e

  look_awaits : Awaits test b (λ ts. option_map_or (λ o. R o.0 o.1) (look ts) (S ts))
  look_awaits = record { goes = λ ts a rest e. look_cut (look ts) ts a rest refl e; stops = λ ts at on e. look_stops (look ts) ts at on refl e }

pub awaits_look : {X A : Type 0} {test : List Lexeme → Bool} {b : Bool} {look : List Lexeme → Option (X × List Lexeme)} {R : X → Reader A} {S : Reader A} → AwaitsLook look → ((x : X) → Awaits anywhere true (R x)) → Awaits test b S
    → Awaits test b (λ ts. option_map_or (λ o. R o.0 o.1) (look ts) (S ts))
awaits_look l r s = look_awaits l r (λ ts at on none e. s.stops ts at on e) s.goes

-- where the test says that it finds something
pub awaits_look_only : {X A : Type 0} {test : List Lexeme → Bool} {b : Bool} {look : List Lexeme → Option (X × List Lexeme)} {R : X → Reader A} → AwaitsLook look → ((x : X) → Awaits anywhere true (R x))
    → ((ts : List Lexeme) → test ts ≡ true → look ts ≡ None → ⊥) → Awaits test b (λ ts. option_map_or (λ o. R o.0 o.1) (look ts) (unexpected ts))
awaits_look_only {A = A} l r finds = look_awaits l r (λ ts at on none e. absurd (finds ts on none)) (awaits_unexpected {A = A} {test = anywhere}).goes

-- ---- step after step

module _ {A : Type 0} {test : List Lexeme → Bool} {R : A → Reader A} (each : (a : A) → Awaits test false (R a)) where
  module _ (n : ℕ) (goes : (a : A) (ts : List Lexeme) (b : A) (rest : List Lexeme) → grow test R n a ts ≡ Ok (b, rest) → Cut ts rest) where
    step_goes : (r : Read A) (a : A) (ts : List Lexeme) (b : A) (rest : List Lexeme) → R a ts ≡ r → (r >>= λ b rest. grow test R n b rest) ≡ Ok (b, rest) → Cut ts rest
    step_goes (Ok x) a ts b rest read e =
        let p = (each a).goes ts x.0 x.1 read in
        let q = goes x.0 x.1 b rest e in
        record { used = p.used ++ q.used; front = p.front ∙ ap (λ (m : List Lexeme). p.used ++ m) q.front ∙ sym (append_assoc p.used q.used rest) }
    step_goes (Err f) a ts b rest read e = absurd (err_no_ok f (b, rest) e)

    turn_goes : (on : Bool) (a : A) (ts : List Lexeme) (b : A) (rest : List Lexeme) → cond on (R a ts >>= λ b rest. grow test R n b rest) (Ok (a, ts)) ≡ Ok (b, rest) → Cut ts rest
    turn_goes true a ts b rest e = step_goes (R a ts) a ts b rest refl e
    turn_goes false a ts b rest e = record { used = []; front = sym (ok_value a b ts rest e).1 }

  module _ (n : ℕ) (stops : (a : A) (ts : List Lexeme) (at : ℕ) → grow test R n a ts ≡ Err (faults.Unexpected at) → AwaitsAt false ts at) where
    step_stops : (r : Read A) (a : A) (ts : List Lexeme) (at : ℕ) → test ts ≡ true → R a ts ≡ r → (r >>= λ b rest. grow test R n b rest) ≡ Err (faults.Unexpected at) → AwaitsAt false ts at
    step_stops (Ok x) a ts at on read e = behind false ts x.1 at ((each a).goes ts x.0 x.1 read) (stops x.0 x.1 at e)
    step_stops (Err f) a ts at on read e = (each a).stops ts at on (read ∙ ap (λ (h : SyntaxFault). Err h) (err_is {A = A} f (faults.Unexpected at) e))

    turn_stops : (on : Bool) (a : A) (ts : List Lexeme) (at : ℕ) → test ts ≡ on → cond on (R a ts >>= λ b rest. grow test R n b rest) (Ok (a, ts)) ≡ Err (faults.Unexpected at) → AwaitsAt false ts at
    turn_stops true a ts at on e = step_stops (R a ts) a ts at on refl e
    turn_stops false a ts at on e = absurd (ok_no_err (a, ts) (faults.Unexpected at) e)

  turns_go : (n : ℕ) (a : A) (ts : List Lexeme) (b : A) (rest : List Lexeme) → grow test R n a ts ≡ Ok (b, rest) → Cut ts rest
  unfolding grow
  turns_go zero a ts b rest e = record { used = []; front = sym (ok_value a b ts rest e).1 }
  turns_go (suc n) a ts b rest e = turn_goes n (turns_go n) (test ts) a ts b rest e

  turns_stop : (n : ℕ) (a : A) (ts : List Lexeme) (at : ℕ) → grow test R n a ts ≡ Err (faults.Unexpected at) → AwaitsAt false ts at
  unfolding grow
  turns_stop zero a ts at e = absurd (ok_no_err (a, ts) (faults.Unexpected at) e)
  turns_stop (suc n) a ts at e = turn_stops n (turns_stop n) (test ts) a ts at refl e

  pub awaits_steps : {from : List Lexeme → Bool} (a : A) → Awaits from false (λ ts. all_of test R a ts)
  awaits_steps a = record { goes = λ ts b rest e. turns_go (suc (length ts)) a ts b rest e; stops = λ ts at on e. turns_stop (suc (length ts)) a ts at e }
