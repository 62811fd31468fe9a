-- Where reading stops depends on the tokens up to there alone: one lemma for each form.
use Rattle.std.proofs.Common.{◌≡◌, ℕ, Bool, true, false, cond, not, ◌||◌, List, [], ◌∷◌, ◌++◌, Option, Some, None, Result, Ok, Err, ◌⊎◌, inl, inr, refl, sym, ap, subst, ◌∙◌, append_assoc}
use Rattle.spectra_exprs.specs.declared.fault.SyntaxFault.{SyntaxFault}
use Rattle.spectra_exprs.specs.declared.fault.SyntaxFault.TheVariants as faults
use Rattle.spectra_trees.specs.declared.class.Class.{Class}
use Rattle.spectra_trees.specs.declared.class.Class.TheVariants as classes
use Rattle.spectra_trees.specs.Classes.{same_class}
use Rattle.spectra_trees.specs.Lexemes.{Lexeme}
use Rattle.spectra_exprs.specs.Read.{Read, Reader, ◌>>=◌, unexpected, first_number, starts, expect}
use Rattle.spectra_exprs.proofs.Soundness.{ok_value}
use Rattle.spectra_exprs.proofs.ClassSets.{Apart, going_apart, starts_going, same_going}

-- the same first token, or no token
abbrev pub SameHead : List Lexeme → List Lexeme → Type 0
SameHead [] r = r ≡ []
SameHead (t ∷ ts) r = (more : List Lexeme) × (r ≡ t ∷ more)

-- no token ends the text
abbrev pub NoEnd : List Lexeme → Type 0
NoEnd [] = Unit {0}
NoEnd (t ∷ ts) = (same_class t.class classes.Finish ≡ false) × NoEnd ts

-- the fault names this token
abbrev pub Names : SyntaxFault → ℕ → Type 0
Names (faults.Unexpected at) k = at ≡ k
Names (faults.TooDeep at) k = at ≡ k
Names (faults.Parentheses at) k = at ≡ k
Names faults.Memory k = ⊥

-- the tokens that were used, which lead on so too where the same token is next
pub record Passed {A : Type 0} (R : List Lexeme → Result (A × List Lexeme) SyntaxFault) (ts : List Lexeme) (a : A) (rest : List Lexeme) : Type 0 where
  pub used : List Lexeme
  pub front : ts ≡ used ++ rest
  pub quiet : NoEnd used
  pub again : (more : List Lexeme) → SameHead rest more → R (used ++ more) ≡ Ok (a, more)

-- the named token, up to which the tokens stop reading so, whatever is behind it
pub record StopsAt {A : Type 0} (R : List Lexeme → Result (A × List Lexeme) SyntaxFault) (ts : List Lexeme) (f : SyntaxFault) : Type 0 where
  pub used : List Lexeme
  pub token : Lexeme
  pub rest : List Lexeme
  pub front : ts ≡ used ++ token ∷ rest
  pub names : Names f token.number
  pub again : (more : List Lexeme) → R (used ++ token ∷ more) ≡ Err f

-- the token before the tokens stops reading, whatever they are
abbrev pub StopsBefore : {A : Type 0} → Option Lexeme → Reader A → SyntaxFault → Type 0
StopsBefore None R f = ⊥
StopsBefore (Some t) R f = Names f t.number × ((more : List Lexeme) → R more ≡ Err f)

-- reading behind a token, where one is known
pub record StableAfter {A : Type 0} (before : Option Lexeme) (R : List Lexeme → Result (A × List Lexeme) SyntaxFault) : Type 0 where
  pub goes : (ts : List Lexeme) (a : A) (rest : List Lexeme) → R ts ≡ Ok (a, rest) → Passed R ts a rest
  pub stops : (ts : List Lexeme) (f : SyntaxFault) → R ts ≡ Err f → (StopsAt R ts f ⊎ NoEnd ts) ⊎ StopsBefore before R f

abbrev pub Stable : {A : Type 0} → Reader A → Type 0
Stable R = StableAfter None R

pub same_head_append : (u rest more : List Lexeme) → SameHead rest more → SameHead (u ++ rest) (u ++ more)
same_head_append [] rest more h = h
same_head_append (t ∷ u) rest more h = (u ++ more, refl)

pub no_end_append : (u v : List Lexeme) → NoEnd u → NoEnd v → NoEnd (u ++ v)
no_end_append [] v a b = b
no_end_append (t ∷ u) v a b = (a.0, no_end_append u v a.1 b)

pub err_is : {A : Type 0} (f g : SyntaxFault) → ◌≡◌ {A = Read A} (Err f) (Err g) → f ≡ g
err_is f g e = cc

pub ok_no_err : {A : Type 0} (x : A × List Lexeme) (f : SyntaxFault) → ◌≡◌ {A = Read A} (Ok x) (Err f) → ⊥
ok_no_err x f e = cc

pub err_no_ok : {A : Type 0} (f : SyntaxFault) (x : A × List Lexeme) → ◌≡◌ {A = Read A} (Err f) (Ok x) → ⊥
err_no_ok f x e = cc

-- where a token may stand before, none need be known
pub stable_wider : {A : Type 0} {before : Option Lexeme} {R : Reader A} → Stable R → StableAfter before R
stable_wider {A = A} {before = before} {R = R} s = record { goes = λ ts a rest e. s.goes ts a rest e; stops = λ ts f e. wider ts f (s.stops ts f e) }
  where
    wider : (ts : List Lexeme) (f : SyntaxFault) → (StopsAt R ts f ⊎ NoEnd ts) ⊎ StopsBefore None R f → (StopsAt R ts f ⊎ NoEnd ts) ⊎ StopsBefore before R f
    wider ts f (inl q) = inl q
    wider ts f (inr q) = absurd q

-- ---- one after the other

module _ {A B : Type 0} (R : Reader A) (S : A → Reader B) where
  through : (ts us : List Lexeme) (x : A × List Lexeme) (y : Read B) → ts ≡ us → R us ≡ Ok x → S x.0 x.1 ≡ y → (R ts >>= S) ≡ y
  through ts us x y same read then = rw (same, read) then

  both_pass : (ts : List Lexeme) (x : A × List Lexeme) (b : B) (rest : List Lexeme) → Passed R ts x.0 x.1 → Passed (S x.0) x.1 b rest → Passed (λ ts. R ts >>= S) ts b rest
  both_pass ts x b rest p q =
      record {
        used = p.used ++ q.used;
        front = p.front ∙ ap (λ (m : List Lexeme). p.used ++ m) q.front ∙ sym (append_assoc p.used q.used rest);
        quiet = no_end_append p.used q.used p.quiet q.quiet;
        again = λ more h.
            let head : SameHead x.1 (q.used ++ more) = subst (λ (m : List Lexeme). SameHead m (q.used ++ more)) (sym q.front) (same_head_append q.used rest more h) in
            through ((p.used ++ q.used) ++ more) (p.used ++ (q.used ++ more)) (x.0, q.used ++ more) (Ok (b, more)) (append_assoc p.used q.used more) (p.again (q.used ++ more) head) (q.again more h);
      }

  second_stops : (ts : List Lexeme) (x : A × List Lexeme) (f : SyntaxFault) → Passed R ts x.0 x.1 → StopsAt (S x.0) x.1 f ⊎ NoEnd x.1 → StopsAt (λ ts. R ts >>= S) ts f ⊎ NoEnd ts
  second_stops ts x f p (inl q) =
      inl (record {
        used = p.used ++ q.used;
        token = q.token;
        rest = q.rest;
        front = p.front ∙ ap (λ (m : List Lexeme). p.used ++ m) q.front ∙ sym (append_assoc p.used q.used (q.token ∷ q.rest));
        names = q.names;
        again = λ more.
            let head : SameHead x.1 (q.used ++ q.token ∷ more) = subst (λ (m : List Lexeme). SameHead m (q.used ++ q.token ∷ more)) (sym q.front) (same_head_append q.used (q.token ∷ q.rest) (q.token ∷ more) (more, refl)) in
            through ((p.used ++ q.used) ++ q.token ∷ more) (p.used ++ (q.used ++ q.token ∷ more)) (x.0, q.used ++ q.token ∷ more) (Err f) (append_assoc p.used q.used (q.token ∷ more)) (p.again (q.used ++ q.token ∷ more) head) (q.again more);
      })
  second_stops ts x f p (inr q) = inr (subst NoEnd (sym p.front) (no_end_append p.used x.1 p.quiet q))

  first_stops : (before : Option Lexeme) (ts : List Lexeme) (f : SyntaxFault) → (StopsAt R ts f ⊎ NoEnd ts) ⊎ StopsBefore before R f → (StopsAt (λ ts. R ts >>= S) ts f ⊎ NoEnd ts) ⊎ StopsBefore before (λ ts. R ts >>= S) f
  first_stops before ts f (inl (inl q)) = inl (inl (record {
    used = q.used;
    token = q.token;
    rest = q.rest;
    front = q.front;
    names = q.names;
    again = λ more. let read = q.again more in rw read refl;
  }))
  first_stops before ts f (inl (inr q)) = inl (inr q)
  first_stops None ts f (inr q) = absurd q
  first_stops (Some t) ts f (inr q) = inr (q.0, λ more. let read = q.1 more in rw read refl)

module _ {A B : Type 0} {R : Reader A} {S : A → Reader B} {before : Option Lexeme} (first : StableAfter before R) (second : (a : A) → Stable (S a)) where
  joined_goes : (r : Read A) (ts : List Lexeme) (b : B) (rest : List Lexeme) → R ts ≡ r → (r >>= S) ≡ Ok (b, rest) → Passed (λ ts. R ts >>= S) ts b rest
  joined_goes (Ok x) ts b rest read e = both_pass R S ts x b rest (first.goes ts x.0 x.1 read) ((second x.0).goes x.1 b rest e)
  joined_goes (Err f) ts b rest read e = absurd (err_no_ok f (b, rest) e)

  behind : (ts : List Lexeme) (x : A × List Lexeme) (f : SyntaxFault) → Passed R ts x.0 x.1 → (StopsAt (S x.0) x.1 f ⊎ NoEnd x.1) ⊎ StopsBefore None (S x.0) f → (StopsAt (λ ts. R ts >>= S) ts f ⊎ NoEnd ts) ⊎ StopsBefore before (λ ts. R ts >>= S) f
  behind ts x f p (inl q) = inl (second_stops R S ts x f p q)
  behind ts x f p (inr q) = absurd q

  joined_stops : (r : Read A) (ts : List Lexeme) (f : SyntaxFault) → R ts ≡ r → (r >>= S) ≡ Err f → (StopsAt (λ ts. R ts >>= S) ts f ⊎ NoEnd ts) ⊎ StopsBefore before (λ ts. R ts >>= S) f
  joined_stops (Ok x) ts f read e = behind ts x f (first.goes ts x.0 x.1 read) ((second x.0).stops x.1 f e)
  joined_stops (Err g) ts f read e = first_stops R S before ts f (first.stops ts f (read ∙ ap (λ (h : SyntaxFault). Err h) (err_is g f e)))

  pub stable_then : StableAfter before (λ ts. R ts >>= S)
  stable_then = record { goes = λ ts b rest e. joined_goes (R ts) ts b rest refl e; stops = λ ts f e. joined_stops (R ts) ts f refl e }

-- ---- single forms

pub stable_gives : {A : Type 0} (a : A) → Stable (λ ts. Ok (a, ts))
stable_gives {A = A} a = record {
  goes = λ ts b rest e.
      let p = ok_value a b ts rest e in
      record { used = []; front = sym p.1; quiet = tt; again = λ more h. ap (λ (x : A). Ok (x, more)) (sym p.0) };
  stops = λ ts f e. absurd (ok_no_err (a, ts) f e);
}

pub stable_same : {A : Type 0} {before : Option Lexeme} {R S : Reader A} → ((ts : List Lexeme) → R ts ≡ S ts) → StableAfter before S → StableAfter before R
stable_same {A = A} {before = before} {R = R} {S = S} same s = record {
  goes = λ ts a rest e.
      let p = s.goes ts a rest (sym (same ts) ∙ e) in
      record { used = p.used; front = p.front; quiet = p.quiet; again = λ more h. same (p.used ++ more) ∙ p.again more h };
  stops = λ ts f e. turned before ts f (s.stops ts f (sym (same ts) ∙ e));
}
  where
    turned : (before : Option Lexeme) (ts : List Lexeme) (f : SyntaxFault) → (StopsAt S ts f ⊎ NoEnd ts) ⊎ StopsBefore before S f → (StopsAt R ts f ⊎ NoEnd ts) ⊎ StopsBefore before R f
    turned before ts f (inl (inl q)) = inl (inl (record { used = q.used; token = q.token; rest = q.rest; front = q.front; names = q.names; again = λ more. same (q.used ++ q.token ∷ more) ∙ q.again more }))
    turned before ts f (inl (inr q)) = inl (inr q)
    turned None ts f (inr q) = absurd q
    turned (Some t) ts f (inr q) = inr (q.0, λ more. same more ∙ q.1 more)

-- the first token is refused
pub refused : {A : Type 0} (R : Reader A) (t : Lexeme) (ts : List Lexeme) (f : SyntaxFault) → Names f t.number → ((more : List Lexeme) → R (t ∷ more) ≡ Err f) → StopsAt R (t ∷ ts) f
refused R t ts f names again = record { used = []; token = t; rest = ts; front = refl; names = names; again = again }

pub stable_unexpected : {A : Type 0} → Stable {A = A} unexpected
unfolding unexpected first_number
stable_unexpected {A = A} = record { goes = λ ts a rest e. absurd (err_no_ok (faults.Unexpected (first_number ts)) (a, rest) e); stops = stops }
  where
    stops : (ts : List Lexeme) (f : SyntaxFault) → ◌≡◌ {A = Read A} (unexpected ts) (Err f) → (StopsAt {A = A} unexpected ts f ⊎ NoEnd ts) ⊎ ⊥
    stops [] f e = inl (inr tt)
    stops (t ∷ ts) f e =
        subst (λ (g : SyntaxFault). (StopsAt {A = A} unexpected (t ∷ ts) g ⊎ NoEnd (t ∷ ts)) ⊎ ⊥) (err_is (faults.Unexpected t.number) f e)
        (inl (inl (refused {A = A} unexpected t ts (faults.Unexpected t.number) refl (λ more. refl))))

-- no level is left for what stands behind a token
pub stable_deep : {A : Type 0} (t : Lexeme) → StableAfter {A = A} (Some t) (λ ts. Err (faults.TooDeep t.number))
stable_deep {A = A} t = record {
  goes = λ ts a rest e. absurd (err_no_ok (faults.TooDeep t.number) (a, rest) e);
  stops = λ ts f e.
      subst (λ (g : SyntaxFault). (StopsAt {A = A} (λ ts. Err (faults.TooDeep t.number)) ts g ⊎ NoEnd ts) ⊎ StopsBefore {A = A} (Some t) (λ ts. Err (faults.TooDeep t.number)) g)
      (err_is (faults.TooDeep t.number) f e) (inr (refl, λ more. refl));
}

-- ---- tokens

pub not_end : (class : Class) → Apart (class ∷ []) (classes.Finish ∷ []) → (t : Lexeme) → same_class t.class class ≡ true → same_class t.class classes.Finish ≡ false
unfolding starts
not_end class other t is = starts_going classes.Finish (t ∷ []) ∙ going_apart (class ∷ []) (classes.Finish ∷ []) other (t ∷ []) (same_going class t [] is)

pub stable_token : (class : Class) → Apart (class ∷ []) (classes.Finish ∷ []) → Stable (expect class)
unfolding expect
stable_token class other = record { goes = goes; stops = stops }
  where
    taken : (b : Bool) (t : Lexeme) (ts : List Lexeme) (a : Lexeme) (rest : List Lexeme) → same_class t.class class ≡ b
        → ◌≡◌ {A = Read Lexeme} (cond b (Ok (t, ts)) (Err (faults.Unexpected t.number))) (Ok (a, rest)) → Passed (expect class) (t ∷ ts) a rest
    taken true t ts a rest is e =
        let p = ok_value t a ts rest e in
        record { used = t ∷ []; front = ap (λ (r : List Lexeme). t ∷ r) (sym p.1); quiet = (not_end class other t is, tt); again = λ more h. rw (is, p.0) refl }
    taken false t ts a rest is e = absurd (err_no_ok (faults.Unexpected t.number) (a, rest) e)

    goes : (ts : List Lexeme) (a : Lexeme) (rest : List Lexeme) → expect class ts ≡ Ok (a, rest) → Passed (expect class) ts a rest
    goes [] a rest e = absurd (err_no_ok (faults.Unexpected 0) (a, rest) e)
    goes (t ∷ ts) a rest e = taken (same_class t.class class) t ts a rest refl e

    left : (b : Bool) (t : Lexeme) (ts : List Lexeme) (f : SyntaxFault) → same_class t.class class ≡ b
        → ◌≡◌ {A = Read Lexeme} (cond b (Ok (t, ts)) (Err (faults.Unexpected t.number))) (Err f) → StopsAt (expect class) (t ∷ ts) f
    left true t ts f is e = absurd (ok_no_err (t, ts) f e)
    left false t ts f is e =
        subst (λ (g : SyntaxFault). StopsAt (expect class) (t ∷ ts) g) (err_is {A = Lexeme} (faults.Unexpected t.number) f e)
        (refused (expect class) t ts (faults.Unexpected t.number) refl (λ more. rw is refl))

    stops : (ts : List Lexeme) (f : SyntaxFault) → expect class ts ≡ Err f → (StopsAt (expect class) ts f ⊎ NoEnd ts) ⊎ ⊥
    stops [] f e = inl (inr tt)
    stops (t ∷ ts) f e = inl (inl (left (same_class t.class class) t ts f refl e))

-- a token, and what stands behind it
module _ {B : Type 0} (class : Class) (other : Apart (class ∷ []) (classes.Finish ∷ [])) {S : Lexeme → Reader B} (second : (t : Lexeme) → StableAfter (Some t) (S t)) where
  after_token : (b : Bool) (t : Lexeme) (ts : List Lexeme) → same_class t.class class ≡ b → (expect class (t ∷ ts) >>= S) ≡ cond b (S t ts) (Err (faults.Unexpected t.number))
  unfolding expect
  after_token true t ts is = rw is refl
  after_token false t ts is = rw is refl

  one_token : (t : Lexeme) (ts : List Lexeme) → same_class t.class class ≡ true → Passed (expect class) (t ∷ ts) t ts
  unfolding expect
  one_token t ts is = record { used = t ∷ []; front = refl; quiet = (not_end class other t is, tt); again = λ more h. rw is refl }

  token_goes : (b : Bool) (t : Lexeme) (ts : List Lexeme) (a : B) (rest : List Lexeme) → same_class t.class class ≡ b → cond b (S t ts) (Err (faults.Unexpected t.number)) ≡ Ok (a, rest) → Passed (λ ts. expect class ts >>= S) (t ∷ ts) a rest
  token_goes true t ts a rest is e = both_pass (expect class) S (t ∷ ts) (t, ts) a rest (one_token t ts is) ((second t).goes ts a rest e)
  token_goes false t ts a rest is e = absurd (err_no_ok (faults.Unexpected t.number) (a, rest) e)

  opened : (t : Lexeme) (ts : List Lexeme) (f : SyntaxFault) → same_class t.class class ≡ true → (StopsAt (S t) ts f ⊎ NoEnd ts) ⊎ StopsBefore (Some t) (S t) f → StopsAt (λ ts. expect class ts >>= S) (t ∷ ts) f ⊎ NoEnd (t ∷ ts)
  opened t ts f is (inl q) = second_stops (expect class) S (t ∷ ts) (t, ts) f (one_token t ts is) q
  opened t ts f is (inr q) = inl (refused (λ ts. expect class ts >>= S) t ts f q.0 (λ more. after_token true t more is ∙ q.1 more))

  token_stops : (b : Bool) (t : Lexeme) (ts : List Lexeme) (f : SyntaxFault) → same_class t.class class ≡ b → cond b (S t ts) (Err (faults.Unexpected t.number)) ≡ Err f → StopsAt (λ ts. expect class ts >>= S) (t ∷ ts) f ⊎ NoEnd (t ∷ ts)
  token_stops true t ts f is e = opened t ts f is ((second t).stops ts f e)
  token_stops false t ts f is e =
      subst (λ (g : SyntaxFault). StopsAt (λ ts. expect class ts >>= S) (t ∷ ts) g ⊎ NoEnd (t ∷ ts)) (err_is {A = B} (faults.Unexpected t.number) f e)
      (inl (refused (λ ts. expect class ts >>= S) t ts (faults.Unexpected t.number) refl (λ more. after_token false t more is)))

  pub stable_behind : Stable (λ ts. expect class ts >>= S)
  unfolding expect
  stable_behind = record { goes = goes; stops = stops }
    where
      goes : (ts : List Lexeme) (a : B) (rest : List Lexeme) → (expect class ts >>= S) ≡ Ok (a, rest) → Passed (λ ts. expect class ts >>= S) ts a rest
      goes [] a rest e = absurd (err_no_ok (faults.Unexpected 0) (a, rest) e)
      goes (t ∷ ts) a rest e = token_goes (same_class t.class class) t ts a rest refl (sym (after_token (same_class t.class class) t ts refl) ∙ e)

      stops : (ts : List Lexeme) (f : SyntaxFault) → (expect class ts >>= S) ≡ Err f → (StopsAt (λ ts. expect class ts >>= S) ts f ⊎ NoEnd ts) ⊎ ⊥
      stops [] f e = inl (inr tt)
      stops (t ∷ ts) f e = inl (token_stops (same_class t.class class) t ts f refl (sym (after_token (same_class t.class class) t ts refl) ∙ e))

-- ---- one of two

-- tests of the first token alone
pub record OfHead (test : List Lexeme → Bool) : Type 0 where
  pub same : (ts more : List Lexeme) → SameHead ts more → test ts ≡ test more

pub starts_of_head : (class : Class) → OfHead (starts class)
unfolding starts
starts_of_head class = record { same = at }
  where
    at : (ts more : List Lexeme) → SameHead ts more → starts class ts ≡ starts class more
    at [] more h = rw h refl
    at (t ∷ ts) more h = rw h.1 refl

pub not_of_head : {test : List Lexeme → Bool} → OfHead test → OfHead (λ ts. not (test ts))
not_of_head h = record { same = λ ts more e. ap not (h.same ts more e) }

pub or_tests_of_head : {p q : List Lexeme → Bool} → OfHead p → OfHead q → OfHead (λ ts. p ts || q ts)
or_tests_of_head h k = record { same = λ ts more e. let a = h.same ts more e in let b = k.same ts more e in rw (a, b) refl }

-- the tokens that led here, and others that begin as they do
pub head_passed : (ts used rest more : List Lexeme) → ts ≡ used ++ rest → SameHead rest more → SameHead ts (used ++ more)
head_passed ts used rest more front h = subst (λ (m : List Lexeme). SameHead m (used ++ more)) (sym front) (same_head_append used rest more h)

module _ {A : Type 0} {R S : Reader A} {test : List Lexeme → Bool} (head : OfHead test) (r : Stable R) (s : Stable S) where
  either_goes : (b : Bool) (ts : List Lexeme) (a : A) (rest : List Lexeme) → test ts ≡ b → cond b (R ts) (S ts) ≡ Ok (a, rest) → Passed (λ ts. cond (test ts) (R ts) (S ts)) ts a rest
  either_goes true ts a rest is e =
      let p = r.goes ts a rest e in
      record {
        used = p.used;
        front = p.front;
        quiet = p.quiet;
        again = λ more h.
            let on : test (p.used ++ more) ≡ true = sym (head.same ts (p.used ++ more) (head_passed ts p.used rest more p.front h)) ∙ is in
            rw on (p.again more h);
      }
  either_goes false ts a rest is e =
      let p = s.goes ts a rest e in
      record {
        used = p.used;
        front = p.front;
        quiet = p.quiet;
        again = λ more h.
            let on : test (p.used ++ more) ≡ false = sym (head.same ts (p.used ++ more) (head_passed ts p.used rest more p.front h)) ∙ is in
            rw on (p.again more h);
      }

  first_stopped : (ts : List Lexeme) (f : SyntaxFault) → test ts ≡ true → (StopsAt R ts f ⊎ NoEnd ts) ⊎ ⊥ → (StopsAt (λ ts. cond (test ts) (R ts) (S ts)) ts f ⊎ NoEnd ts) ⊎ ⊥
  first_stopped ts f is (inl (inl q)) =
      inl (inl (record {
        used = q.used;
        token = q.token;
        rest = q.rest;
        front = q.front;
        names = q.names;
        again = λ more.
            let on : test (q.used ++ q.token ∷ more) ≡ true = sym (head.same ts (q.used ++ q.token ∷ more) (head_passed ts q.used (q.token ∷ q.rest) (q.token ∷ more) q.front (more, refl))) ∙ is in
            rw on (q.again more);
      }))
  first_stopped ts f is (inl (inr q)) = inl (inr q)
  first_stopped ts f is (inr q) = absurd q

  other_stopped : (ts : List Lexeme) (f : SyntaxFault) → test ts ≡ false → (StopsAt S ts f ⊎ NoEnd ts) ⊎ ⊥ → (StopsAt (λ ts. cond (test ts) (R ts) (S ts)) ts f ⊎ NoEnd ts) ⊎ ⊥
  other_stopped ts f is (inl (inl q)) =
      inl (inl (record {
        used = q.used;
        token = q.token;
        rest = q.rest;
        front = q.front;
        names = q.names;
        again = λ more.
            let on : test (q.used ++ q.token ∷ more) ≡ false = sym (head.same ts (q.used ++ q.token ∷ more) (head_passed ts q.used (q.token ∷ q.rest) (q.token ∷ more) q.front (more, refl))) ∙ is in
            rw on (q.again more);
      }))
  other_stopped ts f is (inl (inr q)) = inl (inr q)
  other_stopped ts f is (inr q) = absurd q

  either_stops : (b : Bool) (ts : List Lexeme) (f : SyntaxFault) → test ts ≡ b → cond b (R ts) (S ts) ≡ Err f → (StopsAt (λ ts. cond (test ts) (R ts) (S ts)) ts f ⊎ NoEnd ts) ⊎ ⊥
  either_stops true ts f is e = first_stopped ts f is (r.stops ts f e)
  either_stops false ts f is e = other_stopped ts f is (s.stops ts f e)

  pub stable_if : Stable (λ ts. cond (test ts) (R ts) (S ts))
  stable_if = record { goes = λ ts a rest e. either_goes (test ts) ts a rest refl e; stops = λ ts f e. either_stops (test ts) ts f refl e }

-- a reader that is told its first token before it reads it
module _ {A : Type 0} (R : Reader A) (F : Lexeme → List Lexeme → Read A) (empty : R [] ≡ Err (faults.Unexpected 0)) (same : (t : Lexeme) (ts : List Lexeme) → R (t ∷ ts) ≡ F t (t ∷ ts)) (each : (t : Lexeme) → Stable (F t)) where
  told : (t : Lexeme) (ts us : List Lexeme) → SameHead (t ∷ ts) us → R us ≡ F t us
  told t ts us h = ap R h.1 ∙ same t h.0 ∙ ap (F t) (sym h.1)

  told_goes : (ts : List Lexeme) (a : A) (rest : List Lexeme) → R ts ≡ Ok (a, rest) → Passed R ts a rest
  told_goes [] a rest e = absurd (err_no_ok (faults.Unexpected 0) (a, rest) (sym empty ∙ e))
  told_goes (t ∷ ts) a rest e =
      let p = (each t).goes (t ∷ ts) a rest (sym (same t ts) ∙ e) in
      record { used = p.used; front = p.front; quiet = p.quiet; again = λ more h. told t ts (p.used ++ more) (head_passed (t ∷ ts) p.used rest more p.front h) ∙ p.again more h }

  told_stop : (t : Lexeme) (ts : List Lexeme) (f : SyntaxFault) → (StopsAt (F t) (t ∷ ts) f ⊎ NoEnd (t ∷ ts)) ⊎ ⊥ → (StopsAt R (t ∷ ts) f ⊎ NoEnd (t ∷ ts)) ⊎ ⊥
  told_stop t ts f (inl (inl q)) =
      inl (inl (record {
        used = q.used;
        token = q.token;
        rest = q.rest;
        front = q.front;
        names = q.names;
        again = λ more.
            told t ts (q.used ++ q.token ∷ more) (head_passed (t ∷ ts) q.used (q.token ∷ q.rest) (q.token ∷ more) q.front (more, refl)) ∙ q.again more;
      }))
  told_stop t ts f (inl (inr q)) = inl (inr q)
  told_stop t ts f (inr q) = absurd q

  told_stops : (ts : List Lexeme) (f : SyntaxFault) → R ts ≡ Err f → (StopsAt R ts f ⊎ NoEnd ts) ⊎ ⊥
  told_stops [] f e = inl (inr tt)
  told_stops (t ∷ ts) f e = told_stop t ts f ((each t).stops (t ∷ ts) f (sym (same t ts) ∙ e))

  pub stable_told : Stable R
  stable_told = record { goes = told_goes; stops = told_stops }
