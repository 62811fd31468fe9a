-- Where reading stops depends on the tokens up to there alone: looks at the first token, and steps.
use Rattle.std.proofs.Common.{◌≡◌, ℕ, zero, suc, ◌<◌, Bool, true, false, cond, List, [], ◌∷◌, ◌++◌, length, Option, Some, None, Result, Ok, Err, ◌⊎◌, inl, inr, refl, sym, ap, subst, ◌∙◌, append_assoc, arith, ◌≤◌, length-append}
use Rattle.std.specs.Option.{option_map_or}
use Rattle.spectra_exprs.specs.declared.fault.SyntaxFault.{SyntaxFault}
use Rattle.spectra_exprs.specs.declared.fault.SyntaxFault.TheVariants as faults
use Rattle.spectra_trees.specs.declared.class.Class.{Class}
use Rattle.spectra_trees.specs.declared.class.Class.TheVariants as classes
use Rattle.spectra_trees.specs.Classes.{same_class}
use Rattle.spectra_trees.specs.Lexemes.{Lexeme}
use Rattle.spectra_exprs.specs.Read.{Read, Reader, ◌>>=◌, unexpected, first_number, expect, grow, all_of}
use Rattle.spectra_exprs.proofs.Soundness.{ok_value}
use Rattle.spectra_exprs.proofs.Loops.{one_turn, no_turn, bad_turn}
use Rattle.spectra_exprs.proofs.Stopping.{SameHead, NoEnd, Names, Passed, StopsAt, StopsBefore, StableAfter, Stable, OfHead, head_passed, no_end_append, err_is, ok_no_err, err_no_ok}

-- ---- a look at the first token

-- the token that a look took; it is enough to find the value, and is the one before what follows where one is to be known
pub record Looked {X : Type 0} (before : X → Option Lexeme) (look : List Lexeme → Option (X × List Lexeme)) (ts : List Lexeme) (x : X) (rest : List Lexeme) : Type 0 where
  pub token : Lexeme
  pub front : ts ≡ token ∷ rest
  pub quiet : same_class token.class classes.Finish ≡ false
  pub again : (more : List Lexeme) → look (token ∷ more) ≡ Some (x, more)
  pub known : (t : Lexeme) → before x ≡ Some t → t ≡ token

-- a look at the first token alone
pub record StableLook {X : Type 0} (before : X → Option Lexeme) (look : List Lexeme → Option (X × List Lexeme)) : Type 0 where
  pub found : (ts : List Lexeme) (x : X) (rest : List Lexeme) → look ts ≡ Some (x, rest) → Looked before look ts x rest
  pub passes : (ts more : List Lexeme) → SameHead ts more → look ts ≡ None → look more ≡ None

module _ {X A : Type 0} {before : X → Option Lexeme} {look : List Lexeme → Option (X × List Lexeme)} {R : X → Reader A} {S : Reader A} (l : StableLook before look) (r : (x : X) → StableAfter (before x) (R x)) (s : Stable S) where
  found_goes : (ts : List Lexeme) (x : X) (rest : List Lexeme) (k : Looked before look ts x rest) (a : A) (behind : List Lexeme) → Passed (R x) rest a behind → Passed (λ ts. option_map_or (λ o. R o.0 o.1) (look ts) (S ts)) ts a behind
  found_goes ts x rest k a behind p =
      record {
        used = k.token ∷ p.used;
        front = k.front ∙ ap (λ (m : List Lexeme). k.token ∷ m) p.front;
        quiet = (k.quiet, p.quiet);
        again = λ more h. let is = k.again (p.used ++ more) in rw is (p.again more h);
      }

  left_goes : (ts : List Lexeme) (a : A) (rest : List Lexeme) → look ts ≡ None → Passed S ts a rest → Passed (λ ts. option_map_or (λ o. R o.0 o.1) (look ts) (S ts)) ts a rest
  left_goes ts a rest is p =
      record {
        used = p.used;
        front = p.front;
        quiet = p.quiet;
        again = λ more h. let out = l.passes ts (p.used ++ more) (head_passed ts p.used rest more p.front h) is in rw out (p.again more h);
      }

  look_goes : (o : Option (X × List Lexeme)) (ts : List Lexeme) (a : A) (rest : List Lexeme) → look ts ≡ o → option_map_or (λ o. R o.0 o.1) o (S ts) ≡ Ok (a, rest) → Passed (λ ts. option_map_or (λ o. R o.0 o.1) (look ts) (S ts)) ts a rest
  look_goes (Some x) ts a rest is e = found_goes ts x.0 x.1 (l.found ts x.0 x.1 is) a rest ((r x.0).goes x.1 a rest e)
  look_goes None ts a rest is e = left_goes ts a rest is (s.goes ts a rest e)

  named_before : (o : Option Lexeme) (ts : List Lexeme) (x : X) (rest : List Lexeme) (k : Looked before look ts x rest) (f : SyntaxFault) → before x ≡ o → StopsBefore o (R x) f → StopsAt (λ ts. option_map_or (λ o. R o.0 o.1) (look ts) (S ts)) ts f
  named_before None ts x rest k f is q = absurd q
  named_before (Some t) ts x rest k f is q =
      record {
        used = [];
        token = k.token;
        rest = rest;
        front = k.front;
        names = subst (λ (u : Lexeme). Names f u.number) (k.known t is) q.0;
        again = λ more. let found = k.again more in rw found (q.1 more);
      }

  found_stops : (ts : List Lexeme) (x : X) (rest : List Lexeme) (k : Looked before look ts x rest) (f : SyntaxFault) → (StopsAt (R x) rest f ⊎ NoEnd rest) ⊎ StopsBefore (before x) (R x) f → (StopsAt (λ ts. option_map_or (λ o. R o.0 o.1) (look ts) (S ts)) ts f ⊎ NoEnd ts) ⊎ ⊥
  found_stops ts x rest k f (inl (inl q)) =
      inl (inl (record {
        used = k.token ∷ q.used;
        token = q.token;
        rest = q.rest;
        front = k.front ∙ ap (λ (m : List Lexeme). k.token ∷ m) q.front;
        names = q.names;
        again = λ more. let is = k.again (q.used ++ q.token ∷ more) in rw is (q.again more);
      }))
  found_stops ts x rest k f (inl (inr q)) = inl (inr (subst NoEnd (sym (k.front)) (k.quiet, q)))
  found_stops ts x rest k f (inr q) = inl (inl (named_before (before x) ts x rest k f refl q))

  left_stops : (ts : List Lexeme) (f : SyntaxFault) → look ts ≡ None → (StopsAt S ts f ⊎ NoEnd ts) ⊎ ⊥ → (StopsAt (λ ts. option_map_or (λ o. R o.0 o.1) (look ts) (S ts)) ts f ⊎ NoEnd ts) ⊎ ⊥
  left_stops ts f is (inl (inl q)) =
      inl (inl (record {
        used = q.used;
        token = q.token;
        rest = q.rest;
        front = q.front;
        names = q.names;
        again = λ more. let out = l.passes ts (q.used ++ q.token ∷ more) (head_passed ts q.used (q.token ∷ q.rest) (q.token ∷ more) q.front (more, refl)) is in rw out (q.again more);
      }))
  left_stops ts f is (inl (inr q)) = inl (inr q)
  left_stops ts f is (inr q) = absurd q

  look_stops : (o : Option (X × List Lexeme)) (ts : List Lexeme) (f : SyntaxFault) → look ts ≡ o → option_map_or (λ o. R o.0 o.1) o (S ts) ≡ Err f → (StopsAt (λ ts. option_map_or (λ o. R o.0 o.1) (look ts) (S ts)) ts f ⊎ NoEnd ts) ⊎ ⊥
  look_stops (Some x) ts f is e = found_stops ts x.0 x.1 (l.found ts x.0 x.1 is) f ((r x.0).stops x.1 f e)
  look_stops None ts f is e = left_stops ts f is (s.stops ts f e)

  pub stable_look : Stable (λ ts. option_map_or (λ o. R o.0 o.1) (look ts) (S ts))
  stable_look = record { goes = λ ts a rest e. look_goes (look ts) ts a rest refl e; stops = λ ts f e. look_stops (look ts) ts f refl e }

-- ---- what uses a token

pub no_longer : {A : Type 0} {before : Option Lexeme} {R : Reader A} → StableAfter before R → (ts : List Lexeme) (a : A) (rest : List Lexeme) → R ts ≡ Ok (a, rest) → length rest ≤ length ts
no_longer s ts a rest e = let p = s.goes ts a rest e in omega (arith, ap length p.front, length-append p.used rest)

-- reading uses a token at least
pub record Uses {A : Type 0} (R : List Lexeme → Result (A × List Lexeme) SyntaxFault) : Type 0 where
  pub shorter : (ts : List Lexeme) (a : A) (rest : List Lexeme) → R ts ≡ Ok (a, rest) → length rest < length ts

pub uses_token : (class : Class) → Uses (expect class)
unfolding expect
uses_token class = record { shorter = at }
  where
    by : (b : Bool) (t : Lexeme) (ts : List Lexeme) (a : Lexeme) (rest : List Lexeme) → ◌≡◌ {A = Read Lexeme} (cond b (Ok (t, ts)) (Err (faults.Unexpected t.number))) (Ok (a, rest)) → length rest < length (t ∷ ts)
    by true t ts a rest e = let p = ok_value t a ts rest e in omega (arith, ap length p.1)
    by false t ts a rest e = absurd (err_no_ok (faults.Unexpected t.number) (a, rest) e)

    at : (ts : List Lexeme) (a : Lexeme) (rest : List Lexeme) → expect class ts ≡ Ok (a, rest) → length rest < length ts
    at [] a rest e = absurd (err_no_ok (faults.Unexpected 0) (a, rest) e)
    at (t ∷ ts) a rest e = by (same_class t.class class) t ts a rest e

-- the same, where what follows knows the token before it
pub uses_before : {A B : Type 0} {R : Reader A} {S : A → Reader B} (before : A → Option Lexeme) → Uses R → ((a : A) → StableAfter (before a) (S a)) → Uses (λ ts. R ts >>= S)
uses_before {A = A} {B = B} {R = R} {S = S} before u second = record { shorter = λ ts b rest e. at (R ts) ts b rest refl e }
  where
    at : (r : Read A) (ts : List Lexeme) (b : B) (rest : List Lexeme) → R ts ≡ r → (r >>= S) ≡ Ok (b, rest) → length rest < length ts
    at (Ok x) ts b rest read e = omega (arith, u.shorter ts x.0 x.1 read, no_longer (second x.0) x.1 b rest e)
    at (Err f) ts b rest read e = absurd (err_no_ok f (b, rest) e)

pub uses_then : {A B : Type 0} {R : Reader A} {S : A → Reader B} → Uses R → ((a : A) → Stable (S a)) → Uses (λ ts. R ts >>= S)
uses_then {A = A} u second = uses_before (λ (a : A). None) u second

pub uses_same : {A : Type 0} {R S : Reader A} → ((ts : List Lexeme) → R ts ≡ S ts) → Uses S → Uses R
uses_same same u = record { shorter = λ ts a rest e. u.shorter ts a rest (sym (same ts) ∙ e) }

pub uses_if : {A : Type 0} {R S : Reader A} (test : List Lexeme → Bool) → Uses R → Uses S → Uses (λ ts. cond (test ts) (R ts) (S ts))
uses_if {A = A} {R = R} {S = S} test u v = record { shorter = λ ts a rest e. at (test ts) ts a rest e }
  where
    at : (b : Bool) (ts : List Lexeme) (a : A) (rest : List Lexeme) → cond b (R ts) (S ts) ≡ Ok (a, rest) → length rest < length ts
    at true ts a rest e = u.shorter ts a rest e
    at false ts a rest e = v.shorter ts a rest e

pub uses_unexpected : {A : Type 0} → Uses {A = A} unexpected
unfolding unexpected
uses_unexpected {A = A} = record { shorter = λ ts a rest e. absurd (err_no_ok (faults.Unexpected (first_number ts)) (a, rest) e) }

pub uses_look : {X A : Type 0} {before : X → Option Lexeme} {look : List Lexeme → Option (X × List Lexeme)} {R : X → Reader A} {S : Reader A} → StableLook before look → ((x : X) → StableAfter (before x) (R x)) → Uses S
    → Uses (λ ts. option_map_or (λ o. R o.0 o.1) (look ts) (S ts))
uses_look {X = X} {A = A} {before = before} {look = look} {R = R} {S = S} l r u = record { shorter = λ ts a rest e. at (look ts) ts a rest refl e }
  where
    at : (o : Option (X × List Lexeme)) (ts : List Lexeme) (a : A) (rest : List Lexeme) → look ts ≡ o → option_map_or (λ o. R o.0 o.1) o (S ts) ≡ Ok (a, rest) → length rest < length ts
    at (Some x) ts a rest is e = omega (arith, ap length (l.found ts x.0 x.1 is).front, no_longer (r x.0) x.1 a rest e)
    at None ts a rest is e = u.shorter ts a rest e

-- ---- step after step

module _ {A : Type 0} {test : List Lexeme → Bool} {step : A → Reader A} (head : OfHead test) (eats : (a : A) → Uses (step a)) (each : (a : A) → Stable (step a)) where
  -- with turns enough
  record Grows (a : A) (ts : List Lexeme) (b : A) (rest : List Lexeme) : Type 0 where
    used : List Lexeme
    front : ts ≡ used ++ rest
    quiet : NoEnd used
    again : (more : List Lexeme) (turns : ℕ) → SameHead rest more → length (used ++ more) < turns → grow test step turns a (used ++ more) ≡ Ok (b, more)

  record Stalls (a : A) (ts : List Lexeme) (f : SyntaxFault) : Type 0 where
    used : List Lexeme
    token : Lexeme
    rest : List Lexeme
    front : ts ≡ used ++ token ∷ rest
    names : Names f token.number
    again : (more : List Lexeme) (turns : ℕ) → length (used ++ token ∷ more) < turns → grow test step turns a (used ++ token ∷ more) ≡ Err f

  turn_on : (m : ℕ) (a : A) (us : List Lexeme) (x : A × List Lexeme) (y : Read A) → length us < m → test us ≡ true → step a us ≡ Ok x → ((k : ℕ) → length x.1 < k → grow test step k x.0 x.1 ≡ y) → grow test step m a us ≡ y
  turn_on zero a us x y lt on read further = absurd (omega arith)
  turn_on (suc m) a us x y lt on read further = one_turn test step m a us x.0 x.1 on read ∙ further m (omega (arith, (eats a).shorter us x.0 x.1 read))

  turn_bad : (m : ℕ) (a : A) (us : List Lexeme) (f : SyntaxFault) → length us < m → test us ≡ true → step a us ≡ Err f → grow test step m a us ≡ Err f
  turn_bad zero a us f lt on read = absurd (omega arith)
  turn_bad (suc m) a us f lt on read = bad_turn test step m a us f on read

  still : (a : A) (ts : List Lexeme) (b : A) (rest : List Lexeme) → test ts ≡ false → ◌≡◌ {A = Read A} (Ok (a, ts)) (Ok (b, rest)) → Grows a ts b rest
  still a ts b rest off e =
      let p = ok_value a b ts rest e in
      record {
        used = [];
        front = sym p.1;
        quiet = tt;
        again = λ more turns h lt.
            let out : test more ≡ false = sym (head.same ts more (subst (λ (r : List Lexeme). SameHead r more) p.1 h)) ∙ off in
            no_turn test step turns a more out ∙ ap (λ (x : A). Ok (x, more)) (sym p.0);
      }

  further_grows : (a : A) (ts : List Lexeme) (x : A × List Lexeme) (b : A) (rest : List Lexeme) → test ts ≡ true → Passed (step a) ts x.0 x.1 → Grows x.0 x.1 b rest → Grows a ts b rest
  further_grows a ts x b rest on p q =
      let front : ts ≡ (p.used ++ q.used) ++ rest = p.front ∙ ap (λ (m : List Lexeme). p.used ++ m) q.front ∙ sym (append_assoc p.used q.used rest) in
      record {
        used = p.used ++ q.used;
        front = front;
        quiet = no_end_append p.used q.used p.quiet q.quiet;
        again = λ more turns h lt.
            let inner : SameHead x.1 (q.used ++ more) = head_passed x.1 q.used rest more q.front h in
            let whole : (p.used ++ q.used) ++ more ≡ p.used ++ (q.used ++ more) = append_assoc p.used q.used more in
            let here : test ((p.used ++ q.used) ++ more) ≡ true = sym (head.same ts ((p.used ++ q.used) ++ more) (head_passed ts (p.used ++ q.used) rest more front h)) ∙ on in
            turn_on turns a ((p.used ++ q.used) ++ more) (x.0, q.used ++ more) (Ok (b, more)) lt here (ap (step a) whole ∙ p.again (q.used ++ more) inner) (λ k room. q.again more k h room);
      }

  first_stalls : (a : A) (ts : List Lexeme) (f : SyntaxFault) → test ts ≡ true → (StopsAt (step a) ts f ⊎ NoEnd ts) ⊎ ⊥ → Stalls a ts f ⊎ NoEnd ts
  first_stalls a ts f on (inl (inl q)) =
      inl (record {
        used = q.used;
        token = q.token;
        rest = q.rest;
        front = q.front;
        names = q.names;
        again = λ more turns lt.
            let here : test (q.used ++ q.token ∷ more) ≡ true = sym (head.same ts (q.used ++ q.token ∷ more) (head_passed ts q.used (q.token ∷ q.rest) (q.token ∷ more) q.front (more, refl))) ∙ on in
            turn_bad turns a (q.used ++ q.token ∷ more) f lt here (q.again more);
      })
  first_stalls a ts f on (inl (inr q)) = inr q
  first_stalls a ts f on (inr q) = absurd q

  further_stalls : (a : A) (ts : List Lexeme) (x : A × List Lexeme) (f : SyntaxFault) → test ts ≡ true → Passed (step a) ts x.0 x.1 → Stalls x.0 x.1 f ⊎ NoEnd x.1 → Stalls a ts f ⊎ NoEnd ts
  further_stalls a ts x f on p (inl q) =
      let front : ts ≡ (p.used ++ q.used) ++ q.token ∷ q.rest = p.front ∙ ap (λ (m : List Lexeme). p.used ++ m) q.front ∙ sym (append_assoc p.used q.used (q.token ∷ q.rest)) in
      inl (record {
        used = p.used ++ q.used;
        token = q.token;
        rest = q.rest;
        front = front;
        names = q.names;
        again = λ more turns lt.
            let inner : SameHead x.1 (q.used ++ q.token ∷ more) = head_passed x.1 q.used (q.token ∷ q.rest) (q.token ∷ more) q.front (more, refl) in
            let whole : (p.used ++ q.used) ++ q.token ∷ more ≡ p.used ++ (q.used ++ q.token ∷ more) = append_assoc p.used q.used (q.token ∷ more) in
            let here : test ((p.used ++ q.used) ++ q.token ∷ more) ≡ true = sym (head.same ts ((p.used ++ q.used) ++ q.token ∷ more) (head_passed ts (p.used ++ q.used) (q.token ∷ q.rest) (q.token ∷ more) front (more, refl))) ∙ on in
            turn_on turns a ((p.used ++ q.used) ++ q.token ∷ more) (x.0, q.used ++ q.token ∷ more) (Err f) lt here (ap (step a) whole ∙ p.again (q.used ++ q.token ∷ more) inner) (λ k room. q.again more k room);
      })
  further_stalls a ts x f on p (inr q) = inr (subst NoEnd (sym p.front) (no_end_append p.used x.1 p.quiet q))

  module _ (n : ℕ) (grows : (a : A) (ts : List Lexeme) (b : A) (rest : List Lexeme) → length ts < n → grow test step n a ts ≡ Ok (b, rest) → Grows a ts b rest) (stalls : (a : A) (ts : List Lexeme) (f : SyntaxFault) → length ts < n → grow test step n a ts ≡ Err f → Stalls a ts f ⊎ NoEnd ts) where
    one_grows : (r : Read A) (a : A) (ts : List Lexeme) (b : A) (rest : List Lexeme) → length ts < suc n → test ts ≡ true → step a ts ≡ r → (r >>= λ b rest. grow test step n b rest) ≡ Ok (b, rest) → Grows a ts b rest
    one_grows (Ok x) a ts b rest lt on read e = further_grows a ts x b rest on ((each a).goes ts x.0 x.1 read) (grows x.0 x.1 b rest (omega (arith, (eats a).shorter ts x.0 x.1 read)) e)
    one_grows (Err f) a ts b rest lt on read e = absurd (err_no_ok f (b, rest) e)

    turn_grows : (b : Bool) (a : A) (ts : List Lexeme) (c : A) (rest : List Lexeme) → length ts < suc n → test ts ≡ b → cond b (step a ts >>= λ b rest. grow test step n b rest) (Ok (a, ts)) ≡ Ok (c, rest) → Grows a ts c rest
    turn_grows true a ts c rest lt on e = one_grows (step a ts) a ts c rest lt on refl e
    turn_grows false a ts c rest lt on e = still a ts c rest on e

    one_stalls : (r : Read A) (a : A) (ts : List Lexeme) (f : SyntaxFault) → length ts < suc n → test ts ≡ true → step a ts ≡ r → (r >>= λ b rest. grow test step n b rest) ≡ Err f → Stalls a ts f ⊎ NoEnd ts
    one_stalls (Ok x) a ts f lt on read e = further_stalls a ts x f on ((each a).goes ts x.0 x.1 read) (stalls x.0 x.1 f (omega (arith, (eats a).shorter ts x.0 x.1 read)) e)
    one_stalls (Err g) a ts f lt on read e = first_stalls a ts f on ((each a).stops ts f (read ∙ ap (λ (h : SyntaxFault). Err h) (err_is {A = A} g f e)))

    turn_stalls : (b : Bool) (a : A) (ts : List Lexeme) (f : SyntaxFault) → length ts < suc n → test ts ≡ b → cond b (step a ts >>= λ b rest. grow test step n b rest) (Ok (a, ts)) ≡ Err f → Stalls a ts f ⊎ NoEnd ts
    turn_stalls true a ts f lt on e = one_stalls (step a ts) a ts f lt on refl e
    turn_stalls false a ts f lt on e = absurd (ok_no_err (a, ts) f e)

  mutual
    unfolding grow

    all_grow : (n : ℕ) (a : A) (ts : List Lexeme) (b : A) (rest : List Lexeme) → length ts < n → grow test step n a ts ≡ Ok (b, rest) → Grows a ts b rest
    all_grow zero a ts b rest lt e = absurd (omega arith)
    all_grow (suc n) a ts b rest lt e = turn_grows n (all_grow n) (all_stall n) (test ts) a ts b rest lt refl e

    all_stall : (n : ℕ) (a : A) (ts : List Lexeme) (f : SyntaxFault) → length ts < n → grow test step n a ts ≡ Err f → Stalls a ts f ⊎ NoEnd ts
    all_stall zero a ts f lt e = absurd (omega arith)
    all_stall (suc n) a ts f lt e = turn_stalls n (all_grow n) (all_stall n) (test ts) a ts f lt refl e

  pub stable_steps : (a : A) → Stable (λ ts. all_of test step a ts)
  stable_steps a = record { goes = goes; stops = λ ts f e. stops ts f (all_stall (suc (length ts)) a ts f (omega arith) e) }
    where
      goes : (ts : List Lexeme) (b : A) (rest : List Lexeme) → all_of test step a ts ≡ Ok (b, rest) → Passed (λ ts. all_of test step a ts) ts b rest
      goes ts b rest e =
          let g = all_grow (suc (length ts)) a ts b rest (omega arith) e in
          record { used = g.used; front = g.front; quiet = g.quiet; again = λ more h. g.again more (suc (length (g.used ++ more))) h (omega arith) }

      stops : (ts : List Lexeme) (f : SyntaxFault) → Stalls a ts f ⊎ NoEnd ts → (StopsAt (λ ts. all_of test step a ts) ts f ⊎ NoEnd ts) ⊎ ⊥
      stops ts f (inl q) =
          inl (inl (record { used = q.used; token = q.token; rest = q.rest; front = q.front; names = q.names; again = λ more. q.again more (suc (length (q.used ++ q.token ∷ more))) (omega arith) }))
      stops ts f (inr q) = inl (inr q)
