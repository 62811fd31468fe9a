-- What no operator follows: one lemma for each form.
use Rattle.std.proofs.Common.{◌≡◌, ℕ, zero, suc, Bool, true, false, cond, not, List, [], ◌∷◌, length, Ok, Err, refl, sym, ap}
use Rattle.spectra_exprs.specs.declared.fault.SyntaxFault.{SyntaxFault}
use Rattle.spectra_exprs.specs.declared.fault.SyntaxFault.TheVariants as faults
use Rattle.spectra_trees.specs.Lexemes.{Lexeme}
use Rattle.spectra_exprs.specs.Read.{Read, Reader, ◌>>=◌, grow, all_of}
use Rattle.spectra_exprs.specs.Operators.{is_operator}
use Rattle.spectra_exprs.specs.OperatorReaders.{closed}
use Rattle.spectra_exprs.proofs.Soundness.{ok_value}
use Rattle.spectra_exprs.proofs.Stopping.{err_is, ok_no_err, err_no_ok}
use Rattle.spectra_exprs.proofs.Awaiting.{quiet, anywhere, Cut, AwaitsAt, Awaits, Closes}

-- ---- what no operator follows

pub awaits_close : {A : Type 0} {test : List Lexeme → Bool} {b : Bool} (a : A) → Awaits test b (closed a)
unfolding closed
awaits_close {A = A} {test = test} {b = b} a = record { goes = goes; stops = stops }
  where
    taken : (c : Bool) (f : SyntaxFault) (t : Lexeme) (ts : List Lexeme) (x : A) (rest : List Lexeme) → ◌≡◌ {A = Read A} (cond c (Err f) (Ok (a, t ∷ ts))) (Ok (x, rest)) → Cut (t ∷ ts) rest
    taken true f t ts x rest e = absurd (err_no_ok f (x, rest) e)
    taken false f t ts x rest e = record { used = []; front = sym (ok_value a x (t ∷ ts) rest e).1 }

    goes : (ts : List Lexeme) (x : A) (rest : List Lexeme) → closed a ts ≡ Ok (x, rest) → Cut ts rest
    goes [] x rest e = record { used = []; front = sym (ok_value a x [] rest e).1 }
    goes (t ∷ ts) x rest e = taken (is_operator t.class) (faults.Parentheses t.number) t ts x rest e

    other : (k at : ℕ) → ◌≡◌ {A = SyntaxFault} (faults.Parentheses k) (faults.Unexpected at) → ⊥
    other k at e = cc

    never : (c : Bool) (k at : ℕ) (t : Lexeme) (ts : List Lexeme) → ◌≡◌ {A = Read A} (cond c (Err (faults.Parentheses k)) (Ok (a, t ∷ ts))) (Err (faults.Unexpected at)) → ⊥
    never true k at t ts e = other k at (err_is {A = A} (faults.Parentheses k) (faults.Unexpected at) e)
    never false k at t ts e = ok_no_err (a, t ∷ ts) (faults.Unexpected at) e

    stops : (ts : List Lexeme) (at : ℕ) → test ts ≡ true → closed a ts ≡ Err (faults.Unexpected at) → AwaitsAt b ts at
    stops [] at on e = absurd (ok_no_err (a, []) (faults.Unexpected at) e)
    stops (t ∷ ts) at on e = absurd (never (is_operator t.class) t.number at t ts e)

pub closes_close : {A : Type 0} {test : List Lexeme → Bool} (a : A) → Closes test (closed a)
unfolding closed
closes_close {A = A} a = record { closes = λ ts x rest on e. at ts x rest e }
  where
    by : (c : Bool) (f : SyntaxFault) (t : Lexeme) (ts : List Lexeme) (x : A) (rest : List Lexeme) → is_operator t.class ≡ c → ◌≡◌ {A = Read A} (cond c (Err f) (Ok (a, t ∷ ts))) (Ok (x, rest)) → quiet rest ≡ true
    by true f t ts x rest is e = absurd (err_no_ok f (x, rest) e)
    by false f t ts x rest is e = rw (ok_value a x (t ∷ ts) rest e).1 (ap not is)

    at : (ts : List Lexeme) (x : A) (rest : List Lexeme) → closed a ts ≡ Ok (x, rest) → quiet rest ≡ true
    at [] x rest e = rw (ok_value a x [] rest e).1 refl
    at (t ∷ ts) x rest e = by (is_operator t.class) (faults.Parentheses t.number) t ts x rest refl e

pub closes_then : {A B : Type 0} {test : List Lexeme → Bool} (R : Reader A) {S : A → Reader B} → ((a : A) → Closes anywhere (S a)) → Closes test (λ ts. R ts >>= S)
closes_then {A = A} {B = B} R {S = S} second = record { closes = λ ts b rest on e. at (R ts) b rest e }
  where
    at : (r : Read A) (b : B) (rest : List Lexeme) → (r >>= S) ≡ Ok (b, rest) → quiet rest ≡ true
    at (Ok x) b rest e = (second x.0).closes x.1 b rest refl e
    at (Err f) b rest e = absurd (err_no_ok f (b, rest) e)

pub closes_map : {A B : Type 0} {test : List Lexeme → Bool} {R : Reader A} (f : A → B) → Closes test R → Closes test (λ ts. R ts >>= λ a rest. Ok (f a, rest))
closes_map {A = A} {B = B} {test = test} {R = R} f c = record { closes = λ ts b rest on e. at (R ts) ts b rest on refl e }
  where
    at : (r : Read A) (ts : List Lexeme) (b : B) (rest : List Lexeme) → test ts ≡ true → R ts ≡ r → (r >>= λ a rest. Ok (f a, rest)) ≡ Ok (b, rest) → quiet rest ≡ true
    at (Ok x) ts b rest on read e = rw (ok_value (f x.0) b x.1 rest e).1 (c.closes ts x.0 x.1 on read)
    at (Err g) ts b rest on read e = absurd (err_no_ok g (b, rest) e)

-- step after step, each of which no operator follows
module _ {A : Type 0} (test : List Lexeme → Bool) {R : A → Reader A} (each : (a : A) → Closes anywhere (R a)) where
  module _ (n : ℕ) (further : (a : A) (ts : List Lexeme) (b : A) (rest : List Lexeme) → quiet ts ≡ true → grow test R n a ts ≡ Ok (b, rest) → quiet rest ≡ true) where
    step_closes : (r : Read A) (a : A) (ts : List Lexeme) (b : A) (rest : List Lexeme) → R a ts ≡ r → (r >>= λ b rest. grow test R n b rest) ≡ Ok (b, rest) → quiet rest ≡ true
    step_closes (Ok x) a ts b rest read e = further x.0 x.1 b rest ((each a).closes ts x.0 x.1 refl read) e
    step_closes (Err f) a ts b rest read e = absurd (err_no_ok f (b, rest) e)

    turn_closes : (on : Bool) (a : A) (ts : List Lexeme) (b : A) (rest : List Lexeme) → quiet ts ≡ true → cond on (R a ts >>= λ b rest. grow test R n b rest) (Ok (a, ts)) ≡ Ok (b, rest) → quiet rest ≡ true
    turn_closes true a ts b rest here e = step_closes (R a ts) a ts b rest refl e
    turn_closes false a ts b rest here e = rw (ok_value a b ts rest e).1 here

  turns_close : (n : ℕ) (a : A) (ts : List Lexeme) (b : A) (rest : List Lexeme) → quiet ts ≡ true → grow test R n a ts ≡ Ok (b, rest) → quiet rest ≡ true
  unfolding grow
  turns_close zero a ts b rest here e = rw (ok_value a b ts rest e).1 here
  turns_close (suc n) a ts b rest here e = turn_closes n (turns_close n) (test ts) a ts b rest here e

  pub closes_steps : (a : A) → Closes quiet (λ ts. all_of test R a ts)
  closes_steps a = record { closes = λ ts b rest here e. turns_close (suc (length ts)) a ts b rest here e }

pub closes_deep : {A : Type 0} {test : List Lexeme → Bool} (k : ℕ) → Closes {A = A} test (λ ts. Err (faults.TooDeep k))
closes_deep {A = A} k = record { closes = λ ts a rest on e. absurd (err_no_ok (faults.TooDeep k) (a, rest) e) }
