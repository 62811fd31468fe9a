-- What is read is of the grammar: one lemma for each form.
use Rattle.std.proofs.Common.{◌≡◌, ℕ, zero, suc, Bool, true, false, cond, List, [], ◌∷◌, ◌++◌, length, Option, Some, None, Result, Ok, Err, inl, inr, refl, sym, ap, subst, ◌∙◌, append_assoc, append-nil}
use Rattle.std.specs.Option.{option_map_or}
use Rattle.spectra_exprs.specs.declared.fault.SyntaxFault.{SyntaxFault}
use Rattle.spectra_exprs.specs.declared.fault.SyntaxFault.TheVariants as faults
use Rattle.spectra_trees.specs.declared.class.Class.{Class}
use Rattle.spectra_trees.specs.Classes.{same_class}
use Rattle.spectra_trees.specs.Lexemes.{Lexeme}
use Rattle.spectra_exprs.specs.Read.{Read, Reader, ◌>>=◌, unexpected, first_number, expect, grow, all_of}
use Rattle.spectra_exprs.specs.Forms.{Gives, Token, Then, ◌▸◌, ◌∣◌, Steps}

-- the tokens that were used, and what they are of the grammar
pub record Got {A : Type 0} (P : List Lexeme → A → Type 0) (ts : List Lexeme) (a : A) (rest : List Lexeme) : Type 0 where
  pub used : List Lexeme
  pub front : ts ≡ used ++ rest
  pub derives : P used a

-- whatever is read is of the grammar
pub record Sound {A : Type 0} (P : List Lexeme → A → Type 0) (R : List Lexeme → Result (A × List Lexeme) SyntaxFault) : Type 0 where
  pub got : (ts : List Lexeme) (a : A) (rest : List Lexeme) → R ts ≡ Ok (a, rest) → Got P ts a rest

pub ok_value : {A : Type 0} (a b : A) (r s : List Lexeme) → ◌≡◌ {A = Result (A × List Lexeme) SyntaxFault} (Ok (a, r)) (Ok (b, s)) → (b ≡ a) × (s ≡ r)
ok_value {A = A} a b r s e =
    let pair : ◌≡◌ {A = A × List Lexeme} (a, r) (b, s) = cc in
    (sym (ap (λ (x : A × List Lexeme). x.0) pair), sym (ap (λ (x : A × List Lexeme). x.1) pair))

no_value : {A : Type 0} (f : SyntaxFault) (x : A × List Lexeme) → ◌≡◌ {A = Result (A × List Lexeme) SyntaxFault} (Err f) (Ok x) → ⊥
no_value f x e = cc

pub some_value : {A : Type 0} (a b : A) (r s : List Lexeme) → ◌≡◌ {A = Option (A × List Lexeme)} (Some (a, r)) (Some (b, s)) → (b ≡ a) × (s ≡ r)
some_value {A = A} a b r s e =
    let pair : ◌≡◌ {A = A × List Lexeme} (a, r) (b, s) = cc in
    (sym (ap (λ (x : A × List Lexeme). x.0) pair), sym (ap (λ (x : A × List Lexeme). x.1) pair))

pub no_some : {A : Type 0} (x : A) → ◌≡◌ {A = Option A} None (Some x) → ⊥
no_some x e = cc

pub sound_gives : {A : Type 0} (a : A) → Sound (Gives a) (λ ts. Ok (a, ts))
sound_gives a = record {
  got = λ ts b rest e. let p = ok_value a b ts rest e in record { used = []; front = sym p.1; derives = record { nothing = refl; same = p.0 } };
}

pub sound_fault : {A : Type 0} (P : List Lexeme → A → Type 0) (f : List Lexeme → SyntaxFault) → Sound P (λ ts. Err (f ts))
sound_fault P f = record { got = λ ts a rest e. absurd (no_value (f ts) (a, rest) e) }

-- one token by a test
token_by : (b : Bool) (class : Class) (t : Lexeme) (ts : List Lexeme) (a : Lexeme) (rest : List Lexeme) → same_class t.class class ≡ b
    → ◌≡◌ {A = Read Lexeme} (cond b (Ok (t, ts)) (Err (faults.Unexpected t.number))) (Ok (a, rest)) → Got (Token class) (t ∷ ts) a rest
token_by true class t ts a rest is e =
    let p = ok_value t a ts rest e in
    record { used = t ∷ []; front = ap (λ (r : List Lexeme). t ∷ r) (sym p.1); derives = record { alone = ap (λ (x : Lexeme). x ∷ []) (sym p.0); is = subst (λ (x : Lexeme). same_class x.class class ≡ true) (sym p.0) is } }
token_by false class t ts a rest is e = absurd (no_value (faults.Unexpected t.number) (a, rest) e)

pub sound_token : (class : Class) → Sound (Token class) (expect class)
unfolding expect
sound_token class = record { got = reads }
  where
    reads : (ts : List Lexeme) (a : Lexeme) (rest : List Lexeme) → expect class ts ≡ Ok (a, rest) → Got (Token class) ts a rest
    reads [] a rest e = absurd (no_value (faults.Unexpected 0) (a, rest) e)
    reads (t ∷ ts) a rest e = token_by (same_class t.class class) class t ts a rest refl e

module _ {A B : Type 0} {P : List Lexeme → A → Type 0} {Q : A → List Lexeme → B → Type 0} {R : Reader A} {S : A → Reader B} (first : Sound P R) (second : (a : A) → Sound (Q a) (S a)) where
  joined : (r : Read A) (ts : List Lexeme) (b : B) (rest : List Lexeme) → R ts ≡ r → (r >>= S) ≡ Ok (b, rest) → Got (Then P Q) ts b rest
  joined (Ok x) ts b rest read e =
      let p = first.got ts x.0 x.1 read in
      let q = (second x.0).got x.1 b rest e in
      record {
        used = p.used ++ q.used;
        front = p.front ∙ ap (λ (m : List Lexeme). p.used ++ m) q.front ∙ sym (append_assoc p.used q.used rest);
        derives = record { front = p.used; value = x.0; back = q.used; parts = refl; before = p.derives; after = q.derives };
      }
  joined (Err f) ts b rest read e = absurd (no_value f (b, rest) e)

  pub sound_then : Sound (Then P Q) (λ ts. R ts >>= S)
  sound_then = record { got = λ ts b rest e. joined (R ts) ts b rest refl e }

pub sound_wider : {A : Type 0} (P : List Lexeme → A → Type 0) {Q : List Lexeme → A → Type 0} {R : Reader A} → ((used : List Lexeme) (a : A) → P used a → Q used a) → Sound P R → Sound Q R
sound_wider P wider s = record {
  got = λ ts a rest e. let p = s.got ts a rest e in record { used = p.used; front = p.front; derives = wider p.used a p.derives };
}

pub sound_same : {A : Type 0} {P : List Lexeme → A → Type 0} {R S : Reader A} → ((ts : List Lexeme) → R ts ≡ S ts) → Sound P S → Sound P R
sound_same same s = record { got = λ ts a rest e. s.got ts a rest (sym (same ts) ∙ e) }

pub sound_right : {A : Type 0} {P Q : List Lexeme → A → Type 0} {R : Reader A} → Sound Q R → Sound (P ∣ Q) R
sound_right {Q = Q} s = sound_wider Q (λ used a q. inr q) s

module _ {A : Type 0} {P Q : List Lexeme → A → Type 0} {R S : Reader A} where
  chosen : (b : Bool) (ts : List Lexeme) (a : A) (rest : List Lexeme) → Sound P R → Sound Q S → cond b (R ts) (S ts) ≡ Ok (a, rest) → Got (P ∣ Q) ts a rest
  chosen true ts a rest r s e = let p = r.got ts a rest e in record { used = p.used; front = p.front; derives = inl p.derives }
  chosen false ts a rest r s e = let p = s.got ts a rest e in record { used = p.used; front = p.front; derives = inr p.derives }

  -- either of two, by a test
  pub sound_if : (test : List Lexeme → Bool) → Sound P R → Sound Q S → Sound (P ∣ Q) (λ ts. cond (test ts) (R ts) (S ts))
  sound_if test r s = record { got = λ ts a rest e. chosen (test ts) ts a rest r s e }

-- what a look at the front finds is of the grammar
pub record Looks {X : Type 0} (K : List Lexeme → X → Type 0) (look : List Lexeme → Option (X × List Lexeme)) : Type 0 where
  pub found : (ts : List Lexeme) (x : X) (rest : List Lexeme) → look ts ≡ Some (x, rest) → Got K ts x rest

module _ {X A : Type 0} {K : List Lexeme → X → Type 0} {P : X → List Lexeme → A → Type 0} {Q : List Lexeme → A → Type 0} {look : List Lexeme → Option (X × List Lexeme)} {R : X → Reader A} {S : Reader A} where
  looked : (o : Option (X × List Lexeme)) (ts : List Lexeme) (a : A) (rest : List Lexeme) → Looks K look → ((x : X) → Sound (P x) (R x)) → Sound Q S
      → look ts ≡ o → option_map_or (λ o. R o.0 o.1) o (S ts) ≡ Ok (a, rest) → Got ((K ▸ P) ∣ Q) ts a rest
  looked (Some x) ts a rest k r s is e =
      let p = k.found ts x.0 x.1 is in
      let q = (r x.0).got x.1 a rest e in
      record {
        used = p.used ++ q.used;
        front = p.front ∙ ap (λ (m : List Lexeme). p.used ++ m) q.front ∙ sym (append_assoc p.used q.used rest);
        derives = inl (record { front = p.used; value = x.0; back = q.used; parts = refl; before = p.derives; after = q.derives });
      }
  looked None ts a rest k r s is e = let p = s.got ts a rest e in record { used = p.used; front = p.front; derives = inr p.derives }

  pub sound_look : Looks K look → ((x : X) → Sound (P x) (R x)) → Sound Q S → Sound ((K ▸ P) ∣ Q) (λ ts. option_map_or (λ o. R o.0 o.1) (look ts) (S ts))
  sound_look k r s = record { got = λ ts a rest e. looked (look ts) ts a rest k r s refl e }

module _ {A : Type 0} {step : A → List Lexeme → A → Type 0} (test : List Lexeme → Bool) {R : A → Reader A} (each : (a : A) → Sound (step a) (R a)) where
  still : (a : A) (ts : List Lexeme) (b : A) (rest : List Lexeme) → ◌≡◌ {A = Read A} (Ok (a, ts)) (Ok (b, rest)) → Got (Steps step a) ts b rest
  still a ts b rest e =
      let p = ok_value a b ts rest e in
      record { used = []; front = sym p.1; derives = subst (λ (x : A). Steps step a [] x) (sym p.0) (Steps.done a) }

  module _ (n : ℕ) (further : (a : A) (ts : List Lexeme) (b : A) (rest : List Lexeme) → grow test R n a ts ≡ Ok (b, rest) → Got (Steps step a) ts b rest) where
    one : (r : Read A) (a : A) (ts : List Lexeme) (b : A) (rest : List Lexeme) → R a ts ≡ r → (r >>= λ b rest. grow test R n b rest) ≡ Ok (b, rest) → Got (Steps step a) ts b rest
    one (Ok x) a ts b rest read e =
        let p = (each a).got ts x.0 x.1 read in
        let q = further x.0 x.1 b rest e in
        record {
          used = p.used ++ q.used;
          front = p.front ∙ ap (λ (m : List Lexeme). p.used ++ m) q.front ∙ sym (append_assoc p.used q.used rest);
          derives = Steps.one_more a p.used x.0 q.used b p.derives q.derives;
        }
    one (Err f) a ts b rest read e = absurd (no_value f (b, rest) e)

    turn : (on : Bool) (a : A) (ts : List Lexeme) (b : A) (rest : List Lexeme) → cond on (R a ts >>= λ b rest. grow test R n b rest) (Ok (a, ts)) ≡ Ok (b, rest) → Got (Steps step a) ts b rest
    turn true a ts b rest e = one (R a ts) a ts b rest refl e
    turn false a ts b rest e = still a ts b rest e

  turns : (n : ℕ) (a : A) (ts : List Lexeme) (b : A) (rest : List Lexeme) → grow test R n a ts ≡ Ok (b, rest) → Got (Steps step a) ts b rest
  unfolding grow
  turns zero a ts b rest e = still a ts b rest e
  turns (suc n) a ts b rest e = turn n (turns n) (test ts) a ts b rest e

  pub sound_steps : (a : A) → Sound (Steps step a) (λ ts. all_of test R a ts)
  sound_steps a = record { got = λ ts b rest e. turns (suc (length ts)) a ts b rest e }

-- the same as a token of a class behind a test on it
pub branch_same : {A : Type 0} (b : Bool) (t : Lexeme) (ts : List Lexeme) (f : SyntaxFault) (F : Lexeme → Reader A) (g h : Read A) → g ≡ h → cond b (F t ts) g ≡ cond b (cond b (Ok (t, ts)) (Err f) >>= F) h
branch_same true t ts f F g h e = refl
branch_same false t ts f F g h e = e

pub sound_unexpected : {A : Type 0} {P : List Lexeme → A → Type 0} → Sound P unexpected
unfolding unexpected
sound_unexpected {P = P} = sound_fault P (λ ts. faults.Unexpected (first_number ts))

either_of : {A : Type 0} (P : List Lexeme → A → Type 0) (used : List Lexeme) (a : A) → (P ∣ P) used a → P used a
either_of P used a (inl p) = p
either_of P used a (inr p) = p

pub sound_both : {A : Type 0} {P : List Lexeme → A → Type 0} {R S : Reader A} (test : List Lexeme → Bool) → Sound P R → Sound P S → Sound P (λ ts. cond (test ts) (R ts) (S ts))
sound_both {P = P} test r s = sound_wider (P ∣ P) (λ used a e. either_of P used a e) (sound_if test r s)

pub sound_look_only : {X A : Type 0} {K : List Lexeme → X → Type 0} {P : X → List Lexeme → A → Type 0} {look : List Lexeme → Option (X × List Lexeme)} {R : X → Reader A} {S : Reader A}
    → Looks K look → ((x : X) → Sound (P x) (R x)) → Sound (K ▸ P) S → Sound (K ▸ P) (λ ts. option_map_or (λ o. R o.0 o.1) (look ts) (S ts))
sound_look_only {K = K} {P = P} k r s = sound_wider ((K ▸ P) ∣ (K ▸ P)) (λ used a e. either_of (K ▸ P) used a e) (sound_look k r s)

-- a part that gives what is read makes no difference
pub gives_alone : {A : Type 0} (P : List Lexeme → A → Type 0) (used front back : List Lexeme) (a b : A) → used ≡ front ++ back → back ≡ [] → b ≡ a → P front a → P used b
gives_alone {A = A} P used front back a b parts nothing same p =
    let whole : used ≡ front = parts ∙ ap (λ (r : List Lexeme). front ++ r) nothing ∙ append-nil front in
    subst (λ (u : List Lexeme). P u b) (sym whole) (subst (λ (x : A). P front x) (sym same) p)

pub sound_then_same : {A : Type 0} {P : List Lexeme → A → Type 0} {R : Reader A} → Sound (P ▸ Gives) R → Sound P R
sound_then_same {P = P} s = sound_wider (P ▸ Gives) (λ used b t. gives_alone P used t.front t.back t.value b t.parts t.after.nothing t.after.same t.before) s

-- parts may be grouped
pub grouped : {A B C : Type 0} {P : List Lexeme → A → Type 0} {Q : A → List Lexeme → B → Type 0} {S : B → List Lexeme → C → Type 0} (used : List Lexeme) (c : C) → (P ▸ λ a. Q a ▸ S) used c → ((P ▸ Q) ▸ S) used c
grouped used c t =
    record {
      front = t.front ++ t.after.front;
      value = t.after.value;
      back = t.after.back;
      parts = t.parts ∙ ap (λ (r : List Lexeme). t.front ++ r) t.after.parts ∙ sym (append_assoc t.front t.after.front t.after.back);
      before = record { front = t.front; value = t.value; back = t.after.front; parts = refl; before = t.before; after = t.after.before };
      after = t.after.after;
    }

pub sound_if_left : {A : Type 0} {P Q P' : List Lexeme → A → Type 0} {R : Reader A} → ((used : List Lexeme) (a : A) → P used a → P' used a) → Sound (P ∣ Q) R → Sound (P' ∣ Q) R
sound_if_left {A = A} {P = P} {Q = Q} {P' = P'} wider s = sound_wider (P ∣ Q) turned s
  where
    turned : (used : List Lexeme) (a : A) → (P ∣ Q) used a → (P' ∣ Q) used a
    turned used a (inl p) = inl (wider used a p)
    turned used a (inr q) = inr q
