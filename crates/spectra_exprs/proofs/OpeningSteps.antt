-- Where reading stops, what was used begins what is of the grammar: looks at the first token, and steps.
use Rattle.std.proofs.Common.{◌≡◌, ℕ, zero, suc, Bool, true, false, cond, List, [], ◌∷◌, ◌++◌, length, Option, Some, None, Ok, Err, ◌⊎◌, inl, inr, refl, sym, ap, subst, ◌∙◌, append_assoc, append-nil}
use Rattle.std.proofs.lemmas.List.{append_cancel_right}
use Rattle.std.specs.Option.{option_map_or}
use Rattle.spectra_exprs.specs.declared.fault.SyntaxFault.{SyntaxFault}
use Rattle.spectra_exprs.specs.declared.fault.SyntaxFault.TheVariants as faults
use Rattle.spectra_trees.specs.Lexemes.{Lexeme}
use Rattle.spectra_exprs.specs.Read.{Read, Reader, ◌>>=◌, grow, all_of}
use Rattle.spectra_exprs.specs.Forms.{◌▸◌, ◌∣◌, Steps}
use Rattle.spectra_exprs.proofs.Soundness.{Got, Looks, sound_look, sound_steps}
use Rattle.spectra_exprs.proofs.Stopping.{err_is, ok_no_err}
use Rattle.spectra_exprs.proofs.StoppingSteps.{Looked, StableLook}
use Rattle.spectra_exprs.proofs.Opening.{Begun, OpensAt, OpensBefore, FullAfter, Full, opens_behind, opens_as, begun_first, begun_second, opens_second, opened_level, begun_wider, full_of}

-- ---- a look at the first token

-- a look that takes one token, and what it finds is of the grammar
pub record FullLook {X : Type 0} (before : X → Option Lexeme) (K : List Lexeme → X → Type 0) (look : List Lexeme → Option (X × List Lexeme)) : Type 0 where
  pub looks : Looks K look
  pub stable : StableLook before look
  pub whole : (x : X) (t : Lexeme) → before x ≡ Some t → Begun K []

pub never_before : (t : Lexeme) → ◌≡◌ {A = Option Lexeme} None (Some t) → ⊥
never_before t e = cc

module _ {X A : Type 0} {before : X → Option Lexeme} {K : List Lexeme → X → Type 0} {look : List Lexeme → Option (X × List Lexeme)} {P : X → List Lexeme → A → Type 0} {R : X → Reader A} (l : FullLook before K look) (r : (x : X) → FullAfter (before x) (P x) (R x)) where
  level_found : (o : Option Lexeme) (ts : List Lexeme) (x : X) (rest : List Lexeme) (f : SyntaxFault) → before x ≡ o → Got K ts x rest → Looked before look ts x rest → OpensBefore o f → OpensAt (K ▸ P) ts f
  level_found None ts x rest f is g k q = absurd q
  level_found (Some t) ts x rest f is g k q =
      let same : t ≡ k.token = k.known t is in
      let one : g.used ≡ k.token ∷ [] = append_cancel_right g.used (k.token ∷ []) rest (sym g.front ∙ k.front) in
      opened_level (K ▸ P) k.token ts rest f k.front (q ∙ ap (λ (u : Lexeme). faults.TooDeep u.number) same) (begun_first K P [] (l.whole x t is) (λ y. (r y).whole))
      (begun_second K P (k.token ∷ []) x [] (subst (λ (u : List Lexeme). K u x) one g.derives) (r x).whole)

  found_opens : (ts : List Lexeme) (x : X) (rest : List Lexeme) (f : SyntaxFault) → look ts ≡ Some (x, rest) → OpensAt (P x) rest f ⊎ OpensBefore (before x) f → OpensAt (K ▸ P) ts f
  found_opens ts x rest f is (inl q) = opens_second K P ts x rest f (l.looks.found ts x rest is) q
  found_opens ts x rest f is (inr q) = level_found (before x) ts x rest f refl (l.looks.found ts x rest is) (l.stable.found ts x rest is) q

  module _ {Q : List Lexeme → A → Type 0} {S : Reader A} (s : Full Q S) where
    left_out : (ts : List Lexeme) (f : SyntaxFault) → OpensAt Q ts f ⊎ ⊥ → OpensAt ((K ▸ P) ∣ Q) ts f
    left_out ts f (inl q) = opens_as Q ((K ▸ P) ∣ Q) (begun_wider Q ((K ▸ P) ∣ Q) (λ used a y. inr y)) ts f q
    left_out ts f (inr q) = absurd q

    taken : (ts : List Lexeme) (f : SyntaxFault) → OpensAt (K ▸ P) ts f → OpensAt ((K ▸ P) ∣ Q) ts f
    taken ts f q = opens_as (K ▸ P) ((K ▸ P) ∣ Q) (begun_wider (K ▸ P) ((K ▸ P) ∣ Q) (λ used a y. inl y)) ts f q

    looked : (o : Option (X × List Lexeme)) (ts : List Lexeme) (f : SyntaxFault) → look ts ≡ o → option_map_or (λ o. R o.0 o.1) o (S ts) ≡ Err f → OpensAt ((K ▸ P) ∣ Q) ts f
    looked (Some x) ts f is e = taken ts f (found_opens ts x.0 x.1 f is ((r x.0).opens x.1 f e))
    looked None ts f is e = left_out ts f (s.opens ts f e)

    pub full_look : Full ((K ▸ P) ∣ Q) (λ ts. option_map_or (λ o. R o.0 o.1) (look ts) (S ts))
    full_look = record {
      sound = sound_look l.looks (λ (x : X). (r x).sound) s.sound;
      opens = λ ts f e. inl (looked (look ts) ts f refl e);
      whole = begun_wider Q ((K ▸ P) ∣ Q) (λ used a y. inr y) [] s.whole;
    }

either_look : {A : Type 0} (P : List Lexeme → A → Type 0) (used : List Lexeme) (a : A) → (P ∣ P) used a → P used a
either_look P used a (inl p) = p
either_look P used a (inr p) = p

pub full_look_only : {X A : Type 0} {before : X → Option Lexeme} {K : List Lexeme → X → Type 0} {P : X → List Lexeme → A → Type 0} {look : List Lexeme → Option (X × List Lexeme)} {R : X → Reader A} {S : Reader A}
    → FullLook before K look → ((x : X) → FullAfter (before x) (P x) (R x)) → Full (K ▸ P) S → Full (K ▸ P) (λ ts. option_map_or (λ o. R o.0 o.1) (look ts) (S ts))
full_look_only {K = K} {P = P} l r s = full_of ((K ▸ P) ∣ (K ▸ P)) (λ used a e. either_look (K ▸ P) used a e) (full_look l r s)

-- ---- step after step

pub begun_steps : {A : Type 0} {step : A → List Lexeme → A → Type 0} (a : A) → Begun (Steps step a) []
begun_steps a = record { more = []; spelled = tt; value = a; derives = Steps.done a }

module _ {A : Type 0} {step : A → List Lexeme → A → Type 0} (test : List Lexeme → Bool) {R : A → Reader A} (each : (a : A) → Full (step a) (R a)) where
  -- begun in its first step
  begun_step : (a : A) (used : List Lexeme) → Begun (step a) used → Begun (Steps step a) used
  begun_step a used b =
      record {
        more = b.more;
        spelled = b.spelled;
        value = b.value;
        derives = subst (λ (u : List Lexeme). Steps step a u b.value) (append-nil (used ++ b.more)) (Steps.one_more a (used ++ b.more) b.value [] b.value b.derives (Steps.done b.value));
      }

  begun_later : (a : A) (used : List Lexeme) (x : A) (back : List Lexeme) → step a used x → Begun (Steps step x) back → Begun (Steps step a) (used ++ back)
  begun_later a used x back p b =
      record {
        more = b.more;
        spelled = b.spelled;
        value = b.value;
        derives = subst (λ (u : List Lexeme). Steps step a u b.value) (sym (append_assoc used back b.more)) (Steps.one_more a used x (back ++ b.more) b.value p b.derives);
      }

  first_stops : (a : A) (ts : List Lexeme) (f : SyntaxFault) → OpensAt (step a) ts f ⊎ ⊥ → OpensAt (Steps step a) ts f
  first_stops a ts f (inl q) = opens_as (step a) (Steps step a) (begun_step a) ts f q
  first_stops a ts f (inr q) = absurd q

  later_stops : (a : A) (ts : List Lexeme) (x : A) (rest : List Lexeme) (f : SyntaxFault) → Got (step a) ts x rest → OpensAt (Steps step x) rest f → OpensAt (Steps step a) ts f
  later_stops a ts x rest f p q = opens_behind (Steps step x) (Steps step a) p.used (λ used b. begun_later a p.used x used p.derives b) ts rest f p.front q

  module _ (n : ℕ) (further : (a : A) (ts : List Lexeme) (f : SyntaxFault) → grow test R n a ts ≡ Err f → OpensAt (Steps step a) ts f) where
    one : (r : Read A) (a : A) (ts : List Lexeme) (f : SyntaxFault) → R a ts ≡ r → (r >>= λ b rest. grow test R n b rest) ≡ Err f → OpensAt (Steps step a) ts f
    one (Ok x) a ts f read e = later_stops a ts x.0 x.1 f ((each a).sound.got ts x.0 x.1 read) (further x.0 x.1 f e)
    one (Err g) a ts f read e = first_stops a ts f ((each a).opens ts f (read ∙ ap (λ (h : SyntaxFault). Err h) (err_is {A = A} g f e)))

    turn : (on : Bool) (a : A) (ts : List Lexeme) (f : SyntaxFault) → cond on (R a ts >>= λ b rest. grow test R n b rest) (Ok (a, ts)) ≡ Err f → OpensAt (Steps step a) ts f
    turn true a ts f e = one (R a ts) a ts f refl e
    turn false a ts f e = absurd (ok_no_err (a, ts) f e)

  turns : (n : ℕ) (a : A) (ts : List Lexeme) (f : SyntaxFault) → grow test R n a ts ≡ Err f → OpensAt (Steps step a) ts f
  unfolding grow
  turns zero a ts f e = absurd (ok_no_err (a, ts) f e)
  turns (suc n) a ts f e = turn n (turns n) (test ts) a ts f e

  pub full_steps : (a : A) → Full (Steps step a) (λ ts. all_of test R a ts)
  full_steps a = record {
    sound = sound_steps test (λ (b : A). (each b).sound) a;
    opens = λ ts f e. inl (turns (suc (length ts)) a ts f e);
    whole = record { more = []; spelled = tt; value = a; derives = Steps.done a };
  }
