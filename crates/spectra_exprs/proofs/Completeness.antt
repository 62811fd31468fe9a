-- What is of the grammar is read, where nothing goes on behind it, or opens a level too many: one lemma for each form.
use Rattle.std.proofs.Common.{◌≡◌, ℕ, zero, suc, ◌<◌, Bool, true, false, cond, List, [], ◌∷◌, ◌++◌, length, Option, Some, None, Result, Ok, Err, inl, inr, refl, sym, ap, subst, ◌∙◌, append_assoc, arith, length-append}
use Rattle.std.specs.Option.{option_map_or}
use Rattle.spectra_exprs.specs.declared.fault.SyntaxFault.{SyntaxFault}
use Rattle.spectra_exprs.specs.declared.fault.SyntaxFault.TheVariants as faults
use Rattle.spectra_trees.specs.declared.class.Class.{Class}
use Rattle.spectra_trees.specs.Classes.{same_class}
use Rattle.spectra_trees.specs.Lexemes.{Lexeme}
use Rattle.spectra_exprs.specs.Read.{Read, Reader, ◌>>=◌, starts, expect, grow, all_of}
use Rattle.spectra_exprs.specs.Forms.{Gives, Token, Then, ◌▸◌, ◌∣◌, Steps}
use Rattle.spectra_exprs.proofs.ClassSets.{going, Apart, Within, going_apart, going_within, starts_going, same_going}

-- what is read, or a level too many is opened where that may be
pub data Reaches {A : Type 0} (deep : Type 0) (r : Result (A × List Lexeme) SyntaxFault) (x : A × List Lexeme) : Type 0 where
  read : r ≡ Ok x → Reaches deep r x
  opens : deep → (at : ℕ) → r ≡ Err (faults.TooDeep at) → Reaches deep r x

pub reaches_same : {A : Type 0} {E : Type 0} (r s : Read A) (x : A × List Lexeme) → r ≡ s → Reaches E s x → Reaches E r x
reaches_same {E = E} r s x same h = subst (λ (q : Read _). Reaches E q x) (sym same) h

pub reaches_then : {A B : Type 0} {E : Type 0} (r : Read A) (S : A → Reader B) (a : A) (rest : List Lexeme) (y : B × List Lexeme) → Reaches E r (a, rest) → Reaches E (S a rest) y → Reaches E (r >>= S) y
reaches_then r S a rest y (Reaches.read e) h = reaches_same (r >>= S) (S a rest) y (ap (λ (q : Read _). q >>= S) e) h
reaches_then r S a rest y (Reaches.opens deep at e) h = Reaches.opens deep at (ap (λ (q : Read _). q >>= S) e)

-- where no class of a set follows, what is of the grammar is read, or a level too many is opened where that may be
pub record Whole {A : Type 0} (E : Type 0) (C : List Class) (P : List Lexeme → A → Type 0) (R : List Lexeme → Result (A × List Lexeme) SyntaxFault) : Type 0 where
  pub reads : (used : List Lexeme) (a : A) (rest : List Lexeme) → P used a → going C rest ≡ false → Reaches E (R (used ++ rest)) (a, rest)

-- what is of the grammar begins with a class of a set
pub record Begins {A : Type 0} (F : List Class) (P : List Lexeme → A → Type 0) : Type 0 where
  pub first : (used : List Lexeme) (a : A) (rest : List Lexeme) → P used a → going F (used ++ rest) ≡ true

-- a class of one set follows neither what is of the grammar nor stands at its front, where none of another set follows
pub record Follows {A : Type 0} (F C : List Class) (P : List Lexeme → A → Type 0) : Type 0 where
  pub follows : (used : List Lexeme) (a : A) (rest : List Lexeme) → P used a → going C rest ≡ false → going F (used ++ rest) ≡ false

-- ---- single forms

pub whole_gives : {A E : Type 0} (C : List Class) (a : A) → Whole E C (Gives a) (λ ts. Ok (a, ts))
whole_gives {A = A} {E = E} C a = record { reads = λ used b rest p off. at used b rest p.nothing p.same }
  where
    at : (used : List Lexeme) (b : A) (rest : List Lexeme) → used ≡ [] → b ≡ a → Reaches {A = A} E (Ok (a, used ++ rest)) (b, rest)
    at used b rest nothing same = rw (nothing, same) (Reaches.read refl)

pub whole_token : {E : Type 0} (C : List Class) (class : Class) → Whole E C (Token class) (expect class)
unfolding expect
whole_token {E = E} C class = record { reads = λ used t rest p off. at used t rest p.alone p.is }
  where
    at : (used : List Lexeme) (t : Lexeme) (rest : List Lexeme) → used ≡ t ∷ [] → same_class t.class class ≡ true → Reaches E (expect class (used ++ rest)) (t, rest)
    at used t rest alone is = rw (alone, is) (Reaches.read refl)

after : {A B : Type 0} {E : Type 0} (R : Reader A) (S : A → Reader B) (used : List Lexeme) (b : B) (rest front : List Lexeme) (a : A) (back : List Lexeme) → used ≡ front ++ back → Reaches E (R (front ++ (back ++ rest))) (a, back ++ rest)
    → Reaches E (S a (back ++ rest)) (b, rest) → Reaches E (R (used ++ rest) >>= S) (b, rest)
after R S used b rest front a back parts first second = rw (parts, append_assoc front back rest) (reaches_then (R (front ++ (back ++ rest))) S a (back ++ rest) (b, rest) first second)

module _ {A B E : Type 0} {C D : List Class} {P : List Lexeme → A → Type 0} {Q : A → List Lexeme → B → Type 0} {R : Reader A} {S : A → Reader B} where
  pub whole_then : Whole E C P R → ((a : A) → Follows C D (Q a)) → ((a : A) → Whole E D (Q a) (S a)) → Whole E D (Then P Q) (λ ts. R ts >>= S)
  whole_then first between second = record {
    reads = λ used b rest t off.
        after R S used b rest t.front t.value t.back t.parts
        (first.reads t.front t.value (t.back ++ rest) t.before ((between t.value).follows t.back b rest t.after off))
        ((second t.value).reads t.back b rest t.after off);
  }

-- nothing goes on a token, nor what stops by itself
pub follows_none : {A : Type 0} {C : List Class} {P : List Lexeme → A → Type 0} → Follows [] C P
follows_none = record { follows = λ used a rest p off. none (used ++ rest) }
  where
    none : (ts : List Lexeme) → going [] ts ≡ false
    none [] = refl
    none (t ∷ ts) = refl

pub whole_calm : {A E : Type 0} {C D : List Class} {P : List Lexeme → A → Type 0} {R : Reader A} → Within C D → Whole E C P R → Whole E D P R
whole_calm {C = C} {D = D} within w = record { reads = λ used a rest p off. w.reads used a rest p (going_within C D within rest off) }

pub whole_same : {A E : Type 0} {C : List Class} {P : List Lexeme → A → Type 0} {R S : Reader A} → ((ts : List Lexeme) → R ts ≡ S ts) → Whole E C P S → Whole E C P R
whole_same {R = R} {S = S} same w = record { reads = λ used a rest p off. reaches_same (R (used ++ rest)) (S (used ++ rest)) (a, rest) (same (used ++ rest)) (w.reads used a rest p off) }

pub whole_narrower : {A E : Type 0} {C : List Class} {P : List Lexeme → A → Type 0} (Q : List Lexeme → A → Type 0) {R : Reader A} → ((used : List Lexeme) (a : A) → P used a → Q used a) → Whole E C Q R → Whole E C P R
whole_narrower Q to w = record { reads = λ used a rest p off. w.reads used a rest (to used a p) off }

-- ---- what stands in front

pub begins_token : (class : Class) → Begins (class ∷ []) (Token class)
begins_token class = record { first = λ used t rest p. at used t rest p.alone p.is }
  where
    at : (used : List Lexeme) (t : Lexeme) (rest : List Lexeme) → used ≡ t ∷ [] → same_class t.class class ≡ true → going (class ∷ []) (used ++ rest) ≡ true
    at used t rest alone is = rw alone (same_going class t rest is)

pub begins_then : {A B : Type 0} {F : List Class} {P : List Lexeme → A → Type 0} {Q : A → List Lexeme → B → Type 0} → Begins F P → Begins F (Then P Q)
begins_then {F = F} b = record { first = λ used a rest t. rw (t.parts, append_assoc t.front t.back rest) (b.first t.front t.value (t.back ++ rest) t.before) }

pub begins_wider : {A : Type 0} {F G : List Class} {P : List Lexeme → A → Type 0} → Within F G → Begins F P → Begins G P
begins_wider {F = F} {G = G} within b = record { first = λ used a rest p. on (used ++ rest) (b.first used a rest p) }
  where
    on : (ts : List Lexeme) → going F ts ≡ true → going G ts ≡ true
    on ts e = both (going G ts) refl
      where
        both : (g : Bool) → going G ts ≡ g → going G ts ≡ true
        both true is = is
        both false is = let no_one : going F ts ≡ false = going_within F G within ts is in absurd (cc)

pub begins_or : {A : Type 0} {F : List Class} {P Q : List Lexeme → A → Type 0} → Begins F P → Begins F Q → Begins F (P ∣ Q)
begins_or {A = A} {F = F} {P = P} {Q = Q} p q = record { first = at }
  where
    at : (used : List Lexeme) (a : A) (rest : List Lexeme) → (P ∣ Q) used a → going F (used ++ rest) ≡ true
    at used a rest (inl h) = p.first used a rest h
    at used a rest (inr h) = q.first used a rest h

-- ---- what may follow

pub follows_begins : {A : Type 0} {F C : List Class} (G : List Class) {P : List Lexeme → A → Type 0} → Apart G F → Begins G P → Follows F C P
follows_begins {F = F} G apart b = record { follows = λ used a rest p off. going_apart G F apart (used ++ rest) (b.first used a rest p) }

pub follows_gives : {A : Type 0} {F C : List Class} (a : A) → Within F C → Follows F C (Gives a)
follows_gives {F = F} {C = C} a within = record { follows = λ used b rest p off. rw p.nothing (going_within F C within rest off) }

pub follows_or : {A : Type 0} {F C : List Class} {P Q : List Lexeme → A → Type 0} → Follows F C P → Follows F C Q → Follows F C (P ∣ Q)
follows_or {A = A} {F = F} {C = C} {P = P} {Q = Q} p q = record { follows = at }
  where
    at : (used : List Lexeme) (a : A) (rest : List Lexeme) → (P ∣ Q) used a → going C rest ≡ false → going F (used ++ rest) ≡ false
    at used a rest (inl h) off = p.follows used a rest h off
    at used a rest (inr h) off = q.follows used a rest h off

-- ---- one of two

module _ {A E : Type 0} {C : List Class} {P Q : List Lexeme → A → Type 0} {R S : Reader A} where
  pub whole_if : (F : List Class) (test : List Lexeme → Bool) → ((ts : List Lexeme) → test ts ≡ going F ts) → Begins F P → Follows F C Q → Whole E C P R → Whole E C Q S → Whole E C (P ∣ Q) (λ ts. cond (test ts) (R ts) (S ts))
  whole_if F test same begins follows r s = record { reads = at }
    where
      at : (used : List Lexeme) (a : A) (rest : List Lexeme) → (P ∣ Q) used a → going C rest ≡ false → Reaches E (cond (test (used ++ rest)) (R (used ++ rest)) (S (used ++ rest))) (a, rest)
      at used a rest (inl p) off = let on : test (used ++ rest) ≡ true = same (used ++ rest) ∙ begins.first used a rest p in rw on (r.reads used a rest p off)
      at used a rest (inr q) off = let not_on : test (used ++ rest) ≡ false = same (used ++ rest) ∙ follows.follows used a rest q off in rw not_on (s.reads used a rest q off)

  -- by the first token's class
  pub whole_choice : (class : Class) → Begins (class ∷ []) P → Follows (class ∷ []) C Q → Whole E C P R → Whole E C Q S → Whole E C (P ∣ Q) (λ ts. cond (starts class ts) (R ts) (S ts))
  whole_choice class begins follows r s = whole_if (class ∷ []) (starts class) (starts_going class) begins follows r s

module _ {A E : Type 0} {C : List Class} {P : List Lexeme → A → Type 0} {R : Reader A} (S : Reader A) where
  pub whole_only : (class : Class) → Begins (class ∷ []) P → Whole E C P R → Whole E C P (λ ts. cond (starts class ts) (R ts) (S ts))
  whole_only class begins r = record { reads = at }
    where
      at : (used : List Lexeme) (a : A) (rest : List Lexeme) → P used a → going C rest ≡ false → Reaches E (cond (starts class (used ++ rest)) (R (used ++ rest)) (S (used ++ rest))) (a, rest)
      at used a rest p off = let on : starts class (used ++ rest) ≡ true = starts_going class (used ++ rest) ∙ begins.first used a rest p in rw on (r.reads used a rest p off)

-- what a look at the front finds
pub record Finds {X : Type 0} (F : List Class) (K : List Lexeme → X → Type 0) (look : List Lexeme → Option (X × List Lexeme)) : Type 0 where
  pub finds : (used : List Lexeme) (x : X) (rest : List Lexeme) → K used x → look (used ++ rest) ≡ Some (x, rest)
  pub passes : (ts : List Lexeme) → going F ts ≡ false → look ts ≡ None

module _ {X A E : Type 0} {C : List Class} {K : List Lexeme → X → Type 0} {P : X → List Lexeme → A → Type 0} {Q : List Lexeme → A → Type 0} {look : List Lexeme → Option (X × List Lexeme)} {R : X → Reader A} {S : Reader A} where
  pub whole_look : (F : List Class) → Finds F K look → Follows F C Q → ((x : X) → Whole E C (P x) (R x)) → Whole E C Q S → Whole E C ((K ▸ P) ∣ Q) (λ ts. option_map_or (λ o. R o.0 o.1) (look ts) (S ts))
  whole_look F finds follows r s = record { reads = at }
    where
      at : (used : List Lexeme) (a : A) (rest : List Lexeme) → ((K ▸ P) ∣ Q) used a → going C rest ≡ false → Reaches E (option_map_or (λ o. R o.0 o.1) (look (used ++ rest)) (S (used ++ rest))) (a, rest)
      at used a rest (inl t) off = rw (t.parts, append_assoc t.front t.back rest, finds.finds t.front t.value (t.back ++ rest) t.before) ((r t.value).reads t.back a rest t.after off)
      at used a rest (inr q) off = rw (finds.passes (used ++ rest) (follows.follows used a rest q off)) (s.reads used a rest q off)

module _ {X A E : Type 0} {C : List Class} {K : List Lexeme → X → Type 0} {P : X → List Lexeme → A → Type 0} {look : List Lexeme → Option (X × List Lexeme)} {R : X → Reader A} (S : Reader A) where
  pub whole_look_only : (F : List Class) → Finds F K look → ((x : X) → Whole E C (P x) (R x)) → Whole E C (K ▸ P) (λ ts. option_map_or (λ o. R o.0 o.1) (look ts) (S ts))
  whole_look_only F finds r = record { reads = at }
    where
      at : (used : List Lexeme) (a : A) (rest : List Lexeme) → (K ▸ P) used a → going C rest ≡ false → Reaches E (option_map_or (λ o. R o.0 o.1) (look (used ++ rest)) (S (used ++ rest))) (a, rest)
      at used a rest t off = rw (t.parts, append_assoc t.front t.back rest, finds.finds t.front t.value (t.back ++ rest) t.before) ((r t.value).reads t.back a rest t.after off)

-- ---- step after step

module _ {A : Type 0} {step : A → List Lexeme → A → Type 0} {F Cs C : List Class} where
  steps_follow : ((a : A) → Begins F (step a)) → Apart F Cs → Within Cs C → (a : A) → Follows Cs C (Steps step a)
  steps_follow begins apart within a = record { follows = λ used b rest s off. at a used b rest s off }
    where
      at : (a : A) (used : List Lexeme) (b : A) (rest : List Lexeme) → Steps step a used b → going C rest ≡ false → going Cs (used ++ rest) ≡ false
      at a used b rest (Steps.done x) off = going_within Cs C within rest off
      at a used b rest (Steps.one_more x front y back z here more) off =
          rw (append_assoc front back rest) (going_apart F Cs apart (front ++ (back ++ rest)) ((begins x).first front y (back ++ rest) here))

pub follows_steps : {A : Type 0} {step : A → List Lexeme → A → Type 0} (F : List Class) {Cs C : List Class} → ((a : A) → Begins F (step a)) → Apart F Cs → Within Cs C → (a : A) → Follows Cs C (Steps step a)
follows_steps F begins apart within a = steps_follow {F = F} begins apart within a

pub some_tokens : (F : List Class) (used : List Lexeme) → going F (used ++ []) ≡ true → 0 < length used
some_tokens F [] on = absurd (cc)
some_tokens F (t ∷ ts) on = omega arith

module _ {A E : Type 0} {step : A → List Lexeme → A → Type 0} (F : List Class) {Cs C : List Class} {R : A → Reader A} (test : List Lexeme → Bool) (same : (ts : List Lexeme) → test ts ≡ going F ts)
    (begins : (a : A) → Begins F (step a)) (apart : Apart F Cs) (within : Within Cs C) (stops : Within F C) (each : (a : A) → Whole E Cs (step a) (R a)) where
  turns : (n : ℕ) (a : A) (used : List Lexeme) (b : A) (rest : List Lexeme) → length used < n → Steps step a used b → going C rest ≡ false → Reaches E (grow test R n a (used ++ rest)) (b, rest)
  unfolding grow
  turns zero a used b rest lt s off = absurd (omega arith)
  turns (suc n) a used b rest lt (Steps.done x) off = let none : test rest ≡ false = same rest ∙ going_within F C stops rest off in rw none (Reaches.read refl)
  turns (suc n) a used b rest lt (Steps.one_more x front y back z here more) off =
      let on : test (front ++ (back ++ rest)) ≡ true = same (front ++ (back ++ rest)) ∙ (begins x).first front y (back ++ rest) here in
      let some : 0 < length front = some_tokens F front ((begins x).first front y [] here) in
      let next : going Cs (back ++ rest) ≡ false = (follows_steps F begins apart within y).follows back z rest more off in
      let read = (each x).reads front y (back ++ rest) here next in
      let size = length-append front back in
      rw (append_assoc front back rest, on) (reaches_then (R x (front ++ (back ++ rest))) (λ b rest. grow test R n b rest) y (back ++ rest) (z, rest) read (turns n y back z rest (omega (arith, size, some, lt)) more off))

  pub whole_steps : (a : A) → Whole E C (Steps step a) (λ ts. all_of test R a ts)
  whole_steps a = record {
    reads = λ used b rest s off. let size = length-append used rest in turns (suc (length (used ++ rest))) a used b rest (omega (arith, size)) s off;
  }

pub follows_then : {A B : Type 0} {F C : List Class} (D : List Class) {P : List Lexeme → A → Type 0} {Q : A → List Lexeme → B → Type 0} → Follows F D P → ((a : A) → Follows D C (Q a)) → Follows F C (Then P Q)
follows_then D {P = P} p q = record {
  follows = λ used b rest t off. rw (t.parts, append_assoc t.front t.back rest) (p.follows t.front t.value (t.back ++ rest) t.before ((q t.value).follows t.back b rest t.after off));
}

pub begins_of : {A : Type 0} (class : Class) (G : List Class) {P : Lexeme → List Lexeme → A → Type 0} → Within (class ∷ []) G → Begins G (Token class ▸ P)
begins_of class G within = begins_wider within (begins_then (begins_token class))

-- a token, and then what follows it
pub whole_after : {A E : Type 0} {C : List Class} (class : Class) {P : Lexeme → List Lexeme → A → Type 0} {S : Lexeme → Reader A} → ((t : Lexeme) → Whole E C (P t) (S t)) → Whole E C (Token class ▸ P) (λ ts. expect class ts >>= S)
whole_after class each = whole_then (whole_token [] class) (λ (t : Lexeme). follows_none) each

-- a part that a token of a class ends
pub whole_until : {A B E : Type 0} {C D : List Class} (class : Class) {P : List Lexeme → A → Type 0} {Q : A → Lexeme → List Lexeme → B → Type 0} {R : Reader A} {S : A → Lexeme → Reader B} → Apart (class ∷ []) C → Whole E C P R
    → ((a : A) (t : Lexeme) → Whole E D (Q a t) (S a t)) → Whole E D (P ▸ λ a. Token class ▸ Q a) (λ ts. R ts >>= λ a rest. expect class rest >>= S a)
whole_until class apart first each = whole_then first (λ a. follows_begins (class ∷ []) apart (begins_then (begins_token class))) (λ a. whole_after class (each a))

-- a part, and what it gives
pub whole_map : {A B E : Type 0} {C : List Class} {P : List Lexeme → A → Type 0} {R : Reader A} (f : A → B) → Within C C → Whole E C P R → Whole E C (P ▸ λ a. Gives (f a)) (λ ts. R ts >>= λ a rest. Ok (f a, rest))
whole_map {C = C} f same first = whole_then first (λ a. follows_gives (f a) same) (λ a. whole_gives C (f a))

pub whole_nothing : {A E : Type 0} {C : List Class} {R : Reader A} → Whole E C (λ used a. ⊥) R
whole_nothing = record { reads = λ used a rest p off. absurd p }

pub whole_deep : {A E : Type 0} {C : List Class} (P : List Lexeme → A → Type 0) (at : ℕ) → E → Whole E C P (λ ts. Err (faults.TooDeep at))
whole_deep P at deep = record { reads = λ used a rest p off. Reaches.opens deep at refl }

-- step after step, up to what stands behind the last one
module _ {A E : Type 0} {step : A → List Lexeme → A → Type 0} (F : List Class) {Cs : List Class} {R : A → Reader A} (test : List Lexeme → Bool) (goes : (ts : List Lexeme) → going F ts ≡ true → test ts ≡ true)
    (begins : (a : A) → Begins F (step a)) (apart : Apart F Cs) (each : (a : A) → Whole E Cs (step a) (R a)) (rest : List Lexeme) (stop : test rest ≡ false) (quiet : going Cs rest ≡ false) where
  quiet_behind : (a : A) (used : List Lexeme) (b : A) → Steps step a used b → going Cs (used ++ rest) ≡ false
  quiet_behind a used b (Steps.done x) = quiet
  quiet_behind a used b (Steps.one_more x front y back z here more) = rw (append_assoc front back rest) (going_apart F Cs apart (front ++ (back ++ rest)) ((begins x).first front y (back ++ rest) here))

  turns_at : (n : ℕ) (a : A) (used : List Lexeme) (b : A) → length used < n → Steps step a used b → Reaches E (grow test R n a (used ++ rest)) (b, rest)
  unfolding grow
  turns_at zero a used b lt s = absurd (omega arith)
  turns_at (suc n) a used b lt (Steps.done x) = rw stop (Reaches.read refl)
  turns_at (suc n) a used b lt (Steps.one_more x front y back z here more) =
      let on : test (front ++ (back ++ rest)) ≡ true = goes (front ++ (back ++ rest)) ((begins x).first front y (back ++ rest) here) in
      let some : 0 < length front = some_tokens F front ((begins x).first front y [] here) in
      let read = (each x).reads front y (back ++ rest) here (quiet_behind y back z more) in
      let size = length-append front back in
      rw (append_assoc front back rest, on) (reaches_then (R x (front ++ (back ++ rest))) (λ b rest. grow test R n b rest) y (back ++ rest) (z, rest) read (turns_at n y back z (omega (arith, size, some, lt)) more))

  pub steps_at : (a : A) (used : List Lexeme) (b : A) → Steps step a used b → Reaches E (all_of test R a (used ++ rest)) (b, rest)
  steps_at a used b s = let size = length-append used rest in turns_at (suc (length (used ++ rest))) a used b (omega (arith, size)) s
