-- Where reading stops, what was used begins what is of the grammar: one lemma for each form.
use Rattle.std.proofs.Common.{◌≡◌, ℕ, Bool, true, false, cond, List, [], ◌∷◌, ◌++◌, Option, Some, None, Result, Ok, Err, ◌⊎◌, inl, inr, refl, sym, ap, subst, ◌∙◌, append_assoc}
use Rattle.spectra_exprs.specs.declared.fault.SyntaxFault.{SyntaxFault}
use Rattle.spectra_exprs.specs.declared.fault.SyntaxFault.TheVariants as faults
use Rattle.spectra_trees.specs.declared.class.Class.{Class}
use Rattle.spectra_trees.specs.Classes.{same_class}
use Rattle.spectra_trees.specs.Lexemes.{Lexeme}
use Rattle.spectra_exprs.specs.Read.{Read, Reader, ◌>>=◌, unexpected, first_number, expect}
use Rattle.spectra_exprs.specs.Operators.{is_operator}
use Rattle.spectra_exprs.specs.OperatorReaders.{closed}
use Rattle.spectra_exprs.specs.Forms.{Gives, Token, ◌▸◌, ◌∣◌}
use Rattle.spectra_exprs.specs.Phrases.{Phrase, ArePhrase}
use Rattle.spectra_exprs.specs.Spellings.{IsSpelled, AreSpelled}
use Rattle.spectra_exprs.proofs.Soundness.{Got, Sound, sound_gives, sound_token, sound_then, sound_same, sound_wider, sound_if, sound_unexpected, sound_fault, gives_alone}
use Rattle.spectra_exprs.proofs.SoundExpressions.{sound_closed}
use Rattle.spectra_exprs.proofs.Stopping.{err_is, ok_no_err}

-- some tokens behind these make them a part of the grammar
pub record Begun {A : Type 0} (P : List Lexeme → A → Type 0) (used : List Lexeme) : Type 0 where
  pub more : List Lexeme
  pub spelled : AreSpelled more
  pub value : A
  pub derives : P (used ++ more) value

-- the number is that of the token behind what was used, or 0 if there is none
abbrev pub IsNext : ℕ → List Lexeme → Type 0
IsNext at [] = at ≡ 0
IsNext at (t ∷ ts) = t.number ≡ at

-- the number is that of the last token that was used
pub record IsLast (at : ℕ) (used : List Lexeme) : Type 0 where
  pub front : List Lexeme
  pub token : Lexeme
  pub parts : used ≡ front ++ token ∷ []
  pub number : token.number ≡ at

-- the number is that of an operator behind what was used
pub record IsOperator (at : ℕ) (rest : List Lexeme) : Type 0 where
  pub token : Lexeme
  pub more : List Lexeme
  pub parts : rest ≡ token ∷ more
  pub number : token.number ≡ at
  pub operator : is_operator token.class ≡ true

-- a level too many is opened by a token that is used; other faults stand at the token behind
abbrev pub IsPlace : SyntaxFault → List Lexeme → List Lexeme → Type 0
IsPlace (faults.Unexpected at) used rest = IsNext at rest
IsPlace (faults.TooDeep at) used rest = IsLast at used
IsPlace (faults.Parentheses at) used rest = IsOperator at rest
IsPlace faults.Memory used rest = ⊥

-- what was used ends with a whole phrase, in whose place each other phrase of its sort may stand
pub record EndsWhole {A : Type 0} (P : List Lexeme → A → Type 0) (used : List Lexeme) : Type 0 where
  pub front : List Lexeme
  pub phrase : List Lexeme
  pub parts : used ≡ front ++ phrase
  pub sort : Phrase
  pub left : ℕ
  pub whole : ArePhrase sort left phrase
  pub any : (other : List Lexeme) → ArePhrase sort left other → Begun P (front ++ other)

-- what was used ends with a token that opens a level too many, and what stands before it is begun
pub record EndsLevel {A : Type 0} (P : List Lexeme → A → Type 0) (used : List Lexeme) : Type 0 where
  pub front : List Lexeme
  pub token : Lexeme
  pub parts : used ≡ front ++ token ∷ []
  pub begun : Begun P front

-- an operator behind a whole phrase is fault 6
abbrev pub IsBehind : {A : Type 0} → (List Lexeme → A → Type 0) → SyntaxFault → List Lexeme → Type 0
IsBehind P (faults.Unexpected at) used = Unit {0}
IsBehind P (faults.TooDeep at) used = EndsLevel P used
IsBehind P (faults.Parentheses at) used = EndsWhole P used
IsBehind P faults.Memory used = Unit {0}

pub record OpensAt {A : Type 0} (P : List Lexeme → A → Type 0) (ts : List Lexeme) (f : SyntaxFault) : Type 0 where
  pub used : List Lexeme
  pub rest : List Lexeme
  pub front : ts ≡ used ++ rest
  pub place : IsPlace f used rest
  pub begun : Begun P used
  pub behind : IsBehind P f used

-- the token before opened a level too many
abbrev pub OpensBefore : Option Lexeme → SyntaxFault → Type 0
OpensBefore None f = ⊥
OpensBefore (Some t) f = f ≡ faults.TooDeep t.number

-- what is read is of the grammar, what was used where reading stops begins it, and something is of the grammar
pub record FullAfter {A : Type 0} (before : Option Lexeme) (P : List Lexeme → A → Type 0) (R : List Lexeme → Result (A × List Lexeme) SyntaxFault) : Type 0 where
  pub sound : Sound P R
  pub opens : (ts : List Lexeme) (f : SyntaxFault) → R ts ≡ Err f → OpensAt P ts f ⊎ OpensBefore before f
  pub whole : Begun P []

abbrev pub Full : {A : Type 0} → (List Lexeme → A → Type 0) → Reader A → Type 0
Full P R = FullAfter None P R

pub spelled_append : (u v : List Lexeme) → AreSpelled u → AreSpelled v → AreSpelled (u ++ v)
spelled_append [] v a b = b
spelled_append (t ∷ u) v a b = (a.0, spelled_append u v a.1 b)

pub place_behind : (f : SyntaxFault) (front used rest : List Lexeme) → IsPlace f used rest → IsPlace f (front ++ used) rest
place_behind (faults.Unexpected at) front used rest p = p
place_behind (faults.TooDeep at) front used rest p =
    record { front = front ++ p.front; token = p.token; parts = ap (λ (u : List Lexeme). front ++ u) p.parts ∙ sym (append_assoc front p.front (p.token ∷ [])); number = p.number }
place_behind (faults.Parentheses at) front used rest p = p
place_behind faults.Memory front used rest p = p

ends_behind : {A B : Type 0} (P : List Lexeme → A → Type 0) (Q : List Lexeme → B → Type 0) (front : List Lexeme) → ((used : List Lexeme) → Begun P used → Begun Q (front ++ used)) → (used : List Lexeme) → EndsWhole P used → EndsWhole Q (front ++ used)
ends_behind P Q front begins used e =
    record {
      front = front ++ e.front;
      phrase = e.phrase;
      parts = ap (λ (u : List Lexeme). front ++ u) e.parts ∙ sym (append_assoc front e.front e.phrase);
      sort = e.sort;
      left = e.left;
      whole = e.whole;
      any = λ other p. subst (λ (u : List Lexeme). Begun Q u) (sym (append_assoc front e.front other)) (begins (e.front ++ other) (e.any other p));
    }

is_behind : {A B : Type 0} (P : List Lexeme → A → Type 0) (Q : List Lexeme → B → Type 0) (front : List Lexeme) → ((used : List Lexeme) → Begun P used → Begun Q (front ++ used)) → (f : SyntaxFault) (used : List Lexeme) → IsBehind P f used → IsBehind Q f (front ++ used)
is_behind P Q front begins (faults.Unexpected at) used b = tt
is_behind P Q front begins (faults.TooDeep at) used b =
    record { front = front ++ b.front; token = b.token; parts = ap (λ (u : List Lexeme). front ++ u) b.parts ∙ sym (append_assoc front b.front (b.token ∷ [])); begun = begins b.front b.begun }
is_behind P Q front begins (faults.Parentheses at) used b = ends_behind P Q front begins used b
is_behind P Q front begins faults.Memory used b = tt

-- behind some tokens, where what is begun there begins the whole
pub opens_behind : {A B : Type 0} (P : List Lexeme → A → Type 0) (Q : List Lexeme → B → Type 0) (front : List Lexeme) → ((used : List Lexeme) → Begun P used → Begun Q (front ++ used)) → (ts rest : List Lexeme) (f : SyntaxFault) → ts ≡ front ++ rest → OpensAt P rest f
    → OpensAt Q ts f
opens_behind P Q front begins ts rest f parts q =
    record {
      used = front ++ q.used;
      rest = q.rest;
      front = parts ∙ ap (λ (m : List Lexeme). front ++ m) q.front ∙ sym (append_assoc front q.used q.rest);
      place = place_behind f front q.used q.rest q.place;
      begun = begins q.used q.begun;
      behind = is_behind P Q front begins f q.used q.behind;
    }

pub opens_as : {A B : Type 0} (P : List Lexeme → A → Type 0) (Q : List Lexeme → B → Type 0) → ((used : List Lexeme) → Begun P used → Begun Q used) → (ts : List Lexeme) (f : SyntaxFault) → OpensAt P ts f → OpensAt Q ts f
opens_as P Q begins ts f q = opens_behind P Q [] begins ts ts f refl q

pub full_wider : {A : Type 0} {before : Option Lexeme} {P : List Lexeme → A → Type 0} {R : Reader A} → Full P R → FullAfter before P R
full_wider {A = A} {before = before} {P = P} {R = R} s = record { sound = s.sound; opens = λ ts f e. wider ts f (s.opens ts f e); whole = s.whole }
  where
    wider : (ts : List Lexeme) (f : SyntaxFault) → OpensAt P ts f ⊎ OpensBefore None f → OpensAt P ts f ⊎ OpensBefore before f
    wider ts f (inl q) = inl q
    wider ts f (inr q) = absurd q

-- ---- one after the other

module _ {A B : Type 0} (P : List Lexeme → A → Type 0) (Q : A → List Lexeme → B → Type 0) where
  -- what is begun in its first part, by what may be the second
  pub begun_first : (used : List Lexeme) → Begun P used → ((a : A) → Begun (Q a) []) → Begun (P ▸ Q) used
  begun_first used b second =
      let c = second b.value in
      record {
        more = b.more ++ c.more;
        spelled = spelled_append b.more c.more b.spelled c.spelled;
        value = c.value;
        derives = record { front = used ++ b.more; value = b.value; back = c.more; parts = sym (append_assoc used b.more c.more); before = b.derives; after = c.derives };
      }

  pub begun_second : (used : List Lexeme) (a : A) (back : List Lexeme) → P used a → Begun (Q a) back → Begun (P ▸ Q) (used ++ back)
  begun_second used a back p b =
      record {
        more = b.more;
        spelled = b.spelled;
        value = b.value;
        derives = record { front = used; value = a; back = back ++ b.more; parts = append_assoc used back b.more; before = p; after = b.derives };
      }

  pub opens_second : (ts : List Lexeme) (a : A) (rest : List Lexeme) (f : SyntaxFault) → Got P ts a rest → OpensAt (Q a) rest f → OpensAt (P ▸ Q) ts f
  opens_second ts a rest f p q = opens_behind (Q a) (P ▸ Q) p.used (λ used b. begun_second p.used a used p.derives b) ts rest f p.front q

  opens_first : (before : Option Lexeme) (ts : List Lexeme) (f : SyntaxFault) → OpensAt P ts f ⊎ OpensBefore before f → ((a : A) → Begun (Q a) []) → OpensAt (P ▸ Q) ts f ⊎ OpensBefore before f
  opens_first before ts f (inl q) second = inl (opens_as P (P ▸ Q) (λ used b. begun_first used b second) ts f q)
  opens_first before ts f (inr q) second = inr q

module _ {A B : Type 0} {P : List Lexeme → A → Type 0} {Q : A → List Lexeme → B → Type 0} {R : Reader A} {S : A → Reader B} {before : Option Lexeme} (first : FullAfter before P R) (second : (a : A) → Full (Q a) (S a)) where
  behind : (ts : List Lexeme) (x : A × List Lexeme) (f : SyntaxFault) → Got P ts x.0 x.1 → OpensAt (Q x.0) x.1 f ⊎ OpensBefore None f → OpensAt (P ▸ Q) ts f ⊎ OpensBefore before f
  behind ts x f p (inl q) = inl (opens_second P Q ts x.0 x.1 f p q)
  behind ts x f p (inr q) = absurd q

  joined : (r : Read A) (ts : List Lexeme) (f : SyntaxFault) → R ts ≡ r → (r >>= S) ≡ Err f → OpensAt (P ▸ Q) ts f ⊎ OpensBefore before f
  joined (Ok x) ts f read e = behind ts x f (first.sound.got ts x.0 x.1 read) ((second x.0).opens x.1 f e)
  joined (Err g) ts f read e = opens_first P Q before ts f (first.opens ts f (read ∙ ap (λ (h : SyntaxFault). Err h) (err_is {A = B} g f e))) (λ a. (second a).whole)

  pub full_then : FullAfter before (P ▸ Q) (λ ts. R ts >>= S)
  full_then = record { sound = sound_then first.sound (λ (a : A). (second a).sound); opens = λ ts f e. joined (R ts) ts f refl e; whole = begun_first P Q [] first.whole (λ a. (second a).whole) }

-- ---- single forms

pub full_gives : {A : Type 0} (a : A) → Full (Gives a) (λ ts. Ok (a, ts))
full_gives {A = A} a = record {
  sound = sound_gives a;
  opens = λ ts f e. absurd (ok_no_err (a, ts) f e);
  whole = record { more = []; spelled = tt; value = a; derives = record { nothing = refl; same = refl } };
}

pub full_same : {A : Type 0} {before : Option Lexeme} {P : List Lexeme → A → Type 0} {R S : Reader A} → ((ts : List Lexeme) → R ts ≡ S ts) → FullAfter before P S → FullAfter before P R
full_same same s = record { sound = sound_same same s.sound; opens = λ ts f e. s.opens ts f (sym (same ts) ∙ e); whole = s.whole }

pub begun_wider : {A : Type 0} (P Q : List Lexeme → A → Type 0) → ((used : List Lexeme) (a : A) → P used a → Q used a) → (used : List Lexeme) → Begun P used → Begun Q used
begun_wider P Q wider used b = record { more = b.more; spelled = b.spelled; value = b.value; derives = wider (used ++ b.more) b.value b.derives }

opens_wider : {A : Type 0} (before : Option Lexeme) (P Q : List Lexeme → A → Type 0) → ((used : List Lexeme) (a : A) → P used a → Q used a) → (ts : List Lexeme) (f : SyntaxFault) → OpensAt P ts f ⊎ OpensBefore before f → OpensAt Q ts f ⊎ OpensBefore before f
opens_wider before P Q wider ts f (inl q) = inl (opens_as P Q (begun_wider P Q wider) ts f q)
opens_wider before P Q wider ts f (inr q) = inr q

-- whatever is of one grammar is of the other
pub full_of : {A : Type 0} {before : Option Lexeme} (P : List Lexeme → A → Type 0) {Q : List Lexeme → A → Type 0} {R : Reader A} → ((used : List Lexeme) (a : A) → P used a → Q used a) → FullAfter before P R → FullAfter before Q R
full_of {before = before} P {Q = Q} wider s = record { sound = sound_wider P wider s.sound; opens = λ ts f e. opens_wider before P Q wider ts f (s.opens ts f e); whole = begun_wider P Q wider [] s.whole }

pub full_right : {A : Type 0} {before : Option Lexeme} {P Q : List Lexeme → A → Type 0} {R : Reader A} → FullAfter before Q R → FullAfter before (P ∣ Q) R
full_right {Q = Q} s = full_of Q (λ used a q. inr q) s

-- the first token, or the end, is refused
pub opens_here : {A : Type 0} (P : List Lexeme → A → Type 0) (ts : List Lexeme) (at : ℕ) → IsNext at ts → Begun P [] → OpensAt P ts (faults.Unexpected at)
opens_here P ts at place begun = record { used = []; rest = ts; front = refl; place = place; begun = begun; behind = tt }

pub next_number : (ts : List Lexeme) → IsNext (first_number ts) ts
unfolding first_number
next_number [] = refl
next_number (t ∷ ts) = refl

pub full_unexpected : {A : Type 0} {P : List Lexeme → A → Type 0} → Begun P [] → Full P unexpected
unfolding unexpected
full_unexpected {A = A} {P = P} w = record {
  sound = sound_unexpected;
  opens = λ ts f e. inl (subst (λ (g : SyntaxFault). OpensAt P ts g) (err_is {A = A} (faults.Unexpected (first_number ts)) f e) (opens_here P ts (first_number ts) (next_number ts) w));
  whole = w;
}

-- no level is left for what stands behind a token
pub full_deep : {A : Type 0} {P : List Lexeme → A → Type 0} (t : Lexeme) → Begun P [] → FullAfter (Some t) P (λ ts. Err (faults.TooDeep t.number))
full_deep {A = A} {P = P} t w = record {
  sound = sound_fault P (λ ts. faults.TooDeep t.number);
  opens = λ ts f e. inr (sym (err_is {A = A} (faults.TooDeep t.number) f e));
  whole = w;
}

-- ---- tokens

-- a token of a class, as the lexer gives one
pub record Example (class : Class) : Type 0 where
  pub token : Lexeme
  pub is : same_class token.class class ≡ true
  pub spelled : IsSpelled token

example_begun : (class : Class) → Example class → Begun (Token class) []
example_begun class x = record { more = x.token ∷ []; spelled = (x.spelled, tt); value = x.token; derives = record { alone = refl; is = x.is } }

module _ (class : Class) (x : Example class) where
  by_class : (b : Bool) (t : Lexeme) (ts : List Lexeme) (f : SyntaxFault) → ◌≡◌ {A = Read Lexeme} (cond b (Ok (t, ts)) (Err (faults.Unexpected t.number))) (Err f) → OpensAt (Token class) (t ∷ ts) f
  by_class true t ts f e = absurd (ok_no_err (t, ts) f e)
  by_class false t ts f e =
      subst (λ (g : SyntaxFault). OpensAt (Token class) (t ∷ ts) g) (err_is {A = Lexeme} (faults.Unexpected t.number) f e) (opens_here (Token class) (t ∷ ts) t.number refl (example_begun class x))

  token_opens : (ts : List Lexeme) (f : SyntaxFault) → expect class ts ≡ Err f → OpensAt (Token class) ts f
  unfolding expect
  token_opens [] f e = subst (λ (g : SyntaxFault). OpensAt (Token class) [] g) (err_is {A = Lexeme} (faults.Unexpected 0) f e) (opens_here (Token class) [] 0 refl (example_begun class x))
  token_opens (t ∷ ts) f e = by_class (same_class t.class class) t ts f e

  pub full_token : Full (Token class) (expect class)
  full_token = record { sound = sound_token class; opens = λ ts f e. inl (token_opens ts f e); whole = example_begun class x }

-- what was used, and begins what is behind a token that opens a level too many
pub opened_level : {A : Type 0} (P : List Lexeme → A → Type 0) (t : Lexeme) (ts rest : List Lexeme) (f : SyntaxFault) → ts ≡ t ∷ rest → f ≡ faults.TooDeep t.number → Begun P [] → Begun P (t ∷ []) → OpensAt P ts f
opened_level P t ts rest f front deep nothing begun =
    subst (λ (g : SyntaxFault). OpensAt P ts g) (sym deep)
    (record { used = t ∷ []; rest = rest; front = front; place = record { front = []; token = t; parts = refl; number = refl }; begun = begun; behind = record { front = []; token = t; parts = refl; begun = nothing } })

module _ {B : Type 0} (class : Class) (x : Example class) {Q : Lexeme → List Lexeme → B → Type 0} {S : Lexeme → Reader B} (second : (t : Lexeme) → FullAfter (Some t) (Q t) (S t)) where
  after_level : (ts : List Lexeme) (t : Lexeme) (rest : List Lexeme) (f : SyntaxFault) → Got (Token class) ts t rest → OpensAt (Q t) rest f ⊎ OpensBefore (Some t) f → OpensAt (Token class ▸ Q) ts f
  after_level ts t rest f g (inl q) = opens_second (Token class) Q ts t rest f g q
  after_level ts t rest f g (inr deep) =
      let one : g.used ≡ t ∷ [] = g.derives.alone in
      opened_level (Token class ▸ Q) t ts rest f (g.front ∙ ap (λ (u : List Lexeme). u ++ rest) one) deep (begun_first (Token class) Q [] (example_begun class x) (λ t. (second t).whole))
      (begun_second (Token class) Q (t ∷ []) t [] (subst (λ (u : List Lexeme). Token class u t) one g.derives) (second t).whole)

  level_joined : (r : Read Lexeme) (ts : List Lexeme) (f : SyntaxFault) → expect class ts ≡ r → (r >>= S) ≡ Err f → OpensAt (Token class ▸ Q) ts f
  level_joined (Ok y) ts f read e = after_level ts y.0 y.1 f ((sound_token class).got ts y.0 y.1 read) ((second y.0).opens y.1 f e)
  level_joined (Err g) ts f read e =
      let q = token_opens class x ts f (read ∙ ap (λ (h : SyntaxFault). Err h) (err_is {A = B} g f e)) in
      opens_as (Token class) (Token class ▸ Q) (λ used b. begun_first (Token class) Q used b (λ t. (second t).whole)) ts f q

  -- a token that opens a level, and what stands behind it
  pub full_behind : Full (Token class ▸ Q) (λ ts. expect class ts >>= S)
  full_behind = record {
    sound = sound_then (sound_token class) (λ (t : Lexeme). (second t).sound);
    opens = λ ts f e. inl (level_joined (expect class ts) ts f refl e);
    whole = begun_first (Token class) Q [] (example_begun class x) (λ t. (second t).whole);
  }

-- ---- one of two

module _ {A : Type 0} {P Q : List Lexeme → A → Type 0} {R S : Reader A} (test : List Lexeme → Bool) (r : Full P R) (s : Full Q S) where
  left_opens : (ts : List Lexeme) (f : SyntaxFault) → OpensAt P ts f ⊎ ⊥ → OpensAt (P ∣ Q) ts f ⊎ ⊥
  left_opens ts f o = opens_wider None P (P ∣ Q) (λ used a p. inl p) ts f o

  right_opens : (ts : List Lexeme) (f : SyntaxFault) → OpensAt Q ts f ⊎ ⊥ → OpensAt (P ∣ Q) ts f ⊎ ⊥
  right_opens ts f o = opens_wider None Q (P ∣ Q) (λ used a q. inr q) ts f o

  chosen : (b : Bool) (ts : List Lexeme) (f : SyntaxFault) → cond b (R ts) (S ts) ≡ Err f → OpensAt (P ∣ Q) ts f ⊎ ⊥
  chosen true ts f e = left_opens ts f (r.opens ts f e)
  chosen false ts f e = right_opens ts f (s.opens ts f e)

  pub full_if : Full (P ∣ Q) (λ ts. cond (test ts) (R ts) (S ts))
  full_if = record { sound = sound_if test r.sound s.sound; opens = λ ts f e. chosen (test ts) ts f e; whole = begun_wider Q (P ∣ Q) (λ used a q. inr q) [] s.whole }

either_of : {A : Type 0} (P : List Lexeme → A → Type 0) (used : List Lexeme) (a : A) → (P ∣ P) used a → P used a
either_of P used a (inl p) = p
either_of P used a (inr p) = p

pub full_both : {A : Type 0} {P : List Lexeme → A → Type 0} {R S : Reader A} (test : List Lexeme → Bool) → Full P R → Full P S → Full P (λ ts. cond (test ts) (R ts) (S ts))
full_both {P = P} test r s = full_of (P ∣ P) (λ used a e. either_of P used a e) (full_if test r s)

-- a phrase that no operator follows
module _ {A B : Type 0} (sort : Phrase) (left : ℕ) (P : List Lexeme → A → Type 0) {R : Reader A} (f : A → B) (is : (used : List Lexeme) (a : A) → P used a → ArePhrase sort left used) (any : (used : List Lexeme) → ArePhrase sort left used → (a : A) × P used a) (r : Full P R) where
  abbrev Finished : List Lexeme → B → Type 0
  Finished = P ▸ λ a. Gives (f a)

  phrase_begun : (used : List Lexeme) → ArePhrase sort left used → Begun Finished used
  phrase_begun used p =
      let a = any used p in
      record { more = []; spelled = tt; value = f a.0; derives = record { front = used; value = a.0; back = []; parts = refl; before = a.1; after = record { nothing = refl; same = refl } } }

  followed : (ts : List Lexeme) (a : A) (t : Lexeme) (behind : List Lexeme) → is_operator t.class ≡ true → Got P ts a (t ∷ behind) → OpensAt Finished ts (faults.Parentheses t.number)
  followed ts a t behind on g =
      let whole = is g.used a g.derives in
      record {
        used = g.used;
        rest = t ∷ behind;
        front = g.front;
        place = record { token = t; more = behind; parts = refl; number = refl; operator = on };
        begun = phrase_begun g.used whole;
        behind = record { front = []; phrase = g.used; parts = refl; sort = sort; left = left; whole = whole; any = phrase_begun };
      }

  by_operator : (b : Bool) (ts : List Lexeme) (a : A) (t : Lexeme) (behind : List Lexeme) (e : SyntaxFault) → is_operator t.class ≡ b → Got P ts a (t ∷ behind)
      → ◌≡◌ {A = Read B} (cond b (Err (faults.Parentheses t.number)) (Ok (f a, t ∷ behind))) (Err e) → OpensAt Finished ts e
  by_operator true ts a t behind e on g read = subst (λ (h : SyntaxFault). OpensAt Finished ts h) (err_is {A = B} (faults.Parentheses t.number) e read) (followed ts a t behind on g)
  by_operator false ts a t behind e on g read = absurd (ok_no_err (f a, t ∷ behind) e read)

  finished_by : (rest : List Lexeme) (ts : List Lexeme) (a : A) (e : SyntaxFault) → Got P ts a rest → closed (f a) rest ≡ Err e → OpensAt Finished ts e
  unfolding closed
  finished_by [] ts a e g read = absurd (ok_no_err (f a, []) e read)
  finished_by (t ∷ behind) ts a e g read = by_operator (is_operator t.class) ts a t behind e refl g read

  phrase_opens : (x : Read A) (ts : List Lexeme) (e : SyntaxFault) → R ts ≡ x → (x >>= λ a rest. closed (f a) rest) ≡ Err e → OpensAt Finished ts e ⊎ ⊥
  phrase_opens (Ok x) ts e read last = inl (finished_by x.1 ts x.0 e (r.sound.got ts x.0 x.1 read) last)
  phrase_opens (Err g) ts e read last = opens_first P (λ a. Gives (f a)) None ts e (r.opens ts e (read ∙ ap (λ (h : SyntaxFault). Err h) (err_is {A = B} g e last))) (λ a. record { more = []; spelled = tt; value = f a; derives = record { nothing = refl; same = refl } })

  pub full_finished : Full Finished (λ ts. R ts >>= λ a rest. closed (f a) rest)
  full_finished = record {
    sound = sound_then r.sound (λ (a : A). sound_closed (f a));
    opens = λ ts e last. phrase_opens (R ts) ts e refl last;
    whole = begun_first P (λ a. Gives (f a)) [] r.whole (λ a. record { more = []; spelled = tt; value = f a; derives = record { nothing = refl; same = refl } });
  }

-- ---- shapes of grammars

pub full_only : {A : Type 0} {P : List Lexeme → A → Type 0} {R : Reader A} (test : List Lexeme → Bool) → Full P R → Full P (λ ts. cond (test ts) (R ts) (unexpected ts))
full_only test r = full_both test r (full_unexpected r.whole)

pub full_if_left : {A : Type 0} {before : Option Lexeme} {P Q P' : List Lexeme → A → Type 0} {R : Reader A} → ((used : List Lexeme) (a : A) → P used a → P' used a) → FullAfter before (P ∣ Q) R → FullAfter before (P' ∣ Q) R
full_if_left {A = A} {P = P} {Q = Q} {P' = P'} wider s = full_of (P ∣ Q) turned s
  where
    turned : (used : List Lexeme) (a : A) → (P ∣ Q) used a → (P' ∣ Q) used a
    turned used a (inl p) = inl (wider used a p)
    turned used a (inr q) = inr q

-- a part that gives what is read makes no difference
pub full_then_same : {A : Type 0} {P : List Lexeme → A → Type 0} {R : Reader A} → Full (P ▸ Gives) R → Full P R
full_then_same {P = P} s = full_of (P ▸ Gives) (λ used b t. gives_alone P used t.front t.back t.value b t.parts t.after.nothing t.after.same t.before) s

pub begun_gives : {A : Type 0} (a : A) → Begun (Gives a) []
begun_gives a = record { more = []; spelled = tt; value = a; derives = record { nothing = refl; same = refl } }

pub begun_right : {A : Type 0} {P Q : List Lexeme → A → Type 0} → Begun Q [] → Begun (P ∣ Q) []
begun_right {P = P} {Q = Q} b = begun_wider Q (P ∣ Q) (λ used a q. inr q) [] b

pub begun_left : {A : Type 0} {P Q : List Lexeme → A → Type 0} → Begun P [] → Begun (P ∣ Q) []
begun_left {P = P} {Q = Q} b = begun_wider P (P ∣ Q) (λ used a p. inl p) [] b
