-- What single tokens and brackets are to the tokens of an expression.
use Rattle.std.proofs.Common.{◌≡◌, ℕ, suc, Bool, true, false, not, ◌&&◌, ◌||◌, nat_eq, List, [], ◌∷◌, ◌++◌, Option, Some, None, inl, inr, refl, ap, ◌∙◌}
use Rattle.std.specs.Option.{option_map_or}
use Rattle.spectra_trees.specs.declared.class.Class.{Class}
use Rattle.spectra_trees.specs.declared.class.Class.TheVariants as classes
use Rattle.spectra_trees.specs.Classes.{place_of, same_class}
use Rattle.spectra_trees.specs.Lexemes.{Lexeme}
use Rattle.spectra_exprs.specs.Forms.{Gives, Token, ◌▸◌, ◌∣◌, Steps}
use Rattle.spectra_exprs.proofs.ClassSets.{among, going, Apart, Within, going_apart, same_going}
use Rattle.spectra_exprs.proofs.Awaiting.{operand_ends, quantifiers, opens, awaits}
use Rattle.spectra_exprs.proofs.Shapes.{inner_tokens, openings, closings, separators, within_one, by_sort, outside, depth, depth-append, tidy, Goes, Formed, both_level, both_ends, both_named}

-- ---- depths

apart_one : (F G : List Class) → Apart F G → (t : Lexeme) → among F (place_of t.class) ≡ true → among G (place_of t.class) ≡ false
apart_one F G apart t on = going_apart F G apart (t ∷ []) on

pub same_depth : (k : ℕ) (t : Lexeme) (ts : List Lexeme) → among inner_tokens (place_of t.class) ≡ true → depth k (t ∷ ts) ≡ depth k ts
unfolding place_of
same_depth k t ts on =
    let opening = apart_one inner_tokens openings (record { checked = refl }) t on in
    let closing = apart_one inner_tokens closings (record { checked = refl }) t on in
    let separator = apart_one inner_tokens separators (record { checked = refl }) t on in
    ap (λ (o : Option ℕ). option_map_or (λ j. depth j ts) o None) (sorted (among openings (place_of t.class)) (among closings (place_of t.class)) (among separators (place_of t.class)) (among inner_tokens (place_of t.class)) opening closing separator on)
  where
    sorted : (a b c d : Bool) → a ≡ false → b ≡ false → c ≡ false → d ≡ true → by_sort a b c d k ≡ Some k
    sorted a b c d e f g h = rw (e, f, g, h) refl

pub opened_depth : (k : ℕ) (t : Lexeme) (ts : List Lexeme) → among openings (place_of t.class) ≡ true → depth k (t ∷ ts) ≡ depth (suc k) ts
opened_depth k t ts is =
    ap (λ (o : Option ℕ). option_map_or (λ j. depth j ts) o None) (ap (λ (b : Bool). by_sort b (among closings (place_of t.class)) (among separators (place_of t.class)) (among inner_tokens (place_of t.class)) k) is)

closed_depth : (k : ℕ) (t : Lexeme) (ts : List Lexeme) → among closings (place_of t.class) ≡ true → depth (suc k) (t ∷ ts) ≡ depth k ts
unfolding place_of
closed_depth k t ts is =
    let opening = apart_one closings openings (record { checked = refl }) t is in
    ap (λ (o : Option ℕ). option_map_or (λ j. depth j ts) o None) (sorted (among openings (place_of t.class)) (among closings (place_of t.class)) opening is)
  where
    sorted : (a b : Bool) → a ≡ false → b ≡ true → by_sort a b (among separators (place_of t.class)) (among inner_tokens (place_of t.class)) (suc k) ≡ Some k
    sorted a b e f = rw (e, f) refl

separated_depth : (k : ℕ) (t : Lexeme) (ts : List Lexeme) → among separators (place_of t.class) ≡ true → depth (suc k) (t ∷ ts) ≡ depth (suc k) ts
unfolding place_of
separated_depth k t ts is =
    let opening = apart_one separators openings (record { checked = refl }) t is in
    let closing = apart_one separators closings (record { checked = refl }) t is in
    ap (λ (o : Option ℕ). option_map_or (λ j. depth j ts) o None) (sorted (among openings (place_of t.class)) (among closings (place_of t.class)) (among separators (place_of t.class)) opening closing is)
  where
    sorted : (a b c : Bool) → a ≡ false → b ≡ false → c ≡ true → by_sort a b c (among inner_tokens (place_of t.class)) (suc k) ≡ Some (suc k)
    sorted a b c e f g = rw (e, f, g) refl

-- ---- single tokens

or_false : (a : Bool) → a || false ≡ false → a ≡ false
or_false true e = e
or_false false e = e

pub not_both : (C D : Class) → Apart (C ∷ []) (D ∷ []) → (t : Lexeme) → same_class t.class C ≡ true → same_class t.class D ≡ false
unfolding same_class
not_both C D apart t is = or_false (nat_eq (place_of t.class) (place_of D)) (going_apart (C ∷ []) (D ∷ []) apart (t ∷ []) (same_going C t [] is))

-- a token that is no quantifier's word
no_word : (F : List Class) → Apart F quantifiers → (t : Lexeme) (ts : List Lexeme) → among F (place_of t.class) ≡ true → tidy false ts ≡ true → tidy false (t ∷ ts) ≡ true
no_word F apart t ts on e = ap (λ (b : Bool). tidy b ts) (apart_one F quantifiers apart t on) ∙ e

inner_no_word : (t : Lexeme) (ts : List Lexeme) → among inner_tokens (place_of t.class) ≡ true → tidy false ts ≡ true → tidy false (t ∷ ts) ≡ true
unfolding place_of
inner_no_word t ts on e = no_word inner_tokens (record { checked = refl }) t ts on e

-- a token of a class
of_class : (class : Class) (F : List Class) → Within (class ∷ []) F → (t : Lexeme) → same_class t.class class ≡ true → among F (place_of t.class) ≡ true
of_class class F within t is = within_one (class ∷ []) F within t (same_going class t [] is)

-- one token that stands between operands
pub record Plain {A : Type 0} (P : List Lexeme → A → Type 0) : Type 0 where
  pub token : (used : List Lexeme) (a : A) → P used a → (t : Lexeme) × (used ≡ t ∷ []) × (among inner_tokens (place_of t.class) ≡ true)

pub plain_token : (class : Class) → Within (class ∷ []) inner_tokens → Plain (Token class)
plain_token class within = record { token = λ used t p. (t, p.alone, of_class class inner_tokens within t p.is) }

pub plain_or : {A : Type 0} {P Q : List Lexeme → A → Type 0} → Plain P → Plain Q → Plain (P ∣ Q)
plain_or {A = A} {P = P} {Q = Q} p q = record { token = at }
  where
    at : (used : List Lexeme) (a : A) → (P ∣ Q) used a → (t : Lexeme) × (used ≡ t ∷ []) × (among inner_tokens (place_of t.class) ≡ true)
    at used a (inl h) = p.token used a h
    at used a (inr h) = q.token used a h

-- a token, and what ends an operand behind it
pub formed_plain : {A B : Type 0} {P : List Lexeme → A → Type 0} {Q : A → List Lexeme → B → Type 0} → Plain P → ((a : A) → Formed (Q a)) → Formed (P ▸ Q)
formed_plain {B = B} {P = P} {Q = Q} p q = record { level = λ k used b t. level k used b t; ends = λ b used c t. ends b used c t; named = λ used b t. named used b t }
  where
    level : (k : ℕ) (used : List Lexeme) (b : B) → (P ▸ Q) used b → depth k used ≡ Some k
    level k used b t =
        let x = p.token t.front t.value t.before in
        ap (depth k) (t.parts ∙ ap (λ (f : List Lexeme). f ++ t.back) x.1) ∙ same_depth k x.0 t.back x.2 ∙ (q t.value).level k t.back b t.after

    ends : (b : Bool) (used : List Lexeme) (c : B) → (P ▸ Q) used c → awaits b used ≡ false
    ends b used c t =
        let x = p.token t.front t.value t.before in
        ap (awaits b) (t.parts ∙ ap (λ (f : List Lexeme). f ++ t.back) x.1) ∙ (q t.value).ends (opens x.0) t.back c t.after

    named : (used : List Lexeme) (b : B) → (P ▸ Q) used b → tidy false used ≡ true
    named used b t =
        let x = p.token t.front t.value t.before in
        ap (tidy false) (t.parts ∙ ap (λ (f : List Lexeme). f ++ t.back) x.1) ∙ inner_no_word x.0 t.back x.2 ((q t.value).named t.back b t.after)

ends_operand : (class : Class) → Within (class ∷ []) operand_ends → (t : Lexeme) → same_class t.class class ≡ true → opens t ≡ false
ends_operand class within t is = ap not (of_class class operand_ends within t is)

-- a token that is an operand
pub formed_token : (class : Class) → Within (class ∷ []) inner_tokens → Within (class ∷ []) operand_ends → Formed (Token class)
formed_token class within ends = record {
  level = λ k used t p. ap (depth k) p.alone ∙ same_depth k t [] (of_class class inner_tokens within t p.is);
  ends = λ b used t p. ap (awaits b) p.alone ∙ ends_operand class ends t p.is;
  named = λ used t p. ap (tidy false) p.alone ∙ inner_no_word t [] (of_class class inner_tokens within t p.is) refl;
}

-- ---- brackets

-- a token, and what is behind it
first_token : {A : Type 0} (class : Class) (Q : Lexeme → List Lexeme → A → Type 0) (used : List Lexeme) (a : A) (t : (Token class ▸ Q) used a) → used ≡ t.value ∷ t.back
first_token class Q used a t = t.parts ∙ ap (λ (f : List Lexeme). f ++ t.back) t.before.alone

-- what stands in brackets, with more behind it
pub record Inner {A : Type 0} (P : List Lexeme → A → Type 0) : Type 0 where
  pub level : (k : ℕ) (used : List Lexeme) (a : A) → P used a → depth (suc k) used ≡ Some (suc k)
  pub named : (used : List Lexeme) (a : A) → P used a → tidy false used ≡ true

pub inner_of : {A : Type 0} {P : List Lexeme → A → Type 0} → Goes P → Inner P
inner_of g = record { level = λ k used a p. g.level (suc k) used a p; named = g.named }

pub inner_separator : (class : Class) → Within (class ∷ []) separators → Inner (Token class)
unfolding place_of
inner_separator class within = record {
  level = λ k used t p. ap (depth (suc k)) p.alone ∙ separated_depth k t [] (of_class class separators within t p.is);
  named = λ used t p. ap (tidy false) p.alone ∙ no_word separators (record { checked = refl }) t [] (of_class class separators within t p.is) refl;
}

pub inner_then : {A B : Type 0} {P : List Lexeme → A → Type 0} {Q : A → List Lexeme → B → Type 0} → Inner P → ((a : A) → Inner (Q a)) → Inner (P ▸ Q)
inner_then p q = record {
  level = λ k used b t. both_level (suc k) used t.front t.back t.parts (p.level k t.front t.value t.before) ((q t.value).level k t.back b t.after);
  named = λ used b t. both_named false used t.front t.back t.parts (p.named t.front t.value t.before) ((q t.value).named t.back b t.after);
}

-- further arguments, each behind a comma, stay in the parentheses
module _ {A : Type 0} {step : A → List Lexeme → A → Type 0} (each : (a : A) → Inner (step a)) where
  steps_inner : (k : ℕ) (a : A) (used : List Lexeme) (b : A) → Steps step a used b → depth (suc k) used ≡ Some (suc k)
  steps_inner k a used b (Steps.done x) = refl
  steps_inner k a used b (Steps.one_more x front y back z here more) = both_level (suc k) (front ++ back) front back refl ((each x).level k front y here) (steps_inner k y back z more)

  steps_tidy : (a : A) (used : List Lexeme) (b : A) → Steps step a used b → tidy false used ≡ true
  steps_tidy a used b (Steps.done x) = refl
  steps_tidy a used b (Steps.one_more x front y back z here more) = both_named false (front ++ back) front back refl ((each x).named front y here) (steps_tidy y back z more)

  pub inner_steps : (a : A) → Inner (Steps step a)
  inner_steps a = record { level = λ k used b s. steps_inner k a used b s; named = λ used b s. steps_tidy a used b s }

-- what stands in brackets, up to the closing one and what is behind it
pub record Listed {A : Type 0} (P : List Lexeme → A → Type 0) : Type 0 where
  pub level : (k : ℕ) (used : List Lexeme) (a : A) → P used a → depth (suc k) used ≡ Some k
  pub ends : (b : Bool) (used : List Lexeme) (a : A) → P used a → awaits b used ≡ false
  pub named : (used : List Lexeme) (a : A) → P used a → tidy false used ≡ true

closing_no_word : (t : Lexeme) (ts : List Lexeme) → among closings (place_of t.class) ≡ true → tidy false ts ≡ true → tidy false (t ∷ ts) ≡ true
unfolding place_of
closing_no_word t ts on e = no_word closings (record { checked = refl }) t ts on e

-- a closing bracket
pub listed_close : {B : Type 0} (class : Class) → Within (class ∷ []) closings → Within (class ∷ []) operand_ends → (f : Lexeme → B) → Listed (Token class ▸ λ c. Gives (f c))
listed_close {B = B} class within operand f = record {
  level = λ k used b t. ap (depth (suc k)) (first_token class (λ c. Gives (f c)) used b t) ∙ closed_depth k t.value t.back (of_class class closings within t.value t.before.is) ∙ ap (depth k) t.after.nothing;
  ends = λ c used b t. ap (awaits c) (first_token class (λ c. Gives (f c)) used b t) ∙ ap (awaits (opens t.value)) t.after.nothing ∙ ends_operand class operand t.value t.before.is;
  named = λ used b t. ap (tidy false) (first_token class (λ c. Gives (f c)) used b t) ∙ closing_no_word t.value t.back (of_class class closings within t.value t.before.is) (ap (tidy false) t.after.nothing);
}

-- a colon, and what is behind it
pub listed_colon : {B : Type 0} {Q : Lexeme → List Lexeme → B → Type 0} → ((c : Lexeme) → Formed (Q c)) → Listed (Token classes.Colon ▸ Q)
unfolding place_of
listed_colon {B = B} {Q = Q} q = record {
  level = λ k used b t. ap (depth (suc k)) (first_token classes.Colon Q used b t) ∙ closed_depth k t.value t.back (of_class classes.Colon closings (record { checked = refl }) t.value t.before.is) ∙ (q t.value).level k t.back b t.after;
  ends = λ c used b t. ap (awaits c) (first_token classes.Colon Q used b t) ∙ (q t.value).ends (opens t.value) t.back b t.after;
  named = λ used b t. ap (tidy false) (first_token classes.Colon Q used b t) ∙ closing_no_word t.value t.back (of_class classes.Colon closings (record { checked = refl }) t.value t.before.is) ((q t.value).named t.back b t.after);
}

pub listed_then : {A B : Type 0} {P : List Lexeme → A → Type 0} {Q : A → List Lexeme → B → Type 0} → Inner P → ((a : A) → Listed (Q a)) → Listed (P ▸ Q)
listed_then p q = record {
  level = λ k used b t.
      ap (depth (suc k)) t.parts ∙ depth-append (suc k) t.front t.back ∙ ap (λ (o : Option ℕ). option_map_or (λ j. depth j t.back) o None) (p.level k t.front t.value t.before) ∙ (q t.value).level k t.back b t.after;
  ends = λ b used c t. both_ends b (awaits b t.front) used t.front t.back t.parts refl ((q t.value).ends (awaits b t.front) t.back c t.after);
  named = λ used c t. both_named false used t.front t.back t.parts (p.named t.front t.value t.before) ((q t.value).named t.back c t.after);
}

pub listed_after : {A B : Type 0} {P : List Lexeme → A → Type 0} {Q : A → List Lexeme → B → Type 0} → Listed P → ((a : A) → Goes (Q a)) → Listed (P ▸ Q)
listed_after p q = record {
  level = λ k used b t.
      ap (depth (suc k)) t.parts ∙ depth-append (suc k) t.front t.back ∙ ap (λ (o : Option ℕ). option_map_or (λ j. depth j t.back) o None) (p.level k t.front t.value t.before) ∙ (q t.value).level k t.back b t.after;
  ends = λ b used c t. both_ends b false used t.front t.back t.parts (p.ends b t.front t.value t.before) ((q t.value).still t.back c t.after);
  named = λ used c t. both_named false used t.front t.back t.parts (p.named t.front t.value t.before) ((q t.value).named t.back c t.after);
}

pub listed_or : {A : Type 0} {P Q : List Lexeme → A → Type 0} → Listed P → Listed Q → Listed (P ∣ Q)
listed_or {A = A} {P = P} {Q = Q} p q = record { level = level; ends = ends; named = named }
  where
    level : (k : ℕ) (used : List Lexeme) (a : A) → (P ∣ Q) used a → depth (suc k) used ≡ Some k
    level k used a (inl h) = p.level k used a h
    level k used a (inr h) = q.level k used a h

    ends : (b : Bool) (used : List Lexeme) (a : A) → (P ∣ Q) used a → awaits b used ≡ false
    ends b used a (inl h) = p.ends b used a h
    ends b used a (inr h) = q.ends b used a h

    named : (used : List Lexeme) (a : A) → (P ∣ Q) used a → tidy false used ≡ true
    named used a (inl h) = p.named used a h
    named used a (inr h) = q.named used a h

pub listed_nothing : {A : Type 0} → Listed {A = A} (λ used a. ⊥)
listed_nothing = record { level = λ k used a p. absurd p; ends = λ b used a p. absurd p; named = λ used a p. absurd p }

-- an opening bracket, and what stands up to the closing one
pub formed_open : {A : Type 0} (class : Class) → Within (class ∷ []) openings → Apart (class ∷ []) quantifiers → {Q : Lexeme → List Lexeme → A → Type 0} → ((o : Lexeme) → Listed (Q o)) → Formed (Token class ▸ Q)
formed_open {A = A} class within apart {Q = Q} q = record {
  level = λ k used a t. ap (depth k) (first_token class Q used a t) ∙ opened_depth k t.value t.back (of_class class openings within t.value t.before.is) ∙ (q t.value).level k t.back a t.after;
  ends = λ b used a t. ap (awaits b) (first_token class Q used a t) ∙ (q t.value).ends (opens t.value) t.back a t.after;
  named = λ used a t. ap (tidy false) (first_token class Q used a t) ∙ no_word (class ∷ []) apart t.value t.back (same_going class t.value [] t.before.is) ((q t.value).named t.back a t.after);
}

-- ---- quantifiers

-- what stands behind a quantifier's word
pub record Scoped {A : Type 0} (P : List Lexeme → A → Type 0) : Type 0 where
  pub level : (k : ℕ) (used : List Lexeme) (a : A) → P used a → depth (suc k) used ≡ Some k
  pub ends : (b : Bool) (used : List Lexeme) (a : A) → P used a → awaits b used ≡ false
  pub named : (used : List Lexeme) (a : A) → P used a → tidy true used ≡ true

pub scoped_nothing : {A : Type 0} → Scoped {A = A} (λ used a. ⊥)
scoped_nothing = record { level = λ k used a p. absurd p; ends = λ b used a p. absurd p; named = λ used a p. absurd p }

-- the variable, and what is behind it
pub scoped_name : {A : Type 0} {Q : Lexeme → List Lexeme → A → Type 0} → ((n : Lexeme) → Listed (Q n)) → Scoped (Token classes.Name ▸ Q)
unfolding place_of
scoped_name {A = A} {Q = Q} q = record {
  level = λ k used a t. ap (depth (suc k)) (first_token classes.Name Q used a t) ∙ same_depth (suc k) t.value t.back (of_class classes.Name inner_tokens (record { checked = refl }) t.value t.before.is) ∙ (q t.value).level k t.back a t.after;
  ends = λ b used a t. ap (awaits b) (first_token classes.Name Q used a t) ∙ (q t.value).ends (opens t.value) t.back a t.after;
  named = λ used a t. ap (tidy true) (first_token classes.Name Q used a t) ∙ ap (λ (b : Bool). b && tidy false t.back) t.before.is ∙ (q t.value).named t.back a t.after;
}

pub scoped_after : {A B : Type 0} {P : List Lexeme → A → Type 0} {Q : A → List Lexeme → B → Type 0} → Scoped P → ((a : A) → Goes (Q a)) → Scoped (P ▸ Q)
scoped_after p q = record {
  level = λ k used b t.
      ap (depth (suc k)) t.parts ∙ depth-append (suc k) t.front t.back ∙ ap (λ (o : Option ℕ). option_map_or (λ j. depth j t.back) o None) (p.level k t.front t.value t.before) ∙ (q t.value).level k t.back b t.after;
  ends = λ b used c t. both_ends b false used t.front t.back t.parts (p.ends b t.front t.value t.before) ((q t.value).still t.back c t.after);
  named = λ used c t. both_named true used t.front t.back t.parts (p.named t.front t.value t.before) ((q t.value).named t.back c t.after);
}

-- a quantifier's word, and what stands behind it
pub formed_quantifier : {A : Type 0} (word : Class) → Within (word ∷ []) openings → Within (word ∷ []) quantifiers → {Q : Lexeme → List Lexeme → A → Type 0} → ((t : Lexeme) → Scoped (Q t)) → Formed (Token word ▸ Q)
formed_quantifier {A = A} word within is_word {Q = Q} q = record {
  level = λ k used a t. ap (depth k) (first_token word Q used a t) ∙ opened_depth k t.value t.back (of_class word openings within t.value t.before.is) ∙ (q t.value).level k t.back a t.after;
  ends = λ b used a t. ap (awaits b) (first_token word Q used a t) ∙ (q t.value).ends (opens t.value) t.back a t.after;
  named = λ used a t. ap (tidy false) (first_token word Q used a t) ∙ ap (λ (b : Bool). tidy b t.back) (of_class word quantifiers is_word t.value t.before.is) ∙ (q t.value).named t.back a t.after;
}
