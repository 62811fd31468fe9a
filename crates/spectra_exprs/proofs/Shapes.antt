-- The tokens of an expression: what they open they close, a name is behind each quantifier's word, and the last token ends an
-- operand.
use Rattle.std.proofs.Common.{◌≡◌, ℕ, zero, suc, Bool, true, false, cond, not, ◌&&◌, ◌||◌, nat_eq, List, [], ◌∷◌, ◌++◌, Option, Some, None, option_map, inl, inr, refl, sym, ap, subst, ◌∙◌}
use Rattle.std.specs.Option.{option_map_or}
use Rattle.spectra_trees.specs.declared.class.Class.{Class}
use Rattle.spectra_trees.specs.declared.class.Class.TheVariants as classes
use Rattle.spectra_trees.specs.Classes.{place_of, same_class}
use Rattle.spectra_trees.specs.Lexemes.{Lexeme}
use Rattle.spectra_exprs.specs.Forms.{Gives, Token, ◌▸◌, ◌∣◌, Steps}
use Rattle.spectra_exprs.proofs.ClassSets.{among, going, Apart, Within, going_apart, same_going}
use Rattle.spectra_exprs.proofs.Completeness.{Begins, begins_wider}
use Rattle.spectra_exprs.proofs.Awaiting.{quantifiers, awaits, awaits-append}

-- the classes of an expression's tokens, but for those that open, close or separate
abbrev pub inner_tokens : List Class
inner_tokens =
    classes.Next ∷ classes.True ∷ classes.False ∷ classes.Name ∷ classes.Number ∷ classes.Not ∷ classes.Prev ∷ classes.Once ∷ classes.Historically
    ∷ classes.Implies ∷ classes.Iff ∷ classes.Since ∷ classes.Triggered ∷ classes.And ∷ classes.Or ∷ classes.Bar
    ∷ classes.Equal ∷ classes.Unequal ∷ classes.Less ∷ classes.AtMost ∷ classes.Greater ∷ classes.AtLeast ∷ classes.Plus ∷ classes.Minus ∷ classes.Star ∷ classes.Mod ∷ []

-- the classes that stand in an expression at no depth
abbrev pub phrase_tokens : List Class
phrase_tokens = classes.Open ∷ classes.OpenBracket ∷ classes.ForAll ∷ classes.Exists ∷ inner_tokens

-- a quantifier's word opens what its colon closes
abbrev pub openings : List Class
openings = classes.Open ∷ classes.OpenBracket ∷ classes.ForAll ∷ classes.Exists ∷ []

abbrev pub closings : List Class
closings = classes.Close ∷ classes.CloseBracket ∷ classes.Colon ∷ []

abbrev pub separators : List Class
separators = classes.Comma ∷ classes.In ∷ classes.UpTo ∷ []

pub within_one : (F G : List Class) → Within F G → (t : Lexeme) → going F (t ∷ []) ≡ true → going G (t ∷ []) ≡ true
within_one F G within t on = (begins_wider within (begins_as F t on)).first (t ∷ []) t [] refl
  where
    begins_as : (F : List Class) (t : Lexeme) → going F (t ∷ []) ≡ true → Begins F (λ used (a : Lexeme). used ≡ t ∷ [])
    begins_as F t on = record { first = λ used a rest p. rw p on }

-- ---- how deep in brackets

abbrev pub outside : ℕ → Option ℕ
outside zero = None
outside (suc k) = Some k

abbrev pub by_sort : Bool → Bool → Bool → Bool → ℕ → Option ℕ
by_sort opening closing comma inner k = cond opening (Some (suc k)) (cond closing (outside k) (cond comma (option_map suc (outside k)) (cond inner (Some k) None)))

-- the depth behind a token, from that before it
abbrev pub deeper : ℕ → Lexeme → Option ℕ
deeper k t = by_sort (among openings (place_of t.class)) (among closings (place_of t.class)) (among separators (place_of t.class)) (among inner_tokens (place_of t.class)) k

-- the depth behind tokens
abbrev pub depth : ℕ → List Lexeme → Option ℕ
depth k [] = Some k
depth k (t ∷ ts) = option_map_or (λ j. depth j ts) (deeper k t) None

append_by : (u v : List Lexeme) (o : Option ℕ) → ((j : ℕ) → depth j (u ++ v) ≡ option_map_or (λ i. depth i v) (depth j u) None)
    → option_map_or (λ j. depth j (u ++ v)) o None ≡ option_map_or (λ j. depth j v) (option_map_or (λ j. depth j u) o None) None
append_by u v (Some j) further = further j
append_by u v None further = refl

pub depth-append : (k : ℕ) (u v : List Lexeme) → depth k (u ++ v) ≡ option_map_or (λ j. depth j v) (depth k u) None
depth-append k [] v = refl
depth-append k (t ∷ u) v = append_by u v (deeper k t) (λ j. depth-append j u v)

-- the depth in between
pub record Between (k : ℕ) (u v : List Lexeme) (last : ℕ) : Type 0 where
  pub middle : ℕ
  pub before : depth k u ≡ Some middle
  pub after : depth middle v ≡ Some last

pub depth_between : (k : ℕ) (u v : List Lexeme) (last : ℕ) → depth k (u ++ v) ≡ Some last → Between k u v last
depth_between k u v last e = by (depth k u) refl (sym (depth-append k u v) ∙ e)
  where
    by : (o : Option ℕ) → depth k u ≡ o → option_map_or (λ j. depth j v) o None ≡ Some last → Between k u v last
    by (Some j) is e = record { middle = j; before = is; after = e }
    by None is e = absurd (cc)

sort_deeper : (a b c d : Bool) (k m : ℕ) → by_sort a b c d k ≡ Some m → by_sort a b c d (suc k) ≡ Some (suc m)
sort_deeper true b c d k m e = let same : suc k ≡ m = cc in ap (λ (x : ℕ). Some (suc x)) same
sort_deeper false true c d zero m e = absurd (cc)
sort_deeper false true c d (suc k) m e = let same : k ≡ m = cc in ap (λ (x : ℕ). Some (suc x)) same
sort_deeper false false true d zero m e = absurd (cc)
sort_deeper false false true d (suc k) m e = let same : suc k ≡ m = cc in ap (λ (x : ℕ). Some (suc x)) same
sort_deeper false false false true k m e = let same : k ≡ m = cc in ap (λ (x : ℕ). Some (suc x)) same
sort_deeper false false false false k m e = absurd (cc)

deeper_by : (k : ℕ) (t : Lexeme) (ts : List Lexeme) (m : ℕ) (o : Option ℕ) → ((j : ℕ) → depth j ts ≡ Some m → depth (suc j) ts ≡ Some (suc m)) → deeper k t ≡ o → option_map_or (λ j. depth j ts) o None ≡ Some m → depth (suc k) (t ∷ ts) ≡ Some (suc m)
deeper_by k t ts m (Some j) further is e =
    let more : deeper (suc k) t ≡ Some (suc j) =
    sort_deeper (among openings (place_of t.class)) (among closings (place_of t.class)) (among separators (place_of t.class)) (among inner_tokens (place_of t.class)) k j is in
    ap (λ (o : Option ℕ). option_map_or (λ i. depth i ts) o None) more ∙ further j e
deeper_by k t ts m None further is e = absurd (cc)

depth-suc : (k : ℕ) (ts : List Lexeme) (m : ℕ) → depth k ts ≡ Some m → depth (suc k) ts ≡ Some (suc m)
depth-suc k [] m e = let same : k ≡ m = cc in ap (λ (x : ℕ). Some (suc x)) same
depth-suc k (t ∷ ts) m e = deeper_by k t ts m (deeper k t) (λ j. depth-suc j ts m) refl e

abbrev raised : ℕ → ℕ → ℕ
raised zero j = j
raised (suc i) j = suc (raised i j)

depth_raised : (i : ℕ) (ts : List Lexeme) (j : ℕ) → depth 0 ts ≡ Some j → depth i ts ≡ Some (raised i j)
depth_raised zero ts j e = e
depth_raised (suc i) ts j e = depth-suc i ts (raised i j) (depth_raised i ts j e)

raised_none : (i j : ℕ) → ◌≡◌ {A = Option ℕ} (Some (raised i j)) (Some 0) → j ≡ 0
raised_none zero j e = cc
raised_none (suc i) j e = absurd (cc)

sort_within : (a b c d : Bool) (m : ℕ) → by_sort a b c d 0 ≡ Some m → a || d ≡ true
sort_within true b c d m e = refl
sort_within false true c d m e = absurd (cc)
sort_within false false true d m e = absurd (cc)
sort_within false false false true m e = refl
sort_within false false false false m e = absurd (cc)

first_within : (u : Lexeme) (q : List Lexeme) (last : ℕ) → depth 0 (u ∷ q) ≡ Some last → among phrase_tokens (place_of u.class) ≡ true
first_within u q last e = by (deeper 0 u) refl e
  where
    one_of : (a b c d e : Bool) → (a || (b || (c || (d || false)))) || e ≡ true → a || (b || (c || (d || e))) ≡ true
    one_of true b c d e h = refl
    one_of false true c d e h = refl
    one_of false false true d e h = refl
    one_of false false false true e h = refl
    one_of false false false false e h = h

    by : (o : Option ℕ) → deeper 0 u ≡ o → option_map_or (λ j. depth j q) o None ≡ Some last → among phrase_tokens (place_of u.class) ≡ true
    by (Some m) is e =
        one_of (nat_eq (place_of u.class) (place_of classes.Open)) (nat_eq (place_of u.class) (place_of classes.OpenBracket)) (nat_eq (place_of u.class) (place_of classes.ForAll)) (nat_eq (place_of u.class) (place_of classes.Exists)) (among inner_tokens (place_of u.class))
        (sort_within (among openings (place_of u.class)) (among closings (place_of u.class)) (among separators (place_of u.class)) (among inner_tokens (place_of u.class)) m is)
    by None is e = absurd (cc)

-- where a part ends what has closed all that it opened, what goes on behind it in what does so too stands in no brackets
pub goes_on_flat : (front part : List Lexeme) (u : Lexeme) (q : List Lexeme) → depth 0 (front ++ part) ≡ Some 0 → depth 0 (part ++ u ∷ q) ≡ Some 0 → among phrase_tokens (place_of u.class) ≡ true
goes_on_flat front part u q one two =
    let x = depth_between 0 front part 0 one in
    let y = depth_between 0 part (u ∷ q) 0 two in
    let same : Some (raised x.middle y.middle) ≡ Some 0 = sym (depth_raised x.middle part y.middle y.before) ∙ x.after in
    let none : y.middle ≡ 0 = raised_none x.middle y.middle same in
    first_within u q 0 (subst (λ (j : ℕ). depth j (u ∷ q) ≡ Some 0) none y.after)

-- ---- behind the words of quantifiers

-- whether a name stands behind each word of a quantifier, also where one stands before these tokens
abbrev pub tidy : Bool → List Lexeme → Bool
tidy b [] = not b
tidy true (t ∷ ts) = same_class t.class classes.Name && tidy false ts
tidy false (t ∷ ts) = tidy (among quantifiers (place_of t.class)) ts

tidy_name : (n : Bool) (b c : Bool) → n && b ≡ true → (b ≡ true → c ≡ true) → n && c ≡ true
tidy_name true b c e f = f e
tidy_name false b c e f = e

pub tidy_append : (b : Bool) (u v : List Lexeme) → tidy b u ≡ true → tidy false v ≡ true → tidy b (u ++ v) ≡ true
tidy_append true [] v one two = absurd (cc)
tidy_append false [] v one two = two
tidy_append true (t ∷ u) v one two = tidy_name (same_class t.class classes.Name) (tidy false u) (tidy false (u ++ v)) one (λ e. tidy_append false u v e two)
tidy_append false (t ∷ u) v one two = tidy_append (among quantifiers (place_of t.class)) u v one two

-- ---- what is of the grammar

-- it closes what it opens, and what is behind an operand still ends one
pub record Goes {A : Type 0} (P : List Lexeme → A → Type 0) : Type 0 where
  pub level : (k : ℕ) (used : List Lexeme) (a : A) → P used a → depth k used ≡ Some k
  pub still : (used : List Lexeme) (a : A) → P used a → awaits false used ≡ false
  pub named : (used : List Lexeme) (a : A) → P used a → tidy false used ≡ true

-- it closes what it opens, and ends an operand
pub record Formed {A : Type 0} (P : List Lexeme → A → Type 0) : Type 0 where
  pub level : (k : ℕ) (used : List Lexeme) (a : A) → P used a → depth k used ≡ Some k
  pub ends : (b : Bool) (used : List Lexeme) (a : A) → P used a → awaits b used ≡ false
  pub named : (used : List Lexeme) (a : A) → P used a → tidy false used ≡ true

pub goes_of : {A : Type 0} {P : List Lexeme → A → Type 0} → Formed P → Goes P
goes_of f = record { level = f.level; still = λ used a p. f.ends false used a p; named = f.named }

pub goes_gives : {A : Type 0} (a : A) → Goes (Gives a)
goes_gives a = record { level = λ k used b p. ap (depth k) p.nothing; still = λ used b p. ap (awaits false) p.nothing; named = λ used b p. ap (tidy false) p.nothing }

pub goes_or : {A : Type 0} {P Q : List Lexeme → A → Type 0} → Goes P → Goes Q → Goes (P ∣ Q)
goes_or {A = A} {P = P} {Q = Q} p q = record { level = level; still = still; named = named }
  where
    level : (k : ℕ) (used : List Lexeme) (a : A) → (P ∣ Q) used a → depth k used ≡ Some k
    level k used a (inl h) = p.level k used a h
    level k used a (inr h) = q.level k used a h

    still : (used : List Lexeme) (a : A) → (P ∣ Q) used a → awaits false used ≡ false
    still used a (inl h) = p.still used a h
    still used a (inr h) = q.still used a h

    named : (used : List Lexeme) (a : A) → (P ∣ Q) used a → tidy false used ≡ true
    named used a (inl h) = p.named used a h
    named used a (inr h) = q.named used a h

pub formed_or : {A : Type 0} {P Q : List Lexeme → A → Type 0} → Formed P → Formed Q → Formed (P ∣ Q)
formed_or {A = A} {P = P} {Q = Q} p q = record { level = level; ends = ends; named = named }
  where
    level : (k : ℕ) (used : List Lexeme) (a : A) → (P ∣ Q) used a → depth k used ≡ Some k
    level k used a (inl h) = p.level k used a h
    level k used a (inr h) = q.level k used a h

    ends : (b : Bool) (used : List Lexeme) (a : A) → (P ∣ Q) used a → awaits b used ≡ false
    ends b used a (inl h) = p.ends b used a h
    ends b used a (inr h) = q.ends b used a h

    named : (used : List Lexeme) (a : A) → (P ∣ Q) used a → tidy false used ≡ true
    named used a (inl h) = p.named used a h
    named used a (inr h) = q.named used a h

pub both_level : (k : ℕ) (used u v : List Lexeme) → used ≡ u ++ v → depth k u ≡ Some k → depth k v ≡ Some k → depth k used ≡ Some k
both_level k used u v parts one two = ap (depth k) parts ∙ depth-append k u v ∙ ap (λ (o : Option ℕ). option_map_or (λ j. depth j v) o None) one ∙ two

pub both_ends : (b c : Bool) (used u v : List Lexeme) → used ≡ u ++ v → awaits b u ≡ c → awaits c v ≡ false → awaits b used ≡ false
both_ends b c used u v parts one two = ap (awaits b) parts ∙ awaits-append b u v ∙ ap (λ (x : Bool). awaits x v) one ∙ two

pub both_named : (b : Bool) (used u v : List Lexeme) → used ≡ u ++ v → tidy b u ≡ true → tidy false v ≡ true → tidy b used ≡ true
both_named b used u v parts one two = ap (tidy b) parts ∙ tidy_append b u v one two

pub formed_then : {A B : Type 0} {P : List Lexeme → A → Type 0} {Q : A → List Lexeme → B → Type 0} → Formed P → ((a : A) → Goes (Q a)) → Formed (P ▸ Q)
formed_then p q = record {
  level = λ k used b t. both_level k used t.front t.back t.parts (p.level k t.front t.value t.before) ((q t.value).level k t.back b t.after);
  ends = λ b used c t. both_ends b false used t.front t.back t.parts (p.ends b t.front t.value t.before) ((q t.value).still t.back c t.after);
  named = λ used c t. both_named false used t.front t.back t.parts (p.named t.front t.value t.before) ((q t.value).named t.back c t.after);
}

pub goes_then : {A B : Type 0} {P : List Lexeme → A → Type 0} {Q : A → List Lexeme → B → Type 0} → Goes P → ((a : A) → Goes (Q a)) → Goes (P ▸ Q)
goes_then p q = record {
  level = λ k used b t. both_level k used t.front t.back t.parts (p.level k t.front t.value t.before) ((q t.value).level k t.back b t.after);
  still = λ used c t. both_ends false false used t.front t.back t.parts (p.still t.front t.value t.before) ((q t.value).still t.back c t.after);
  named = λ used c t. both_named false used t.front t.back t.parts (p.named t.front t.value t.before) ((q t.value).named t.back c t.after);
}

pub formed_nothing : {A : Type 0} → Formed {A = A} (λ used a. ⊥)
formed_nothing = record { level = λ k used a p. absurd p; ends = λ b used a p. absurd p; named = λ used a p. absurd p }

module _ {A : Type 0} {step : A → List Lexeme → A → Type 0} (each : (a : A) → Formed (step a)) where
  steps_level : (k : ℕ) (a : A) (used : List Lexeme) (b : A) → Steps step a used b → depth k used ≡ Some k
  steps_level k a used b (Steps.done x) = refl
  steps_level k a used b (Steps.one_more x front y back z here more) = both_level k (front ++ back) front back refl ((each x).level k front y here) (steps_level k y back z more)

  steps_still : (a : A) (used : List Lexeme) (b : A) → Steps step a used b → awaits false used ≡ false
  steps_still a used b (Steps.done x) = refl
  steps_still a used b (Steps.one_more x front y back z here more) = both_ends false false (front ++ back) front back refl ((each x).ends false front y here) (steps_still y back z more)

  steps_named : (a : A) (used : List Lexeme) (b : A) → Steps step a used b → tidy false used ≡ true
  steps_named a used b (Steps.done x) = refl
  steps_named a used b (Steps.one_more x front y back z here more) = both_named false (front ++ back) front back refl ((each x).named front y here) (steps_named y back z more)

  pub goes_steps : (a : A) → Goes (Steps step a)
  goes_steps a = record { level = λ k used b s. steps_level k a used b s; still = λ used b s. steps_still a used b s; named = λ used b s. steps_named a used b s }
