-- How split functions go through the operations.
use Rattle.std.proofs.Common.{◌≡◌, ◌≢◌, ◌==◌, ℕ, ◌⊎◌, inl, inr, sym, ◌∙◌, ap, subst, refl, Bool, true, false, ◌&&◌, ◌||◌, if◌then◌else◌, List, [], ◌∷◌}
use Rattle.std.proofs.lemmas.Bool.{cases_eq}
use Rattle.std.proofs.lemmas.Bool.Decides.{eqb_tells}
use Rattle.spec_model.specs.Diagrams.{Bits, Function, with_bit, ite, exists_over}
use Rattle.spec_model.specs.DiagramReads.{forall_over}
use Rattle.bdd_ops.specs.Functions.{split, Join, joined, joined_at, joined_over, is_among, IsQuantifier}
use Rattle.bdd_ops.specs.Reading.{Ignores}

-- ---- bits

if_twice : (t b c x : Bool) → (if t then c else (if t then b else x)) ≡ (if t then c else x)
if_twice t b c x = elim t as (λ v. (if v then c else (if v then b else x)) ≡ (if v then c else x)) [ true ↦ refl | false ↦ refl ]

-- the later of two bits for one level stays
pub with_bit-twice : (s : Bits) (level : ℕ) (b c : Bool) → with_bit (with_bit s level b) level c ≡ with_bit s level c
with_bit-twice s level b c = λ i other. if_twice (other == level) b c (s other) i

if_swapped : (t u b c x : Bool) → (t ≡ true → u ≡ true → ⊥) → (if t then c else (if u then b else x)) ≡ (if u then b else (if t then c else x))
if_swapped true true b c x apart = absurd (apart refl refl)
if_swapped true false b c x apart = refl
if_swapped false true b c x apart = refl
if_swapped false false b c x apart = refl

eqb_same : (a b : ℕ) → (a == b) ≡ true → a ≡ b
eqb_same a b e = elim (eqb_tells a b) [ inl same ↦ same.1 | inr other_one ↦ cc ]

-- bits of two levels may be set in either order
pub with_bit-swapped : (s : Bits) (level other : ℕ) (b c : Bool) → level ≢ other → with_bit (with_bit s other b) level c ≡ with_bit (with_bit s level c) other b
with_bit-swapped s level other b c apart =
    λ i at. if_swapped (at == level) (at == other) b c (s at) (λ p q. apart (sym (eqb_same at level p) ∙ eqb_same at other q)) i

-- a level's bit is the one set
pub with_bit-same : (s : Bits) (level : ℕ) (b : Bool) → with_bit s level b level ≡ b
with_bit-same s level b = elim (eqb_tells level level) [ inl same ↦ rw same.0 refl | inr other_one ↦ absurd (other_one.1 refl) ]

-- another level's bit is as before
pub with_bit-other : (s : Bits) (level other : ℕ) (b : Bool) → other ≢ level → with_bit s level b other ≡ s other
with_bit-other s level other b apart = elim (eqb_tells other level) [ inl same ↦ absurd (apart same.1) | inr other_one ↦ rw other_one.0 refl ]

-- ---- functions that ignore a level

ignores_both : (join : Join) (level other : ℕ) (f : Function) → Ignores other f → (level ≡ other) ⊎ (level ≢ other) → (s : Bits) (b c : Bool) → f (with_bit (with_bit s other b) level c) ≡ f (with_bit s level c)
ignores_both join level other f ignores (inl same) s b c = rw same (ap f (with_bit-twice s other b c))
ignores_both join level other f ignores (inr apart) s b c = ap f (with_bit-swapped s level other b c apart) ∙ ignores (with_bit s level c) b

-- a function that ignores a level still does after a level is quantified
pub ignores-joined_at : (join : Join) (level other : ℕ) (f : Function) → Ignores other f → Ignores other (joined_at join level f)
ignores-joined_at join level other f ignores s b =
    let low : f (with_bit (with_bit s other b) level false) ≡ f (with_bit s level false) = ignores_both join level other f ignores (cases_eq level other) s b false in
    let high : f (with_bit (with_bit s other b) level true) ≡ f (with_bit s level true) = ignores_both join level other f ignores (cases_eq level other) s b true in
    cc

pub ignores-joined_over : (join : Join) (levels : List ℕ) (other : ℕ) (f : Function) → Ignores other f → Ignores other (joined_over join levels f)
ignores-joined_over join [] other f ignores = ignores
ignores-joined_over join (level ∷ levels) other f ignores =
    ignores-joined_at join level other (joined_over join levels f) (ignores-joined_over join levels other f ignores)

-- to quantify a level that is ignored changes nothing
pub joined_at-ignored : (join : Join) → IsQuantifier join → (level : ℕ) (f : Function) → Ignores level f → joined_at join level f ≡ f
joined_at-ignored join laws level f ignores = λ i s. (ap (λ b. join b (f (with_bit s level true))) (ignores s false) ∙ (ap (λ b. join (f s) b) (ignores s true) ∙ laws.idle (f s))) i

-- no level of the list is read
abbrev pub IgnoresAll : List ℕ → Function → Type 0
IgnoresAll [] f = Unit {0}
IgnoresAll (level ∷ levels) f = Ignores level f × IgnoresAll levels f

-- to quantify levels that are ignored changes nothing
pub joined_over-ignored : (join : Join) → IsQuantifier join → (levels : List ℕ) (f : Function) → IgnoresAll levels f → joined_over join levels f ≡ f
joined_over-ignored join laws [] f ignores = refl
joined_over-ignored join laws (level ∷ levels) f ignores =
    ap (joined_at join level) (joined_over-ignored join laws levels f ignores.1) ∙ joined_at-ignored join laws level f ignores.0

-- ---- split functions

split_at : (join : Join) (level other : ℕ) (low high : Function) → level ≢ other → (s : Bits) (b : Bool) → s other ≡ b →
    join (if with_bit s level false other then high (with_bit s level false) else low (with_bit s level false)) (if with_bit s level true other then high (with_bit s level true) else low (with_bit s level true))
    ≡ (if b then joined_at join level high s else joined_at join level low s)
split_at join level other low high apart s true e =
    rw (with_bit-other s level other false (λ same. apart (sym same)), with_bit-other s level other true (λ same. apart (sym same)), e) refl
split_at join level other low high apart s false e =
    rw (with_bit-other s level other false (λ same. apart (sym same)), with_bit-other s level other true (λ same. apart (sym same)), e) refl

-- to quantify another level goes into both parts
pub joined_at-split : (join : Join) (level other : ℕ) (low high : Function) → level ≢ other → joined_at join level (split other low high) ≡ split other (joined_at join level low) (joined_at join level high)
joined_at-split join level other low high apart = λ i s. split_at join level other low high apart s (s other) refl i

-- to quantify the level itself joins the parts
pub joined_at-own : (join : Join) (level : ℕ) (low high : Function) → Ignores level low → Ignores level high → joined_at join level (split level low high) ≡ joined join low high
joined_at-own join level low high ignores_low ignores_high =
    λ i s. own join level low high ignores_low ignores_high s i where
      own : (join : Join) (level : ℕ) (low high : Function) → Ignores level low → Ignores level high → (s : Bits) → joined_at join level (split level low high) s ≡ join (low s) (high s)
      own join level low high ignores_low ignores_high s =
          rw (with_bit-same s level false, with_bit-same s level true, ignores_low s false, ignores_high s true) refl

-- to quantify a level goes into what is joined
pub joined_at-joined : (join : Join) → IsQuantifier join → (level : ℕ) (f g : Function) → joined_at join level (joined join f g) ≡ joined join (joined_at join level f) (joined_at join level g)
joined_at-joined join laws level f g = λ i s. laws.pairs (f (with_bit s level false)) (g (with_bit s level false)) (f (with_bit s level true)) (g (with_bit s level true)) i

one_more : (join : Join) → IsQuantifier join → (first level : ℕ) (f g : Function) → Ignores level f → Ignores level g → (among : Bool) → ((level == first) ≡ true × (level ≡ first)) ⊎ ((level == first) ≡ false × (level ≢ first)) →
    joined_at join first (if among then joined join f g else split level f g)
    ≡ (if (level == first) || among then joined join (joined_at join first f) (joined_at join first g) else split level (joined_at join first f) (joined_at join first g))
one_more join laws first level f g ignores_f ignores_g true (inl same) = rw same.0 (joined_at-joined join laws first f g)
one_more join laws first level f g ignores_f ignores_g true (inr apart) = rw apart.0 (joined_at-joined join laws first f g)
one_more join laws first level f g ignores_f ignores_g false (inl same) =
    let ignored_f : Ignores first f = subst (λ (l : ℕ). Ignores l f) same.1 ignores_f in
    let ignored_g : Ignores first g = subst (λ (l : ℕ). Ignores l g) same.1 ignores_g in
    let own : joined_at join first (split first f g) ≡ joined join f g = joined_at-own join first f g ignored_f ignored_g in
    let own_level : joined_at join first (split level f g) ≡ joined join f g = rw same.1 own in
    let left : joined_at join first f ≡ f = joined_at-ignored join laws first f ignored_f in
    let right : joined_at join first g ≡ g = joined_at-ignored join laws first g ignored_g in
    rw (same.0, left, right) own_level
one_more join laws first level f g ignores_f ignores_g false (inr apart) = rw apart.0 (joined_at-split join first level f g (λ same. apart.1 (sym same)))

-- a split function after its levels are quantified: joined where the level is among them, and else split
pub joined_over-split : (join : Join) → IsQuantifier join → (levels : List ℕ) (level : ℕ) (low high : Function) → Ignores level low → Ignores level high →
    joined_over join levels (split level low high)
    ≡ (if is_among level levels then joined join (joined_over join levels low) (joined_over join levels high) else split level (joined_over join levels low) (joined_over join levels high))
joined_over-split join laws [] level low high ignores_low ignores_high = refl
joined_over-split join laws (first ∷ levels) level low high ignores_low ignores_high =
    ap (joined_at join first) (joined_over-split join laws levels level low high ignores_low ignores_high)
    ∙ one_more join laws first level (joined_over join levels low) (joined_over join levels high) (ignores-joined_over join levels level low ignores_low) (ignores-joined_over join levels level high ignores_high) (is_among level levels) (eqb_tells level first)

-- ---- the quantifiers

pub some_is_quantifier : IsQuantifier ◌||◌
some_is_quantifier = record { idle = idle; pairs = pairs } where
  idle : (b : Bool) → (b || b) ≡ b
  idle true = refl
  idle false = refl

  pairs : (a b c d : Bool) → ((a || b) || (c || d)) ≡ ((a || c) || (b || d))
  pairs true b c d = refl
  pairs false true true d = refl
  pairs false true false d = refl
  pairs false false true d = refl
  pairs false false false d = refl

pub all_is_quantifier : IsQuantifier ◌&&◌
all_is_quantifier = record { idle = idle; pairs = pairs } where
  idle : (b : Bool) → (b && b) ≡ b
  idle true = refl
  idle false = refl

  pairs : (a b c d : Bool) → ((a && b) && (c && d)) ≡ ((a && c) && (b && d))
  pairs false b c d = refl
  pairs true true true d = refl
  pairs true true false d = refl
  pairs true false true d = refl
  pairs true false false d = refl

-- `exists` joins by `or`, and `forall` by `and`
pub exists_over-joined : (levels : List ℕ) (f : Function) → exists_over levels f ≡ joined_over ◌||◌ levels f
exists_over-joined [] f = refl
exists_over-joined (level ∷ levels) f = ap (joined_at ◌||◌ level) (exists_over-joined levels f)

pub forall_over-joined : (levels : List ℕ) (f : Function) → forall_over levels f ≡ joined_over ◌&&◌ levels f
forall_over-joined [] f = refl
forall_over-joined (level ∷ levels) f = ap (joined_at ◌&&◌ level) (forall_over-joined levels f)

-- ---- choosing

split_ite : (b : Bool) (f0 f1 g0 g1 h0 h1 : Bool) →
    (if (if b then f1 else f0) then (if b then g1 else g0) else (if b then h1 else h0)) ≡ (if b then (if f1 then g1 else h1) else (if f0 then g0 else h0))
split_ite true f0 f1 g0 g1 h0 h1 = refl
split_ite false f0 f1 g0 g1 h0 h1 = refl

-- a choice between split functions is split
pub ite-split : (level : ℕ) (f0 f1 g0 g1 h0 h1 : Function) → ite (split level f0 f1) (split level g0 g1) (split level h0 h1) ≡ split level (ite f0 g0 h0) (ite f1 g1 h1)
ite-split level f0 f1 g0 g1 h0 h1 = λ i s. split_ite (s level) (f0 s) (f1 s) (g0 s) (g1 s) (h0 s) (h1 s) i

-- a function is split into itself and itself
pub split-same : (level : ℕ) (f : Function) → split level f f ≡ f
split-same level f = λ i s. one (s level) (f s) i where
  one : (b v : Bool) → (if b then v else v) ≡ v
  one true v = refl
  one false v = refl
