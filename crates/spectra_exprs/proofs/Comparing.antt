-- Reading a phrase that an operator follows, and beside it the word `true` in the phrase's place: one lemma for each form.
use Rattle.std.proofs.Common.{◌≡◌, ℕ, zero, suc, Bool, true, false, cond, ◌||◌, nat_eq, List, [], ◌∷◌, ◌++◌, Option, Some, None, Ok, Err, ◌⊎◌, inl, inr, refl, sym, ap, subst, ◌∙◌, append_assoc}
use Rattle.std.specs.Option.{option_map_or}
use Rattle.spectra_exprs.specs.declared.fault.SyntaxFault.{SyntaxFault}
use Rattle.spectra_exprs.specs.declared.fault.SyntaxFault.TheVariants as faults
use Rattle.spectra_trees.specs.declared.class.Class.{Class}
use Rattle.spectra_trees.specs.declared.class.Class.TheVariants as classes
use Rattle.spectra_trees.specs.Classes.{place_of, same_class}
use Rattle.spectra_trees.specs.Lexemes.{Lexeme}
use Rattle.spectra_exprs.specs.Read.{Read, Reader, ◌>>=◌, unexpected, first_number, starts, expect, grow}
use Rattle.spectra_exprs.specs.Operators.{is_operator}
use Rattle.spectra_exprs.proofs.ClassSets.{among, going, Apart, Within, going_apart, same_going}
use Rattle.spectra_exprs.proofs.WholeExpressions.{b_expr}
use Rattle.spectra_exprs.proofs.Stopping.{OfHead, starts_of_head}
use Rattle.spectra_exprs.proofs.Awaiting.{awaits}
use Rattle.spectra_exprs.proofs.Shapes.{depth, within_one}

-- none of these tokens has the token's number
abbrev pub Fresh : Lexeme → List Lexeme → Type 0
Fresh t [] = Unit {0}
Fresh t (u ∷ us) = (u.number ≡ t.number → ⊥) × Fresh t us

pub fresh_behind : (t : Lexeme) (u v : List Lexeme) → Fresh t (u ++ v) → Fresh t v
fresh_behind t [] v h = h
fresh_behind t (x ∷ u) v h = fresh_behind t u v h.1

-- a phrase and the operator behind it, and the word `true` with what is behind that
pub record Pair : Type 0 where
  pub phrase : List Lexeme
  pub operator : Lexeme
  pub word : Lexeme
  pub more : List Lexeme
  pub head : Lexeme
  pub tail : List Lexeme
  pub parts : phrase ≡ head ∷ tail
  pub begins : among b_expr (place_of head.class) ≡ true
  pub flat : depth 0 phrase ≡ Some 0
  pub ends : (b : Bool) → awaits b phrase ≡ false
  pub is : is_operator operator.class ≡ true
  pub some : operator.number ≡ 0 → ⊥
  pub fresh : Fresh operator phrase
  pub says : same_class word.class classes.True ≡ true
  pub named : word.number ≡ operator.number

abbrev pub said : Pair → List Lexeme
said p = p.phrase ++ p.operator ∷ []

abbrev pub instead : Pair → List Lexeme
instead p = p.word ∷ p.more

-- how the two readings behind the same front compare: both went on in the front; the word is refused; the other stops, but not
-- unexpectedly at the operator; or one of them waits at a token of a set, at the word itself, or at one within the phrase
pub data Compared {A : Type 0} (p : Pair) (F : List Class) (front : List Lexeme) (one two : Read A) : Type 0 where
  both : (used left : List Lexeme) (a : A) → front ≡ used ++ left → one ≡ Ok (a, left ++ said p) → two ≡ Ok (a, left ++ instead p) → Compared p F front one two
  refuses : two ≡ Err (faults.Unexpected p.word.number) → Compared p F front one two
  elsewhere : (f : SyntaxFault) → one ≡ Err f → (f ≡ faults.Unexpected p.operator.number → ⊥) → Compared p F front one two
  waits : (a : A) → two ≡ Ok (a, instead p) → among F (place_of p.word.class) ≡ true → Compared p F front one two
  behind : (a : A) (u : Lexeme) (w : List Lexeme) → one ≡ Ok (a, u ∷ w) → among F (place_of u.class) ≡ true → (u.number ≡ p.operator.number → ⊥) → Compared p F front one two

pub record Tells {A : Type 0} (p : Pair) (F : List Class) (R : List Lexeme → Read A) : Type 0 where
  pub tells : (front : List Lexeme) → Fresh p.operator front → Compared p F front (R (front ++ said p)) (R (front ++ instead p))

-- a token of one set is refused, or nothing is read there and it is of the other set
pub record Blocks {A : Type 0} (G F : List Class) (R : List Lexeme → Read A) : Type 0 where
  pub blocks : (t : Lexeme) (ts : List Lexeme) → among G (place_of t.class) ≡ true → (R (t ∷ ts) ≡ Err (faults.Unexpected t.number)) ⊎ ((a : A) × (R (t ∷ ts) ≡ Ok (a, t ∷ ts)) × (among F (place_of t.class) ≡ true))

-- ---- what waits is refused, or waits on

pub blocks_none : {A : Type 0} {F : List Class} {R : Reader A} → Blocks [] F R
blocks_none = record { blocks = λ t ts on. absurd (never on) }
  where
    never : ◌≡◌ {A = Bool} false true → ⊥
    never e = cc

pub blocks_gives : {A : Type 0} {G F : List Class} (a : A) → Within G F → Blocks G F (λ ts. Ok (a, ts))
blocks_gives {G = G} {F = F} a within = record { blocks = λ t ts on. inr (a, refl, within_one G F within t on) }

or_false : (a : Bool) → a || false ≡ false → a ≡ false
or_false true e = e
or_false false e = e

pub off_class : (G : List Class) (class : Class) → Apart G (class ∷ []) → (t : Lexeme) → among G (place_of t.class) ≡ true → same_class t.class class ≡ false
unfolding same_class
off_class G class apart t on = or_false (nat_eq (place_of t.class) (place_of class)) (going_apart G (class ∷ []) apart (t ∷ []) on)

pub blocks_token : {G F : List Class} (class : Class) → Apart G (class ∷ []) → Blocks G F (expect class)
unfolding expect
blocks_token {G = G} class apart = record { blocks = λ t ts on. let off = off_class G class apart t on in inl (rw off refl) }

pub blocks_unexpected : {A : Type 0} {G F : List Class} → Blocks {A = A} G F unexpected
unfolding unexpected first_number
blocks_unexpected = record { blocks = λ t ts on. inl refl }

pub blocks_then : {A B : Type 0} {G F : List Class} (D : List Class) {R : Reader A} {S : A → Reader B} → Blocks G D R → ((a : A) → Blocks D F (S a)) → Blocks G F (λ ts. R ts >>= S)
blocks_then {A = A} {B = B} {G = G} {F = F} D {R = R} {S = S} first second = record { blocks = λ t ts on. by t ts (first.blocks t ts on) }
  where
    passed : (t : Lexeme) (ts : List Lexeme) (a : A) → R (t ∷ ts) ≡ Ok (a, t ∷ ts) → (S a (t ∷ ts) ≡ Err (faults.Unexpected t.number)) ⊎ ((b : B) × (S a (t ∷ ts) ≡ Ok (b, t ∷ ts)) × (among F (place_of t.class) ≡ true))
        → ((R (t ∷ ts) >>= S) ≡ Err (faults.Unexpected t.number)) ⊎ ((b : B) × ((R (t ∷ ts) >>= S) ≡ Ok (b, t ∷ ts)) × (among F (place_of t.class) ≡ true))
    passed t ts a read (inl e) = inl (rw read e)
    passed t ts a read (inr e) = inr (e.0, rw read e.1, e.2)

    by : (t : Lexeme) (ts : List Lexeme) → (R (t ∷ ts) ≡ Err (faults.Unexpected t.number)) ⊎ ((a : A) × (R (t ∷ ts) ≡ Ok (a, t ∷ ts)) × (among D (place_of t.class) ≡ true))
        → ((R (t ∷ ts) >>= S) ≡ Err (faults.Unexpected t.number)) ⊎ ((b : B) × ((R (t ∷ ts) >>= S) ≡ Ok (b, t ∷ ts)) × (among F (place_of t.class) ≡ true))
    by t ts (inl e) = inl (rw e refl)
    by t ts (inr e) = passed t ts e.0 e.1 ((second e.0).blocks t ts e.2)

pub blocks_after : {B : Type 0} {G F : List Class} (class : Class) (S : Lexeme → Reader B) → Apart G (class ∷ []) → Blocks G F (λ ts. expect class ts >>= S)
blocks_after class S apart = blocks_then [] (blocks_token class apart) (λ (t : Lexeme). blocks_none)

pub blocks_if : {A : Type 0} {G F : List Class} (class : Class) (R : Reader A) {S : Reader A} → Apart G (class ∷ []) → Blocks G F S → Blocks G F (λ ts. cond (starts class ts) (R ts) (S ts))
unfolding starts
blocks_if {G = G} class R apart s = record { blocks = λ t ts on. let off = off_class G class apart t on in rw off (s.blocks t ts on) }

pub blocks_look : {X A : Type 0} {G F : List Class} (look : List Lexeme → Option (X × List Lexeme)) (R : X → Reader A) {S : Reader A} → ((t : Lexeme) (ts : List Lexeme) → among G (place_of t.class) ≡ true → look (t ∷ ts) ≡ None) → Blocks G F S
    → Blocks G F (λ ts. option_map_or (λ o. R o.0 o.1) (look ts) (S ts))
blocks_look look R none s = record { blocks = λ t ts on. let off = none t ts on in rw off (s.blocks t ts on) }

pub blocks_same : {A : Type 0} {G F : List Class} {R S : Reader A} → ((ts : List Lexeme) → R ts ≡ S ts) → Blocks G F S → Blocks G F R
blocks_same same s = record { blocks = λ t ts on. let e = same (t ∷ ts) in rw e (s.blocks t ts on) }

-- a loop that doesn't go on
pub blocks_off : {A : Type 0} {G F : List Class} (test : List Lexeme → Bool) (step : A → Reader A) → ((t : Lexeme) (ts : List Lexeme) → among G (place_of t.class) ≡ true → test (t ∷ ts) ≡ false) → Within G F → (n : ℕ) (a : A) → Blocks G F (grow test step n a)
unfolding grow
blocks_off {G = G} {F = F} test step off within zero a = record { blocks = λ t ts on. inr (a, refl, within_one G F within t on) }
blocks_off {G = G} {F = F} test step off within (suc n) a = record { blocks = λ t ts on. let o = off t ts on in inr (a, rw o refl, within_one G F within t on) }

-- a loop that goes on, but whose step is refused
pub blocks_on : {A : Type 0} {G F : List Class} (test : List Lexeme → Bool) {step : A → Reader A} → ((t : Lexeme) (ts : List Lexeme) → among G (place_of t.class) ≡ true → test (t ∷ ts) ≡ true) → ((a : A) → Blocks G [] (step a)) → (n : ℕ) (a : A) → Blocks G F (grow test step (suc n) a)
unfolding grow
blocks_on {A = A} {G = G} {F = F} test {step = step} on each n a = record { blocks = λ t ts in_set. by t ts (on t ts in_set) ((each a).blocks t ts in_set) }
  where
    by : (t : Lexeme) (ts : List Lexeme) → test (t ∷ ts) ≡ true → (step a (t ∷ ts) ≡ Err (faults.Unexpected t.number)) ⊎ ((b : A) × (step a (t ∷ ts) ≡ Ok (b, t ∷ ts)) × (false ≡ true))
        → (grow test step (suc n) a (t ∷ ts) ≡ Err (faults.Unexpected t.number)) ⊎ ((b : A) × (grow test step (suc n) a (t ∷ ts) ≡ Ok (b, t ∷ ts)) × (among F (place_of t.class) ≡ true))
    by t ts go (inl e) = inl (rw (go, e) refl)
    by t ts go (inr e) = let wrong : false ≡ true = e.2 in absurd (cc)

-- ---- the two readings

pub number_apart : (k m : ℕ) → (k ≡ m → ⊥) → faults.Unexpected k ≡ faults.Unexpected m → ⊥
number_apart k m other e = other (cc)

module _ (p : Pair) where
  pub word_off : (class : Class) → Apart (classes.True ∷ []) (class ∷ []) → same_class p.word.class class ≡ false
  word_off class apart = off_class (classes.True ∷ []) class apart p.word (same_going classes.True p.word [] p.says)

  pub compared_as : {A : Type 0} {F : List Class} {front : List Lexeme} {one two one' two' : Read A} → one' ≡ one → two' ≡ two → Compared p F front one two → Compared p F front one' two'
  compared_as {F = F} {front = front} {one = one} {two' = two'} e g c = subst (λ (r : Read _). Compared p F front r two') (sym e) (subst (λ (r : Read _). Compared p F front one r) (sym g) c)

  pub tells_gives : {A : Type 0} {F : List Class} (a : A) → Tells p F (λ ts. Ok (a, ts))
  tells_gives a = record { tells = λ front fresh. Compared.both [] front a refl refl refl }

  pub tells_same : {A : Type 0} {F : List Class} {R S : Reader A} → ((ts : List Lexeme) → R ts ≡ S ts) → Tells p F S → Tells p F R
  tells_same same s = record { tells = λ front fresh. compared_as (same (front ++ said p)) (same (front ++ instead p)) (s.tells front fresh) }

  pub tells_token : {F : List Class} (class : Class) → Apart (classes.True ∷ []) (class ∷ []) → Tells p F (expect class)
  unfolding expect
  tells_token {F = F} class apart = record { tells = at }
    where
      by : (b : Bool) (t : Lexeme) (front : List Lexeme) → (t.number ≡ p.operator.number → ⊥) → Compared {A = Lexeme} p F (t ∷ front) (cond b (Ok (t, front ++ said p)) (Err (faults.Unexpected t.number))) (cond b (Ok (t, front ++ instead p)) (Err (faults.Unexpected t.number)))
      by true t front other = Compared.both (t ∷ []) front t refl refl refl
      by false t front other = Compared.elsewhere (faults.Unexpected t.number) refl (number_apart t.number p.operator.number other)

      at : (front : List Lexeme) → Fresh p.operator front → Compared p F front (expect class (front ++ said p)) (expect class (front ++ instead p))
      at [] fresh = let off = word_off class apart in Compared.refuses (rw off refl)
      at (t ∷ front) fresh = by (same_class t.class class) t front fresh.0

  pub tells_unexpected : {A : Type 0} {F : List Class} → Tells {A = A} p F unexpected
  unfolding unexpected first_number
  tells_unexpected {A = A} {F = F} = record { tells = at }
    where
      at : (front : List Lexeme) → Fresh p.operator front → Compared {A = A} p F front (unexpected (front ++ said p)) (unexpected (front ++ instead p))
      at [] fresh = Compared.refuses refl
      at (t ∷ front) fresh = Compared.elsewhere (faults.Unexpected t.number) refl (number_apart t.number p.operator.number fresh.0)

  -- ---- one after the other

  module _ {A B : Type 0} {G F : List Class} (R : Reader A) (S : A → Reader B) (blocks : (a : A) → Blocks G F (S a)) where
    later : (front used left : List Lexeme) (a : A) → front ≡ used ++ left → (one two : Read A) → one ≡ Ok (a, left ++ said p) → two ≡ Ok (a, left ++ instead p) → Compared p F left (S a (left ++ said p)) (S a (left ++ instead p)) → Compared p F front (one >>= S) (two >>= S)
    later front used left a parts one two e g (Compared.both used2 left2 b parts2 e2 g2) =
        Compared.both (used ++ used2) left2 b (parts ∙ ap (λ (m : List Lexeme). used ++ m) parts2 ∙ sym (append_assoc used used2 left2)) (rw e e2) (rw g g2)
    later front used left a parts one two e g (Compared.refuses g2) = Compared.refuses (rw g g2)
    later front used left a parts one two e g (Compared.elsewhere f e2 other) = Compared.elsewhere f (rw e e2) other
    later front used left a parts one two e g (Compared.waits b g2 on) = Compared.waits b (rw g g2) on
    later front used left a parts one two e g (Compared.behind b u w e2 on other) = Compared.behind b u w (rw e e2) on other

    at_word : (front : List Lexeme) (one two : Read A) (a : A) → two ≡ Ok (a, instead p) → (S a (instead p) ≡ Err (faults.Unexpected p.word.number)) ⊎ ((b : B) × (S a (instead p) ≡ Ok (b, instead p)) × (among F (place_of p.word.class) ≡ true)) → Compared p F front (one >>= S) (two >>= S)
    at_word front one two a g (inl e) = Compared.refuses (rw g e)
    at_word front one two a g (inr e) = Compared.waits e.0 (rw g e.1) e.2

    at_token : (front : List Lexeme) (one two : Read A) (a : A) (u : Lexeme) (w : List Lexeme) → one ≡ Ok (a, u ∷ w) → (u.number ≡ p.operator.number → ⊥) → (S a (u ∷ w) ≡ Err (faults.Unexpected u.number)) ⊎ ((b : B) × (S a (u ∷ w) ≡ Ok (b, u ∷ w)) × (among F (place_of u.class) ≡ true))
        → Compared p F front (one >>= S) (two >>= S)
    at_token front one two a u w e other (inl g) = Compared.elsewhere (faults.Unexpected u.number) (rw e g) (number_apart u.number p.operator.number other)
    at_token front one two a u w e other (inr g) = Compared.behind g.0 u w (rw e g.1) g.2 other

    joined : (second : (a : A) → Tells p F (S a)) (front : List Lexeme) → Fresh p.operator front → (one two : Read A) → Compared p G front one two → Compared p F front (one >>= S) (two >>= S)
    joined second front fresh one two (Compared.both used left a parts e g) =
        later front used left a parts one two e g ((second a).tells left (fresh_behind p.operator used left (subst (λ (m : List Lexeme). Fresh p.operator m) parts fresh)))
    joined second front fresh one two (Compared.refuses g) = Compared.refuses (rw g refl)
    joined second front fresh one two (Compared.elsewhere f e other) = Compared.elsewhere f (rw e refl) other
    joined second front fresh one two (Compared.waits a g on) = at_word front one two a g ((blocks a).blocks p.word p.more on)
    joined second front fresh one two (Compared.behind a u w e on other) = at_token front one two a u w e other ((blocks a).blocks u w on)

    tells_joined : Tells p G R → ((a : A) → Tells p F (S a)) → Tells p F (λ ts. R ts >>= S)
    tells_joined first second = record { tells = λ front fresh. joined second front fresh (R (front ++ said p)) (R (front ++ instead p)) (first.tells front fresh) }

  -- what waits behind the first is refused by the second, or waits on
  pub tells_open : {A B : Type 0} {F : List Class} (G : List Class) {R : Reader A} {S : A → Reader B} → Tells p G R → ((a : A) → Blocks G F (S a)) → ((a : A) → Tells p F (S a)) → Tells p F (λ ts. R ts >>= S)
  tells_open G {R = R} {S = S} first blocks second = tells_joined R S blocks first second

  -- nothing waits behind the first
  pub tells_then : {A B : Type 0} {F : List Class} {R : Reader A} {S : A → Reader B} → Tells p [] R → ((a : A) → Tells p F (S a)) → Tells p F (λ ts. R ts >>= S)
  tells_then first second = tells_open [] first (λ a. blocks_none) second

  pub tells_after : {B : Type 0} {F : List Class} (class : Class) {S : Lexeme → Reader B} → Apart (classes.True ∷ []) (class ∷ []) → ((t : Lexeme) → Tells p F (S t)) → Tells p F (λ ts. expect class ts >>= S)
  tells_after class apart second = tells_then (tells_token class apart) second

  -- a token ends the first
  pub tells_until : {A B : Type 0} {F : List Class} (G : List Class) (class : Class) {R : Reader A} {S : A → Lexeme → Reader B} → Apart (classes.True ∷ []) (class ∷ []) → Apart G (class ∷ []) → Tells p G R → ((a : A) (t : Lexeme) → Tells p F (S a t))
      → Tells p F (λ ts. R ts >>= λ a rest. expect class rest >>= S a)
  tells_until G class {S = S} other apart first second = tells_open G first (λ a. blocks_after class (S a) apart) (λ a. tells_after class other (second a))

  pub tells_map : {A B : Type 0} {F : List Class} {R : Reader A} (f : A → B) → Within F F → Tells p F R → Tells p F (λ ts. R ts >>= λ a rest. Ok (f a, rest))
  tells_map {F = F} f same first = tells_open F first (λ a. blocks_gives (f a) same) (λ a. tells_gives (f a))

  pub tells_wider : {A : Type 0} {F G : List Class} {R : Reader A} → Within F G → Tells p F R → Tells p G R
  tells_wider {A = A} {F = F} {G = G} {R = R} within r = record { tells = λ front fresh. wider front (R (front ++ said p)) (R (front ++ instead p)) (r.tells front fresh) }
    where
      wider : (front : List Lexeme) (one two : Read A) → Compared p F front one two → Compared p G front one two
      wider front one two (Compared.both used left a parts e g) = Compared.both used left a parts e g
      wider front one two (Compared.refuses g) = Compared.refuses g
      wider front one two (Compared.elsewhere f e other) = Compared.elsewhere f e other
      wider front one two (Compared.waits a g on) = Compared.waits a g (within_one F G within p.word on)
      wider front one two (Compared.behind a u w e on other) = Compared.behind a u w e (within_one F G within u on) other

  -- ---- one of two

  -- the word is refused, or waits
  pub at_front : {A : Type 0} {F : List Class} {R : Reader A} → Blocks (classes.True ∷ []) F R → Compared p F [] (R (said p)) (R (instead p))
  at_front {A = A} {F = F} {R = R} b = by (b.blocks p.word p.more (same_going classes.True p.word [] p.says))
    where
      by : (R (instead p) ≡ Err (faults.Unexpected p.word.number)) ⊎ ((a : A) × (R (instead p) ≡ Ok (a, instead p)) × (among F (place_of p.word.class) ≡ true)) → Compared p F [] (R (said p)) (R (instead p))
      by (inl e) = Compared.refuses e
      by (inr e) = Compared.waits e.0 e.1 e.2

  module _ {A : Type 0} {F : List Class} {test : List Lexeme → Bool} (head : OfHead test) {R S : Reader A} (r : Tells p F R) (s : Tells p F S) (nothing : Compared p F [] (cond (test (said p)) (R (said p)) (S (said p))) (cond (test (instead p)) (R (instead p)) (S (instead p)))) where
    chosen : (b : Bool) (t : Lexeme) (front : List Lexeme) → Fresh p.operator (t ∷ front) → test (t ∷ (front ++ said p)) ≡ b → test (t ∷ (front ++ instead p)) ≡ b
        → Compared p F (t ∷ front) (cond (test (t ∷ (front ++ said p))) (R (t ∷ (front ++ said p))) (S (t ∷ (front ++ said p)))) (cond (test (t ∷ (front ++ instead p))) (R (t ∷ (front ++ instead p))) (S (t ∷ (front ++ instead p))))
    chosen true t front fresh e g = rw (e, g) (r.tells (t ∷ front) fresh)
    chosen false t front fresh e g = rw (e, g) (s.tells (t ∷ front) fresh)

    at : (front : List Lexeme) → Fresh p.operator front → Compared p F front (cond (test (front ++ said p)) (R (front ++ said p)) (S (front ++ said p))) (cond (test (front ++ instead p)) (R (front ++ instead p)) (S (front ++ instead p)))
    at [] fresh = nothing
    at (t ∷ front) fresh = chosen (test (t ∷ (front ++ said p))) t front fresh refl (head.same (t ∷ (front ++ instead p)) (t ∷ (front ++ said p)) (front ++ said p, refl))

    pub tells_either : Tells p F (λ ts. cond (test ts) (R ts) (S ts))
    tells_either = record { tells = at }

  head_in : (class : Class) → Apart b_expr (class ∷ []) → same_class p.head.class class ≡ false
  head_in class apart = off_class b_expr class apart p.head p.begins

  head_off : (class : Class) → Apart b_expr (class ∷ []) → starts class (said p) ≡ false
  unfolding starts
  head_off class apart = let parts = p.parts in rw parts (head_in class apart)

  pub true_begins : Within (classes.True ∷ []) b_expr
  unfolding place_of
  true_begins = record { checked = refl }

  -- a class with which no phrase begins
  pub tells_if : {A : Type 0} {F : List Class} (class : Class) {R S : Reader A} → Apart b_expr (class ∷ []) → Tells p F R → Tells p F S → Tells p F (λ ts. cond (starts class ts) (R ts) (S ts))
  unfolding starts
  tells_if class apart r s =
      let one = head_off class apart in
      let two = off_class b_expr class apart p.word (within_one (classes.True ∷ []) b_expr true_begins p.word (same_going classes.True p.word [] p.says)) in
      tells_either (starts_of_head class) r s (rw (one, two) (s.tells [] tt))

  -- a class with which a phrase may begin, but not the word
  pub tells_if_word : {A : Type 0} {F : List Class} {test : List Lexeme → Bool} {R S : Reader A} → OfHead test → test (instead p) ≡ false → Blocks (classes.True ∷ []) F S → Tells p F R → Tells p F S → Tells p F (λ ts. cond (test ts) (R ts) (S ts))
  tells_if_word {A = A} {F = F} {test = test} {R = R} {S = S} head off b r s = tells_either head r s (rw off (by (b.blocks p.word p.more (same_going classes.True p.word [] p.says))))
    where
      by : (S (instead p) ≡ Err (faults.Unexpected p.word.number)) ⊎ ((a : A) × (S (instead p) ≡ Ok (a, instead p)) × (among F (place_of p.word.class) ≡ true)) → Compared p F [] (cond (test (said p)) (R (said p)) (S (said p))) (S (instead p))
      by (inl e) = Compared.refuses e
      by (inr e) = Compared.waits e.0 e.1 e.2

  pub tells_deep : {A : Type 0} {F : List Class} (k : ℕ) → Tells {A = A} p F (λ ts. Err (faults.TooDeep k))
  tells_deep {A = A} k = record { tells = λ front fresh. Compared.elsewhere (faults.TooDeep k) refl (other k) }
    where
      other : (k : ℕ) → faults.TooDeep k ≡ faults.Unexpected p.operator.number → ⊥
      other k e = cc

  -- ---- the first tokens

  pub word_among : among (classes.True ∷ []) (place_of p.word.class) ≡ true
  word_among = same_going classes.True p.word [] p.says

  pub word_starts : (class : Class) → Apart (classes.True ∷ []) (class ∷ []) → starts class (instead p) ≡ false
  unfolding starts
  word_starts class apart = word_off class apart

  pub said_apart : (C : List Class) → Apart b_expr C → going C (said p) ≡ false
  said_apart C apart = subst (λ (ts : List Lexeme). going C (ts ++ p.operator ∷ []) ≡ false) (sym p.parts) (going_apart b_expr C apart (p.head ∷ (p.tail ++ p.operator ∷ [])) p.begins)

  pub instead_apart : (C : List Class) → Apart (classes.True ∷ []) C → going C (instead p) ≡ false
  instead_apart C apart = going_apart (classes.True ∷ []) C apart (instead p) (same_going classes.True p.word p.more p.says)

-- no class is of no set
pub of_none : {A : Type 0} (t : Lexeme) → among [] (place_of t.class) ≡ true → A
of_none t e = absurd (cc)

-- the word alone
abbrev pub true_alone : List Class
true_alone = classes.True ∷ []

-- a reader that is told its first token
pub tells_told : {A : Type 0} (p : Pair) (R : Reader A) (T : Lexeme → Reader A) → ((t : Lexeme) (ts : List Lexeme) → R (t ∷ ts) ≡ T t (t ∷ ts)) → Blocks true_alone [] R → ((t : Lexeme) → Tells p [] (T t)) → Tells p [] R
tells_told p R T same b each = record { tells = at }
  where
    at : (front : List Lexeme) → Fresh p.operator front → Compared p [] front (R (front ++ said p)) (R (front ++ instead p))
    at [] fresh = at_front p b
    at (t ∷ front) fresh = compared_as p (same t (front ++ said p)) (same t (front ++ instead p)) ((each t).tells (t ∷ front) fresh)
