-- What "some values at these levels" says, and levels taken out one list after the other.
use Rattle.std.proofs.Common.{◌≡◌, ℕ, ◌==◌, Bool, true, false, ◌||◌, ◌&&◌, List, [], ◌∷◌, ◌++◌, cond, refl, sym, ◌∙◌, ap, subst, inl, inr}
use Rattle.std.proofs.lemmas.Bool.{or_cases, false≢true}
use borrow.Author.Tests.{eqb-true, eq-eqb}
use Rattle.spec_model.specs.Diagrams.{Bits, Function, with_bit, exists_at, exists_over}
use Rattle.bdd_ops.specs.Functions.{is_among}
use Rattle.bdd_ops.specs.Reading.{Ignores}
use Rattle.bdd_ops.proofs.ReadingLemmas.{quantifiers_less}
use Rattle.bdd_products.specs.Products.{IgnoresAll}
use Rattle.bdd_products.proofs.LevelLemmas.{or_left, or_right, or_swapped, is_among-both}

-- the bits agree but for these levels
pub record AgreesOff (levels : List ℕ) (b b' : Bits) : Type 0 where
  pub same : (m : ℕ) → is_among m levels ≡ false → b' m ≡ b m

neither : (x y : Bool) → (x || y) ≡ false → (x ≡ false) × (y ≡ false)
neither true y e = absurd (false≢true (sym e))
neither false y e = (refl, e)

-- some values at the levels make it true
pub some_there : (levels : List ℕ) (f : Function) (b : Bits) → exists_over levels f b ≡ true → (b' : Bits) × AgreesOff levels b b' × (f b' ≡ true)
some_there [] f b e = (b, record { same = λ m out. refl }, e)
some_there (level ∷ levels) f b e = elim (or_cases (exists_over levels f (with_bit b level false)) (exists_over levels f (with_bit b level true)) e) [
  | inl low ↦ at false (some_there levels f (with_bit b level false) low)
  | inr high ↦ at true (some_there levels f (with_bit b level true) high)
]
  where
    at : (v : Bool) → (b' : Bits) × AgreesOff levels (with_bit b level v) b' × (f b' ≡ true) → (b' : Bits) × AgreesOff (level ∷ levels) b b' × (f b' ≡ true)
    at v found = (found.0, record { same = λ m out. same m out }, found.2)
      where
        same : (m : ℕ) → is_among m (level ∷ levels) ≡ false → found.0 m ≡ b m
        same m out = let parts = neither (m == level) (is_among m levels) out in found.1.same m parts.1 ∙ ap (λ c. cond c v (b m)) parts.0

-- bits that agree but for the levels and make it true are such values
pub there_some : (levels : List ℕ) (f : Function) (b b' : Bits) → AgreesOff levels b b' → f b' ≡ true → exists_over levels f b ≡ true
there_some [] f b b' agrees e = (let one : b' ≡ b = λ i m. agrees.same m refl i in ap f (sym one)) ∙ e
there_some (level ∷ levels) f b b' agrees e = by_bit (b' level) refl (λ c inside. there_some levels f c b' inside e)
  where
    inner : (v : Bool) → b' level ≡ v → AgreesOff levels (with_bit b level v) b'
    inner v is = record { same = λ m out. at m out (m == level) refl }
      where
        at : (m : ℕ) → is_among m levels ≡ false → (c : Bool) → (m == level) ≡ c → b' m ≡ with_bit b level v m
        at m out true here = ap b' (eqb-true m level here) ∙ (is ∙ sym (ap (λ c. cond c v (b m)) here))
        at m out false other = agrees.same m (ap (λ c. c || is_among m levels) other ∙ out) ∙ sym (ap (λ c. cond c v (b m)) other)

    by_bit : (v : Bool) → b' level ≡ v → ((c : Bits) → AgreesOff levels c b' → exists_over levels f c ≡ true) → exists_over (level ∷ levels) f b ≡ true
    by_bit false is some = or_left (exists_over levels f (with_bit b level false)) (exists_over levels f (with_bit b level true)) (some (with_bit b level false) (inner false is))
    by_bit true is some = or_right (exists_over levels f (with_bit b level false)) (exists_over levels f (with_bit b level true)) (some (with_bit b level true) (inner true is))

-- ---- lists of the same levels

same_truth : (a b : Bool) → (a ≡ true → b ≡ true) → (b ≡ true → a ≡ true) → a ≡ b
same_truth true b to from = sym (to refl)
same_truth false true to from = from refl
same_truth false false to from = refl

pub same_levels : (xs ys : List ℕ) (f : Function) → ((m : ℕ) → is_among m xs ≡ is_among m ys) → exists_over xs f ≡ exists_over ys f
same_levels xs ys f same = λ i b. same_truth (exists_over xs f b) (exists_over ys f b) (from xs ys b same) (from ys xs b (λ m. sym (same m))) i
  where
    from : (us vs : List ℕ) (b : Bits) → ((m : ℕ) → is_among m us ≡ is_among m vs) → exists_over us f b ≡ true → exists_over vs f b ≡ true
    from us vs b agree e =
        let found = some_there us f b e in
        there_some vs f b found.0 (record { same = λ m out. found.1.same m (agree m ∙ out) }) found.2

-- one list after the other
pub exists_over-append : (xs ys : List ℕ) (f : Function) → exists_over xs (exists_over ys f) ≡ exists_over (xs ++ ys) f
exists_over-append [] ys f = refl
exists_over-append (x ∷ xs) ys f = ap (exists_at x) (exists_over-append xs ys f)

pub exists_over-either : (xs ys : List ℕ) (f : Function) → exists_over ys (exists_over xs f) ≡ exists_over (xs ++ ys) f
exists_over-either xs ys f =
    exists_over-append ys xs f
    ∙ same_levels (ys ++ xs) (xs ++ ys) f (λ m. is_among-both m ys xs ∙ (or_swapped (is_among m ys) (is_among m xs) ∙ sym (is_among-both m xs ys)))

-- ---- functions that ignore what is taken out

or_and : (a b h : Bool) → ((a || b) && h) ≡ ((a && h) || (b && h))
or_and true true true = refl
or_and true true false = refl
or_and true false true = refl
or_and true false false = refl
or_and false b h = refl

-- what ignores the levels may be joined before or after they are taken out
pub exists_over-and : (levels : List ℕ) (k h : Function) → IgnoresAll levels h → (λ (s : Bits). exists_over levels k s && h s) ≡ exists_over levels (λ s. k s && h s)
exists_over-and [] k h ignores = refl
exists_over-and (level ∷ levels) k h ignores =
    (λ i s. first s i) ∙ ap (exists_at level) (exists_over-and levels k h (λ m among. ignores m (or_right (m == level) (is_among m levels) among)))
  where
    own : Ignores level h
    own = ignores level (or_left (level == level) (is_among level levels) (eq-eqb level level refl))

    inner : Function
    inner = exists_over levels k

    first : (s : Bits) → ((inner (with_bit s level false) || inner (with_bit s level true)) && h s) ≡ ((inner (with_bit s level false) && h (with_bit s level false)) || (inner (with_bit s level true) && h (with_bit s level true)))
    first s =
        or_and (inner (with_bit s level false)) (inner (with_bit s level true)) (h s)
        ∙ (ap (λ b. (inner (with_bit s level false) && b) || (inner (with_bit s level true) && h s)) (sym (own s false))
        ∙ ap (λ b. (inner (with_bit s level false) && h (with_bit s level false)) || (inner (with_bit s level true) && b)) (sym (own s true)))

-- a function that stays as it is ignores what was taken out
pub unread : (levels : List ℕ) (f g : Function) → g ≡ exists_over levels f → g ≡ f → IgnoresAll levels f
unread levels f g is same m among = subst (λ (h : Function). Ignores m h) (sym is ∙ same) ((quantifiers_less m levels f f).some_left among)
