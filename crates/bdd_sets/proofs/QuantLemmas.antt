-- What "some values at these levels" says.
use Rattle.std.proofs.Common.{◌≡◌, ℕ, ◌==◌, Bool, true, false, ◌||◌, List, [], ◌∷◌, cond, refl, sym, ◌∙◌, ap, inl, inr}
use Rattle.std.proofs.lemmas.Bool.{or_cases, false≢true}
use borrow.Author.Tests.{eqb-true, eq-eqb}
use Rattle.spec_model.specs.Diagrams.{Bits, Function, with_bit, exists_over}
use Rattle.spec_model.proofs.Listed.{from_right}
use Rattle.bdd_ops.specs.Functions.{is_among}

-- the bits agree but for these levels
pub record AgreesOff (levels : List ℕ) (b b' : Bits) : Type 0 where
  pub same : (m : ℕ) → is_among m levels ≡ false → b' m ≡ b m

neither : (x y : Bool) → (x || y) ≡ false → (x ≡ false) × (y ≡ false)
neither true y e = absurd (false≢true (sym e))
neither false y e = (refl, e)

not_equal : (m level : ℕ) → (level == m) ≡ false → (m ≡ level → ⊥)
not_equal m level e is = absurd (false≢true (sym e ∙ eq-eqb level m (sym is)))

-- some values at the levels make it true
pub some_there : (levels : List ℕ) (f : Function) (b : Bits) → exists_over levels f b ≡ true → (b' : Bits) × AgreesOff levels b b' × (f b' ≡ true)
some_there [] f b e = (b, record { same = λ m out. refl }, e)
some_there (level ∷ levels) f b e = elim (or_cases (exists_over levels f (with_bit b level false)) (exists_over levels f (with_bit b level true)) e) [
  | inl low ↦ at false (some_there levels f (with_bit b level false) low)
  | inr high ↦ at true (some_there levels f (with_bit b level true) high)
]
  where
    at : (v : Bool) → (b' : Bits) × AgreesOff levels (with_bit b level v) b' × (f b' ≡ true) → (b' : Bits) × AgreesOff (level ∷ levels) b b' × (f b' ≡ true)
    at v found = (found.0, record { same = λ m out. same m out }, found.2)
      where
        same : (m : ℕ) → is_among m (level ∷ levels) ≡ false → found.0 m ≡ b m
        same m out = let parts = neither (m == level) (is_among m levels) out in found.1.same m parts.1 ∙ ap (λ c. cond c v (b m)) parts.0

-- bits that agree but for the levels and make it true are such values
pub there_some : (levels : List ℕ) (f : Function) (b b' : Bits) → AgreesOff levels b b' → f b' ≡ true → exists_over levels f b ≡ true
there_some [] f b b' agrees e = (let one : b' ≡ b = λ i m. agrees.same m refl i in ap f (sym one)) ∙ e
there_some (level ∷ levels) f b b' agrees e = by_bit (b' level) refl (λ c inside. there_some levels f c b' inside e)
  where
    inner : (v : Bool) → b' level ≡ v → AgreesOff levels (with_bit b level v) b'
    inner v is = record { same = λ m out. at m out (m == level) refl }
      where
        at : (m : ℕ) → is_among m levels ≡ false → (c : Bool) → (m == level) ≡ c → b' m ≡ with_bit b level v m
        at m out true here = ap b' (eqb-true m level here) ∙ (is ∙ sym (ap (λ c. cond c v (b m)) here))
        at m out false other = agrees.same m (ap (λ c. c || is_among m levels) other ∙ out) ∙ sym (ap (λ c. cond c v (b m)) other)

    by_bit : (v : Bool) → b' level ≡ v → ((c : Bits) → AgreesOff levels c b' → exists_over levels f c ≡ true) → exists_over (level ∷ levels) f b ≡ true
    by_bit false is some = ap (λ c. c || exists_over levels f (with_bit b level true)) (some (with_bit b level false) (inner false is))
    by_bit true is some = from_right (exists_over levels f (with_bit b level false)) (some (with_bit b level true) (inner true is))
