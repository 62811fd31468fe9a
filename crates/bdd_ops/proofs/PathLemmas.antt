-- One level of the search for the first bits.
use Rattle.std.proofs.Common.{◌≡◌, ◌⊎◌, ℕ, suc, inl, inr, subst, refl, arith, Bool, true, false, Option, List, if◌then◌else◌}
use Rattle.std.proofs.lemmas.Bool.{cases_order}
use Rattle.spec_model.specs.Diagrams.{Bits, Function}
use Rattle.bdd_ops.specs.Functions.{split}
use Rattle.bdd_ops.specs.Paths.{AgreesAt, Agrees, fixed_at}

-- bits that agree at a level and from the next on agree from it on
pub agrees_from : (fixed : List (Option Bool)) (level : ℕ) (s : Bits) → AgreesAt (fixed_at fixed level) (s level) → Agrees fixed (suc level) s → Agrees fixed level s
agrees_from fixed level s here later k le =
    elim (cases_order level k) [
      | inl same ↦ subst (λ (x : ℕ). AgreesAt (fixed_at fixed x) (s x)) same here
      | inr (inl before) ↦ later k (omega arith)
      | inr (inr behind) ↦ absurd (omega arith)
    ]

pub agrees_later : (fixed : List (Option Bool)) (level : ℕ) (s : Bits) → Agrees fixed level s → Agrees fixed (suc level) s
agrees_later fixed level s agrees k le = agrees k (omega arith)

pub at_bit : (level : ℕ) (f0 f1 : Function) (t : Bits) (b : Bool) → t level ≡ b → split level f0 f1 t ≡ (if b then f1 t else f0 t)
at_bit level f0 f1 t b is = rw is refl

pub bit_cases : (b : Bool) → (b ≡ true) ⊎ (b ≡ false)
bit_cases true = inl refl
bit_cases false = inr refl
