-- Lists of names.
use Rattle.std.proofs.Common.{◌≡◌, ◌≢◌, ℕ, suc, false, ◌&&◌, ◌==◌, List, [], ◌∷◌, length, refl, sym, ap, ◌∙◌}
use Rattle.std.proofs.Math.Bool.{and-false}
use Rattle.spec_model.specs.Typing.{same_names}

same-length : (ms ns : List ℕ) → length ms ≢ length ns → same_names ms ns ≡ false
same-length [] [] differ = absurd (differ refl)
same-length [] (n ∷ ns) differ = refl
same-length (m ∷ ms) [] differ = refl
same-length (m ∷ ms) (n ∷ ns) differ = ap (λ b. m == n && b) (same-length ms ns (λ e. differ (ap suc e))) ∙ and-false (m == n)

-- lists of different lengths aren't the same
pub same_length : (ms ns : List ℕ) → length ms ≢ length ns → false ≡ same_names ms ns
same_length ms ns differ = sym (same-length ms ns differ)
