-- Lists of faults that are empty.
use Rattle.std.proofs.Common.{◌≡◌, ℕ, Bool, true, false, List, [], ◌∷◌, ◌++◌, refl}
use Rattle.std.proofs.lemmas.Bool.{not-false}
use Rattle.spectra_resolved.specs.declared.spot.Spot.{Spot}
use Rattle.spectra_judge.specs.Findings.{fault_if}
use Rattle.spectra_judge.specs.Judged.{wrong}
use Rattle.std.specs.Prelude.{not}

pub not_empty : {X : Type 0} (x : X) (xs : List X) → x ∷ xs ≡ [] → ⊥
not_empty x xs e = cc

-- both parts of an empty list are empty
pub empty_parts : {X : Type 0} (xs ys : List X) → xs ++ ys ≡ [] → (xs ≡ []) × (ys ≡ [])
empty_parts [] ys e = (refl, e)
empty_parts (x ∷ xs) ys e = absurd (not_empty x (xs ++ ys) e)

pub no_fault : (b : Bool) (n : ℕ) (at : Spot) → fault_if b n at ≡ [] → b ≡ false
no_fault true n at e = absurd (not_empty _ _ e)
no_fault false n at e = refl

pub right : (b : Bool) (at : Spot) → wrong b at ≡ [] → b ≡ true
right b at none = not-false b (no_fault (not b) 9 at none)
