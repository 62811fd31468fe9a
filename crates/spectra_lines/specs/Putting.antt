-- What putting in gives where there is room.
use Rattle.std.specs.Prelude.{◌≡◌, ◌≢◌, Bool, true, false, Result, MatchResult}
use Rattle.spectra_copies.specs.declared.refusal.Refusal.{Refusal}
use Rattle.spectra_copies.specs.declared.refusal.Refusal.TheVariants.{Memory}

-- what is made where all of it fits, and a refusal where it doesn't
abbrev pub Puts : {A : Type 0} → (A → Type 0) → (all_fits : Bool) → Result A Refusal → Type 0
Puts IsMade all_fits r = MatchResult r (λ made. IsMade made × (all_fits ≡ true)) (λ halt. halt ≢ Memory → all_fits ≡ false)
