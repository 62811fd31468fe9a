-- A step from an expression to the parameter that it comes to.
use Rattle.std.specs.Prelude.{◌≡◌, ℕ, ◌≤◌, Bool, true, List, Option}
use Rattle.spectra_resolved.specs.Views.{resolved_data}
use Rattle.spectra_elaboration.specs.declared.given.Given.{Given}
use Rattle.spectra_elaboration.specs.declared.giving.Look.{Look}
use Rattle.spectra_elaboration.specs.declared.giving.Look.TheVariants as looks
use Rattle.spectra_elaboration.specs.Giving.{gives}

-- what comes to the expression that is gone on with comes to the first one, of which `comes` says to which parameters it comes
abbrev pub Looks : List (Option Given) → (need : ℕ) → (comes : (deep place : ℕ) → Bool) → Look → Type 0
Looks gs need comes (looks.On t deep) = (need ≤ deep) × ((d place : ℕ) → deep ≤ d → gives gs d place (resolved_data t.now) ≡ true → comes d place ≡ true)
Looks gs need comes (looks.Found place) = (d : ℕ) → comes d place ≡ true
Looks gs need comes looks.Nothing = Unit {0}
