-- A law over the definitions alone, which the function of its name in src/laws.rt proves.
use Rattle.std.specs.Prelude.{◌≡◌, ℕ, ◌<◌, false, List, length}
use Rattle.spectra_uses.specs.Cycles.{reaches}
use Rattle.spectra_uses.specs.Orders.{IsOrderOf}

-- none is used in its own body
abbrev pub NoneGoesRound : List (List ℕ) → Type 0
NoneGoesRound uses = (k : ℕ) → k < length uses → reaches uses (length uses) k k ≡ false

abbrev pub AcyclicHaveAnOrder : Type 0
AcyclicHaveAnOrder = (uses : List (List ℕ)) → NoneGoesRound uses → (order : List ℕ) × IsOrderOf uses (length uses) order
