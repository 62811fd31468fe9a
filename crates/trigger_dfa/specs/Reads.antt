-- Which stretches of a run an expression with its repeats written out reads.
use Rattle.std.specs.Prelude.{◌≡◌, ℕ, zero, suc, true, ◌⊎◌}
use Rattle.spec_model.specs.Meaning.{Reading, holds_at}
use Rattle.spec_model.specs.TriggerStates.{Written, Bracket, Empty, Then, Either, Star}

-- the stretch splits into so many neighbouring pieces that are each read
abbrev pub InPieces : ℕ → (ℕ → ℕ → Type 0) → ℕ → ℕ → Type 0
InPieces zero Piece from to = from ≡ to
InPieces (suc n) Piece from to = (cut : ℕ) × Piece from cut × InPieces n Piece cut to

-- the positions from one up to the other, that one not included, are read from the left bracket to the right one
abbrev pub Reads : Reading → Written → ℕ → ℕ → Type 0
Reads r (Bracket e) from to = (to ≡ suc from) × (holds_at r e from ≡ true)
Reads r Empty from to = from ≡ to
Reads r (Then a b) from to = (cut : ℕ) × Reads r a from cut × Reads r b cut to
Reads r (Either a b) from to = Reads r a from to ⊎ Reads r b from to
Reads r (Star a) from to = (n : ℕ) × InPieces n (Reads r a) from to
