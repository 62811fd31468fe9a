-- Places of names.
use Rattle.std.proofs.Common.{◌≡◌, ℕ, ◌==◌, ◌&&◌, true, sym}
use Rattle.std.proofs.lemmas.Bool.{and_parts, and_from}
use Rattle.std.proofs.lemmas.Bool.Decides.{Decides-eqb}
use Rattle.spectra_resolved.specs.declared.spot.Spot.{Spot}
use Rattle.spectra_resolved.specs.Spots.{same_place}

pub place_is : (a b : Spot) → same_place a b ≡ true → a ≡ b
place_is a b is =
    let parts = and_parts (a.file == b.file) ((a.line == b.line) && (a.column == b.column)) is in
    let more = and_parts (a.line == b.line) (a.column == b.column) parts.1 in
    let file = (Decides-eqb a.file b.file).0 parts.0 in
    let line = (Decides-eqb a.line b.line).0 more.0 in
    let column = (Decides-eqb a.column b.column).0 more.1 in λ i. record { file = file i; line = line i; column = column i }

pub place_turned : (a b : Spot) → same_place a b ≡ true → same_place b a ≡ true
place_turned a b is =
    let parts = and_parts (a.file == b.file) ((a.line == b.line) && (a.column == b.column)) is in
    let more = and_parts (a.line == b.line) (a.column == b.column) parts.1 in
    and_from _ _ (turned a.file b.file parts.0) (and_from _ _ (turned a.line b.line more.0) (turned a.column b.column more.1))
  where
    turned : (m n : ℕ) → (m == n) ≡ true → (n == m) ≡ true
    turned m n is = (Decides-eqb n m).1 (sym ((Decides-eqb m n).0 is))
