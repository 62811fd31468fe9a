-- The definitions that operators in a row use.
use Rattle.std.specs.Prelude.{ℕ, List, [], ◌∷◌, ◌++◌}
use Rattle.spectra_resolved.specs.Chained.{LinkData}
use Rattle.spectra_uses.specs.Uses.{uses_in}

-- those in the second operands of operators
abbrev pub link_uses : List LinkData → List ℕ
link_uses [] = []
link_uses (l ∷ ls) = uses_in l.second ++ link_uses ls
