-- Roots that are true together.
use Rattle.std.specs.Prelude.{true, ◌&&◌, ℕ, List, [], ◌∷◌}
use Rattle.spec_model.specs.Diagrams.{Function}
use Rattle.bdd_bits.specs.Contents.{Contents, function_at}

-- all of these nodes are true
abbrev pub all_of : Contents → List ℕ → Function
all_of c [] s = true
all_of c (n ∷ ns) s = function_at c n s && all_of c ns s
