-- Which bits are those of states, and where the next bits stand for the present ones.
use Rattle.std.specs.Prelude.{◌≡◌, ℕ, zero, suc, ◌+◌, ◌*◌, true, List, [], ◌∷◌, ◌++◌}
use Rattle.spec_model.specs.declared.value.Value.{Value}
use Rattle.spec_model.specs.Values.{DomainData, is_assignment}
use Rattle.spec_model.specs.Diagrams.{Bits}
use Rattle.game_values.specs.declared.seen.At.{At}
use Rattle.bit_compile.specs.Domains.{width_of}
use Rattle.bit_compile.specs.Codes.{HasValues}
pub use Rattle.bit_compile.specs.Compiled.{has_some_value, proper}

-- these bits are the codes of a value of each domain
pub record AreOfValues (ds : List DomainData) (at : At) (s : Bits) : Type 0 where
  pub values : List Value
  pub are_values : is_assignment ds values ≡ true
  pub have : HasValues ds at values s

-- ---- the present bits read at the next ones

-- so many levels from this one on
abbrev pub levels_from : (level count : ℕ) → List ℕ
levels_from level zero = []
levels_from level (suc count) = level ∷ levels_from (suc level) count

-- for each level, the one of the same bit of the next value: a slot's present bits come first, then its next ones
abbrev pub next_levels_from : ℕ → List DomainData → List ℕ
next_levels_from level [] = []
next_levels_from level (d ∷ ds) =
    levels_from (level + width_of d) (width_of d) ++ (levels_from (level + width_of d) (width_of d) ++ next_levels_from (level + 2 * width_of d) ds)

abbrev pub next_levels : List DomainData → List ℕ
next_levels ds = next_levels_from 0 ds
