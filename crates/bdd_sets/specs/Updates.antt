-- The functions of a game's hidden tables at a move.
use Rattle.std.specs.Prelude.{ℕ, suc, List, [], ◌∷◌}
use Rattle.spec_model.specs.Values.{DomainData}
use Rattle.spec_model.specs.Diagrams.{Function}
use Rattle.spec_model.specs.Games.{GameData, HiddenData}
use Rattle.regions.specs.declared.types.When.{When}
use Rattle.regions.specs.declared.types.When.TheVariants.{First, Later}
use Rattle.game_values.specs.declared.seen.At.TheVariants.{Next}
use Rattle.bit_compile.specs.Domains.{state_domains}
use Rattle.bit_compile.specs.Compiled.{is_code, updates_of}

-- where the next value of each of these tables, the first of them numbered k, is its first value
abbrev pub starts_from : List DomainData → ℕ → List HiddenData → List Function
starts_from ds k [] = []
starts_from ds k (h ∷ hs) = is_code ds Next k h.first ∷ starts_from ds (suc k) hs

-- for each hidden table, where its next value is the one that follows
abbrev pub update_functions : GameData → When → List Function
update_functions g First = starts_from (state_domains g) 0 g.hidden
update_functions g Later = updates_of g
