-- The domains of a state in its order, and how many bits the values of each have.
use Rattle.std.specs.Prelude.{ℕ, ◌+◌, ◌*◌, pos, ◌-ℤ◌, not, List, [], ◌∷◌, ◌++◌, map}
use Rattle.spec_model.specs.Values.{DomainData, WholeNumbers}
use Rattle.spec_model.specs.Moves.{is_env, domains_of}
use Rattle.spec_model.specs.Games.{HiddenData, GameData}
use Rattle.spec_model.specs.Sizes.{domain_size}
use Rattle.spec_model.specs.Needs.{bits_for}

-- a hidden table's values: the numbers below their number
abbrev pub table_domain : HiddenData → DomainData
table_domain h = WholeNumbers (pos 0) (pos h.values -ℤ pos 1)

-- of each hidden table, of each input and of each output
abbrev pub state_domains : GameData → List DomainData
state_domains g = map table_domain g.hidden ++ (domains_of is_env g.variables ++ domains_of (λ o. not (is_env o)) g.variables)

-- the least number of bits with a code for each value
abbrev pub width_of : DomainData → ℕ
width_of d = bits_for (domain_size d)

-- the present and the next bits of all
abbrev pub level_count : List DomainData → ℕ
level_count [] = 0
level_count (d ∷ ds) = 2 * width_of d + level_count ds
