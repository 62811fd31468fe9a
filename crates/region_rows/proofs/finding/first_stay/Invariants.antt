use Rattle.std.proofs.Common.{◌≡◌, ◌+◌, drop, map, option_map}
use Rattle.region_rows.specs.Rows.{bit_of}
use Rattle.region_rows.specs.Into.{environment_into, first_place}
use Rattle.region_rows.proofs.finding.first_stay.Given as goal

abbrev pub invariant-loop-k : goal.invariant-loop-k
invariant-loop-k l = l.k + first_place (environment_into (bit_of l.t)) (map (option_map (λ a. a.items)) (drop l.k l.moves)) ≡ first_place (environment_into (bit_of l.t)) (map (option_map (λ a. a.items)) l.moves)
