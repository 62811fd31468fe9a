use Rattle.std.proofs.Common.{◌≡◌, drop, map, option_map}
use Rattle.std.specs.List.{list_any}
use Rattle.region_rows.specs.Rows.{bit_of}
use Rattle.region_rows.specs.Into.{environment_into}
use Rattle.region_rows.proofs.moves.environment_forces.Given as goal

abbrev pub invariant-loop-answers : goal.invariant-loop-answers
invariant-loop-answers l = list_any (environment_into (bit_of l.t)) (map (option_map (λ a. a.items)) (drop l.answers-index l.moves)) ≡ list_any (environment_into (bit_of l.t)) (map (option_map (λ a. a.items)) l.moves)
