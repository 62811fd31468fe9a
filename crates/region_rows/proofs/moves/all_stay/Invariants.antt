use Rattle.std.proofs.Common.{◌≡◌, drop}
use Rattle.std.specs.List.{list_all}
use Rattle.region_rows.specs.Rows.{bit_of}
use Rattle.region_rows.specs.Into.{stays}
use Rattle.region_rows.proofs.moves.all_stay.Given as goal

abbrev pub invariant-loop-k : goal.invariant-loop-k
invariant-loop-k l = list_all (stays (bit_of l.t)) (drop l.k l.answers) ≡ list_all (stays (bit_of l.t)) l.answers
