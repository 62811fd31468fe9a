use Rattle.std.proofs.Common.{◌≡◌, ◌+◌, drop}
use Rattle.region_rows.specs.Rows.{bit_of}
use Rattle.region_rows.specs.Into.{leads, first_place}
use Rattle.region_rows.proofs.finding.first_lead.Given as goal

abbrev pub invariant-loop-k : goal.invariant-loop-k
invariant-loop-k l = l.k + first_place (leads (bit_of l.t)) (drop l.k l.answers) ≡ first_place (leads (bit_of l.t)) l.answers
