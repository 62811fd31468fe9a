use Rattle.std.proofs.Common.{◌≡◌, drop}
use Rattle.std.specs.List.{list_any}
use Rattle.region_rows.specs.Rows.{bit_of}
use Rattle.region_rows.specs.Into.{leads}
use Rattle.region_rows.proofs.moves.some_leads.Given as goal

abbrev pub invariant-loop-k : goal.invariant-loop-k
invariant-loop-k l = list_any (leads (bit_of l.t)) (drop l.k l.answers) ≡ list_any (leads (bit_of l.t)) l.answers
