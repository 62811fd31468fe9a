use Rattle.std.proofs.Common.{refl}
use Rattle.session_lines.proofs.HandingLemmas.{one_more}
use Rattle.session_lines.proofs.laws.lines_follow_one_another.Goals as goal

pub returns : goal.returns
returns c = record { start = λ at_end later. refl; one_more = one_more }
