use Rattle.session_lines.proofs.HandingLemmas.{all_told}
use Rattle.session_lines.proofs.laws.an_end_tells_all_lines.Goals as goal

pub returns : goal.returns
returns c = all_told
