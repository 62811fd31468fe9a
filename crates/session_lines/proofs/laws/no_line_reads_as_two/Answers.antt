use Rattle.session_lines.specs.Reading.{words}
use Rattle.session_lines.proofs.OneReading.{all_given_once}
use Rattle.session_lines.proofs.laws.no_line_reads_as_two.Goals as goal

pub returns : goal.returns
returns c = λ names vs line xs ys are writable a b. all_given_once names (words line) vs xs ys are writable a.given b.given
