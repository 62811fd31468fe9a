use Rattle.session_lines.proofs.ShownIsRead.{shown_reads}
use Rattle.session_lines.proofs.laws.what_is_shown_is_read.Goals as goal

pub returns : goal.returns
returns c = shown_reads
