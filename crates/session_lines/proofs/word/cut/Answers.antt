use Rattle.session_lines.proofs.Words.{cut_some, cut_none}
use Rattle.session_lines.proofs.word.cut.Goals as goal

pub returns-in-Some-clause-words : goal.returns-in-Some-clause-words
returns-in-Some-clause-words c = cut_some c.args.line.now c.in-Some.at c.in-Some.ensures

pub returns-in-None-clause-words : goal.returns-in-None-clause-words
returns-in-None-clause-words c = cut_none c.args.line.now c.in-None.ensures
