use Rattle.spectra_lexer.proofs.Unique.{reads_or_fails}
use Rattle.spectra_lexer.proofs.Outcomes.{broken_is_no_utf8}
use Rattle.spectra_lexer.proofs.laws.tokens_or_a_fault.Goals as goal

pub returns-clause-utf8 : goal.returns-clause-utf8
returns-clause-utf8 c = λ line column broken. broken_is_no_utf8 c.args.text.now line column broken c.requires.utf8

pub returns-clause-good : goal.returns-clause-good
returns-clause-good c = λ line column bad. reads_or_fails c.requires.lexed bad.fails
