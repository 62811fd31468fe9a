use Rattle.spectra_lexer.proofs.Signs.{sign_said, size_within, size_longest, size_none}
use Rattle.spectra_lexer.proofs.words.sign_size.Goals as goal

pub returns-clause-within : goal.returns-clause-within
returns-clause-within c = size_within c.args.text.now c.front_size.result (sign_said c.args.text.now c.front_size.result c.front_size.ensures)

pub returns-clause-longest : goal.returns-clause-longest
returns-clause-longest c = size_longest c.args.text.now c.front_size.result (sign_said c.args.text.now c.front_size.result c.front_size.ensures)

pub returns-clause-none : goal.returns-clause-none
returns-clause-none c = size_none c.args.text.now c.front_size.result (sign_said c.args.text.now c.front_size.result c.front_size.ensures)
