use Rattle.spectra_trees.specs.Lexemes.{lexemes}
use Rattle.spectra_parser.proofs.OneFault.{one_fault, deep_fault, no_fault}
use Rattle.spectra_parser.proofs.laws.one_fault_explains_a_text.Goals as goal

pub returns-clause-one : goal.returns-clause-one
returns-clause-one c = λ first second p q. one_fault (lexemes c.args.text.now c.args.tokens.now) first second p q

pub returns-clause-deep : goal.returns-clause-deep
returns-clause-deep c = λ at fault q p. deep_fault (lexemes c.args.text.now c.args.tokens.now) at fault q p

pub returns-clause-none : goal.returns-clause-none
returns-clause-none c = λ tree fault t p. no_fault (lexemes c.args.text.now c.args.tokens.now) tree fault t p
