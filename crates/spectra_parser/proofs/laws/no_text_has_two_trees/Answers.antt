use Rattle.spectra_trees.specs.Lexemes.{lexemes}
use Rattle.spectra_parser.proofs.WholeText.{one_tree}
use Rattle.spectra_parser.proofs.laws.no_text_has_two_trees.Goals as goal

pub returns : goal.returns
returns c = λ first second p q. one_tree (lexemes c.args.text.now c.args.tokens.now) first second p q
