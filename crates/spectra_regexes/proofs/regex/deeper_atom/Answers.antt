use Rattle.std.proofs.Common.{arith}
use Rattle.spectra_trees.specs.Views.{lexeme_of, lexemes_of}
use Rattle.spectra_regexes.proofs.RegexLevels.{atom_deep, atom_open}
use Rattle.spectra_regexes.proofs.regex.deeper_atom.Goals as goal

pub returns-then-left-eq0 : goal.returns-then-left-eq0
returns-then-left-eq0 c = record { read = atom_deep c.args.left (lexeme_of c.args.token.now) (lexemes_of c.args.tokens.now) (omega arith) }

pub returns : goal.returns
returns c = record { read = rw (atom_open c.args.left (lexeme_of c.args.token.now) (lexemes_of c.args.tokens.now) (omega arith)) c.whole.ensures.read }
