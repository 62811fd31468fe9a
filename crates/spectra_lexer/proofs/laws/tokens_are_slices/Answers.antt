use Rattle.spectra_lexer.proofs.SliceLemmas.{tokens_are_slices}
use Rattle.spectra_lexer.proofs.laws.tokens_are_slices.Goals as goal

pub returns : goal.returns
returns c = tokens_are_slices c.args.text.now c.args.tokens.now c.requires
