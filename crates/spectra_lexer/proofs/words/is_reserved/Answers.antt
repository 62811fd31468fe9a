use Rattle.std.proofs.Common.{sym, ◌∙◌}
use Rattle.spectra_lexer.proofs.Reserved.{is_reserved-row}
use Rattle.spectra_lexer.proofs.words.is_reserved.Goals as goal

pub returns : goal.returns
returns c = c.is_in_row.ensures ∙ sym (is_reserved-row c.args.word.now)
