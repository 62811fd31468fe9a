use Rattle.spectra_lexer.proofs.Unique.{one_list_of_tokens}
use Rattle.spectra_lexer.proofs.laws.no_text_has_two_lists_of_tokens.Goals as goal

pub returns : goal.returns
returns c = one_list_of_tokens c.args.text.now c.args.tokens.now c.args.others.now c.requires.first c.requires.second
