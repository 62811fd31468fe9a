use Rattle.std.proofs.Common.{sym, ◌∙◌}
use Rattle.spectra_lexer.proofs.Texts.{split_said}
use Rattle.spectra_lexer.proofs.characters.split_first.Goals as goal

pub returns : goal.returns
returns c =
    split_said c.args.text.now c.as_str.result.now c.in_ok-c.c c.utf8.text
    (rw c.as_str.ensures (sym c.chars-characters.ensures.rest ∙ c.in_ok-c.ensures.steps.0))
