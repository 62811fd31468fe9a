use Rattle.std.proofs.Common.{◌++◌, ◌∷◌, [], sym, ◌∙◌}
use Rattle.spectra_parser.proofs.QuoteEnds.{first_quote, last_quote}
use Rattle.spectra_parser.proofs.quotes.unquoted.Goals as goal

pub returns-clause-between : goal.returns-clause-between
returns-clause-between c = λ inside e.
    let rest = c.without_first.ensures ∙ sym (first_quote c.args.text.now (inside ++ 34 ∷ []) e) in
    c.without_last.ensures ∙ sym (last_quote c.without_first.result.now inside rest)
