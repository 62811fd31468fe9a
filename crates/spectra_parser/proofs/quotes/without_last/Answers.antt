use Rattle.std.proofs.Common.{Some, None, arith}
use Rattle.std.proofs.lemmas.Str.Pattern.{strip_suffix_char}
use Rattle.spectra_parser.proofs.QuoteEnds.{last_quote, no_last_quote}
use Rattle.spectra_parser.proofs.quotes.without_last.Goals as goal

pub returns-in-Some : goal.returns-in-Some
returns-in-Some c = last_quote c.args.text.now c.in-Some.rest.now (strip_suffix_char 34 c.args.text.now (Some c.in-Some.rest) c.in-Some.ensures.cases (omega arith))

pub returns-in-None : goal.returns-in-None
returns-in-None c = no_last_quote c.args.text.now (strip_suffix_char 34 c.args.text.now None c.in-None.ensures.cases (omega arith))
