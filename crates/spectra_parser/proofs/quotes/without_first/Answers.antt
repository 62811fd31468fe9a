use Rattle.std.proofs.Common.{Some, None, arith}
use Rattle.std.proofs.lemmas.Str.Pattern.{strip_prefix_char}
use Rattle.spectra_parser.proofs.QuoteEnds.{first_quote, no_first_quote}
use Rattle.spectra_parser.proofs.quotes.without_first.Goals as goal

pub returns-in-Some : goal.returns-in-Some
returns-in-Some c = first_quote c.args.text.now c.in-Some.rest.now (strip_prefix_char 34 c.args.text.now (Some c.in-Some.rest) c.in-Some.ensures.cases (omega arith))

pub returns-in-None : goal.returns-in-None
returns-in-None c = no_first_quote c.args.text.now (strip_prefix_char 34 c.args.text.now None c.in-None.ensures.cases (omega arith))
