use Rattle.std.proofs.Common.{Err, List, ap, sym, subst, ◌∙◌}
use Rattle.spectra_lexer.specs.declared.token.Token.{Token}
use Rattle.spectra_trees.specs.Lexemes.{lexemes}
use Rattle.spectra_parser.specs.Texts.{Explains}
use Rattle.spectra_files.specs.Refusals.{parsing_fault, RefusesText}
use Rattle.spectra_files.proofs.Placed.{lexing_refuses, parsing_refuses}
use Rattle.spectra_files.proofs.reading.tree_of.Goals as goal

pub returns-in-Ok-clause-fault : goal.returns-in-Ok-clause-fault
returns-in-Ok-clause-fault c =
    let explains = subst (λ (ts : List Token). Explains (lexemes c.args.text.now ts) c.in-Err-parse.fault) c.deref.ensures.value c.in-Err-parse.ensures.fault in
    let is = c.of_parsing.ensures ∙ ap (λ (ts : List Token). parsing_fault ts c.in-Err-parse.fault) c.deref-in-Err-parse.ensures.value in
    subst (RefusesText c.args.text.now) (sym is) (parsing_refuses c.args.text.now c.in-Ok.tokens.items c.in-Err-parse.fault c.in-Ok.ensures.tokens explains)

pub returns-clause-fault : goal.returns-clause-fault
returns-clause-fault c =
    subst (RefusesText c.args.text.now) (sym c.of_lexing.ensures)
    (lexing_refuses c.args.text.now c.in-Err.fault (λ is. c.in-Err.ensures.too_long.0 (ap Err is)) (λ line column is. (c.in-Err.ensures.not_utf8 line column).0 (ap Err is))
    (λ line column is. c.in-Err.ensures.bad_character line column (ap Err is)))
