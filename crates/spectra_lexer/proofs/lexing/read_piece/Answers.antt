use Rattle.std.proofs.Common.{◌∙◌, ap, ◌++◌}
use Rattle.std.specs.Str.{chars}
use Rattle.spectra_lexer.specs.Tokens.{token_if}
use Rattle.spectra_lexer.proofs.Parts.{piece_parts, rest_is_shorter}
use Rattle.spectra_lexer.proofs.Steps.{over_piece}
use Rattle.spectra_lexer.proofs.lexing.read_piece.Goals as goal

pub kind_of_front-requires : goal.kind_of_front-requires
kind_of_front-requires c =
    let ends = c.in-Some.ensures.ends in
    (ends.piece, piece_parts c.what_opens-opening.result (chars c.args.rest.now) ends.piece (chars c.in-Some.after.now) ends.is)

pub returns-clause-leads : goal.returns-clause-leads
returns-clause-leads c =
    let o = c.what_opens-opening.result in
    let text = chars c.args.rest.now in
    let after = chars c.in-Some.after.now in
    let ends = c.in-Some.ensures.ends in
    over_piece o c.args.at text c.args.tokens.now.items c.in-Some.next after c.push_if.new.tokens.items c.what_opens-opening.ensures ends
    (c.in_ok-push_if.ensures ∙ ap (λ k. c.args.tokens.now.items ++ token_if k c.args.at c.in-Some.next) (c.kind_of_front.ensures ends.piece (piece_parts o text ends.piece after ends.is)))

pub returns-clause-shorter : goal.returns-clause-shorter
returns-clause-shorter c =
    let ends = c.in-Some.ensures.ends in
    rest_is_shorter c.what_opens-opening.result (chars c.args.rest.now) ends.piece (chars c.in-Some.after.now) ends.is
