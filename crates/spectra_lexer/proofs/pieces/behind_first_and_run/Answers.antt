use Rattle.std.specs.Str.{chars}
use Rattle.spectra_lexer.proofs.Steps.{over_first_and_run}
use Rattle.spectra_lexer.proofs.pieces.behind_first_and_run.Goals as goal

pub returns-clause-leads : goal.returns-clause-leads
returns-clause-leads c =
    let run = c.behind_run.ensures.run in
    over_first_and_run c.args.run c.args.at (chars c.args.text.now) c.in-Some.c (chars c.in-Some.rest.now) run.0 (chars c.behind_run.result.1.now) c.over.result c.behind_run.result.0
    c.in-Some.ensures.0 run.1 c.over.ensures run.2
