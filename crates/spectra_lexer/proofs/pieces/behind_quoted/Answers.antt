use Rattle.std.specs.Str.{chars}
use Rattle.spectra_lexer.proofs.Steps.{over_quoted, no_quoted, other_first}
use Rattle.spectra_lexer.proofs.pieces.behind_quoted.Goals as goal

pub returns-then-c-ne34-clause-none : goal.returns-then-c-ne34-clause-none
returns-then-c-ne34-clause-none c =
    no_quoted c.args.at (chars c.args.text.now) c.behind_first_and_run.result.0 (chars c.behind_first_and_run.result.1.now) c.behind_first_and_run.ensures.leads
    (other_first c.in-Some.c (chars c.in-Some.after.now) (chars c.behind_first_and_run.result.1.now) c.in-Some.ensures.0 c.if-c-ne34.true)

pub returns-clause-ends : goal.returns-clause-ends
returns-clause-ends c =
    over_quoted c.args.at (chars c.args.text.now) c.behind_first_and_run.result.0 (chars c.behind_first_and_run.result.1.now) (chars c.in-Some.after.now) c.in-Some.c c.over.result
    c.behind_first_and_run.ensures.leads c.in-Some.ensures.0 c.if-c-ne34.false c.over.ensures
