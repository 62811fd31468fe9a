use Rattle.std.proofs.Common.{sym, ◌∙◌}
use Rattle.std.specs.Str.{chars}
use Rattle.spectra_lexer.proofs.Walks.{inside_behind}
use Rattle.spectra_lexer.proofs.Closing.{goes_on_open, closed_here}
use Rattle.spectra_lexer.proofs.pieces.behind_close.Goals as goal

pub returns-then-closes-clause-closes : goal.returns-then-closes-clause-closes
returns-then-closes-clause-closes c =
    rw (c.over.ensures, c.over-at.ensures)
    (closed_here c.args.at (chars c.args.text.now) c.loop-c.at (chars c.loop-c.rest.now) c.in-Some.c c.in_ok-slash.slash (chars c.in-Some.after.now) (chars c.in_ok-slash.behind_slash.now)
    c.loop-c.invariant.1 c.in-Some.ensures.0 (sym c.closes.ensures ∙ c.if-closes.true) c.in_ok-slash.ensures.0)

pub loop-c-preserved : goal.loop-c-preserved
loop-c-preserved c =
    let here = c.loop-c.at in
    let letter = c.in-Some.c in
    let after = c.in-Some.after.now in (
      c.in-Some.ensures.2,
      rw c.over-at.ensures
          (goes_on_open c.args.at (chars c.args.text.now) here (chars c.loop-c.rest.now) letter (chars after) c.loop-c.invariant.1 c.in-Some.ensures.0 (sym c.closes.ensures ∙ c.if-closes.false)),
      rw c.over-at.ensures (inside_behind here letter c.loop-c.rest.now after c.loop-c.invariant.2 c.in-Some.ensures.1),
    )
