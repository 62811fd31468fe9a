use Rattle.std.proofs.Common.{sym, ◌∙◌}
use Rattle.std.specs.Str.{chars}
use Rattle.spectra_lexer.proofs.Walks.{one_more, inside_behind}
use Rattle.spectra_lexer.proofs.characters.behind_run.Goals as goal

pub loop-c-preserved : goal.loop-c-preserved
loop-c-preserved c =
    let here = c.loop-c.at in
    let letter = c.in-Some.c in
    let after = c.in-Some.after.now in (
      c.in-Some.ensures.2,
      rw c.over-at.ensures
          (one_more c.args.run c.args.at (chars c.args.text.now) here (chars c.loop-c.rest.now) letter (chars after) c.loop-c.invariant.1 c.in-Some.ensures.0
          (sym c.goes_on.ensures ∙ c.if-not-goes_on.false)),
      rw c.over-at.ensures (inside_behind here letter c.loop-c.rest.now after c.loop-c.invariant.2 c.in-Some.ensures.1),
    )
