use Rattle.std.specs.Str.{chars}
use Rattle.spectra_lexer.proofs.Steps.{over_block, block_inner}
use Rattle.spectra_lexer.proofs.pieces.behind_block.Goals as goal

pub returns-clause-ends : goal.returns-clause-ends
returns-clause-ends c =
    let found = block_inner c.args.at (chars c.args.text.now) c.requires.begins.0 c.in_ok-slash.slash (chars c.in_ok-slash.behind_slash.now) c.in_ok-star.star (chars c.in_ok-star.inner.now)
    c.requires.begins.1 c.in_ok-slash.ensures.0 c.in_ok-star.ensures.0 in
    over_block c.args.at (chars c.args.text.now) (chars c.in_ok-star.inner.now) c.over-2.result c.in_ok-next.next (chars c.in_ok-next.rest.now)
    found.0 (rw (c.over-2.ensures, c.over.ensures) found.1) c.in_ok-next.ensures.closes
