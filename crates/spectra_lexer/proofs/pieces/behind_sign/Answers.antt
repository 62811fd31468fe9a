use Rattle.spectra_lexer.proofs.Steps.{sign_boundary, over_sign, no_sign_piece}
use Rattle.spectra_lexer.proofs.pieces.behind_sign.Goals as goal

pub split_at-requires : goal.split_at-requires
split_at-requires c =
    let bytes = c.as_bytes.ensures.value in
    sign_boundary c.args.at c.args.text.now c.in-Some.size c.utf8.text (rw bytes at (c.in-Some.ensures.within)) (rw bytes at (c.in-Some.ensures.longest))

pub returns-clause-ends : goal.returns-clause-ends
returns-clause-ends c =
    let bytes = c.as_bytes.ensures.value in
    rw (c.skip.ensures, c.split_at.ensures.back)
    (over_sign c.args.at c.args.text.now c.in-Some.size c.utf8.text (rw bytes at (c.in-Some.ensures.within)) (rw bytes at (c.in-Some.ensures.longest)))

pub returns-in_default-clause-none : goal.returns-in_default-clause-none
returns-in_default-clause-none c =
    let bytes = c.as_bytes.ensures.value in
    no_sign_piece c.args.text.now c.utf8.text (rw bytes at (c.in_default.ensures.none))
