use Rattle.std.proofs.Common.{not, ◌&&◌, sym, ap, ◌∙◌, arith}
use Rattle.spectra_copies.specs.Levels.{is_row_word}
use Rattle.spectra_elaboration.proofs.Unwound.{last_row, two_rows}
use Rattle.spectra_elaboration.proofs.rows.ends_row.Goals as goal

pub returns-then-place-pieces-2 : goal.returns-then-place-pieces-2
returns-then-place-pieces-2 c = let here = c.if-place-pieces.false in let last = c.if-place-pieces-2.true in last_row c.args.pieces.now c.args.place (omega (arith, here)) (omega (arith, last))

pub returns : goal.returns
returns c =
    let p = c.index-pieces-place in
    let q = c.index-pieces-place-2 in
    let here = c.if-place-pieces.false in
    let more = c.if-place-pieces-2.false in
    ap not (c.goes_on.ensures ∙ (λ i. is_row_word (sym p.is i).link.now.word && is_row_word (sym q.is i).link.now.word))
    ∙ two_rows c.args.pieces.now c.args.place p.result q.result (omega (arith, here, more)) p.is q.is
