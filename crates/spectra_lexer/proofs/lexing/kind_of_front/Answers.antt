use Rattle.spectra_lexer.proofs.Parts.{front_fits, front_is, kind_of_piece-encoded}
use Rattle.spectra_lexer.proofs.lexing.kind_of_front.Goals as goal

pub overflow_sub-size : goal.overflow_sub-size
overflow_sub-size c = front_fits c.args.text.now c.requires.0 c.args.after.now c.utf8.text c.utf8.after c.requires.1

pub returns : goal.returns
returns c =
    λ front e.
    rw (c.kind_of_piece.ensures, c.as_bytes.ensures.value, front_is c.args.text.now front c.args.after.now c.utf8.text c.utf8.after e) (kind_of_piece-encoded c.args.opening front)
