use Rattle.std.proofs.Common.{◌≡◌, []}
use Rattle.std.specs.Str.{chars}
use Rattle.spectra_lexer.specs.Faults.{here}
use Rattle.spectra_lexer.proofs.Texts.{some_characters, no_characters}
use Rattle.spectra_lexer.proofs.Steps.{over_all}
use Rattle.spectra_lexer.proofs.Outcomes.{bad_fault}
use Rattle.spectra_lexer.proofs.lexing.read_all.Goals as goal

pub read_piece-requires-clause-some : goal.read_piece-requires-clause-some
read_piece-requires-clause-some c = some_characters c.loop-rest.rest.now c.loop-rest.invariant.0 c.loop-rest-test.ensures

pub returns-in_err-next-clause-bad : goal.returns-in_err-next-clause-bad
returns-in_err-next-clause-bad c =
    λ line column h.
    let bad = c.in_err-next.ensures.bad line column (bad_fault c.from_residual.result c.in_err-next.field-0.0 line column c.from_residual.ensures.1 h) in
    (c.loop-rest.here, c.loop-rest.invariant.1.fails c.loop-rest.here (here bad.0), bad.1)

pub returns-clause-tokens : goal.returns-clause-tokens
returns-clause-tokens c =
    let nothing : chars c.loop-rest.rest.now ≡ [] = no_characters c.loop-rest.rest.now c.loop-rest-test.ensures in
    rw (c.in_ok-push.ensures.items, c.token.ensures)
    (over_all c.args.at c.loop-rest.here (chars c.args.text.now) c.loop-rest.tokens.items (rw nothing at (c.loop-rest.invariant.1)))
