use Rattle.std.proofs.Common.{◌∙◌, ap, Err}
use Rattle.std.specs.Str.{chars}
use Rattle.spectra_lexer.specs.Tokens.{first_spot, without_mark}
use Rattle.spectra_lexer.proofs.Outcomes.{handed_on, broken_is_no_utf8, says_broken, says_whole, Reads, reads_all, reads_only, only_whole, refuses, reads_whole}
use Rattle.spectra_lexer.proofs.lexing.lex.Goals as goal

pub returns-in_err-decode-clause-not_utf8 : goal.returns-in_err-decode-clause-not_utf8
returns-in_err-decode-clause-not_utf8 c =
    let broken = c.in_err-decode.ensures.fault in
    says_broken c.args.text.now c.from_residual.result broken.0 broken.1 (handed_on c.from_residual.result c.in_err-decode.field-0.0 c.from_residual.ensures.1 ∙ ap (λ e. Err e) broken.2) broken.3

pub returns-in_err-decode-clause-read : goal.returns-in_err-decode-clause-read
returns-in_err-decode-clause-read c = λ tokens are. let broken = c.in_err-decode.ensures.fault in absurd (broken_is_no_utf8 c.args.text.now broken.0 broken.1 broken.3 are.utf8)

pub returns-in_err-decode-clause-refused : goal.returns-in_err-decode-clause-refused
returns-in_err-decode-clause-refused c = λ line column bad. let broken = c.in_err-decode.ensures.fault in absurd (broken_is_no_utf8 c.args.text.now broken.0 broken.1 broken.3 bad.utf8)

pub returns-clause-not_utf8 : goal.returns-clause-not_utf8
returns-clause-not_utf8 c = says_whole c.args.text.now c.read_all.result c.in_ok-decode.ensures.text.1 c.read_all.ensures.faults

reads : (c : goal.After-read_all) → Reads (first_spot (chars c.args.text.now)) (without_mark (chars c.args.text.now)) c.read_all.result
reads c =
    reads_whole c.in_ok-decode.field-0.now c.args.text.now c.beginning.result.0 (chars c.beginning.result.1.now) c.read_all.result c.in_ok-decode.ensures.text.0 c.beginning.ensures.spot c.beginning.ensures.rest
    (record { tokens = c.read_all.ensures.tokens; bad = c.read_all.ensures.bad; faults = c.read_all.ensures.faults })

pub returns-clause-only : goal.returns-clause-only
returns-clause-only c = only_whole c.args.text.now c.read_all.result (reads_only (first_spot (chars c.args.text.now)) (without_mark (chars c.args.text.now)) c.read_all.result (reads c))

pub returns-clause-read : goal.returns-clause-read
returns-clause-read c = λ tokens are. reads_all (first_spot (chars c.args.text.now)) (without_mark (chars c.args.text.now)) c.read_all.result (reads c) tokens are.lexed

pub returns-clause-refused : goal.returns-clause-refused
returns-clause-refused c =
    λ line column bad.
    refuses (first_spot (chars c.args.text.now)) (without_mark (chars c.args.text.now)) c.read_all.result (reads c) bad.spot line column bad.fails bad.placed
