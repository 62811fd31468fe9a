use Rattle.std.proofs.Common.{ℤ, w64, ◌∙◌}
use Rattle.std.proofs.lemmas.Int.{to_z-of_z}
use mir.Val.{SFits}
use Rattle.many_sessions.proofs.Numbering.{no_number, number_is}
use Rattle.many_sessions.proofs.numbered.session_of.Goals as goal

pub returns-in-None-session_in-clause-none : goal.returns-in-None-session_in-clause-none
returns-in-None-session_in-clause-none c = λ m is.
    let z = c.in-Some.number in
    let fits : SFits w64 z = record { sfits = c.in-Some.ensures.small } in
    c.in-None-session_in.ensures.none m.session is.session (to_z-of_z w64 z fits ∙ number_is c.args.line.now c.word_end-end.result z c.word_end-end.ensures.end c.in-Some.ensures.small c.in-Some.ensures.some m is)

pub returns-in-None-clause-none : goal.returns-in-None-clause-none
returns-in-None-clause-none c = no_number c.args.line.now c.word_end-end.result c.word_end-end.ensures.end c.in-None.ensures.none
