use Rattle.std.proofs.Common.{ℕ, List, drop, subst}
use Rattle.session_lines.specs.Views.{line_of}
use Rattle.many_sessions.specs.Numbered.{Message, IsNumbered}
use Rattle.many_sessions.proofs.answering.ManyProtocolController.answer.Goals as goal

pub returns-then-serve-clause-replies : goal.returns-then-serve-clause-replies
returns-then-serve-clause-replies g c = λ s st suits serves.
    let m : Message = record { session = c.in-Some.number; text = drop c.in-Some.from (line_of c.args.lines.now) } in
    let numbered = subst (λ (l : List ℕ). IsNumbered l (record { session = c.in-Some.number; text = drop c.in-Some.from l })) c.bytes.ensures c.in-Some.ensures.some in
    let served = c.if-serve.ensures.answers s st suits serves in
    (m, numbered, (served.0, served.1))

pub returns-else-serve-clause-replies : goal.returns-else-serve-clause-replies
returns-else-serve-clause-replies g c = λ s st suits serves.
    let m : Message = record { session = c.in-Some.number; text = drop c.in-Some.from (line_of c.args.lines.now) } in
    let numbered = subst (λ (l : List ℕ). IsNumbered l (record { session = c.in-Some.number; text = drop c.in-Some.from l })) c.bytes.ensures c.in-Some.ensures.some in
    let served = c.if-serve.ensures.answers s st suits serves in
    (m, numbered, (served.0, served.2, c.if-serve.ensures.cause))
