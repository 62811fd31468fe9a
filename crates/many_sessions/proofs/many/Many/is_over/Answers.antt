use Rattle.many_sessions.proofs.Serving.{over_at, fresh_at, playing_at, seat_at}
use Rattle.many_sessions.proofs.many.Many.is_over.Goals as goal

pub returns-in-Over-clause-over : goal.returns-in-Over-clause-over
returns-in-Over-clause-over c = λ g l sessions are.
    over_at g l c.index.result.now (sessions c.args.number) (seat_at c.args.self.now c.requires.room.0 c.requires.room.1 g l sessions c.args.number c.index.result.now c.requires.session are c.index.ensures) c.in-Over.is

pub returns-in-Fresh-clause-alive : goal.returns-in-Fresh-clause-alive
returns-in-Fresh-clause-alive c = λ g l sessions are.
    fresh_at g l c.index.result.now (sessions c.args.number) (seat_at c.args.self.now c.requires.room.0 c.requires.room.1 g l sessions c.args.number c.index.result.now c.requires.session are c.index.ensures) c.in-Fresh.is

pub returns-in-Playing-clause-alive : goal.returns-in-Playing-clause-alive
returns-in-Playing-clause-alive c = λ g l sessions are.
    playing_at g l c.index.result.now (sessions c.args.number) (seat_at c.args.self.now c.requires.room.0 c.requires.room.1 g l sessions c.args.number c.index.result.now c.requires.session are c.index.ensures) c.in-Playing.is
