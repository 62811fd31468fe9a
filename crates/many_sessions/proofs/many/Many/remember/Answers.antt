use Rattle.std.proofs.Common.{◌-◌, arith}
use Rattle.many_sessions.specs.Solo.{alive}
use Rattle.many_sessions.proofs.Seating.{seats_set}
use Rattle.many_sessions.proofs.many.Many.remember.Goals as goal

pub returns-clause-seats : goal.returns-clause-seats
returns-clause-seats g c = λ z l h b m stands sessions are.
    seats_set _ l c.args.self.now.seats.items sessions c.args.number (alive h b m) (c.args.number - 1) c.remember.new.self (omega (arith, c.requires.session.0))
    (omega (arith, c.requires.session.0, c.requires.session.1, c.requires.room.seats)) are (c.remember.ensures z l h b m stands)
