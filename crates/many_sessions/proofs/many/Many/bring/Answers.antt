use Rattle.std.proofs.Common.{subst}
use Rattle.spec_model.specs.Games.{GameData}
use Rattle.many_sessions.specs.Solo.{Session, alive}
use Rattle.many_sessions.specs.Seats.{IsSeatOf}
use Rattle.many_sessions.proofs.Moving.{plays_there}
use Rattle.many_sessions.proofs.Serving.{seat_at}
use Rattle.many_sessions.proofs.many.Many.bring.Goals as goal

pub returns-clause-plays : goal.returns-clause-plays
returns-clause-plays g c = λ s st h b m serves is.
    let at = serves.plays in
    let seat = seat_at c.args.self.now st.game serves.room st.game st.layers st.sessions c.args.number c.index.result.now c.requires.session serves.seats c.index.ensures in
    let alive_seat = subst (λ (g : GameData). IsSeatOf g st.layers c.index.result.now (alive h b m)) at.game (subst (λ (t : Session). IsSeatOf st.game st.layers c.index.result.now t) is seat) in
    plays_there _ c.args.play.now s st serves.run serves.before serves.memory at c.bring.new.play c.bring.ensures.keeps h b m
    (c.bring.ensures.stands at.z st.layers serves.run serves.before serves.memory at.stands h b m alive_seat)
