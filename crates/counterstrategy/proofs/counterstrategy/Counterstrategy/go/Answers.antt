use Rattle.std.proofs.Common.{Some}
use Rattle.counterstrategy.proofs.counterstrategy.Counterstrategy.go.Goals as goal

pub give_next-requires-clause-stands : goal.give_next-requires-clause-stands
give_next-requires-clause-stands g c =
    let some = c.requires.there in
    (some.0, some.6, some.7, Some some.8, some.9, c.settle_at.ensures.stands some.0 some.1 some.2 some.3 some.4 some.5 some.6 some.7 some.8 some.9 some.10)

pub returns-clause-stands : goal.returns-clause-stands
returns-clause-stands g c = λ e h notes b m st to noted s next ends.
    (_, c.give_next.ensures.given e to noted (Some s) next (c.settle_at.ensures.stands e h notes b m st to noted s next ends))
