use Rattle.std.proofs.Common.{◌∙◌, ◌<◌, length, sym, arith}
use Rattle.std.proofs.lemmas.List.{length-map}
use Rattle.strategy_check.specs.Seats.{seat_data, seats_of}
use Rattle.strategy_check.proofs.Listing.{mapped_there}
use Rattle.strategy_check.proofs.Meeting.{place_here}
use Rattle.strategy_check.proofs.seats.Seats.place.Goals as goal

pub returns-then-is_seat : goal.returns-then-is_seat
returns-then-is_seat c =
    let met = c.args.self.now.met.items in
    let n = c.in-Some.guess.now in
    let u = c.index.result.now in
    let many = length-map met seat_data in
    let below : n < length met = let test = c.if-guess-len.true in let len = c.len.ensures in omega (arith, test, len) in
    let there = mapped_there seat_data met n u below c.index.ensures in
    place_here (seats_of c.args.self.now) c.args.state.now c.args.spot n (seat_data u) (omega (arith, below, many)) there (sym c.is_seat.ensures ∙ c.if-is_seat.true)
