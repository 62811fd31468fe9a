use Rattle.std.proofs.Common.{◌≡◌, ◌∙◌, ◌<◌, length, sym, subst, arith}
use Rattle.std.proofs.lemmas.List.{length-map}
use Rattle.counter_tables.specs.Seats.{seat_data, seats_of}
use Rattle.counter_tables.proofs.Listing.{mapped_there}
use Rattle.counter_tables.proofs.Meeting.{IsNotBefore, not_before_more, place_here, place_past}
use Rattle.counter_tables.proofs.seats.Seats.searched.Goals as goal

pub returns-then-is_seat : goal.returns-then-is_seat
returns-then-is_seat c =
    let met = c.args.self.now.met.items in
    let n = c.loop-n.n in
    let u = c.index.result.now in
    let many = length-map met seat_data in
    let below : n < length met = let test = c.loop-n-test.true in let end = c.len-n-end.ensures in omega (arith, test, end) in
    let there = mapped_there seat_data met n u below c.index.ensures in
    place_here (seats_of c.args.self.now) c.args.state.now c.args.spot n (seat_data u) (omega (arith, below, many)) there (sym c.is_seat.ensures ∙ c.if-is_seat.true)

pub loop-n-preserved : goal.loop-n-preserved
loop-n-preserved c =
    let met = c.args.self.now.met.items in
    let n = c.loop-n.n in
    let u = c.index.result.now in
    let below : n < length met = let test = c.loop-n-test.true in let end = c.len-n-end.ensures in omega (arith, test, end) in
    let there = mapped_there seat_data met n u below c.index.ensures in
    not_before_more (seats_of c.args.self.now) c.args.state.now c.args.spot n (seat_data u) there (sym c.is_seat.ensures ∙ c.if-is_seat.false) c.loop-n.invariant

pub returns : goal.returns
returns c =
    let met = c.args.self.now.met.items in
    let many = length-map met seat_data in
    let all : c.len.result ≡ length (seats_of c.args.self.now) = let len = c.len.ensures in omega (arith, len, many) in
    let upto : c.loop-n.n ≡ c.len.result = let past = c.loop-n-test.false in let most = c.loop-n.auto.n-end in let end = c.len-n-end.ensures in let len = c.len.ensures in omega (arith, past, most, end, len) in
    place_past (seats_of c.args.self.now) c.args.state.now c.args.spot c.len.result all (subst (IsNotBefore (seats_of c.args.self.now) c.args.state.now c.args.spot) upto c.loop-n.invariant)
