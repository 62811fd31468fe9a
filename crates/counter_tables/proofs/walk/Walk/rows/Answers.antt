use Rattle.std.proofs.Common.{◌≡◌, ◌<◌, ℕ, Vec, List, map, length, slice_get, Option, Some, sym, ap, subst, arith}
use Rattle.std.proofs.lemmas.List.{length-map, length_push}
use Rattle.std.specs.declared.alloc.Global.{Global}
use Rattle.spec_model.specs.Values.{Assignment}
use Rattle.counter_tables.specs.Seats.{SeatData, seat_data, seats_of}
use Rattle.counter_tables.specs.Walks.{IsFrom}
use Rattle.counter_tables.specs.Nodes.{AddsRow}
use Rattle.counter_tables.proofs.Moves.{holds_then, holds_same, handed}
use Rattle.counter_tables.proofs.Rowing.{AreWalked, walked_none, walked_more, walked_all, outputs_are}
use Rattle.counter_tables.proofs.Leading.{some_seat}
use Rattle.counter_tables.proofs.walk.Walk.rows.Goals as goal

some_number : (a n : ℕ) → Some a ≡ Some n → a ≡ n
some_number a n is = cc (is)

pub loop-rows-init : goal.loop-rows-init
loop-rows-init g c = record {
  walks = λ d e walk. walk;
  walked = λ d e walk all. subst (λ (rows : List (Vec ℕ Global)). AreWalked d e (seats_of c.args.self.now.seats) (seats_of c.args.self.now.seats) (map (λ (row : Vec ℕ Global). row.items) rows)) (sym c.new-rows.ensures.items) (walked_none d e (seats_of c.args.self.now.seats));
  few = c.requires.walk.2.few;
  keeps = holds_same g.G.Regions.kept c.args.play.now;
}

pub row-requires-clause-walk : goal.row-requires-clause-walk
row-requires-clause-walk g c =
    let some = c.requires.walk in
    (some.0, some.1, c.loop-rows.invariant.walks some.0 some.1 some.2, outputs_are some.0 _ some.3)

pub row-requires-clause-from : goal.row-requires-clause-from
row-requires-clause-from g c = λ n is.
    let same = some_number _ n is in
    let met = length-map c.loop-rows.self.seats.met.items seat_data in
    omega (arith, same, met)

pub loop-rows-preserved : goal.loop-rows-preserved
loop-rows-preserved g c =
    let kept = g.G.Regions.kept in
    let inv = c.loop-rows.invariant in
    let some = c.requires.walk in
    let old = seats_of c.args.self.now.seats in
    let cur = seats_of c.loop-rows.self.seats in
    let new = seats_of c.row.new.self.seats in
    let items : Vec ℕ Global → List ℕ = λ row. row.items in
    let rows = map items c.loop-rows.rows.items in
    let row = c.in_ok-row.row.items in
    let n = c.len-n.result in
    let many = length-map c.loop-rows.rows.items items in
    let met = length-map c.loop-rows.self.seats.met.items seat_data in
    let same : n ≡ length rows = (let len = c.len-n.ensures in omega (arith, len, many)) in
    let inner : n < length cur = omega (arith, met) in
    record {
      walks = λ d e walk. c.in_ok-row.ensures.walks d e (inv.walks d e walk);
      walked = λ d e walk all.
          let now = inv.walks d e walk in
          let v = some_seat cur n inner in
          let ends = now.seats n v.0 v.1 in
          let from = subst (λ (o : Option SeatData). IsFrom d e o ends.0) (sym v.1) (ends.1, ends.2) in
          let adds = subst (λ (ys : List Assignment). AddsRow d e cur new ends.0 ys row) all (c.in_ok-row.ensures.row d e now ends.0 from) in
          let there = subst (λ (k : ℕ). slice_get cur k ≡ Some v.0) same v.1 in
          subst (AreWalked d e old new) (sym c.in_ok-add_row.ensures) (walked_more d e old cur new rows (inv.walked d e walk all) v.0 there ends.0 ends.1 ends.2 row adds);
      few = (c.in_ok-row.ensures.walks some.0 some.1 (inv.walks some.0 some.1 some.2)).few;
      keeps = holds_then kept c.args.play.now c.loop-rows.play c.row.new.play inv.keeps c.in_ok-row.ensures.keeps;
    }

pub loop-rows-smaller : goal.loop-rows-smaller
loop-rows-smaller g c =
    let items : Vec ℕ Global → List ℕ = λ row. row.items in
    let more = ap (λ (rows : List (List ℕ)). length rows) c.in_ok-add_row.ensures in
    let after = length-map c.add_row.new.rows.items items in
    let before = length-map c.loop-rows.rows.items items in
    let one = length_push (map items c.loop-rows.rows.items) c.in_ok-row.row.items in
    let met = length-map c.loop-rows.self.seats.met.items seat_data in
    let few = c.loop-rows.invariant.few in
    omega (arith, more, after, before, one, met, few)

pub returns-clause-rows : goal.returns-clause-rows
returns-clause-rows g c = λ d e walk all.
    let items : Vec ℕ Global → List ℕ = λ row. row.items in
    let many = length-map c.loop-rows.rows.items items in
    let met = length-map c.loop-rows.self.seats.met.items seat_data in
    walked_all d e (seats_of c.args.self.now.seats) (seats_of c.loop-rows.self.seats) (map items c.loop-rows.rows.items) (c.loop-rows.invariant.walked d e walk all) (omega (arith, many, met))

pub returns-in_err-row-clause-walks : goal.returns-in_err-row-clause-walks
returns-in_err-row-clause-walks g c = λ d e walk. c.in_err-row.ensures.walks d e (c.loop-rows.invariant.walks d e walk)

pub returns-in_err-row-clause-limit : goal.returns-in_err-row-clause-limit
returns-in_err-row-clause-limit g c = handed _ c.from_residual.result c.in_err-row.field-0.0 c.from_residual.ensures.1 (λ full d e walk. c.in_err-row.ensures.limit full d e (c.loop-rows.invariant.walks d e walk))

pub returns-in_err-row-clause-keeps : goal.returns-in_err-row-clause-keeps
returns-in_err-row-clause-keeps g c = holds_then g.G.Regions.kept c.args.play.now c.loop-rows.play c.row.new.play c.loop-rows.invariant.keeps c.in_err-row.ensures.keeps

pub returns-in_err-add_row-clause-walks : goal.returns-in_err-add_row-clause-walks
returns-in_err-add_row-clause-walks g c = λ d e walk. c.in_ok-row.ensures.walks d e (c.loop-rows.invariant.walks d e walk)

pub returns-in_err-add_row-clause-keeps : goal.returns-in_err-add_row-clause-keeps
returns-in_err-add_row-clause-keeps g c = holds_then g.G.Regions.kept c.args.play.now c.loop-rows.play c.row.new.play c.loop-rows.invariant.keeps c.in_ok-row.ensures.keeps
