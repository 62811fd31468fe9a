use Rattle.std.proofs.Common.{◌≡◌, ◌∙◌, ◌<◌, ℕ, Vec, List, map, length, slice_get, Option, Some, refl, sym, ap, subst, arith}
use Rattle.std.specs.declared.alloc.Global.{Global}
use Rattle.std.proofs.lemmas.List.{length-map}
use Rattle.spec_model.specs.Values.{Assignment}
use Rattle.strategy_check.specs.Seats.{SeatData, seat_data, seats_of}
use Rattle.strategy_check.specs.Walks.{IsFrom}
use Rattle.strategy_check.specs.Nodes.{AddsRow}
use Rattle.strategy_check.proofs.Leading.{some_seat}
use Rattle.strategy_check.proofs.Moves.{holds_then, holds_same}
use Rattle.strategy_check.proofs.Limits.{limit_by}
use Rattle.strategy_check.proofs.Making.{inputs_are}
use Rattle.strategy_check.proofs.Rowing.{AreWalked, walked_none, walked_more, walked_all}
use Rattle.strategy_check.proofs.walk.Walk.rows.Goals as goal

pub loop-self-init : goal.loop-self-init
loop-self-init g c = record {
  walks = λ d z s walk. walk;
  walked = λ d z s walk all. subst (λ rows. AreWalked d s (seats_of c.args.self.now.seats) (seats_of c.args.self.now.seats) (map (λ (row : Vec ℕ Global). row.items) rows)) (sym c.new-rows.ensures.items) (walked_none d s (seats_of c.args.self.now.seats));
  few = c.requires.walk.3.few;
  keeps = holds_same g.G.Regions.kept c.args.play.now;
}

pub row-requires-clause-walk : goal.row-requires-clause-walk
row-requires-clause-walk g c =
    let some = c.requires.walk in
    (some.0, some.1, some.2, c.loop-self.invariant.walks some.0 some.1 some.2 some.3, inputs_are some.0 _ some.4)

pub loop-self-preserved : goal.loop-self-preserved
loop-self-preserved g c =
    let kept = g.G.Regions.kept in
    let inv = c.loop-self.invariant in
    let some = c.requires.walk in
    let items : Vec ℕ Global → List ℕ = λ row. row.items in
    let rows = map items c.loop-self.rows.items in
    let old = seats_of c.args.self.now.seats in
    let cur = seats_of c.loop-self.self.seats in
    let new = seats_of c.row.new.self.seats in
    let test = c.loop-self-test.true in
    let many = length-map c.loop-self.rows.items items in
    let met = length-map c.loop-self.self.seats.met.items seat_data in
    let len_1 = c.len.ensures in
    let len_2 = c.len-in-loop-self.ensures in
    let len_3 = c.len-in-loop-self-2.ensures in
    let below : length rows < length cur = omega (arith, test, many, met, len_1, len_2) in
    let place : c.len-in-loop-self-2.result ≡ length rows = omega (arith, len_3, many) in
    record {
      walks = λ d z s walk. c.in_ok-row.ensures.walks d z s (inv.walks d z s walk);
      walked = λ d z s walk all.
          let here = inv.walks d z s walk in
          let seat = some_seat cur (length rows) below in
          let ends = here.seats (length rows) seat.0 seat.1 in
          let from = subst (λ (o : Option SeatData). IsFrom d s o ends.0 (Some ends.1) ends.2) (sym (ap (λ k. slice_get cur k) place ∙ seat.1)) (ends.1, refl, ends.3) in
          let adds = subst (λ (xs : List Assignment). AddsRow d s cur new (Some ends.1) ends.2 xs c.in_ok-row.row.items) all (c.in_ok-row.ensures.row d z s here ends.0 (Some ends.1) ends.2 from) in
          subst (AreWalked d s old new) (sym c.in_ok-add_row.ensures)
          (walked_more d s old cur new rows (inv.walked d z s walk all) seat.0 seat.1 ends.0 ends.1 ends.2 ends.3 c.in_ok-row.row.items adds);
      few = (c.in_ok-row.ensures.walks some.0 some.1 some.2 (inv.walks some.0 some.1 some.2 some.3)).few;
      keeps = holds_then kept c.args.play.now c.loop-self.play c.row.new.play inv.keeps c.in_ok-row.ensures.keeps;
    }

pub returns-in_err-row-clause-walks : goal.returns-in_err-row-clause-walks
returns-in_err-row-clause-walks g c = λ d z s walk. c.in_err-row.ensures.walks d z s (c.loop-self.invariant.walks d z s walk)

pub returns-in_err-row-clause-limit : goal.returns-in_err-row-clause-limit
returns-in_err-row-clause-limit g c = limit_by c.from_residual.result c.in_err-row.field-0.0 _ c.from_residual.ensures.1 (λ full d z s walk. c.in_err-row.ensures.limit full d z s (c.loop-self.invariant.walks d z s walk))

pub returns-in_err-row-clause-keeps : goal.returns-in_err-row-clause-keeps
returns-in_err-row-clause-keeps g c = holds_then g.G.Regions.kept c.args.play.now c.loop-self.play _ c.loop-self.invariant.keeps c.in_err-row.ensures.keeps

pub returns-in_err-add_row-clause-walks : goal.returns-in_err-add_row-clause-walks
returns-in_err-add_row-clause-walks g c = λ d z s walk. c.in_ok-row.ensures.walks d z s (c.loop-self.invariant.walks d z s walk)

pub returns-in_err-add_row-clause-keeps : goal.returns-in_err-add_row-clause-keeps
returns-in_err-add_row-clause-keeps g c = holds_then g.G.Regions.kept c.args.play.now c.loop-self.play _ c.loop-self.invariant.keeps c.in_ok-row.ensures.keeps

pub returns-clause-rows : goal.returns-clause-rows
returns-clause-rows g c = λ d z s walk all.
    let items : Vec ℕ Global → List ℕ = λ row. row.items in
    let test = c.loop-self-test.false in
    let many = length-map c.loop-self.rows.items items in
    let met = length-map c.loop-self.self.seats.met.items seat_data in
    let len_1 = c.len.ensures in
    let len_2 = c.len-in-loop-self.ensures in
    walked_all d s (seats_of c.args.self.now.seats) (seats_of c.loop-self.self.seats) (map items c.loop-self.rows.items) (c.loop-self.invariant.walked d z s walk all) (omega (arith, test, many, met, len_1, len_2))
