use Rattle.std.proofs.Common.{◌≡◌, true, ℕ, Vec, List, [], ◌∷◌, ◌++◌, map, take, sym, subst, arith}
use Rattle.std.proofs.lemmas.List.{take_all}
use Rattle.std.specs.declared.alloc.Global.{Global}
use Rattle.spec_model.specs.declared.value.Value.{Value}
use Rattle.spec_model.specs.Values.{Assignment}
use Rattle.spec_model.specs.Steps.{is_output}
use Rattle.counter_tables.specs.Seats.{seats_of}
use Rattle.counter_tables.specs.Nodes.{AddsRow}
use Rattle.counter_tables.proofs.Listing.{mapped_more, all_there}
use Rattle.counter_tables.proofs.Leading.{from_still, walk_from, in_longer}
use Rattle.counter_tables.proofs.Moves.{holds_then, holds_same, handed}
use Rattle.counter_tables.proofs.Walked.{adds_nothing}
use Rattle.counter_tables.proofs.walk.Walk.row.Goals as goal

pub loop-output-init : goal.loop-output-init
loop-output-init g c = record {
  walks = λ d e walk. walk;
  adds = λ d e walk p is. subst (λ (row : List ℕ). AddsRow d e (seats_of c.args.self.now.seats) (seats_of c.args.self.now.seats) p [] row) (sym c.new-row.ensures.items) (adds_nothing d e (seats_of c.args.self.now.seats) p);
  inner = c.requires.from;
  keeps = holds_same g.G.Regions.kept c.args.play.now;
}

pub add-requires-clause-walk : goal.add-requires-clause-walk
add-requires-clause-walk g c =
    let some = c.requires.walk in
    let items : Vec Value Global → Assignment = λ y. y.items in
    let output = all_there items (λ y. is_output some.0 y ≡ true) c.args.outputs.now c.loop-output.output-index c.output-item.result c.loop-output-test.true c.output-item.is some.3 in
    (some.0, some.1, c.loop-output.invariant.walks some.0 some.1 some.2, subst (λ (y : Assignment). is_output some.0 y ≡ true) (sym c.deref.ensures.value) output)

pub add-requires-clause-from : goal.add-requires-clause-from
add-requires-clause-from g c = c.loop-output.invariant.inner

pub loop-output-preserved : goal.loop-output-preserved
loop-output-preserved g c =
    let kept = g.G.Regions.kept in
    let items : Vec Value Global → Assignment = λ y. y.items in
    let some = c.requires.walk in
    let inv = c.loop-output.invariant in
    let old = seats_of c.args.self.now.seats in
    let cur = seats_of c.loop-output.self.seats in
    let new = seats_of c.add.new.self.seats in
    let y = c.output-item.result.items in
    record {
      walks = λ d e walk. c.in_ok-add.ensures.walks d e (inv.walks d e walk);
      adds = λ d e walk p is.
          let adds = inv.adds d e walk p is in
          let at = from_still d e old cur adds.more c.args.from c.requires.from p is in
          let one = c.in_ok-add.ensures.adds d e (inv.walks d e walk) p at in
          let row = one.adds old (map items (take c.loop-output.output-index c.args.outputs.now)) adds in
          subst (λ (ys : List Assignment). AddsRow d e old new p ys c.add.new.row.items) (sym (mapped_more items c.args.outputs.now c.loop-output.output-index c.output-item.result c.loop-output-test.true c.output-item.is))
          (subst (λ (z : Assignment). AddsRow d e old new p (map items (take c.loop-output.output-index c.args.outputs.now) ++ z ∷ []) c.add.new.row.items) c.deref.ensures.value row);
      inner = λ n is.
          let walk = inv.walks some.0 some.1 some.2 in
          let from = walk_from kept c.loop-output.play c.loop-output.self some.0 some.1 walk c.args.from inv.inner in
          in_longer cur new (c.in_ok-add.ensures.adds some.0 some.1 walk from.0 from.1).more n (inv.inner n is);
      keeps = holds_then kept c.args.play.now c.loop-output.play c.add.new.play inv.keeps c.in_ok-add.ensures.keeps;
    }

pub returns-in_err-add-clause-walks : goal.returns-in_err-add-clause-walks
returns-in_err-add-clause-walks g c = λ d e walk. c.in_err-add.ensures.walks d e (c.loop-output.invariant.walks d e walk)

pub returns-in_err-add-clause-limit : goal.returns-in_err-add-clause-limit
returns-in_err-add-clause-limit g c = handed _ c.from_residual.result c.in_err-add.field-0.0 c.from_residual.ensures.1 (λ full d e walk. c.in_err-add.ensures.limit full d e (c.loop-output.invariant.walks d e walk))

pub returns-in_err-add-clause-keeps : goal.returns-in_err-add-clause-keeps
returns-in_err-add-clause-keeps g c = holds_then g.G.Regions.kept c.args.play.now c.loop-output.play c.add.new.play c.loop-output.invariant.keeps c.in_err-add.ensures.keeps

pub returns-clause-row : goal.returns-clause-row
returns-clause-row g c = λ d e walk p is.
    let items : Vec Value Global → Assignment = λ y. y.items in
    let old = seats_of c.args.self.now.seats in
    let new = seats_of c.loop-output.self.seats in
    let all : take c.loop-output.output-index c.args.outputs.now ≡ c.args.outputs.now = take_all c.loop-output.output-index c.args.outputs.now (omega arith) in
    subst (λ (vs : List (Vec Value Global)). AddsRow d e old new p (map items vs) c.loop-output.row.items) all (c.loop-output.invariant.adds d e walk p is)
