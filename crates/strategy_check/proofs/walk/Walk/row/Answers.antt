use Rattle.std.proofs.Common.{◌≡◌, true, ℕ, Vec, List, [], ◌∷◌, ◌++◌, map, take, Option, sym, subst, arith}
use Rattle.std.specs.declared.alloc.Global.{Global}
use Rattle.std.proofs.lemmas.List.{take_all}
use Rattle.spec_model.specs.declared.value.Value.{Value}
use Rattle.spec_model.specs.Values.{Assignment}
use Rattle.spec_model.specs.Steps.{is_input}
use Rattle.strategy_check.specs.Seats.{SeatData, seats_of}
use Rattle.strategy_check.specs.Walks.{IsFrom}
use Rattle.strategy_check.specs.Nodes.{AddsRow, Leads}
use Rattle.strategy_check.proofs.Limits.{limit_by}
use Rattle.strategy_check.proofs.Listing.{mapped_more, all_there}
use Rattle.strategy_check.proofs.Leading.{from_exists, numbered_still}
use Rattle.strategy_check.proofs.Moves.{holds_then, holds_same}
use Rattle.strategy_check.proofs.Walked.{adds_nothing, adds_one, leads_longer}
use Rattle.strategy_check.proofs.walk.Walk.row.Goals as goal

pub loop-input-init : goal.loop-input-init
loop-input-init g c = record {
  walks = λ d z s walk. walk;
  adds = λ d z s walk h b m is. subst (AddsRow d s (seats_of c.args.self.now.seats) (seats_of c.args.self.now.seats) b m []) (sym c.new-row.ensures.items) (adds_nothing d s (seats_of c.args.self.now.seats) b m);
  inner = c.requires.from;
  keeps = holds_same g.G.Regions.kept c.args.play.now;
}

pub lead-requires-clause-walk : goal.lead-requires-clause-walk
lead-requires-clause-walk g c =
    let some = c.requires.walk in
    let items : Vec Value Global → Assignment = λ x. x.items in
    let input = all_there items (λ (x : Assignment). is_input some.0 x ≡ true) c.args.inputs.now c.loop-input.input-index c.input-item.result c.loop-input-test.true c.input-item.is some.4 in
    (some.0, some.1, some.2, c.loop-input.invariant.walks some.0 some.1 some.2 some.3, subst (λ (x : Assignment). is_input some.0 x ≡ true) (sym c.deref.ensures.value) input)

pub returns-in_err-number-clause-walks : goal.returns-in_err-number-clause-walks
returns-in_err-number-clause-walks g c = λ d z s walk. c.in_err-number.ensures.walks d z s (c.loop-input.invariant.walks d z s walk)

pub returns-in_err-number-clause-limit : goal.returns-in_err-number-clause-limit
returns-in_err-number-clause-limit g c = limit_by c.from_residual.result c.in_err-number.field-0.0 _ c.from_residual.ensures.1 (λ full d z s walk. c.in_err-number.ensures.limit full d z s (c.loop-input.invariant.walks d z s walk))

pub returns-in_err-number-clause-keeps : goal.returns-in_err-number-clause-keeps
returns-in_err-number-clause-keeps g c = holds_then g.G.Regions.kept c.args.play.now c.loop-input.play _ c.loop-input.invariant.keeps c.in_err-number.ensures.keeps

pub returns-in_err-add_number-clause-walks : goal.returns-in_err-add_number-clause-walks
returns-in_err-add_number-clause-walks g c = λ d z s walk. c.in_ok-number.ensures.walks d z s (c.loop-input.invariant.walks d z s walk)

pub returns-in_err-add_number-clause-keeps : goal.returns-in_err-add_number-clause-keeps
returns-in_err-add_number-clause-keeps g c = holds_then g.G.Regions.kept c.args.play.now c.loop-input.play _ c.loop-input.invariant.keeps c.in_ok-number.ensures.keeps

pub loop-input-preserved : goal.loop-input-preserved
loop-input-preserved g c =
    let kept = g.G.Regions.kept in
    let inv = c.loop-input.invariant in
    let inputs = c.args.inputs.now in
    let i = c.loop-input.input-index in
    let items : Vec Value Global → Assignment = λ x. x.items in
    let x = c.input-item.result.items in
    let old = seats_of c.args.self.now.seats in
    let cur = seats_of c.loop-input.self.seats in
    let new = seats_of c.lead.new.self.seats in
    let number = c.in_ok-number.number in
    record {
      walks = λ d z s walk. c.in_ok-number.ensures.walks d z s (inv.walks d z s walk);
      adds = λ d z s walk h b m is.
          let adds = inv.adds d z s walk h b m is in
          let from = subst (λ (o : Option SeatData). IsFrom d s o h b m) (numbered_still old cur adds.more c.args.from c.requires.from) is in
          let leads = subst (λ (x : Assignment). Leads d s cur new b m x number) c.deref.ensures.value (c.in_ok-number.ensures.leads d z s (inv.walks d z s walk) h b m from) in
          subst (λ (xs : List Assignment). AddsRow d s old new b m xs c.add_number.new.row.items) (sym (mapped_more items inputs i c.input-item.result c.loop-input-test.true c.input-item.is))
          (subst (λ (ns : List ℕ). AddsRow d s old new b m (map items (take i inputs) ++ x ∷ []) ns) (sym c.in_ok-add_number.ensures)
          (adds_one d s old cur new b m (map items (take i inputs)) x c.loop-input.row.items number adds leads));
      inner = λ n is.
          let some = c.requires.walk in
          let here = inv.walks some.0 some.1 some.2 some.3 in
          let from = from_exists some.0 some.2 cur here.seats c.args.from inv.inner in
          let leads = c.in_ok-number.ensures.leads some.0 some.1 some.2 here from.0 from.1 from.2 from.3 in
          let longer = leads_longer some.0 some.2 cur new from.1 from.2 _ number leads in
          let below = inv.inner n is in
          omega (arith, longer, below);
      keeps = holds_then kept c.args.play.now c.loop-input.play c.lead.new.play inv.keeps c.in_ok-number.ensures.keeps;
    }

pub returns-clause-row : goal.returns-clause-row
returns-clause-row g c = λ d z s walk h b m is.
    let items : Vec Value Global → Assignment = λ x. x.items in
    let all = take_all c.loop-input.input-index c.args.inputs.now c.loop-input-test.false in
    subst (λ (xs : List (Vec Value Global)). AddsRow d s (seats_of c.args.self.now.seats) (seats_of c.loop-input.self.seats) b m (map items xs) c.loop-input.row.items) all (c.loop-input.invariant.adds d z s walk h b m is)
