use Rattle.std.proofs.Common.{ℕ, Option, subst}
use Rattle.counter_tables.specs.Seats.{seats_of}
use Rattle.counter_tables.specs.Nodes.{Leads}
use Rattle.counter_tables.proofs.Walked.{none_added, some_added}
use Rattle.counter_tables.proofs.Moves.{handed}
use Rattle.counter_tables.proofs.walk.Walk.add.Goals as goal

pub returns-in-None-clause-adds : goal.returns-in-None-clause-adds
returns-in-None-clause-adds g c = λ d e walk p is.
    let old = seats_of c.args.self.now.seats in
    let new = seats_of c.lead.new.self.seats in
    let leads = subst (λ (o : Option ℕ). Leads d e old new p c.args.output.now o) c.in-None.is (c.in_ok-led.ensures.leads d e walk p is) in
    none_added d e old new p c.args.output.now c.args.row.now.items leads

pub returns-in_ok-add_number-in-Some-clause-adds : goal.returns-in_ok-add_number-in-Some-clause-adds
returns-in_ok-add_number-in-Some-clause-adds g c = λ d e walk p is.
    let old = seats_of c.args.self.now.seats in
    let new = seats_of c.lead.new.self.seats in
    let leads = subst (λ (o : Option ℕ). Leads d e old new p c.args.output.now o) c.in-Some.is (c.in_ok-led.ensures.leads d e walk p is) in
    some_added d e old new p c.args.output.now c.args.row.now.items c.add_number.new.row.items c.in-Some.number c.in_ok-add_number-in-Some.ensures leads

pub returns-in_err-led-clause-limit : goal.returns-in_err-led-clause-limit
returns-in_err-led-clause-limit g c = handed _ c.from_residual.result c.in_err-led.field-0.0 c.from_residual.ensures.1 c.in_err-led.ensures.limit
