use Rattle.std.proofs.Common.{◌≤◌, ◌+◌, List, Err, length, ap, sym, subst, arith}
use Rattle.spec_model.specs.Diagrams.{Diagram, Function}
use Rattle.bdd_store.specs.declared.fault.StoreFault.{StoreFault}
use Rattle.bdd_reorder.specs.Making.{functions_at, diagrams_at}
use Rattle.variable_order.specs.Climbing.{KnowsBest}
use Rattle.variable_order.specs.CrowdedClimbs.{IsCrowdedByMove}
use Rattle.variable_order.proofs.MoveLemmas.{stay_functions, stay_diagrams, stays_then, handed_full, crowded_move_stays, known_all}
use Rattle.variable_order.proofs.rounds.best_move.Goals as goal

pub try_places-requires-clause-known : goal.try_places-requires-clause-known
try_places-requires-clause-known c =
    let l = c.loop-i in
    subst (λ (fs : List Function). KnowsBest c.args.fixed c.args.widths.now fs c.args.order.now c.args.nodes l.i c.args.fixed l.best.nodes l.best.slot) (sym (stay_functions c.args.from.now l.from c.args.roots.now l.invariant.from_stays c.requires.ready.0)) l.invariant.known

pub returns-in_err-best-clause-full : goal.returns-in_err-best-clause-full
returns-in_err-best-clause-full c = λ e.
    let l = c.loop-i in
    let widths = c.args.widths.now in
    let order = c.args.order.now in
    let t = c.try_places.new.to.state.table in
    let is = handed_full c.from_residual.result c.in_err-best.field-0.0 c.from_residual.ensures.1 e in
    let here = subst (λ (ds : List Diagram). IsCrowdedByMove l.to.state t c.args.fixed widths ds order) (stay_diagrams c.args.from.now l.from c.args.roots.now l.invariant.from_stays c.requires.ready.0) (c.in_err-best.ensures.full (ap (λ (k : StoreFault). Err k) is)) in
    crowded_move_stays c.args.to.now l.to t c.args.fixed widths (diagrams_at c.args.from.now c.args.roots.now) order l.invariant.to_stays here

pub loop-i-preserved : goal.loop-i-preserved
loop-i-preserved c =
    let l = c.loop-i in
    record {
      known = subst (λ (fs : List Function). KnowsBest c.args.fixed c.args.widths.now fs c.args.order.now c.args.nodes (l.i + 1) c.args.fixed c.in_ok-best.best.nodes c.in_ok-best.best.slot) (stay_functions c.args.from.now l.from c.args.roots.now l.invariant.from_stays c.requires.ready.0) c.in_ok-best.ensures.known;
      from_stays = stays_then c.args.from.now l.from c.try_places.new.from l.invariant.from_stays c.try_places.ensures.stays.0;
      to_stays = stays_then c.args.to.now l.to c.try_places.new.to l.invariant.to_stays c.try_places.ensures.stays.1;
    }

pub returns-clause-best : goal.returns-clause-best
returns-clause-best c =
    let l = c.loop-i in
    let past : length c.args.order.now ≤ l.i = omega (arith, c.loop-i-test.false) in
    known_all c.args.fixed c.args.widths.now (functions_at c.args.from.now c.args.roots.now) c.args.order.now c.args.nodes l.i c.args.fixed l.best.nodes l.best.slot past l.invariant.known
