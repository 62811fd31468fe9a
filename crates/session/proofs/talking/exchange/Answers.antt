use Rattle.std.proofs.Common.{◌≡◌, ◌+◌, refl, arith}
use Rattle.sp_outside.proofs.HowOften.{none_read}
use Rattle.session_lines.proofs.HowOften.{pending_within, for_lines, for_more_lines}
use Rattle.session.proofs.Fitting.{over_after, kept_on}
use Rattle.session.proofs.Turns.{ended_since, at_limit}
use Rattle.session.proofs.talking.exchange.Goals as goal

pub loop-count-init : goal.loop-count-init
loop-count-init g c =
    record {
      so = λ s first left written suits so. so;
      reads = none_read _ _ _ _;
      keeps = record { names = refl; wanted = refl; shown = refl };
      later_in = omega arith;
      later_out = omega arith;
    }

pub turn-requires-clause-serves : goal.turn-requires-clause-serves
turn-requires-clause-serves g c =
    let inv = c.loop-count.invariant in
    let some = c.requires.begun in
    let so = inv.so some.0 some.1 some.2 some.3 some.4 some.5 in
    record {
      spec = some.0;
      state = so.last;
      suits = over_after c.args.lines.now c.loop-count.lines _ _ _ some.4 inv.keeps;
      stands = so.stands;
    }

pub loop-count-preserved : goal.loop-count-preserved
loop-count-preserved g c =
    let inv = c.loop-count.invariant in
    record {
      so = λ s first left written suits so.
          c.in_default.ensures.goes_on s first c.args.limit left written c.loop-count-test.true (over_after c.args.lines.now c.loop-count.lines _ _ _ suits inv.keeps) (inv.so s first left written suits so);
      reads = c.in_default.ensures.reads _ _ inv.reads;
      keeps = kept_on c.args.lines.now c.loop-count.lines c.turn.new.lines inv.keeps c.turn.ensures.keeps;
      later_in = omega (arith, inv.later_in, c.turn.ensures.later_in);
      later_out = omega (arith, inv.later_out, c.turn.ensures.later_out);
    }

pub returns-in-Some-clause-ended : goal.returns-in-Some-clause-ended
returns-in-Some-clause-ended g c = λ s first left written suits so.
    let inv = c.loop-count.invariant in
    let here = over_after c.args.lines.now c.loop-count.lines _ _ _ suits inv.keeps in
    ended_since _ _ first left _ written _ _ _ _ _ _ _ _ c.in-Some.end inv.later_in inv.later_out (c.in-Some.ensures.goes_on s first c.args.limit left written c.loop-count-test.true here (inv.so s first left written suits so))

pub returns-clause-ended : goal.returns-clause-ended
returns-clause-ended g c = λ s first left written suits so.
    let reached : c.loop-count.count ≡ c.args.limit = omega (arith, c.loop-count-test.false, c.loop-count.auto.count-end) in
    at_limit _ _ first _ left _ written _ _ _ _ reached _ _ (c.loop-count.invariant.so s first left written suits so)

pub returns-in-Some-clause-reads : goal.returns-in-Some-clause-reads
returns-in-Some-clause-reads g c =
    let below = c.loop-count-test.true in
    for_more_lines (c.loop-count.count + 1) c.args.limit _ _ _ _ (omega (arith, below)) (c.in-Some.ensures.reads _ _ c.loop-count.invariant.reads)

pub returns-clause-reads : goal.returns-clause-reads
returns-clause-reads g c =
    let reached : c.loop-count.count ≡ c.args.limit = omega (arith, c.loop-count-test.false, c.loop-count.auto.count-end) in
    for_more_lines c.loop-count.count c.args.limit _ _ _ _ (omega (arith, reached)) (for_lines _ _ _ _ _ _ _ (pending_within c.loop-count.lines) c.loop-count.invariant.reads)
