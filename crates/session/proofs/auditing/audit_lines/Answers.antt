use Rattle.std.proofs.Common.{◌≡◌, ◌+◌, refl, arith}
use Rattle.sp_outside.proofs.HowOften.{none_read}
use Rattle.session_lines.proofs.HowOften.{pending_within, for_lines, for_more_lines}
use Rattle.session.proofs.Fitting.{over_after, kept_on}
use Rattle.session.proofs.Turns.{rose_earlier}
use Rattle.session.proofs.Logging.{room_at_first, nothing_read, at_limit, audit_weaker}
use Rattle.session.proofs.auditing.audit_lines.Goals as goal

pub loop-count-init : goal.loop-count-init
loop-count-init g c =
    let of = c.requires.one_specification.2 in
    record {
      so = λ s left suits so. so;
      reads = none_read _ _ _ _;
      room = room_at_first c.args.audit.now of.0 of.2;
      keeps = record { names = refl; wanted = refl; shown = refl };
      later = omega arith;
    }

pub turn-requires-clause-serves : goal.turn-requires-clause-serves
turn-requires-clause-serves g c =
    let inv = c.loop-count.invariant in
    let some = c.requires.one_specification in
    let so = inv.so some.0 _ some.1 (nothing_read some.0 c.args.audit.now _ c.args.lines.now c.requires.unread some.2) in
    record {
      spec = some.0;
      log = so.log;
      suits = over_after c.args.lines.now c.loop-count.lines _ _ _ some.1 inv.keeps;
      stands = so.stands;
      counted = so.counted;
    }

pub loop-count-preserved : goal.loop-count-preserved
loop-count-preserved g c =
    let inv = c.loop-count.invariant in
    let some = c.requires.one_specification in
    let one = inv.so some.0 _ some.1 (nothing_read some.0 c.args.audit.now _ c.args.lines.now c.requires.unread some.2) in
    record {
      so = λ s left suits so. (c.in_default.ensures.reads_on s c.args.limit left c.loop-count-test.true (over_after c.args.lines.now c.loop-count.lines _ _ _ suits inv.keeps) (inv.so s left suits so)).0;
      reads = c.in_default.ensures.reads _ _ inv.reads;
      room = (c.in_default.ensures.reads_on some.0 c.args.limit _ c.loop-count-test.true (over_after c.args.lines.now c.loop-count.lines _ _ _ some.1 inv.keeps) one).1;
      keeps = kept_on c.args.lines.now c.loop-count.lines c.turn.new.lines inv.keeps c.turn.ensures.keeps;
      later = omega (arith, inv.later, c.turn.ensures.later);
    }

pub returns-in-Some-clause-talk : goal.returns-in-Some-clause-talk
returns-in-Some-clause-talk g c = λ s suits of.
    let inv = c.loop-count.invariant in
    let so = inv.so s _ suits (nothing_read s c.args.audit.now _ c.args.lines.now c.requires.unread of) in
    audit_weaker s c.args.limit _ _ _ _ c.in-Some.end (rose_earlier _ _ _ inv.later) (c.in-Some.ensures.reads_on s c.args.limit _ c.loop-count-test.true (over_after c.args.lines.now c.loop-count.lines _ _ _ suits inv.keeps) so)

pub told-requires : goal.told-requires
told-requires g c =
    let inv = c.loop-count.invariant in
    let some = c.requires.one_specification in
    let so = inv.so some.0 _ some.1 (nothing_read some.0 c.args.audit.now _ c.args.lines.now c.requires.unread some.2) in
    (some.0, so.log, so.stands)

pub returns-clause-talk : goal.returns-clause-talk
returns-clause-talk g c = λ s suits of.
    let inv = c.loop-count.invariant in
    let so = inv.so s _ suits (nothing_read s c.args.audit.now _ c.args.lines.now c.requires.unread of) in
    let reached : c.loop-count.count ≡ c.args.limit = omega (arith, c.loop-count-test.false, c.loop-count.auto.count-end) in
    at_limit s c.loop-count.audit c.args.limit c.loop-count.count _ _ _ _ _ c.told.result reached so (c.told.ensures s so.log so.stands)

pub returns-in-Some-clause-reads : goal.returns-in-Some-clause-reads
returns-in-Some-clause-reads g c =
    let below = c.loop-count-test.true in
    for_more_lines (c.loop-count.count + 1) c.args.limit _ _ _ _ (omega (arith, below)) (c.in-Some.ensures.reads _ _ c.loop-count.invariant.reads)

pub returns-clause-reads : goal.returns-clause-reads
returns-clause-reads g c =
    let reached : c.loop-count.count ≡ c.args.limit = omega (arith, c.loop-count-test.false, c.loop-count.auto.count-end) in
    for_more_lines c.loop-count.count c.args.limit _ _ _ _ (omega (arith, reached)) (for_lines _ _ _ _ _ _ _ (pending_within c.loop-count.lines) c.loop-count.invariant.reads)
