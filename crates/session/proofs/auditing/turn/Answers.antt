use Rattle.std.proofs.Common.{ap}
use Rattle.session_lines.proofs.HandingLemmas.{asked}
use Rattle.session_lines.proofs.HowOften.{pending_within, one_more_read, last_read}
use Rattle.session.proofs.Fitting.{over_after}
use Rattle.session.proofs.Logging.{by_line, too_long, at_end, failed}
use Rattle.session.proofs.auditing.turn.Goals as goal

pub returns-in-Line-clause-reads_on : goal.returns-in-Line-clause-reads_on
returns-in-Line-clause-reads_on g c = λ s limit left below suits so.
    let over = over_after c.args.lines.now c.next_line.new.self _ _ _ suits c.next_line.ensures.keeps in
    let asks = asked _ _ left _ _ so.handed _ _ _ c.next_line.result so.hands c.next_line.ensures.takes (λ e. ((c.next_line.ensures.over e).0, ap g.I.Source.left (c.next_line.ensures.over e).1)) in
    rw (c.take.ensures.reader.pending, c.take.ensures.reader.ended)
    (by_line s _ limit left _ _ _ _ _ _ _ c.args.count so c.next_line.result asks below _ c.in-Line.is c.take.new.audit c.take.result (c.take.ensures.taken s so.log over so.stands))

pub returns-in-TooLong-clause-reads_on : goal.returns-in-TooLong-clause-reads_on
returns-in-TooLong-clause-reads_on g c = λ s limit left below suits so.
    let asks = asked _ _ left _ _ so.handed _ _ _ c.next_line.result so.hands c.next_line.ensures.takes (λ e. ((c.next_line.ensures.over e).0, ap g.I.Source.left (c.next_line.ensures.over e).1)) in
    too_long s _ limit left _ _ _ _ _ _ _ c.args.count so c.next_line.result asks below _ c.in-TooLong.is c.told.result (c.told.ensures s so.log so.stands)

pub returns-in-Finish-clause-reads_on : goal.returns-in-Finish-clause-reads_on
returns-in-Finish-clause-reads_on g c = λ s limit left below suits so.
    let asks = asked _ _ left _ _ so.handed _ _ _ c.next_line.result so.hands c.next_line.ensures.takes (λ e. ((c.next_line.ensures.over e).0, ap g.I.Source.left (c.next_line.ensures.over e).1)) in
    at_end s _ limit left _ _ _ _ _ _ _ c.args.count so c.next_line.result asks below _ c.in-Finish.is c.told-in-Finish.result (c.told-in-Finish.ensures s so.log so.stands)

pub returns-in-Failed-clause-reads_on : goal.returns-in-Failed-clause-reads_on
returns-in-Failed-clause-reads_on g c = λ s limit left below suits so.
    let asks = asked _ _ left _ _ so.handed _ _ _ c.next_line.result so.hands c.next_line.ensures.takes (λ e. ((c.next_line.ensures.over e).0, ap g.I.Source.left (c.next_line.ensures.over e).1)) in
    failed s _ limit left _ _ _ _ _ _ _ c.args.count so c.next_line.result asks below _ c.in-Failed.is (c.next_line.ensures.cause c.in-Failed.is) c.told-in-Failed.result
    (c.told-in-Failed.ensures s so.log so.stands)

pub returns-in-Line-clause-reads : goal.returns-in-Line-clause-reads
returns-in-Line-clause-reads g c = λ left reads so.
    rw (c.take.ensures.reader.pending, c.take.ensures.reader.ended)
    (one_more_read _ _ left _ _ reads _ _ c.args.count _ _ _ c.next_line.result (pending_within c.args.lines.now) (pending_within c.next_line.new.self) so c.next_line.ensures.takes
    (λ e. let over = c.next_line.ensures.over e in (over.0, ap g.I.Source.left over.1, ap g.I.Source.reads over.1)) c.in-Line.is c.take.result)

pub returns-in-TooLong-clause-reads : goal.returns-in-TooLong-clause-reads
returns-in-TooLong-clause-reads g c = λ left reads so.
    last_read _ _ left _ _ reads _ _ c.args.count _ _ _ c.next_line.result (pending_within c.args.lines.now) (pending_within c.next_line.new.self) so c.next_line.ensures.takes
    (λ e. let over = c.next_line.ensures.over e in (over.0, ap g.I.Source.left over.1, ap g.I.Source.reads over.1))

pub returns-in-Finish-clause-reads : goal.returns-in-Finish-clause-reads
returns-in-Finish-clause-reads g c = λ left reads so.
    last_read _ _ left _ _ reads _ _ c.args.count _ _ _ c.next_line.result (pending_within c.args.lines.now) (pending_within c.next_line.new.self) so c.next_line.ensures.takes
    (λ e. let over = c.next_line.ensures.over e in (over.0, ap g.I.Source.left over.1, ap g.I.Source.reads over.1))

pub returns-in-Failed-clause-reads : goal.returns-in-Failed-clause-reads
returns-in-Failed-clause-reads g c = λ left reads so.
    last_read _ _ left _ _ reads _ _ c.args.count _ _ _ c.next_line.result (pending_within c.args.lines.now) (pending_within c.next_line.new.self) so c.next_line.ensures.takes
    (λ e. let over = c.next_line.ensures.over e in (over.0, ap g.I.Source.left over.1, ap g.I.Source.reads over.1))
